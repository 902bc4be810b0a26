-- The value is wanted in the scope of the level. Assumes nothing.
use Rattle.term_walk.proofs.BinderLaws.{name-asks}
use Rattle.term_walk.proofs.StepLaws.{can_ask}
use mathlib.Core.Path.{refl}
use Rattle.term_walk.proofs.binders.ask_value.Goals as goal

pub ask-requires : goal.ask-requires
ask-requires c = can_ask c.args.text.now c.args.work.now c.args.h c.requires.0 _ refl

pub returns : goal.returns
returns c = name-asks c.args.text.now c.args.work.now c.args.h (can_ask c.args.text.now c.args.work.now c.args.h c.requires.0 _ refl) c.args.place c.args.name c.args.at c.requires.1.1.0 c.look-equals.result c.look-equals.ensures _ _ c.ask.ensures
