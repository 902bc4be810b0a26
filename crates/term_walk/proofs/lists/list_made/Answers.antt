-- If a level is left the items wait for the variable, which is made. Assumes nothing.
use Rattle.term_walk.proofs.ListLaws.{made_none, made-goes, made_small}
use Rattle.term_walk.proofs.StepLaws.{can_ask}
use Rattle.term_walk.proofs.AtomLaws.{enter-room}
use mathlib.Core.Path.{refl}
use Rattle.term_walk.proofs.lists.list_made.Goals as goal

pub returns-then-h-eq1 : goal.returns-then-h-eq1
returns-then-h-eq1 c = rw c.at.ensures (made_none c.args.text.now c.args.work.now c.args.h c.args.items.round c.args.items.from c.args.items.count c.args.number c.args.ty c.args.at c.if-h-eq1.true)

pub below-n-requires : goal.below-n-requires
below-n-requires c = can_ask c.args.text.now c.args.work.now c.args.h c.requires.0.can _ refl

pub variable-made-requires : goal.variable-made-requires
variable-made-requires c = made_small c.args.text.now c.args.work.now c.args.h _ c.args.ty c.args.at c.requires.0 (can_ask c.args.text.now c.args.work.now c.args.h c.requires.0.can _ refl) _ _ c.below-n.ensures

pub returns : goal.returns
returns c = made-goes c.args.text.now c.args.work.now c.args.h c.args.items.round c.args.items.from c.args.items.count c.args.number c.args.ty c.args.at c.if-h-eq1.false (enter-room c.args.text.now c.args.work.now c.args.h c.requires.0.can).0 (enter-room c.args.text.now c.args.work.now c.args.h c.requires.0.can).1 c.requires.0.known c.requires.1.names c.requires.0.readable (can_ask c.args.text.now c.args.work.now c.args.h c.requires.0.can _ refl) _ _ c.below-n.ensures _ _ c.variable-made.ensures _ c.done.ensures
