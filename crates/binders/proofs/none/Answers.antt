-- `binders::none` meets its contract: all numbers are 0. Assumes nothing.
use mathlib.Core.Path.{refl}
use Rattle.binders.specs.Stacks.{no_binders}
use Rattle.binders.proofs.none.Goals as goal

pub returns : goal.returns
unfolding no_binders
returns c = refl
