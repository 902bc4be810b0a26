-- `sheet::mix` meets its contract: the sum is the definition's. Assumes nothing.
use mathlib.Core.Path.{refl}
use Rattle.sheet.specs.Keys.{mixed}
use Rattle.sheet.proofs.keys.mix.Goals as goal

pub returns : goal.returns
unfolding mixed
returns c = refl
