-- By the kind. Assumes nothing.
use mathlib.Core.Path.{ap}
use lib.Dec.{leb}
use Rattle.made_types.proofs.shares.Goals as goal

pub returns : goal.returns
returns c = ap (λ x. leb x 2) c.kind_of.ensures
