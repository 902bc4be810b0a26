-- `sheet::no_sizes` meets its contract. Assumes nothing.
use mathlib.Core.Path.{refl}
use Rattle.records.specs.Told.{sizes_of}
use Rattle.sheet.proofs.types.no_sizes.Goals as goal

pub returns : goal.returns
unfolding sizes_of
returns c = refl
