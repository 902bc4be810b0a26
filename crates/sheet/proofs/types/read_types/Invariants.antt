-- `sheet::read_types` meets its contract. The invariant: the records so far are in order, what is left to read is what there was
-- (`SoFar`), and the keys are theirs. The measure is the bytes left. Assumes nothing.
use Prim.Native.Nat.{◌-◌}
use mathlib.Core.Path.{◌≡◌}
use lib.ListN.{length}
use Rattle.sheet.specs.Keys.{Keyed}
use Rattle.sheet.proofs.TypesLaws.{SoFar}
use Rattle.sheet.proofs.types.read_types.Given as goal

abbrev pub invariant-loop-f : goal.invariant-loop-f
invariant-loop-f l = (SoFar l.s l.at l.count l.sizes) × (Keyed l.s l.count l.keys) × (length l.keys ≡ 256)

abbrev pub decreases-loop-f : goal.decreases-loop-f
decreases-loop-f l = length l.s - l.at
