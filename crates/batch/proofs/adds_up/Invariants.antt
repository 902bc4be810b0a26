-- `batch::adds_up` meets its contract. The invariant: the bytes that are left are those of the lengths from k on, and the difference between
-- all the bytes and all the lengths stays. Assumes nothing.
use Prim.Native.Nat.{◌+◌}
use mathlib.Core.Path.{◌≡◌}
use lib.ListN.{drop}
use Rattle.batch_calculus.specs.Batch.{sum}
use Rattle.batch.proofs.adds_up.Given as goal

abbrev pub invariant-loop-length : goal.invariant-loop-length
invariant-loop-length l = sum l.lengths + l.rest ≡ l.bytes + sum (drop l.length-index l.lengths)
