-- The invariant: the sum is below the prime. Assumes nothing.
use Prim.Native.Nat.{◌<◌}
use Rattle.corpus.proofs.sum.Given as goal

abbrev pub invariant-loop-number : goal.invariant-loop-number
invariant-loop-number g l = l.sum < 4294967291
