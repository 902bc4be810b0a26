-- `clauses::may_follow_all` meets its contract. The invariant: the rows that are left decide. The measure is how many are left.
-- Assumes nothing.
use Prim.Native.Nat.{◌-◌}
use Rattle.clauses.proofs.FollowLaws.{Following}
use Rattle.clauses.proofs.follows.may_follow_all.Given as goal

abbrev pub invariant-loop-k : goal.invariant-loop-k
invariant-loop-k l = Following l.text l.work l.d l.n l.k

abbrev pub decreases-loop-k : goal.decreases-loop-k
decreases-loop-k l = l.n - l.k
