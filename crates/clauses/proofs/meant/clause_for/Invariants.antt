-- `clauses::clause_for` meets its contract. The invariant: the rows that are left decide. The measure is how many are left. Assumes nothing.
use Prim.Native.Nat.{◌-◌}
use Rattle.clauses.proofs.MeantLaws.{Seeking}
use Rattle.clauses.proofs.meant.clause_for.Given as goal

abbrev pub invariant-loop-k : goal.invariant-loop-k
invariant-loop-k l = Seeking l.text l.work l.q l.seen l.k

abbrev pub decreases-loop-k : goal.decreases-loop-k
decreases-loop-k l = l.seen - l.k
