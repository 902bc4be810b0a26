-- `clauses::up_to` meets its contract. The invariant: no row from here on is of the sort and name. The measure is how many rows stand
-- above. Assumes nothing.
use lib.ListN.{get_or}
use Rattle.making_memory.specs.Map.{clause_count_at}
use Rattle.clauses.proofs.MeantLaws.{CountingDown}
use Rattle.clauses.proofs.meant.up_to.Given as goal

abbrev pub invariant-loop-k : goal.invariant-loop-k
invariant-loop-k l = CountingDown l.text l.work l.sort l.at (get_or l.work clause_count_at 0) l.otherwise l.k

abbrev pub decreases-loop-k : goal.decreases-loop-k
decreases-loop-k l = l.k
