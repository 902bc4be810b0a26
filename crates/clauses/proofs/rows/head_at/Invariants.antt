-- `clauses::head_at` meets its contract. The invariant: rows are sought among those of the table. The measure is how many are left.
-- Assumes nothing.
use Prim.Native.Nat.{◌-◌, ◌≤◌}
use lib.ListN.{get_or}
use Rattle.making_memory.specs.Map.{clause_count_at}
use Rattle.clauses.proofs.rows.head_at.Given as goal

abbrev pub invariant-loop-low : goal.invariant-loop-low
invariant-loop-low l = l.high ≤ get_or l.work clause_count_at 0

abbrev pub decreases-loop-low : goal.decreases-loop-low
decreases-loop-low l = l.high - l.low
