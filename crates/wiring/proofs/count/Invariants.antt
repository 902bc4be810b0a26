-- `wiring::count` meets its contract. The invariant: a row of terms stands at the offset, whose terminals are those still to be counted.
-- Assumes nothing.
use Prim.Native.Nat.{◌-◌}
use Rattle.wiring.specs.Count.{Counting, RowLeft}
use Rattle.wiring.proofs.count.Given as goal

abbrev pub invariant-loop : goal.invariant-loop
invariant-loop l = (q : Counting l.s l.sizes l.from l.nodes) → RowLeft q.edition q.table l.s q.term l.at (l.nodes - l.counter) l.total
