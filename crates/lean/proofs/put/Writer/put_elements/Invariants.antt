-- The invariant: what is written and the records that are still to come make the whole. Assumes nothing.
use Prim.Native.Nat.{◌≤◌, ◌-◌, ◌+◌}
use lib.ListN.{drop}
use Rattle.memory.specs.Map.{makers_at}
use Rattle.lean.specs.Rows.{records_in}
use Rattle.lean.proofs.Writing.{Writing}
use Rattle.lean.proofs.put.Writer.put_elements.Given as goal

abbrev pub invariant-loop-here : goal.invariant-loop-here
invariant-loop-here l =
    (l.here.x ≤ l.self.end + 1) × ((l.here.i ≤ l.here.x) × Writing l.initial.out l.from (records_in l.self.plain l.self.work.now l.self.end 0 (drop makers_at l.self.work.now)) l.out l.here.at (records_in l.self.plain l.self.work.now (l.self.end - l.here.x) l.here.x (drop l.here.i (drop makers_at l.self.work.now))))

abbrev pub decreases-loop-here : goal.decreases-loop-here
decreases-loop-here l = l.self.end + 1 - l.here.x
