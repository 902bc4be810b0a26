-- The invariant: what is written and what is still to come make the whole. Assumes nothing.
use Prim.Native.Nat.{◌≤◌, ◌-◌, ◌+◌}
use Rattle.memory.specs.Map.{roots_at}
use Rattle.lean.specs.Layout.{row_in}
use Rattle.lean.specs.Rows.{wire_bytes_at}
use Rattle.lean.proofs.Writing.{Writing}
use Rattle.lean.proofs.put.Writer.put_wires.Given as goal

abbrev pub invariant-loop-x : goal.invariant-loop-x
invariant-loop-x l = (l.x ≤ l.self.end + 1) × Writing l.initial.out l.from (row_in wire_bytes_at roots_at l.self.work.now l.self.end 0) l.out l.at (row_in wire_bytes_at roots_at l.self.work.now (l.self.end - l.x) l.x)

abbrev pub decreases-loop-x : goal.decreases-loop-x
decreases-loop-x l = l.self.end + 1 - l.x
