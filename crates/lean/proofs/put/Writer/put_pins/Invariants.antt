-- The invariant: what is written and what is still to come make the whole. Assumes nothing.
use Prim.Native.Nat.{◌-◌}
use Rattle.lean.specs.Layout.{lean_pins_at}
use Rattle.lean.specs.Layout.{row_in}
use Rattle.lean.specs.Rows.{pin_bytes_at}
use Rattle.lean.proofs.Writing.{Writing}
use Rattle.lean.proofs.put.Writer.put_pins.Given as goal

abbrev pub invariant-loop-x : goal.invariant-loop-x
invariant-loop-x l = Writing l.initial.out l.from (row_in pin_bytes_at lean_pins_at l.self.work.now l.self.pins 0) l.out l.at (row_in pin_bytes_at lean_pins_at l.self.work.now (l.self.pins - l.x) l.x)
