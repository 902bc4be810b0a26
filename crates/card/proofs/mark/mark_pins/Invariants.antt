-- The invariant: the first i pins are marked. Assumes nothing.
use mathlib.Core.List.{map}
use mathlib.Core.Bool.{◌||◌}
use Rattle.export_calculus.specs.Card.{drives, is_out_pin}
use Rattle.memory.specs.Map.{roots_at, region, terminal_of}
use Rattle.lean.specs.Layout.{lean_pins_at, wire_at, row_in}
use Rattle.card.specs.Marks.{WiresMarked, MarkedWhere}
use Rattle.card.proofs.mark.mark_pins.Given as goal

abbrev pub invariant-loop-i : goal.invariant-loop-i
invariant-loop-i l = (o : WiresMarked l.initial.work l.end l.pins) → MarkedWhere o.before l.end (λ j. drives (row_in wire_at roots_at o.before l.end 0) j || is_out_pin (map terminal_of (region o.before lean_pins_at l.i)) j) l.work
