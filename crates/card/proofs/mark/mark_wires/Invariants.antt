-- The invariant: the wires to the first x terminals are marked; what is passed behind the last is an output. Assumes nothing.
use mathlib.Core.Path.{◌≡◌}
use Prim.Native.Nat.{◌≤◌, ◌-◌, ◌+◌}
use Rattle.export_calculus.specs.Card.{drives}
use Rattle.memory.specs.Map.{roots_at}
use Rattle.lean.specs.Table.{entry}
use Rattle.lean.specs.Layout.{kinds_from, wire_at, row_in}
use Rattle.card.specs.Marks.{MarkedWhere}
use Rattle.card.proofs.mark.mark_wires.Given as goal

abbrev pub invariant-loop-x : goal.invariant-loop-x
invariant-loop-x l =
    (l.x ≤ l.end + 1) × ((l.x ≡ l.end + 1 → kinds_from ≤ entry l.initial.work l.end) × MarkedWhere l.initial.work l.end (λ j. drives (row_in wire_at roots_at l.initial.work l.x 0) j) l.work)

abbrev pub decreases-loop-x : goal.decreases-loop-x
decreases-loop-x l = l.end - l.x
