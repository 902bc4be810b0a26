-- The invariant: the first i numbers are written. Assumes nothing.
use mathlib.Core.Path.{◌≡◌}
use Prim.Native.Nat.{◌≤◌, ◌+◌, ◌*◌}
use lib.ListN.{length}
use Rattle.lines.specs.Figure.{figures}
use Rattle.lines.specs.Wrote.{WroteText}
use Rattle.lines.proofs.put_fields.Given as goal

abbrev pub invariant-loop-i : goal.invariant-loop-i
invariant-loop-i l =
    (l.at ≤ l.from + 21 * l.i) × ((length l.text ≡ length l.initial.text) × WroteText l.initial.text l.from (figures l.i l.first) l.text l.at)
