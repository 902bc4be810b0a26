-- `words::starts::gap_end` meets its contract. The invariant: the gap from the start ends where the gap from here does. The measure is the bytes left. Assumes nothing.
use Prim.Native.Nat.{◌+◌, ◌-◌, ◌≤◌}
use mathlib.Core.Path.{◌≡◌}
use mathlib.Core.Bool.{false}
use lib.ListN.{length, drop}
use Rattle.notation_calculus.specs.Words.{gap}
use Rattle.words.proofs.starts.gap_end.Given as goal

abbrev pub invariant-loop-start : goal.invariant-loop-start
invariant-loop-start l = (l.start ≤ length l.text) × (l.start + gap false (drop l.start l.text) ≡ l.at + gap false (drop l.at l.text))

abbrev pub decreases-loop-start : goal.decreases-loop-start
decreases-loop-start l = length l.text - l.start
