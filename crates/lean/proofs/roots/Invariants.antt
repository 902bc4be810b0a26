-- The invariant: the table is partly done, and what stands before o is settled. No output is past the end. Assumes nothing.
use Prim.Native.Nat.{ℕ, ◌<◌, ◌≤◌}
use mathlib.Core.Path.{◌≡◌}
use Rattle.lean.specs.Table.{entry, Within, Partly}
use Rattle.lean.proofs.roots.Given as goal

abbrev pub invariant-loop-n : goal.invariant-loop-n
invariant-loop-n l =
    (l.end ≤ 8192) × (Within l.initial.work l.work × (Partly l.work l.elements l.wires l.pins × ((x : ℕ) → x < l.n → entry l.work x ≡ 65535 → ⊥)))
