-- The invariant: as long as the sum is 0, no ring point's output was passed. Assumes nothing.
use mathlib.Core.Path.{◌≡◌}
use Prim.Native.Nat.{◌≤◌, ◌+◌}
use Rattle.card.specs.Rings.{RingFree}
use Rattle.card.proofs.rings.rings_in.Given as goal

abbrev pub invariant-loop-x : goal.invariant-loop-x
invariant-loop-x l = (l.sum + l.from ≤ l.x) × (l.sum ≡ 0 → RingFree l.work l.from l.x)
