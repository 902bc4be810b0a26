-- The invariant: no ring point's output stands before terminal x. A block without one is passed. Assumes nothing.
use mathlib.Core.Path.{◌≡◌}
use Prim.Native.Nat.{◌≤◌, ◌-◌}
use Rattle.card.specs.Rings.{lowest_from}
use Rattle.card.proofs.rings.lowest.Given as goal

abbrev pub invariant-loop-x : goal.invariant-loop-x
invariant-loop-x l = (l.x ≤ l.end) × (lowest_from l.work (l.end - l.x) l.x ≡ lowest_from l.work l.end 0)

abbrev pub decreases-loop-x : goal.decreases-loop-x
decreases-loop-x l = l.end - l.x
