-- The invariant: the sum and the sizes that are still to come make the whole. Assumes nothing.
use mathlib.Core.Path.{◌≡◌}
use Prim.Native.Nat.{◌+◌, ◌*◌, ◌-◌, ◌≤◌}
use Rattle.lean.specs.Rows.{sizes_in}
use Rattle.lean.proofs.put.Writer.size.Given as goal

abbrev pub invariant-loop-x : goal.invariant-loop-x
invariant-loop-x l = ((l.sum ≤ 6 * l.x) × (l.sum + sizes_in l.self.plain l.self.work.now (l.self.end - l.x) l.x ≡ sizes_in l.self.plain l.self.work.now l.self.end 0))
