-- `wiring::connect` meets its contract: the wires still to be made, made over what stands, are the whole; both interfaces stand as
-- they were. Assumes nothing.
use Prim.Native.Nat.{ℕ, ◌+◌, ◌≤◌}
use mathlib.Core.Path.{◌≡◌}
use lib.ListN.{length, get_or, drop}
use Rattle.memory.specs.Map.{elements_at, region}
use Rattle.wiring.specs.Links.{links}
use Rattle.wiring.proofs.wires.connect.Given as goal

abbrev pub invariant-loop-i : goal.invariant-loop-i
invariant-loop-i l = (length l.work ≡ length l.initial.work)
    × (links l.work (l.count + l.i) (drop l.i (region l.initial.work l.a l.n)) (drop l.i (region l.initial.work l.f l.n)) ≡ links l.initial.work l.count (region l.initial.work l.a l.n) (region l.initial.work l.f l.n))
    × ((j : ℕ) → elements_at ≤ j → get_or l.work j 0 ≡ get_or l.initial.work j 0)
