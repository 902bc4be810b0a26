-- Each wire's target is counted. Assumes nothing.
use mathlib.Core.Path.{refl}
use mathlib.Core.List.{List, [], ◌∷◌}
use Prim.Native.Nat.{ℕ, zero, suc, ◌≤◌, ◌<◌}
use native.Mathlib.Omega.{arith}
use borrow.Author.Tests.{eq-eqb}
use lib.ListN.{length, get_or}
use Rattle.calculus.specs.Inputs.{targets}
use Rattle.memory.specs.Map.{wires_from}

pub target-counted : (w is : List ℕ) (j : ℕ) → j < length is → 1 ≤ targets (wires_from w is) (get_or is j 0)
target-counted w [] j h = absurd (omega arith)
target-counted w (i ∷ is) zero h = rw (eq-eqb i i refl) (omega arith)
target-counted w (i ∷ is) (suc j) h = let t = target-counted w is j (omega arith) in omega arith
