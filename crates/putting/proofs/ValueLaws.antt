-- Arguments that wait, rows and bodies, where the memory's numbers are as they were. Assumes nothing.
use Prim.Native.Nat.{ℕ, zero, suc, ◌+◌, ◌*◌, ◌≤◌, ◌<◌}
use mathlib.Core.Path.{◌≡◌, refl, sym, ap, ◌∙◌}
use mathlib.Core.List.{List, [], ◌∷◌}
use native.Mathlib.Omega.{arith}
use lib.ListN.{get_or}
use Rattle.calculus.specs.Record.{All}
use Rattle.notation_calculus.specs.Trees.{Bound}
use Rattle.notation_calculus.specs.Making.{bind_types}
use Rattle.words.specs.Lexed.{from}
use Rattle.making_memory.specs.Map.{scope_at}
use Rattle.clauses.specs.Rows.{row_in}
use Rattle.clauses.specs.Meant.{values_in}
use Rattle.walks.specs.Walkable.{row_bodies, AllTyped}

-- arguments below an entry
module _ (w w' : List ℕ) (t : ℕ) (same : (j : ℕ) → scope_at ≤ j → j < scope_at + 2 * t → get_or w' j 0 ≡ get_or w j 0) where
  pub values_on : (n e : ℕ) → e + n ≤ t → values_in w' e n ≡ values_in w e n
  values_on zero e h = refl
  values_on (suc n) e h = ap (λ (v : ℕ). v ∷ values_in w' (suc e) n) (same (scope_at + 2 * e + 1) (omega arith) (omega arith)) ∙ ap (λ (vs : List ℕ). get_or w (scope_at + 2 * e + 1) 0 ∷ vs) (values_on n (suc e) (omega arith))

-- body k of a table
pub body-at : (text w : List ℕ) (n k j : ℕ) → j < n → get_or (row_bodies text w k n) j [] ≡ from text (row_in w (k + j)).body
body-at text w zero k j h = absurd (omega arith)
body-at text w (suc n) k zero h = let e : k + 0 ≡ k = omega arith in sym (ap (λ (i : ℕ). from text (row_in w i).body) e)
body-at text w (suc n) k (suc j) h = let e : suc k + j ≡ k + suc j = omega arith in body-at text w n (suc k) j (omega arith) ∙ ap (λ (i : ℕ). from text (row_in w i).body) e

-- type parameters have the types of their arguments
pub types_typed : (n : ℕ) (xs : List Bound) (ts : List ℕ) → All (λ (t : ℕ). t < n) ts → AllTyped n (bind_types xs ts)
types_typed n [] ts a = tt
types_typed n (x ∷ xs) [] a = tt
types_typed n (x ∷ xs) (t ∷ ts) a = (a.0, types_typed n xs ts a.1)
