-- The sides of a type, by its record. Assumes nothing.
use Prim.Native.Nat.{ℕ, ◌<◌}
use mathlib.Core.Path.{◌≡◌, sym, ap, ◌∙◌}
use mathlib.Core.List.{List}
use native.Mathlib.Omega.{arith}
use lib.ListN.{length, get_or}
use Rattle.calculus.specs.Types.{Ty, size, TyRec, rec01, rec02, rec03, rec04, Table, tree}
use Rattle.calculus.specs.Net.{left_of}
use Rattle.sheet_theorems.specs.Laid.{Agrees, Below, TableOk}
use Rattle.sheet_theorems.proofs.TypeOffsets.{tree_zero}
use Rattle.records.specs.TypeNumbers.{left_no}

-- the table of sizes has the size of a type's left side at the record's left number
pub left_of_lem : (Θ : Table) (sizes : List ℕ) (t : ℕ) (q : TyRec) → ((u : ℕ) → u < length Θ → get_or sizes u 0 ≡ size (tree Θ u)) → TableOk Θ → t < length Θ
    → Agrees Θ q (tree Θ t) → Below t q → get_or sizes (left_no q) 0 ≡ size (left_of (tree Θ t))
left_of_lem Θ sizes t rec01 f ok h a b = f 0 (omega arith) ∙ ap size (tree_zero Θ ok) ∙ sym (ap (λ (τ : Ty). size (left_of τ)) a)
left_of_lem Θ sizes t (rec02 l r) f ok h a b = f l (omega (arith, b.0)) ∙ sym (ap (λ (τ : Ty). size (left_of τ)) a.0)
left_of_lem Θ sizes t (rec03 l r) f ok h a b = f l (omega (arith, b.0)) ∙ sym (ap (λ (τ : Ty). size (left_of τ)) a.0)
left_of_lem Θ sizes t (rec04 l r) f ok h a b = f l (omega (arith, b.0)) ∙ sym (ap (λ (τ : Ty). size (left_of τ)) a.0)
