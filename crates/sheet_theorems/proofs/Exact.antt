-- A sheet that is read is accepted by the walk exactly when its term has a derivation. Assumes nothing.
use Prim.Native.Nat.{ℕ, ◌<◌}
use mathlib.Core.Path.{◌≡◌, ap}
use mathlib.Core.Logic.{◌↔◌}
use mathlib.Core.Bool.{Bool}
use mathlib.Core.List.{List, []}
use lib.Dec.{eqb}
use lib.ListN.{length}
use Rattle.calculus.specs.Answer.{good}
use Rattle.calculus.specs.Types.{Ty, ty_eq, Table, tree}
use Rattle.calculus.specs.Read.{Sheet, read_sheet}
use Rattle.sheet_theorems.specs.Laid.{TableOk}
use Rattle.laws.proofs.Tests.{T-is, is_false, by_eqb}
use Rattle.calculus.specs.Walk.{Found, walk}
use Rattle.calculus.specs.Rules.{Typed}
use Rattle.sheet_theorems.proofs.Laying.{laid}
use Rattle.sheet_theorems.specs.Uses.{uses_end}
use Rattle.sheet_theorems.proofs.Sound.{sound, ty_eq→eq}
use Rattle.sheet_theorems.proofs.OneType.{one_type}
use Rattle.sheet_theorems.proofs.Complete.{complete, ty_eq_refl}

-- the walk accepts exactly the terms that have a derivation from empty contexts
pub exact : (s : List ℕ) (σ : Sheet) → read_sheet s ≡ good σ
    → ((r : Found) × (walk σ.edition σ.table σ.term 0 [] ≡ good r)) ↔ ((τ : Ty) × Typed σ.edition σ.table [] σ.term τ)
exact s σ e =
    let l = laid s σ e in (
      (λ a. (tree σ.table a.0.type, sound σ.edition σ.table l.table σ.term l.ranged a.0 a.1)),
      (λ a. let c = complete σ.edition σ.table l.table a.1 l.ranged 0 uses_end tt in (record { type = c.type; stack = [] }, c.answer)),
    )

-- and the type that the walk finds is the derivation's
pub exact_type : (s : List ℕ) (σ : Sheet) (r : Found) (τ : Ty) → read_sheet s ≡ good σ → walk σ.edition σ.table σ.term 0 [] ≡ good r → Typed σ.edition σ.table [] σ.term τ → tree σ.table r.type ≡ τ
exact_type s σ r τ e h d = let l = laid s σ e in one_type (sound σ.edition σ.table l.table σ.term l.ranged r h) d

-- document 01 compares types and the walk compares type numbers: in a table that the reader accepts it is the same
pub type_numbers : (Θ : Table) → TableOk Θ → (a b : ℕ) → a < length Θ → b < length Θ → (a ≡ b) ↔ (tree Θ a ≡ tree Θ b)
type_numbers Θ ok a b ha hb = ((λ e. ap (λ (n : ℕ). tree Θ n) e), (λ e. ok.distinct a b ha hb e))

-- as tests
pub type_tests : (Θ : Table) → TableOk Θ → (a b : ℕ) → a < length Θ → b < length Θ → ty_eq (tree Θ a) (tree Θ b) ≡ eqb a b
type_tests Θ ok a b ha hb = by_eqb (λ (t : Bool). ty_eq (tree Θ a) (tree Θ b) ≡ t) a b
    (λ e. rw e (T-is (ty_eq (tree Θ b) (tree Θ b)) (ty_eq_refl (tree Θ b))))
    (λ d. is_false (ty_eq (tree Θ a) (tree Θ b)) (λ t. d (ok.distinct a b ha hb (ty_eq→eq (tree Θ a) (tree Θ b) t))))
