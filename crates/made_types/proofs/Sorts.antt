-- The sorts and the halves of the types in the memory are those of the table. Assumes nothing.
use Prim.Native.Nat.{ℕ, ◌<◌, ◌≤◌}
use mathlib.Core.Path.{◌≡◌, refl, sym, ap, ap₂, ◌∙◌}
use mathlib.Core.Bool.{not, ◌&&◌, cond}
use mathlib.Core.List.{List}
use native.Mathlib.Omega.{arith}
use native.Mathlib.Decide.{ℕ_discrete}
use lib.Dec.{eqb, leb}
use lib.ListN.{length}
use Rattle.calculus.specs.Types.{Ty, sharable, is_arrow, TyRec, rec01, rec02, rec03, rec04, Table, rec_at, tree}
use Rattle.calculus.specs.Read.{formed}
use Rattle.sheet_theorems.specs.Laid.{Agrees, Below}
use Rattle.notation_calculus.specs.Making.{is_sharable, shares, halves_of}
use Rattle.notation_theorems.proofs.Growing.{Ready}
use Rattle.notation_theorems.proofs.NodesMean.{shares-is}
use Rattle.made_types.specs.Held.{kind_number, left_number, right_number, kind_in, left_in_lem, right_in, HoldsTypes}
use Rattle.made_types.specs.Listing.{kind_byte, rec_of_kind}
use Rattle.made_types.specs.declared.Kind.{Kind}

-- the three forms
pub by_form : (P : ℕ → Type 0) → P 2 → P 3 → P 4 → (k : ℕ) → 2 ≤ k → k ≤ 4 → P k
by_form P p₂ p₃ p₄ k low high =
    elim (ℕ_discrete k 2) [
      | yes e ↦ rw e p₂
      | no d ↦ elim (ℕ_discrete k 3) [ yes e ↦ rw e p₃ | no f ↦ let e : k ≡ 4 = omega arith in rw e p₄ ]
    ]

pub kind_known : (k : Kind) → kind_byte k ≤ 4
kind_known Kind.Bit = omega arith
kind_known Kind.Product = omega arith
kind_known Kind.Arrow = omega arith
kind_known Kind.Linear = omega arith

pub ready_of : {w : List ℕ} {Θ : Table} → HoldsTypes w Θ → Ready Θ
ready_of H = record { ok = H.ok; one = H.one; some = H.some }

-- ---- sorts

kind-shares : (r : TyRec) → leb (kind_number r) 2 ≡ is_sharable r
kind-shares rec01 = refl
kind-shares (rec02 a b) = refl
kind-shares (rec03 a b) = refl
kind-shares (rec04 a b) = refl

pub shares_in : (w : List ℕ) (Θ : Table) (t : ℕ) → HoldsTypes w Θ → t < length Θ → leb (kind_in w t) 2 ≡ shares Θ t
shares_in w Θ t H h = ap (λ (k : ℕ). leb k 2) (H.kinds t h) ∙ kind-shares (rec_at Θ t)

arrow_of_lem : (Θ : Table) (r : TyRec) (τ : Ty) → Agrees Θ r τ → not (is_sharable r) ≡ is_arrow τ
arrow_of_lem Θ rec01 τ a = sym (ap is_arrow a)
arrow_of_lem Θ (rec02 x y) τ a = sym (ap is_arrow a.0)
arrow_of_lem Θ (rec03 x y) τ a = sym (ap is_arrow a.0)
arrow_of_lem Θ (rec04 x y) τ a = sym (ap is_arrow a.0)

module _ (w : List ℕ) (Θ : Table) (H : HoldsTypes w Θ) where
  sharable-in : (t : ℕ) → t < length Θ → leb (kind_in w t) 2 ≡ sharable (tree Θ t)
  sharable-in t h = shares_in w Θ t H h ∙ shares-is Θ t (ready_of H)

  arrow_in : (t : ℕ) → t < length Θ → not (leb (kind_in w t) 2) ≡ is_arrow (tree Θ t)
  arrow_in t h = ap not (shares_in w Θ t H h) ∙ arrow_of_lem Θ (rec_at Θ t) (tree Θ t) (H.ok.agrees t)

  -- sides of the sorts that the form asks for
  abbrev FormedIs : ℕ → ℕ → ℕ → Type 0
  FormedIs a b k = Below (length Θ) (rec_of_kind k a b) → cond (eqb k 2) (leb (kind_in w a) 2 && leb (kind_in w b) 2) (cond (eqb k 3) (leb (kind_in w a) 2) (not (leb (kind_in w a) 2))) ≡ formed Θ (rec_of_kind k a b)

  pub formed_in_lem : (k a b : ℕ) → 2 ≤ k → k ≤ 4 → FormedIs a b k
  formed_in_lem k a b low high =
      by_form (FormedIs a b) (λ h. ap₂ ◌&&◌ (sharable-in a h.0) (sharable-in b h.1)) (λ h. sharable-in a h.0) (λ h. arrow_in a h.0) k low high

-- ---- halves

left_half : (r : TyRec) → cond (eqb (kind_number r) 2) (left_number r) 0 ≡ (halves_of r).left
left_half rec01 = refl
left_half (rec02 a b) = refl
left_half (rec03 a b) = refl
left_half (rec04 a b) = refl

right_half : (r : TyRec) → cond (eqb (kind_number r) 2) (right_number r) 0 ≡ (halves_of r).right
right_half rec01 = refl
right_half (rec02 a b) = refl
right_half (rec03 a b) = refl
right_half (rec04 a b) = refl

pub left_half_in : (w : List ℕ) (Θ : Table) (t : ℕ) → HoldsTypes w Θ → t < length Θ → cond (eqb (kind_in w t) 2) (left_in_lem w t) 0 ≡ (halves_of (rec_at Θ t)).left
left_half_in w Θ t H h = rw (H.kinds t h, H.lefts t h) (left_half (rec_at Θ t))

pub right_half_in : (w : List ℕ) (Θ : Table) (t : ℕ) → HoldsTypes w Θ → t < length Θ → cond (eqb (kind_in w t) 2) (right_in w t) 0 ≡ (halves_of (rec_at Θ t)).right
right_half_in w Θ t H h = rw (H.kinds t h, H.rights t h) (right_half (rec_at Θ t))
