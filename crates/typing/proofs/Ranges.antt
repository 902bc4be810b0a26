-- The type records of a read sheet are its table's, and the walk keeps to the table and to the binders. Assumes nothing.
use Prim.Native.Nat.{ℕ, suc, ◌+◌, ◌<◌}
use mathlib.Core.Path.{◌≡◌, refl, sym, ap, ◌∙◌}
use mathlib.Core.Bool.{Bool}
use mathlib.Core.List.{List, [], ◌∷◌}
use native.Mathlib.Omega.{arith}
use lib.Dec.{eqb, leb}
use lib.ListN.{length, get_or}
use Rattle.calculus.specs.Answer.{good}
use Rattle.calculus.specs.Types.{Ty, bit, prod, arrow, lolli, sharable, ty_eq, TyRec, rec01, rec02, rec03, rec04, Table, rec_at, tys_from, tree}
use Rattle.calculus.specs.Terms.{Edition, Term}
use Rattle.sheet_theorems.specs.Laid.{Agrees, Below, TableOk, Ranged}
use Rattle.calculus.specs.Walk.{Stack, Found, number_from, type_number, walk}
use Rattle.laws.proofs.Tests.{T-is}
use Rattle.sheet_theorems.proofs.Tables.{tys_count}
use Rattle.sheet_theorems.specs.Numbers.{Numbers}
use Rattle.sheet_theorems.proofs.WalkKeeps.{kept-length, kept-numbers, walk_keeps, walk_in}
use Rattle.records.specs.TypeNumbers.{kind_no, left_no, right_no}
use Rattle.typing.specs.Steps.{Types, both_sides, stands_for, number_below}

-- ---- the sides of a type in range

module _ (l t : ℕ) (h : t < l) where
  left-low : (q : TyRec) → Below t q → left_no q < l
  left-low rec01 b = omega arith
  left-low (rec02 x y) b = omega (arith, b.0)
  left-low (rec03 x y) b = omega (arith, b.0)
  left-low (rec04 x y) b = omega (arith, b.0)

  right-low : (q : TyRec) → Below t q → right_no q < l
  right-low rec01 b = omega arith
  right-low (rec02 x y) b = omega (arith, b.1)
  right-low (rec03 x y) b = omega (arith, b.1)
  right-low (rec04 x y) b = omega (arith, b.1)

module _ (Θ : Table) (ok : TableOk Θ) where
  pub left_in : (t : ℕ) → t < length Θ → left_no (rec_at Θ t) < length Θ
  left_in t h = left-low (length Θ) t h (rec_at Θ t) (ok.earlier t h)

  pub right_in_lem : (t : ℕ) → t < length Θ → right_no (rec_at Θ t) < length Θ
  right_in_lem t h = right-low (length Θ) t h (rec_at Θ t) (ok.earlier t h)

  -- ---- tests on records are tests on types

  sharable-rec : (q : TyRec) (τ : Ty) → Agrees Θ q τ → leb (kind_no q) 2 ≡ sharable τ
  sharable-rec rec01 τ a = rw a
  sharable-rec (rec02 x y) τ a = rw (a.0, T-is (sharable (tree Θ x)) a.1, T-is (sharable (tree Θ y)) a.2)
  sharable-rec (rec03 x y) τ a = rw a.0
  sharable-rec (rec04 x y) τ a = rw a.0

  pub sharable-is : (t : ℕ) → leb (kind_no (rec_at Θ t)) 2 ≡ sharable (tree Θ t)
  sharable-is t = sharable-rec (rec_at Θ t) (tree Θ t) (ok.agrees t)

  bit-rec : (q : TyRec) (τ : Ty) → Agrees Θ q τ → eqb (kind_no q) 1 ≡ ty_eq τ bit
  bit-rec rec01 τ a = rw a
  bit-rec (rec02 x y) τ a = rw a.0
  bit-rec (rec03 x y) τ a = rw a.0
  bit-rec (rec04 x y) τ a = rw a.0

  module _ (f g : ℕ → Bool) (σ τ : Ty) where
    -- both sides pass their tests
    abbrev Sides : TyRec → Type 0
    Sides q = (f (left_no q) ≡ ty_eq (tree Θ (left_no q)) σ) × (g (right_no q) ≡ ty_eq (tree Θ (right_no q)) τ)

    prod-rec : (q : TyRec) (ρ : Ty) → Agrees Θ q ρ → Sides q → both_sides 2 q f g ≡ ty_eq ρ (prod σ τ)
    prod-rec rec01 ρ a h = rw a
    prod-rec (rec02 x y) ρ a h = rw (a.0, h.0, h.1)
    prod-rec (rec03 x y) ρ a h = rw a.0
    prod-rec (rec04 x y) ρ a h = rw a.0

    arrow_rec_lem : (q : TyRec) (ρ : Ty) → Agrees Θ q ρ → Sides q → both_sides 3 q f g ≡ ty_eq ρ (arrow σ τ)
    arrow_rec_lem rec01 ρ a h = rw a
    arrow_rec_lem (rec02 x y) ρ a h = rw a.0
    arrow_rec_lem (rec03 x y) ρ a h = rw (a.0, h.0, h.1)
    arrow_rec_lem (rec04 x y) ρ a h = rw a.0

    lolli-rec : (q : TyRec) (ρ : Ty) → Agrees Θ q ρ → Sides q → both_sides 4 q f g ≡ ty_eq ρ (lolli σ τ)
    lolli-rec rec01 ρ a h = rw a
    lolli-rec (rec02 x y) ρ a h = rw a.0
    lolli-rec (rec03 x y) ρ a h = rw a.0
    lolli-rec (rec04 x y) ρ a h = rw (a.0, h.0, h.1)

  -- a number stands for a type exactly where its tree is that type
  module _ (R : Types) (same : (t : ℕ) → t < length Θ → R t ≡ rec_at Θ t) where
    pub stands-for : (τ : Ty) (t : ℕ) → t < length Θ → stands_for R τ t ≡ ty_eq (tree Θ t) τ
    unfolding stands_for
    stands-for bit t h = rw (same t h) (bit-rec (rec_at Θ t) (tree Θ t) (ok.agrees t))
    stands-for (prod σ τ) t h =
        rw (same t h) (prod-rec (stands_for R σ) (stands_for R τ) σ τ (rec_at Θ t) (tree Θ t) (ok.agrees t) (stands-for σ _ (left_in t h), stands-for τ _ (right_in_lem t h)))
    stands-for (arrow σ τ) t h =
        rw (same t h) (arrow_rec_lem (stands_for R σ) (stands_for R τ) σ τ (rec_at Θ t) (tree Θ t) (ok.agrees t) (stands-for σ _ (left_in t h), stands-for τ _ (right_in_lem t h)))
    stands-for (lolli σ τ) t h =
        rw (same t h) (lolli-rec (stands_for R σ) (stands_for R τ) σ τ (rec_at Θ t) (tree Θ t) (ok.agrees t) (stands-for σ _ (left_in t h), stands-for τ _ (right_in_lem t h)))

-- ---- the number of a type that a part has

numbers-same : (f : ℕ → Bool) (τ : Ty) (σs : List Ty) (k : ℕ) → ((i : ℕ) → i < length σs → f (k + i) ≡ ty_eq (get_or σs i bit) τ) → number_below f (length σs) k ≡ number_from k σs τ
numbers-same f τ [] k h = refl
numbers-same f τ (σ ∷ σs) k h =
    let z : f k ≡ ty_eq σ τ = (let q : k + 0 ≡ k = omega arith in ap f (sym q)) ∙ h 0 (omega arith) in
    let r : number_below f (length σs) (suc k) ≡ number_from (suc k) σs τ = numbers-same f τ σs (suc k) (λ i l. (let q : suc k + i ≡ k + suc i = omega arith in ap f q) ∙ h (suc i) (omega arith)) in
    rw (z, r)

pub number_is : (Θ : Table) → TableOk Θ → (R : Types) → ((t : ℕ) → t < length Θ → R t ≡ rec_at Θ t) → (τ : Ty) (l : ℕ) → l ≡ length Θ → number_below (stands_for R τ) l 0 ≡ type_number Θ τ
number_is Θ ok R same τ l e =
    rw (e, ← tys_count Θ)
    (numbers-same (stands_for R τ) τ (tys_from [] Θ) 0 (λ i h. let z : 0 + i ≡ i = omega arith in rw z (stands-for Θ ok R same τ i (omega (arith, tys_count Θ)))))

-- ---- the walk keeps to the table and to the binders

pub record StaysIn (Θ : Table) (st : Stack) (r : Found) : Type 0 where
  pub type_in_lem : r.type < length Θ
  pub numbers : Numbers r.stack (length Θ)
  pub count : length r.stack ≡ length st

pub kept : (E : Edition) (Θ : Table) → TableOk Θ → (e : Term) → Ranged E Θ e → (n : ℕ) (st : Stack) → Numbers st (length Θ) → (r : Found) → walk E Θ e n st ≡ good r → StaysIn Θ st r
kept E Θ ok e ranged n st k r h =
    let q = walk_keeps E Θ e n st r h in
    record { type_in_lem = walk_in Θ ok E e n st r ranged k h; numbers = kept-numbers (length Θ) q k; count = kept-length q }
