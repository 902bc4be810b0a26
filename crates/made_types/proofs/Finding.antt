-- A record is found in the memory where it stands in the table. Assumes nothing.
use Prim.Native.Nat.{ℕ, zero, suc, ◌+◌, ◌<◌, ◌≤◌}
use mathlib.Core.Path.{◌≡◌, refl, sym, ap, ◌∙◌}
use mathlib.Core.Bool.{Bool, true, false, ◌&&◌, ◌||◌, cond}
use mathlib.Core.List.{List, [], ◌∷◌}
use native.Mathlib.Omega.{arith}
use native.Mathlib.Decide.{dec_le}
use lib.Dec.{eqb}
use lib.ListN.{length}
use borrow.Author.Tests.{ne_eqb}
use Rattle.calculus.specs.Types.{TyRec, rec01, rec02, rec03, rec04, rec_eq, Table, rec_at}
use Rattle.calculus.specs.Read.{repeated}
use Rattle.sheet_theorems.specs.Laid.{Below}
use Rattle.notation_calculus.specs.Making.{number_in}
use Rattle.made_types.specs.Held.{kind_number, left_number, right_number, HoldsTypes}
use Rattle.made_types.specs.Listing.{kind_byte, rec_of_kind, record_of_lem, same_in_lem, Searched, Listable}
use Rattle.made_types.specs.declared.Record.{Record}
use Rattle.made_types.proofs.Sorts.{by_form, kind_known}

abbrev SameNumbers : TyRec → ℕ → ℕ → ℕ → Type 0
SameNumbers q a b k = (eqb (kind_number q) k && (eqb (left_number q) a && eqb (right_number q) b)) ≡ rec_eq q (rec_of_kind k a b)

same_02 : (q : TyRec) (a b : ℕ) → SameNumbers q a b 2
same_02 rec01 a b = refl
same_02 (rec02 x y) a b = refl
same_02 (rec03 x y) a b = refl
same_02 (rec04 x y) a b = refl

same_03 : (q : TyRec) (a b : ℕ) → SameNumbers q a b 3
same_03 rec01 a b = refl
same_03 (rec02 x y) a b = refl
same_03 (rec03 x y) a b = refl
same_03 (rec04 x y) a b = refl

same_04 : (q : TyRec) (a b : ℕ) → SameNumbers q a b 4
same_04 rec01 a b = refl
same_04 (rec02 x y) a b = refl
same_04 (rec03 x y) a b = refl
same_04 (rec04 x y) a b = refl

same_in : (w : List ℕ) (Θ : Table) (t : ℕ) (r : Record) → HoldsTypes w Θ → t < length Θ → Listable w r → same_in_lem w t r ≡ rec_eq (rec_at Θ t) (record_of_lem r)
same_in w Θ t r H h L =
    rw (H.kinds t h, H.lefts t h, H.rights t h)
    (by_form (SameNumbers (rec_at Θ t) r.left r.right) (same_02 (rec_at Θ t) r.left r.right) (same_03 (rec_at Θ t) r.left r.right) (same_04 (rec_at Θ t) r.left r.right) (kind_byte r.kind) L.form (kind_known r.kind))

-- ---- in a table

absent : (Θ : Table) (q : TyRec) → ((j : ℕ) → j < length Θ → rec_eq (rec_at Θ j) q ≡ false) → repeated Θ q ≡ false
absent [] q f = refl
absent (p ∷ Θ) q f = rw (f 0 (omega arith)) (absent Θ q (λ j h. f (suc j) (omega arith)))

first-at : (Θ : Table) (q : TyRec) (n k : ℕ) → ((j : ℕ) → j < k → rec_eq (rec_at Θ j) q ≡ false) → k < length Θ → rec_eq (rec_at Θ k) q ≡ true → (number_in Θ n q ≡ n + k) × (repeated Θ q ≡ true)
first-at [] q n k f h e = absurd (none k h)
  where
    none : (k : ℕ) → k < 0 → ⊥
    none k h = omega arith
first-at (p ∷ Θ) q n zero f h e = (ap (λ (b : Bool). cond b n (number_in Θ (suc n) q)) e ∙ omega arith, ap (λ (b : Bool). b || repeated Θ q) e)
first-at (p ∷ Θ) q n (suc k) f h e =
    let z = f 0 (omega arith) in
    let (g, r) = first-at Θ q (suc n) k (λ j l. f (suc j) (omega arith)) (omega arith) e in
    (ap (λ (b : Bool). cond b n (number_in Θ (suc n) q)) z ∙ g ∙ omega arith, ap (λ (b : Bool). b || repeated Θ q) z ∙ r)

-- ---- in the memory

-- a record stands behind its right side
behind-right : (j : ℕ) (q : TyRec) (k a b : ℕ) → 2 ≤ k → k ≤ 4 → Below j q → j ≤ b → rec_eq q (rec_of_kind k a b) ≡ false
behind-right j q k a b low high below h = by_form (λ (n : ℕ). rec_eq q (rec_of_kind n a b) ≡ false) (by-02 q below) (by-03 q below) (by-04 q below) k low high
  where
    sides : (x y : ℕ) → y < j → (eqb x a && eqb y b) ≡ false
    sides x y l = ap (λ (t : Bool). eqb x a && t) (ne_eqb y b (λ e. omega arith)) ∙ none (eqb x a)
      where
        none : (t : Bool) → (t && false) ≡ false
        none true = refl
        none false = refl

    by-02 : (p : TyRec) → Below j p → rec_eq p (rec02 a b) ≡ false
    by-02 rec01 d = refl
    by-02 (rec02 x y) d = sides x y d.1
    by-02 (rec03 x y) d = refl
    by-02 (rec04 x y) d = refl

    by-03 : (p : TyRec) → Below j p → rec_eq p (rec03 a b) ≡ false
    by-03 rec01 d = refl
    by-03 (rec02 x y) d = refl
    by-03 (rec03 x y) d = sides x y d.1
    by-03 (rec04 x y) d = refl

    by-04 : (p : TyRec) → Below j p → rec_eq p (rec04 a b) ≡ false
    by-04 rec01 d = refl
    by-04 (rec02 x y) d = refl
    by-04 (rec03 x y) d = refl
    by-04 (rec04 x y) d = sides x y d.1

module _ (w : List ℕ) (Θ : Table) (r : Record) (k : ℕ) (H : HoldsTypes w Θ) (L : Listable w r) (S : Searched w r k) where
  -- none before it
  none_before : (j : ℕ) → j < length Θ → j < k → rec_eq (rec_at Θ j) (record_of_lem r) ≡ false
  none_before j l h = elim (dec_le j r.right) [
    | yes g ↦ behind-right j (rec_at Θ j) (kind_byte r.kind) r.left r.right L.form (kind_known r.kind) (H.ok.earlier j l) g
    | no g ↦ sym (same_in w Θ j r H l L) ∙ S.before j (omega arith) h
  ]

  pub found_old : k < length Θ → (number_in Θ 0 (record_of_lem r) ≡ k) × (repeated Θ (record_of_lem r) ≡ true)
  found_old h =
      let c = H.count in
      let (g, t) = first-at Θ (record_of_lem r) 0 k (λ j l. none_before j (omega arith) l) h (sym (same_in w Θ k r H h L) ∙ S.here (omega arith)) in
      (g ∙ omega arith, t)

  pub found_new : r.right < length Θ → length Θ ≤ k → (k ≡ length Θ) × (repeated Θ (record_of_lem r) ≡ false)
  found_new g h =
      let c = H.count in
      let i = S.within (omega arith) in
      (omega arith, absent Θ (record_of_lem r) (λ j l. none_before j l (omega arith)))
