-- When a record of two sides stands in the table that a sheet's bytes hold: by its three bytes. Assumes nothing.
use Prim.Native.Nat.{ℕ, zero, suc, ◌+◌, ◌*◌, ◌-◌, ◌≤◌, ◌<◌}
use mathlib.Core.Path.{◌≡◌, refl, sym, ◌∙◌}
use mathlib.Core.Logic.{⊎_elim}
use mathlib.Core.Bool.{Bool, true, false, ◌&&◌, ◌||◌, cond}
use mathlib.Core.List.{List}
use native.Mathlib.Omega.{arith}
use native.Mathlib.Nat.{eq-or-lt_of_le}
use borrow.Author.Tests.{eq-eqb, ne_eqb, lt-ltb, le-ltb}
use lib.Dec.{eqb, ltb}
use lib.ListN.{length, get_or}
use Rattle.laws.proofs.Tests.{by_eqb}
use Rattle.calculus.specs.Types.{TyRec, rec01, rec02, rec03, rec04, rec_eq}
use Rattle.calculus.specs.Read.{repeated}
use Rattle.records.specs.Forms.{rec_of, rec_from, rec_in}
use Rattle.records.proofs.FormLaws.{rec-first, rec-later, rec-short, rec-long}
use Rattle.sheet.specs.Tables.{table_in}
use Rattle.sheet.proofs.TableLaws.{repeated_snoc, repeated-more, repeated-found}

-- ---- two records

module _ (k a b c d : ℕ) where
  -- the kinds that are left after a test
  not-two : (y z : Bool) → rec_eq (cond y (rec03 a b) (cond z (rec04 a b) rec01)) (rec02 c d) ≡ false
  not-two true z = refl
  not-two false true = refl
  not-two false false = refl

  not_three : (z : Bool) → rec_eq (cond z (rec04 a b) rec01) (rec03 c d) ≡ false
  not_three true = refl
  not_three false = refl

  abbrev Same : ℕ → TyRec → Bool → Bool → Bool → Type 0
  Same j q x y z = rec_eq (cond x (rec02 a b) (cond y (rec03 a b) (cond z (rec04 a b) rec01))) q ≡ (eqb k j && (eqb a c && eqb b d))

  same-two : rec_eq (rec_of k a b) (rec02 c d) ≡ (eqb k 2 && (eqb a c && eqb b d))
  same-two = by_eqb (λ x. Same 2 (rec02 c d) x (eqb k 3) (eqb k 4)) k 2 (λ e. rw (eq-eqb k 2 e)) (λ n. rw (ne_eqb k 2 n) (not-two (eqb k 3) (eqb k 4)))

  same-three : rec_eq (rec_of k a b) (rec03 c d) ≡ (eqb k 3 && (eqb a c && eqb b d))
  same-three =
      by_eqb (λ x. Same 3 (rec03 c d) x (eqb k 3) (eqb k 4)) k 2 (λ e. rw e) λ n.
      by_eqb (λ y. Same 3 (rec03 c d) false y (eqb k 4)) k 3 (λ e. rw (eq-eqb k 3 e)) (λ m. rw (ne_eqb k 3 m) (not_three (eqb k 4)))

  same-four : rec_eq (rec_of k a b) (rec04 c d) ≡ (eqb k 4 && (eqb a c && eqb b d))
  same-four =
      by_eqb (λ x. Same 4 (rec04 c d) x (eqb k 3) (eqb k 4)) k 2 (λ e. rw e) λ n.
      by_eqb (λ y. Same 4 (rec04 c d) false y (eqb k 4)) k 3 (λ e. rw e) λ m.
      by_eqb (λ z. Same 4 (rec04 c d) false false z) k 4 (λ e. rw (eq-eqb k 4 e)) (λ o. rw (ne_eqb k 4 o))

  -- a record is the same as one of two sides just where kind and sides are
  same_by : (j : ℕ) → 2 ≤ j → j ≤ 4 → rec_eq (rec_of k a b) (rec_of j c d) ≡ (eqb k j && (eqb a c && eqb b d))
  same_by zero h l = absurd (omega arith)
  same_by (suc zero) h l = absurd (omega arith)
  same_by (suc (suc zero)) h l = same-two
  same_by (suc (suc (suc zero))) h l = same-three
  same_by (suc (suc (suc (suc zero)))) h l = same-four
  same_by (suc (suc (suc (suc (suc j))))) h l = absurd (omega arith)

-- the single bit is none of two sides
pub bit-apart : (c d j : ℕ) → 2 ≤ j → j ≤ 4 → rec_eq rec01 (rec_of j c d) ≡ false
bit-apart c d zero h l = absurd (omega arith)
bit-apart c d (suc zero) h l = absurd (omega arith)
bit-apart c d (suc (suc zero)) h l = refl
bit-apart c d (suc (suc (suc zero))) h l = refl
bit-apart c d (suc (suc (suc (suc zero)))) h l = refl
bit-apart c d (suc (suc (suc (suc (suc j))))) h l = absurd (omega arith)

-- the sides first, as the code tests
sides_first : (x y z : Bool) → (x && (y && z)) ≡ (y && (z && x))
sides_first true true true = refl
sides_first true true false = refl
sides_first true false z = refl
sides_first false true true = refl
sides_first false true false = refl
sides_first false false z = refl

-- ---- the record of a type above the first

module _ (s : List ℕ) (t : ℕ) (above : 0 < t) (j c d : ℕ) (h : 2 ≤ j) (l : j ≤ 4) where
  abbrev at : ℕ
  at = 3 * t - 2

  later : rec_in s t ≡ rec_from s at
  later = rec-later s t at (λ e. omega arith) refl

  pub record_short : length s < at + 3 → false ≡ rec_eq (rec_in s t) (rec_of j c d)
  record_short n = rw (later, rec-short s at n) (sym (bit-apart c d j h l))

  pub record_whole : at + 3 ≤ length s → rec_eq (rec_in s t) (rec_of j c d) ≡ (eqb (get_or s (at + 1) 0) c && (eqb (get_or s (at + 2) 0) d && eqb (get_or s at 0) j))
  record_whole n = rw (later, rec-long s at n) (same_by (get_or s at 0) (get_or s (at + 1) 0) (get_or s (at + 2) 0) c d j h l ∙ sides_first (eqb (get_or s at 0) j) (eqb (get_or s (at + 1) 0) c) (eqb (get_or s (at + 2) 0) d))

-- ---- the table

-- the first is the single bit
pub bit-repeats : (s : List ℕ) (n : ℕ) → ltb 0 n ≡ repeated (table_in s n) rec01
unfolding table_in
bit-repeats s zero = le-ltb 0 0 (omega arith)
bit-repeats s (suc n) = lt-ltb 0 (suc n) (omega arith) ∙ sym (repeated-found s (suc n) 0 rec01 rec01 (omega arith) (rec-first s 0 refl) refl)

pub first-apart : (s : List ℕ) (c d j : ℕ) → 2 ≤ j → j ≤ 4 → repeated (table_in s 1) (rec_of j c d) ≡ false
unfolding table_in
first-apart s c d j h l = repeated-more s 0 rec01 (rec_of j c d) refl (rec-first s 0 refl) (bit-apart c d j h l)

module _ (s : List ℕ) (r : TyRec) where
  -- where none of the first n records is the same, none of fewer is
  pub repeated_fewer : (n m : ℕ) → m ≤ n → repeated (table_in s n) r ≡ false → repeated (table_in s m) r ≡ false
  unfolding table_in
  repeated_fewer zero zero h e = e
  repeated_fewer zero (suc m) h e = absurd (omega arith)
  repeated_fewer (suc n) m h e =
      ⊎_elim (λ (q : m ≡ suc n). rw q e) (λ u. repeated_fewer n m (omega arith) (or_first (repeated (table_in s n) r) (rec_eq (rec_in s n) r) (sym (repeated_snoc (table_in s n) (rec_in s n) r) ∙ e)))
      (eq-or-lt_of_le h)
    where
      or_first : (x y : Bool) → (x || y) ≡ false → x ≡ false
      or_first false y q = refl
      or_first true y q = q
