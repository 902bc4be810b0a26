-- Where no earlier record has the key, none is the same. Assumes nothing.
use Prim.Native.Nat.{ℕ, zero, suc, ◌+◌, ◌<◌, ◌≤◌}
use mathlib.Core.Path.{◌≡◌, refl, sym, ap, ◌∙◌, subst}
use mathlib.Core.Bool.{Bool, true, false, ◌||◌}
use mathlib.Core.List.{List}
use mathlib.Core.Logic.{⊎_elim}
use native.Mathlib.Omega.{arith}
use native.Mathlib.Nat.{eq-or-lt_of_le}
use native.Mathlib.Numerals.{add-one}
use borrow.Author.Tests.{eq-eqb}
use lib.Dec.{T, eqb}
use lib.ListN.{length, get_or, set}
use lib.Seq.{get_or-set_same, get_or-set_other}
use Rattle.calculus.specs.Types.{TyRec, rec_eq}
use Rattle.calculus.specs.Read.{repeated}
use Rattle.sheet_theorems.proofs.TableRead.{rec_eq→eq}
use Rattle.records.specs.Forms.{rec_in}
use Rattle.sheet.specs.Tables.{table_in}
use Rattle.sheet.specs.Keys.{key_of, among_first, Keyed}
use Rattle.sheet.proofs.TableLaws.{repeated_snoc}

-- ---- the loop

pub among-more : (keys : List ℕ) (n k : ℕ) → among_first keys (n + 1) k ≡ (among_first keys n k || eqb (get_or keys n 0) k)
unfolding among_first
among-more keys n k = rw (add-one n)

pub among_none : (keys : List ℕ) (k : ℕ) → false ≡ among_first keys 0 k
unfolding among_first
among_none keys k = refl

-- all of them
pub among-all : (keys : List ℕ) (k : ℕ) {t n : ℕ} → t ≤ n → n ≤ t → among_first keys t k ≡ among_first keys n k
among-all keys k {t} {n} a b = ap (λ (m : ℕ). among_first keys m k) (let e : t ≡ n = omega arith in e)

-- ---- the table

or_false : (x y : Bool) → (x || y) ≡ false → (x ≡ false) × (y ≡ false)
or_false false y e = (refl, e)
or_false true y e = absurd (let z : ◌≡◌ {A = ℕ} 0 1 = cc in omega arith)

-- other keys, other records
apart : (q r : TyRec) → eqb (key_of q) (key_of r) ≡ false → rec_eq q r ≡ false
apart q r e = by-test (rec_eq q r) refl
  where
    by-test : (b : Bool) → rec_eq q r ≡ b → b ≡ false
    by-test false h = refl
    by-test true h = absurd (let s = rec_eq→eq q r (subst T (sym h) tt) in let z : true ≡ false = sym (eq-eqb (key_of q) (key_of r) (ap key_of s)) ∙ e in let u : ◌≡◌ {A = ℕ} 0 1 = cc in omega arith)

pub none-same : (s : List ℕ) (n : ℕ) (keys : List ℕ) (q : TyRec) → Keyed s n keys → among_first keys n (key_of q) ≡ false → repeated (table_in s n) q ≡ false
unfolding table_in among_first
none-same s zero keys q K e = refl
none-same s (suc n) keys q K e =
    let h = or_false (among_first keys n (key_of q)) (eqb (get_or keys n 0) (key_of q)) e in
    let a : eqb (key_of (rec_in s n)) (key_of q) ≡ false = subst (λ (k : ℕ). eqb k (key_of q) ≡ false) (K n (omega arith)) h.1 in
    rw (repeated_snoc (table_in s n) (rec_in s n) q, none-same s n keys q (λ t l. K t (omega arith)) h.0, apart (rec_in s n) q a)

-- ---- one type further

pub keyed_more : (s : List ℕ) (n : ℕ) (keys : List ℕ) (k : ℕ) → n < length keys → k ≡ key_of (rec_in s n) → Keyed s n keys → Keyed s (n + 1) (set keys n k)
keyed_more s n keys k h e K t l =
    ⊎_elim (λ (q : t ≡ n). subst (λ (x : ℕ). get_or (set keys n k) x 0 ≡ key_of (rec_in s x)) (sym q) (get_or-set_same keys n k 0 h ∙ e))
    (λ u. get_or-set_other keys n t k 0 (λ z. omega arith) ∙ K t (omega arith))
    (eq-or-lt_of_le (omega arith))
