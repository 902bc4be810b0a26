-- The bytes of the types in the memory are those of the table. Assumes nothing.
use Prim.Native.Nat.{ℕ, zero, suc, ◌+◌, ◌*◌, ◌-◌, ◌≤◌, ◌<◌}
use mathlib.Core.Path.{◌≡◌, refl, sym, ap, ◌∙◌}
use mathlib.Core.Bool.{Bool, true, false, cond}
use mathlib.Core.List.{List, [], ◌∷◌, ◌++◌, append_assoc, append-nil}
use native.Mathlib.Omega.{arith}
use native.Mathlib.Numerals.{add-one}
use lib.Dec.{eqb}
use lib.ListN.{length, take, length-append}
use lib.Seq.{sets, take-suc, take-length}
use borrow.Author.Tests.{eq-eqb, ne_eqb}
use Rattle.laws.proofs.Regions.{written-more}
use Rattle.calculus.specs.Types.{TyRec, rec01, rec02, rec03, rec04, Table, rec_at}
use Rattle.calculus.specs.Write.{rec_bytes, table_bytes}
use Rattle.sheet_theorems.specs.Laid.{Below}
use Rattle.made_types.specs.Held.{kind_number, left_number, right_number, kind_in, left_in_lem, right_in, HoldsTypes}
use Rattle.sheet_writer.specs.Bytes.{type_bytes, types_bytes, TypeLow, TypesFit}

-- ---- lengths

pub bit_length : (w : List ℕ) (t : ℕ) → kind_in w t ≡ 1 → length (type_bytes w t) ≡ 1
bit_length w t e = rw (eq-eqb (kind_in w t) 1 e)

pub other_length : (w : List ℕ) (t : ℕ) → (kind_in w t ≡ 1 → ⊥) → length (type_bytes w t) ≡ 3
other_length w t d = rw (ne_eqb (kind_in w t) 1 d)

pub longer_by : (w : List ℕ) (t total n : ℕ) → total ≡ length (types_bytes w t) → length (type_bytes w t) ≡ n → total + n ≡ length (types_bytes w (t + 1))
longer_by w t total n e h = rw (add-one t) (omega (arith, length-append (types_bytes w t) (type_bytes w t)))

-- ---- bytes

pub bit-bytes : (w : List ℕ) (t : ℕ) → kind_in w t ≡ 1 → type_bytes w t ≡ kind_in w t ∷ []
bit-bytes w t e = rw (eq-eqb (kind_in w t) 1 e)

pub other-bytes : (w : List ℕ) (t : ℕ) → (kind_in w t ≡ 1 → ⊥) → type_bytes w t ≡ kind_in w t ∷ left_in_lem w t ∷ right_in w t ∷ []
other-bytes w t d = rw (ne_eqb (kind_in w t) 1 d)

-- the types below n are part of all
types-within : (w : List ℕ) (t d : ℕ) → length (types_bytes w t) ≤ length (types_bytes w (t + d))
types-within w t zero = let e : t + 0 ≡ t = omega arith in rw e (omega arith)
types-within w t (suc d) = let e : t + suc d ≡ suc (t + d) = omega arith in let i = types-within w t d in rw e (omega (arith, length-append (types_bytes w (t + d)) (type_bytes w (t + d))))

pub type_fits : (w : List ℕ) (n from room t at : ℕ) → TypesFit w n from room → t < n → at ≡ from + length (types_bytes w t) → at + length (type_bytes w t) ≤ room
type_fits w n from room t at F h e =
    let d : ℕ = n - suc t in
    let z : suc t + d ≡ n = omega arith in
    let i : length (types_bytes w (suc t)) ≤ length (types_bytes w n) = rw z at (types-within w (suc t) d) in
    let f = F.fits in
    omega (arith, length-append (types_bytes w t) (type_bytes w t))

pub one_more :
    (w : List ℕ) (out₀ out out' : List ℕ) (from t at r : ℕ) → at ≡ from + length (types_bytes w t) → out ≡ sets out₀ from (types_bytes w t) → r ≡ at + length (type_bytes w t) → out' ≡ sets out at (type_bytes w t)
    → (r ≡ from + length (types_bytes w (t + 1))) × (out' ≡ sets out₀ from (types_bytes w (t + 1)))
one_more w out₀ out out' from t at r e o h p =
    rw (add-one t) (
      omega (arith, length-append (types_bytes w t) (type_bytes w t)),
      p ∙ ap (λ (x : List ℕ). sets x at (type_bytes w t)) o ∙ written-more out₀ (types_bytes w t) (type_bytes w t) from at e,
    )

-- ---- the table

rec-bytes : (k l r : ℕ) (q : TyRec) → k ≡ kind_number q → l ≡ left_number q → r ≡ right_number q → cond (eqb k 1) (k ∷ []) (k ∷ l ∷ r ∷ []) ≡ rec_bytes q
rec-bytes k l r rec01 a b c = rw a
rec-bytes k l r (rec02 x y) a b c = rw (a, b, c)
rec-bytes k l r (rec03 x y) a b c = rw (a, b, c)
rec-bytes k l r (rec04 x y) a b c = rw (a, b, c)

table-append : (Θ Ψ : Table) → table_bytes (Θ ++ Ψ) ≡ table_bytes Θ ++ table_bytes Ψ
table-append [] Ψ = refl
table-append (q ∷ Θ) Ψ = ap (λ (x : List ℕ). rec_bytes q ++ x) (table-append Θ Ψ) ∙ sym (append_assoc (rec_bytes q) (table_bytes Θ) (table_bytes Ψ))

first-types : (w : List ℕ) (Θ : Table) → HoldsTypes w Θ → (n : ℕ) → n ≤ length Θ → types_bytes w n ≡ table_bytes (take n Θ)
first-types w Θ H zero h = refl
first-types w Θ H (suc n) h =
    let i = first-types w Θ H n (omega arith) in
    let b = rec-bytes (kind_in w n) (left_in_lem w n) (right_in w n) (rec_at Θ n) (H.kinds n h) (H.lefts n h) (H.rights n h) in
    rw (take-suc Θ n rec01 h, table-append (take n Θ) (rec_at Θ n ∷ []), append-nil (rec_bytes (rec_at Θ n)), i, b)

pub types_are : (w : List ℕ) (Θ : Table) → HoldsTypes w Θ → types_bytes w (length Θ) ≡ table_bytes Θ
types_are w Θ H = first-types w Θ H (length Θ) (omega arith) ∙ ap table_bytes (take-length Θ)

pub some-length : (w : List ℕ) (t : ℕ) → 1 ≤ length (type_bytes w t)
some-length w t = by (eqb (kind_in w t) 1)
  where
    by : (b : Bool) → 1 ≤ length (cond b (kind_in w t ∷ []) (kind_in w t ∷ left_in_lem w t ∷ right_in w t ∷ []))
    by true = omega arith
    by false = omega arith

pub types_most : (w : List ℕ) (n : ℕ) → length (types_bytes w n) ≤ 3 * n
types_most w zero = omega arith
types_most w (suc n) = let i = types_most w n in omega (arith, length-append (types_bytes w n) (type_bytes w n), type-most w n)
  where
    type-most : (w : List ℕ) (t : ℕ) → length (type_bytes w t) ≤ 3
    type-most w t = by (eqb (kind_in w t) 1)
      where
        by : (b : Bool) → length (cond b (kind_in w t ∷ []) (kind_in w t ∷ left_in_lem w t ∷ right_in w t ∷ [])) ≤ 3
        by true = omega arith
        by false = omega arith

-- the numbers of a type that stands in the memory are bytes
numbers-low : (n : ℕ) (q : TyRec) → n ≤ 256 → Below n q → (kind_number q < 256) × ((left_number q < 256) × (right_number q < 256))
numbers-low n rec01 m b = (omega arith, (omega arith, omega arith))
numbers-low n (rec02 x y) m b = (omega arith, (omega (arith, b.0), omega (arith, b.1)))
numbers-low n (rec03 x y) m b = (omega arith, (omega (arith, b.0), omega (arith, b.1)))
numbers-low n (rec04 x y) m b = (omega arith, (omega (arith, b.0), omega (arith, b.1)))

pub types-low : (w : List ℕ) (Θ : Table) → HoldsTypes w Θ → (t : ℕ) → t < length Θ → TypeLow w t
types-low w Θ H t h =
    let f = H.ok.few in
    let l = numbers-low t (rec_at Θ t) (omega arith) (H.ok.earlier t h) in
    rw (H.kinds t h, H.lefts t h, H.rights t h) l
