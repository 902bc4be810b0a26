-- Laws of the table of types that a sheet's bytes hold: its records, their tests, and the sizes. Assumes nothing.
use Prim.Native.Nat.{ℕ, zero, suc, ◌+◌, ◌-◌, ◌<◌}
use mathlib.Core.Path.{◌≡◌, refl, sym, ap, ap₂, ◌∙◌}
use mathlib.Core.Logic.{⊎_elim}
use mathlib.Core.Bool.{Bool, true, false, ◌&&◌, ◌||◌}
use mathlib.Core.List.{List, [], ◌∷◌, ◌++◌, map, append_assoc}
use native.Mathlib.Omega.{arith}
use native.Mathlib.Nat.{not-suc-le-zero, eq-or-lt_of_le, le_of_suc-le-suc}
use native.Mathlib.Numerals.{add-one}
use borrow.Author.Tests.{ltb-true}
use lib.Dec.{ltb}
use lib.ListN.{length, set, replicate, length-append, get_or-append}
use lib.Seq.{get_or_at, set_at}
use Rattle.laws.proofs.Tests.{T-is, and_both}
use Rattle.calculus.specs.Types.{Ty, size, sharable, is_arrow, TyRec, rec01, rec02, rec03, rec04, rec_eq, Table, rec_at, ty_of, tys_from, tree}
use Rattle.calculus.specs.Read.{known, formed, repeated}
use Rattle.sheet_theorems.specs.Laid.{TableOk}
use Rattle.sheet_theorems.proofs.Tables.{tys_snoc}
use Rattle.sheet_theorems.proofs.TypeForms.{sharable_form, arrow_form}
use Rattle.records.specs.Forms.{rec_in}
use Rattle.records.specs.Told.{sizes_of}
use Rattle.records.proofs.ToldLaws.{sizes-front, size-at}
use Rattle.sheet.specs.Tables.{table_in, known_below, formed_in, size_in}
use Rattle.sheet_theorems.specs.Records.{sharable_rec, arrow_rec}

-- ---- the records

pub table_more : (s : List ℕ) (n : ℕ) → table_in s (n + 1) ≡ table_in s n ++ rec_in s n ∷ []
unfolding table_in
table_more s n = rw (add-one n)

pub table-count : (s : List ℕ) (n : ℕ) → length (table_in s n) ≡ n
unfolding table_in
table-count s zero = refl
table-count s (suc n) = omega (arith, length-append (table_in s n) (rec_in s n ∷ []), table-count s n)

-- type t's record is the t-th
pub table_at : (s : List ℕ) (n t : ℕ) → t < n → rec_at (table_in s n) t ≡ rec_in s t
unfolding table_in
table_at s zero t h = absurd (not-suc-le-zero h)
table_at s (suc n) t h =
    ⊎_elim (λ (e : t ≡ n). get_or_at (table_in s n) (rec_in s n) [] rec01 t (table-count s n ∙ sym e) ∙ ap (rec_in s) (sym e))
    (λ l. get_or-append (table_in s n) (rec_in s n ∷ []) rec01 t (rw (table-count s n) l) ∙ table_at s n t l)
    (eq-or-lt_of_le (le_of_suc-le-suc h))

-- ---- repeats

pub repeated_snoc : (Θ : Table) (q r : TyRec) → repeated (Θ ++ q ∷ []) r ≡ (repeated Θ r || rec_eq q r)
repeated_snoc [] q r = or_false (rec_eq q r)
  where
    or_false : (b : Bool) → (b || false) ≡ b
    or_false true = refl
    or_false false = refl
repeated_snoc (p ∷ Θ) q r = or-front (rec_eq p r) _ (repeated Θ r) (rec_eq q r) (repeated_snoc Θ q r)
  where
    or-front : (b x y z : Bool) → x ≡ (y || z) → (b || x) ≡ ((b || y) || z)
    or-front true x y z e = refl
    or-front false x y z e = e

-- one record further, and none is the same
pub repeated-more : (s : List ℕ) (n : ℕ) (q r : TyRec) → repeated (table_in s n) r ≡ false → q ≡ rec_in s n → rec_eq q r ≡ false → repeated (table_in s (n + 1)) r ≡ false
repeated-more s n q r a e b = rw (table_more s n, repeated_snoc (table_in s n) (rec_in s n) r, a, ← e) b

repeated-at : (Θ : Table) (r : TyRec) (n : ℕ) → n < length Θ → rec_eq (rec_at Θ n) r ≡ true → repeated Θ r ≡ true
repeated-at [] r n h e = absurd (not-suc-le-zero h)
repeated-at (q ∷ Θ) r zero h e = rw e
repeated-at (q ∷ Θ) r (suc n) h e = or_true (rec_eq q r) (repeated-at Θ r n (le_of_suc-le-suc h) e)
  where
    or_true : (b : Bool) {x : Bool} → x ≡ true → (b || x) ≡ true
    or_true true e = refl
    or_true false e = e

-- one of them is the same
pub repeated-found : (s : List ℕ) (n t : ℕ) (q r : TyRec) → t < n → q ≡ rec_in s t → rec_eq q r ≡ true → repeated (table_in s n) r ≡ true
repeated-found s n t q r h e b = repeated-at (table_in s n) r t (rw (table-count s n) h) (rw (table_at s n t h, ← e) b)

-- ---- the tests, over the table and by the records

pub known_by : (s : List ℕ) (n : ℕ) (q : TyRec) → known (table_in s n) q ≡ known_below n q
known_by s n rec01 = refl
known_by s n (rec02 a b) = rw (table-count s n)
known_by s n (rec03 a b) = rw (table-count s n)
known_by s n (rec04 a b) = rw (table-count s n)

both_lt : (a b n : ℕ) → (ltb a n && ltb b n) ≡ true → (a < n) × (b < n)
both_lt a b n e = let (p, q) = and_both (ltb a n) (ltb b n) (rw e tt) in (ltb-true a n (T-is _ p), ltb-true b n (T-is _ q))

module _ (s : List ℕ) (n : ℕ) (ok : TableOk (table_in s n)) where
  sharable-in : (a : ℕ) → a < n → sharable (tree (table_in s n) a) ≡ sharable_rec (rec_in s a)
  sharable-in a h = sharable_form (table_in s n) ok a ∙ ap sharable_rec (table_at s n a h)

  arrow_in : (a : ℕ) → a < n → is_arrow (tree (table_in s n) a) ≡ arrow_rec (rec_in s a)
  arrow_in a h = arrow_form (table_in s n) ok a ∙ ap arrow_rec (table_at s n a h)

  pub formed_by : (q : TyRec) → known_below n q ≡ true → formed (table_in s n) q ≡ formed_in s q
  formed_by rec01 k = refl
  formed_by (rec02 a b) k = let (x, y) = both_lt a b n k in rw (sharable-in a x, sharable-in b y)
  formed_by (rec03 a b) k = sharable-in a (both_lt a b n k).0
  formed_by (rec04 a b) k = arrow_in a (both_lt a b n k).0

-- ---- sizes

map_snoc : (l : List Ty) (τ : Ty) → map size (l ++ τ ∷ []) ≡ map size l ++ size τ ∷ []
map_snoc [] τ = refl
map_snoc (x ∷ l) τ = ap (λ (m : List ℕ). size x ∷ m) (map_snoc l τ)

-- the size of a record's type, from the sizes of earlier types
pub size_by : (Θ : Table) (q : TyRec) → known_below (length Θ) q ≡ true → size_in (sizes_of Θ) q ≡ size (ty_of (tys_from [] Θ) q)
size_by Θ rec01 k = refl
size_by Θ (rec02 a b) k = let (x, y) = both_lt a b (length Θ) k in ap₂ ◌+◌ (size-at Θ a x) (size-at Θ b y)
size_by Θ (rec03 a b) k = let (x, y) = both_lt a b (length Θ) k in ap₂ ◌+◌ (size-at Θ a x) (size-at Θ b y)
size_by Θ (rec04 a b) k = let (x, y) = both_lt a b (length Θ) k in ap₂ ◌+◌ (size-at Θ a x) (size-at Θ b y)

-- one more size
pub sizes-more : (Θ : Table) (q : TyRec) (n z : ℕ) → length Θ ≡ n → n < 256 → z ≡ size (ty_of (tys_from [] Θ) q) → set (sizes_of Θ) n z ≡ sizes_of (Θ ++ q ∷ [])
unfolding sizes_of
sizes-more Θ q n z l h e =
    let m : 256 - length Θ ≡ suc (255 - n) = omega arith in
    let k : 256 - length (Θ ++ q ∷ []) ≡ 255 - n = omega (arith, length-append Θ (q ∷ [])) in
    rw (m, k, tys_snoc [] Θ q, map_snoc (tys_from [] Θ) (ty_of (tys_from [] Θ) q), append_assoc (map size (tys_from [] Θ)) (size (ty_of (tys_from [] Θ) q) ∷ []) (replicate (255 - n) 0), ← e)
    (set_at (map size (tys_from [] Θ)) 0 (replicate (255 - n) 0) z n (sizes-front Θ ∙ l))
