-- The type records of a sheet lie at fixed offsets: type 0 at 0, and type t + 1 at 3t + 1. Assumes nothing.
use Prim.Native.Nat.{ℕ, zero, suc, ◌+◌, ◌*◌, ◌-◌, ◌≤◌, ◌<◌}
use mathlib.Core.Path.{◌≡◌, refl, sym, ap, subst, ◌∙◌}
use mathlib.Core.List.{List, [], ◌∷◌, ◌++◌, append_assoc}
use native.Mathlib.Omega.{arith}
use native.Mathlib.Nat.{not-suc-le-zero, le_of_suc-le-suc}
use lib.ListN.{length, drop, length-append}
use lib.Seq.{drop-append-add}
use Rattle.calculus.specs.Types.{bit, TyRec, rec01, rec02, rec03, rec04, Table, rec_at, tree}
use Rattle.calculus.specs.Read.{type, TypeKind, k01, k02, k03, k04, kind_of, byte, type_rec, Sheet}
use Rattle.calculus.specs.Write.{rec_bytes, table_bytes, term_bytes, record_bytes}
use Rattle.sheet_theorems.specs.Laid.{Agrees, Below, TableOk, Laid}
use Rattle.sheet_theorems.proofs.Bytes.{front_one, first_byte, second-byte, third-byte, within}
use Rattle.sheet_theorems.proofs.KindBytes.{type_byte, type_kind}

-- ---- only the first record is 01

none_below : (r : TyRec) → Below 0 r → r ≡ rec01
none_below rec01 h = refl
none_below (rec02 a b) h = absurd (not-suc-le-zero h.0)
none_below (rec03 a b) h = absurd (not-suc-le-zero h.0)
none_below (rec04 a b) h = absurd (not-suc-le-zero h.0)

pub record_zero : (Θ : Table) → TableOk Θ → rec_at Θ 0 ≡ rec01
record_zero [] ok = refl
record_zero (r ∷ Θ) ok = none_below r (ok.earlier 0 (omega arith))

pub tree_zero : (Θ : Table) → TableOk Θ → tree Θ 0 ≡ bit
tree_zero Θ ok = subst (λ (q : TyRec). Agrees Θ q (tree Θ 0)) (record_zero Θ ok) (ok.agrees 0)

pub record_later : (Θ : Table) → TableOk Θ → (t : ℕ) → suc t < length Θ → rec_at Θ (suc t) ≡ rec01 → ⊥
record_later Θ ok t h e =
    let b : tree Θ (suc t) ≡ bit = subst (λ (q : TyRec). Agrees Θ q (tree Θ (suc t))) e (ok.agrees (suc t)) in
    let z = ok.distinct (suc t) 0 h (omega arith) (b ∙ sym (tree_zero Θ ok)) in
    omega arith

rec-three : (r : TyRec) → (r ≡ rec01 → ⊥) → length (rec_bytes r) ≡ 3
rec-three rec01 f = absurd (f refl)
rec-three (rec02 a b) f = refl
rec-three (rec03 a b) f = refl
rec-three (rec04 a b) f = refl

-- ---- records of three bytes each

abbrev Threes : Table → Type 0
Threes Θ = (n : ℕ) → n < length Θ → length (rec_bytes (rec_at Θ n)) ≡ 3

threes_length : (Θ : Table) → Threes Θ → length (table_bytes Θ) ≡ 3 * length Θ
threes_length [] w = refl
threes_length (r ∷ Θ) w =
    omega (arith, length-append (rec_bytes r) (table_bytes Θ), w 0 (omega arith), threes_length Θ (λ n h. w (suc n) (omega arith)))

pub record StandsRec (s : List ℕ) (at : ℕ) (r : TyRec) : Type 0 where
  pub rest : List ℕ
  pub here : drop at s ≡ rec_bytes r ++ rest

threes_at : (Θ : Table) (rest : List ℕ) (n : ℕ) → Threes Θ → n < length Θ → StandsRec (table_bytes Θ ++ rest) (3 * n) (rec_at Θ n)
threes_at [] rest n w h = absurd (not-suc-le-zero h)
threes_at (r ∷ Θ) rest zero w h = record { rest = table_bytes Θ ++ rest; here = append_assoc (rec_bytes r) (table_bytes Θ) rest }
threes_at (r ∷ Θ) rest (suc n) w h =
    let q = threes_at Θ rest n (λ n h. w (suc n) (omega arith)) (le_of_suc-le-suc h) in
    let e : 3 * suc n ≡ length (rec_bytes r) + 3 * n = omega (arith, w 0 (omega arith)) in
    record { rest = q.rest; here = rw (append_assoc (rec_bytes r) (table_bytes Θ) rest, e, drop-append-add (rec_bytes r) (table_bytes Θ ++ rest) (3 * n)) q.here }

rec_nonempty : (r : TyRec) → 0 < length (rec_bytes r)
rec_nonempty rec01 = omega arith
rec_nonempty (rec02 a b) = omega arith
rec_nonempty (rec03 a b) = omega arith
rec_nonempty (rec04 a b) = omega arith

three-bytes : (s : List ℕ) (at k a b : ℕ) (l : List ℕ) → drop at s ≡ k ∷ a ∷ b ∷ l → (byte s at ≡ k) × (byte s (at + 1) ≡ a) × (byte s (at + 2) ≡ b)
three-bytes s at k a b l e = (first_byte s (a ∷ b ∷ l) at k e, second-byte s (b ∷ l) at k a e, third-byte s l at k a b e)

same_kind : {b : ℕ} (j k : TypeKind) → b ≡ type_byte j → kind_of b ≡ type k → (P : TypeKind → Type 0) → P j → P k
same_kind j k e f P p = let z : type j ≡ type k = sym (type_kind j) ∙ ap kind_of (sym e) ∙ f in subst P (cc) p

-- ---- the table of a sheet

tail_threes : (r : TyRec) (Θ : Table) → TableOk (r ∷ Θ) → Threes Θ
tail_threes r Θ ok n h = rec-three (rec_at Θ n) (record_later (r ∷ Θ) ok n (omega arith))

pub table-length : (Θ : Table) → TableOk Θ → 0 < length Θ → length (table_bytes Θ) + 2 ≡ 3 * length Θ
table-length [] ok h = absurd (not-suc-le-zero h)
table-length (r ∷ Θ) ok h =
    let e : length (rec_bytes r) ≡ 1 = ap (λ (q : TyRec). length (rec_bytes q)) (record_zero (r ∷ Θ) ok) in
    omega (arith, length-append (rec_bytes r) (table_bytes Θ), threes_length Θ (tail_threes r Θ ok))

-- the bytes begin with a table's records
module _ (s : List ℕ) (Θ : Table) (rest : List ℕ) (ok : TableOk Θ) (bytes : s ≡ table_bytes Θ ++ rest) where
  pub table-within : length (table_bytes Θ) ≤ length s
  table-within = rw bytes (omega (arith, length-append (table_bytes Θ) rest))

  -- type 0
  pub type_zero : 0 < length Θ → byte s 0 ≡ 0x01
  type_zero h = rw bytes (zero_of Θ ok h)
    where
      zero_of : (Θ : Table) → TableOk Θ → 0 < length Θ → byte (table_bytes Θ ++ rest) 0 ≡ 0x01
      zero_of [] ok h = absurd (not-suc-le-zero h)
      zero_of (r ∷ Θ) ok h = let e : r ≡ rec01 = record_zero (r ∷ Θ) ok in rw e

  -- type t + 1
  pub type_stands : (t : ℕ) → suc t < length Θ → StandsRec s (3 * t + 1) (rec_at Θ (suc t))
  type_stands t h = rw bytes (later_of Θ ok h)
    where
      later_of : (Θ : Table) → TableOk Θ → suc t < length Θ → StandsRec (table_bytes Θ ++ rest) (3 * t + 1) (rec_at Θ (suc t))
      later_of [] ok h = absurd (not-suc-le-zero h)
      later_of (r ∷ Θ) ok h =
          let q = threes_at Θ rest t (tail_threes r Θ ok) (le_of_suc-le-suc h) in
          let l : length (rec_bytes r) ≡ 1 = ap (λ (q : TyRec). length (rec_bytes q)) (record_zero (r ∷ Θ) ok) in
          let e : 3 * t + 1 ≡ length (rec_bytes r) + 3 * t = omega arith in
          record { rest = q.rest; here = rw (append_assoc (rec_bytes r) (table_bytes Θ) rest, e, drop-append-add (rec_bytes r) (table_bytes Θ ++ rest) (3 * t)) q.here }

  -- any type: 3t − 2 is 0 for type 0
  pub type_at : (t : ℕ) → t < length Θ → StandsRec s (3 * t - 2) (rec_at Θ t)
  type_at zero h = rw (record_zero Θ ok) (record { rest = drop 1 s; here = front_one s 0 1 (type_zero h) refl (omega (arith, table-within, table-length Θ ok h)) })
  type_at (suc t) h = let e : 3 * suc t - 2 ≡ 3 * t + 1 = omega arith in rw e (type_stands t h)

-- ---- the bytes of a type record, and the record of its bytes

module _ {s : List ℕ} {at : ℕ} where
  pub record_01 : StandsRec s at rec01 → byte s at ≡ 0x01
  record_01 h = first_byte s h.rest at 0x01 h.here

  pub record_02 : {a b : ℕ} → StandsRec s at (rec02 a b) → (byte s at ≡ 0x02) × (byte s (at + 1) ≡ a) × (byte s (at + 2) ≡ b)
  record_02 h = three-bytes s at _ _ _ h.rest h.here

  pub record_03 : {a b : ℕ} → StandsRec s at (rec03 a b) → (byte s at ≡ 0x03) × (byte s (at + 1) ≡ a) × (byte s (at + 2) ≡ b)
  record_03 h = three-bytes s at _ _ _ h.rest h.here

  pub record_04 : {a b : ℕ} → StandsRec s at (rec04 a b) → (byte s at ≡ 0x04) × (byte s (at + 1) ≡ a) × (byte s (at + 2) ≡ b)
  record_04 h = three-bytes s at _ _ _ h.rest h.here

  pub record_end : {r : TyRec} → StandsRec s at r → at + length (rec_bytes r) ≤ length s
  record_end {r} h = within s (rec_bytes r) h.rest at h.here (rec_nonempty r)

  -- the record is the one that its bytes say
  pub record_is : {r : TyRec} → StandsRec s at r → (k : TypeKind) → kind_of (byte s at) ≡ type k → r ≡ type_rec k (byte s (at + 1)) (byte s (at + 2))
  record_is {r = rec01} h k e = same_kind k01 k (record_01 h) e (λ (k : TypeKind). rec01 ≡ type_rec k (byte s (at + 1)) (byte s (at + 2))) refl
  record_is {r = rec02 a b} h k e = let (p, q, r) = record_02 h in same_kind k02 k p e (λ (k : TypeKind). rec02 a b ≡ type_rec k (byte s (at + 1)) (byte s (at + 2))) (rw (q, r))
  record_is {r = rec03 a b} h k e = let (p, q, r) = record_03 h in same_kind k03 k p e (λ (k : TypeKind). rec03 a b ≡ type_rec k (byte s (at + 1)) (byte s (at + 2))) (rw (q, r))
  record_is {r = rec04 a b} h k e = let (p, q, r) = record_04 h in same_kind k04 k p e (λ (k : TypeKind). rec04 a b ≡ type_rec k (byte s (at + 1)) (byte s (at + 2))) (rw (q, r))

-- a type record behind the first has three bytes, and its kind is 02, 03 or 04
later-kind : (s : List ℕ) (at : ℕ) (r : TyRec) → StandsRec s at r → (r ≡ rec01 → ⊥) → (2 ≤ byte s at) × (byte s at ≤ 4)
later-kind s at rec01 h f = absurd (f refl)
later-kind s at (rec02 a b) h f = rw (record_02 h).0 (omega arith)
later-kind s at (rec03 a b) h f = rw (record_03 h).0 (omega arith)
later-kind s at (rec04 a b) h f = rw (record_04 h).0 (omega arith)

pub type_kinds : (s : List ℕ) (Θ : Table) (rest : List ℕ) (ok : TableOk Θ) → s ≡ table_bytes Θ ++ rest → (t : ℕ) → suc t < length Θ → (2 ≤ byte s (3 * t + 1)) × (byte s (3 * t + 1) ≤ 4)
type_kinds s Θ rest ok e t h = later-kind s (3 * t + 1) (rec_at Θ (suc t)) (type_stands s Θ rest ok e t h) (record_later Θ ok t h)

-- ---- a sheet that is read

pub sheet_type_at : {s : List ℕ} {σ : Sheet} → Laid s σ → (t : ℕ) → t < length σ.table → StandsRec s (3 * t - 2) (rec_at σ.table t)
unfolding record_bytes
sheet_type_at {s} {σ} l t h = type_at s σ.table (term_bytes σ.term) l.table l.bytes t h
