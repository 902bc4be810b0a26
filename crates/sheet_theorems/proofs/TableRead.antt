-- A table within the limits, written out as records, is read back as itself. Assumes nothing.
use Prim.Native.Nat.{ℕ, zero, suc, ◌+◌, ◌≤◌, ◌<◌}
use mathlib.Core.Path.{◌≡◌, refl, sym, ap, ap₂, subst, ◌∙◌}
use mathlib.Core.Bool.{not}
use mathlib.Core.List.{List, [], ◌∷◌, ◌++◌, append_assoc, append-nil}
use native.Mathlib.Omega.{arith}
use native.Mathlib.Nat.{not-suc-le-zero}
use lib.Dec.{T, leb, eqb, ltb, le→leb, lt→ltb, eqb→eq, not_T}
use lib.ListN.{length, drop, get_or, length-append, get_or-append}
use lib.Seq.{append_snoc, get_or-append_seam}
use Rattle.calculus.specs.Answer.{Answer, good}
use Rattle.calculus.specs.Types.{Ty, bit, size, sharable, TyRec, rec01, rec02, rec03, rec04, rec_eq, Table, rec_at, ty_of, tys_from, tree}
use Rattle.calculus.specs.Read.{Kind, type, node, TypeKind, k01, k02, k03, k04, NodeKind, kind_of, byte, type_body, type_rec, known, formed, repeated, check_type, type_at, read_types}
use Rattle.calculus.specs.Write.{rec_bytes, table_bytes}
use Rattle.sheet_theorems.specs.Laid.{Agrees, Below, TableOk}
use Rattle.laws.proofs.Tests.{and_both, and_of, or_elim}
use Rattle.sheet_theorems.proofs.Bytes.{behind}
use Rattle.sheet_theorems.proofs.Tables.{tys_count, tree_new}
use Rattle.sheet_theorems.proofs.TypeOffsets.{StandsRec, record_01, record_02, record_03, record_04, record_end}
use Rattle.sheet_theorems.proofs.Going.{needed, passes, goes}

-- ---- a table and its beginning

tys_append : (acc : List Ty) (Φ Ψ : Table) → tys_from acc (Φ ++ Ψ) ≡ tys_from (tys_from acc Φ) Ψ
tys_append acc [] Ψ = refl
tys_append acc (q ∷ Φ) Ψ = tys_append (acc ++ ty_of acc q ∷ []) Φ Ψ

tys_keeps : (acc : List Ty) (Ψ : Table) (n : ℕ) → n < length acc → get_or (tys_from acc Ψ) n bit ≡ get_or acc n bit
tys_keeps acc [] n h = refl
tys_keeps acc (q ∷ Ψ) n h =
    tys_keeps (acc ++ ty_of acc q ∷ []) Ψ n (omega (arith, length-append acc (ty_of acc q ∷ []))) ∙ get_or-append acc (ty_of acc q ∷ []) bit n h

-- the types of a table's beginning are the table's
pub tree_prefix : (Φ Ψ : Table) (n : ℕ) → n < length Φ → tree (Φ ++ Ψ) n ≡ tree Φ n
tree_prefix Φ Ψ n h = rw (tys_append [] Φ Ψ) (tys_keeps (tys_from [] Φ) Ψ n (rw (tys_count Φ) h))

-- ---- a record passes the reader's tests

known_if : (Φ : Table) (r : TyRec) → Below (length Φ) r → T (known Φ r)
known_if Φ rec01 h = tt
known_if Φ (rec02 a b) h = and_of (ltb a (length Φ)) (ltb b (length Φ)) (lt→ltb a (length Φ) h.0) (lt→ltb b (length Φ) h.1)
known_if Φ (rec03 a b) h = and_of (ltb a (length Φ)) (ltb b (length Φ)) (lt→ltb a (length Φ) h.0) (lt→ltb b (length Φ) h.1)
known_if Φ (rec04 a b) h = and_of (ltb a (length Φ)) (ltb b (length Φ)) (lt→ltb a (length Φ) h.0) (lt→ltb b (length Φ) h.1)

formed_if : (Φ Ψ : Table) (r : TyRec) (τ : Ty) → Below (length Φ) r → Agrees (Φ ++ Ψ) r τ → T (formed Φ r)
formed_if Φ Ψ rec01 τ h a = tt
formed_if Φ Ψ (rec02 x y) τ h a = and_of (sharable (tree Φ x)) (sharable (tree Φ y)) (rw (tree_prefix Φ Ψ x h.0) at a.1) (rw (tree_prefix Φ Ψ y h.1) at a.2)
formed_if Φ Ψ (rec03 x y) τ h a = rw (tree_prefix Φ Ψ x h.0) at a.1
formed_if Φ Ψ (rec04 x y) τ h a = rw (tree_prefix Φ Ψ x h.0) at a.1

pub rec_eq→eq : (q r : TyRec) → T (rec_eq q r) → q ≡ r
rec_eq→eq rec01 rec01 t = refl
rec_eq→eq rec01 (rec02 c d) t = absurd t
rec_eq→eq rec01 (rec03 c d) t = absurd t
rec_eq→eq rec01 (rec04 c d) t = absurd t
rec_eq→eq (rec02 a b) rec01 t = absurd t
rec_eq→eq (rec02 a b) (rec02 c d) t = let (p, q) = and_both (eqb a c) (eqb b d) t in ap₂ rec02 (eqb→eq a c p) (eqb→eq b d q)
rec_eq→eq (rec02 a b) (rec03 c d) t = absurd t
rec_eq→eq (rec02 a b) (rec04 c d) t = absurd t
rec_eq→eq (rec03 a b) rec01 t = absurd t
rec_eq→eq (rec03 a b) (rec02 c d) t = absurd t
rec_eq→eq (rec03 a b) (rec03 c d) t = let (p, q) = and_both (eqb a c) (eqb b d) t in ap₂ rec03 (eqb→eq a c p) (eqb→eq b d q)
rec_eq→eq (rec03 a b) (rec04 c d) t = absurd t
rec_eq→eq (rec04 a b) rec01 t = absurd t
rec_eq→eq (rec04 a b) (rec02 c d) t = absurd t
rec_eq→eq (rec04 a b) (rec03 c d) t = absurd t
rec_eq→eq (rec04 a b) (rec04 c d) t = let (p, q) = and_both (eqb a c) (eqb b d) t in ap₂ rec04 (eqb→eq a c p) (eqb→eq b d q)

-- a repeated record has an earlier number
pub repeat_of : (Φ : Table) (r : TyRec) → T (repeated Φ r) → (n : ℕ) × (n < length Φ) × (rec_at Φ n ≡ r)
repeat_of [] r t = absurd t
repeat_of (q ∷ Φ) r t = or_elim (rec_eq q r) (repeated Φ r) t
    (λ p. (0, omega arith, rec_eq→eq q r p))
    (λ p. let (n, h, e) = repeat_of Φ r p in (suc n, omega arith, e))

-- a record stands for one type
agrees_one : (Θ : Table) (r : TyRec) (τ τ' : Ty) → Agrees Θ r τ → Agrees Θ r τ' → τ ≡ τ'
agrees_one Θ rec01 τ τ' a b = a ∙ sym b
agrees_one Θ (rec02 x y) τ τ' a b = a.0 ∙ sym b.0
agrees_one Θ (rec03 x y) τ τ' a b = a.0 ∙ sym b.0
agrees_one Θ (rec04 x y) τ τ' a b = a.0 ∙ sym b.0

module _ (Φ Ψ : Table) (r : TyRec) (ok : TableOk (Φ ++ r ∷ Ψ)) where
  rec-here : rec_at (Φ ++ r ∷ Ψ) (length Φ) ≡ r
  rec-here = get_or-append_seam Φ r Ψ rec01

  in_whole : length Φ < length (Φ ++ r ∷ Ψ)
  in_whole = omega (arith, length-append Φ (r ∷ Ψ))

  tree-here : tree (Φ ++ r ∷ Ψ) (length Φ) ≡ ty_of (tys_from [] Φ) r
  tree-here = rw (← append_snoc Φ r Ψ) (tree_prefix (Φ ++ r ∷ []) Ψ (length Φ) (omega (arith, length-append Φ (r ∷ []))) ∙ tree_new Φ r)

  below-here : Below (length Φ) r
  below-here = subst (λ (q : TyRec). Below (length Φ) q) rec-here (ok.earlier (length Φ) in_whole)

  agrees-here : Agrees (Φ ++ r ∷ Ψ) r (tree (Φ ++ r ∷ Ψ) (length Φ))
  agrees-here = subst (λ (q : TyRec). Agrees (Φ ++ r ∷ Ψ) q (tree (Φ ++ r ∷ Ψ) (length Φ))) rec-here (ok.agrees (length Φ))

  -- an earlier number with this record would be a second one of its type
  not_earlier : (n : ℕ) → n < length Φ → rec_at Φ n ≡ r → ⊥
  not_earlier n h e =
      let q : rec_at (Φ ++ r ∷ Ψ) n ≡ r = get_or-append Φ (r ∷ Ψ) rec01 n h ∙ e in
      let a : Agrees (Φ ++ r ∷ Ψ) r (tree (Φ ++ r ∷ Ψ) n) = subst (λ (q : TyRec). Agrees (Φ ++ r ∷ Ψ) q (tree (Φ ++ r ∷ Ψ) n)) q (ok.agrees n) in
      let z = ok.distinct n (length Φ) (omega (arith, in_whole)) in_whole (agrees_one (Φ ++ r ∷ Ψ) r _ _ a agrees-here) in
      omega arith

  pub passed : (at : ℕ) → check_type Φ r at ≡ good tt
  passed at =
      passes (known Φ r) 5 at _ (known_if Φ r below-here)
      (passes (formed Φ r) 6 at _ (formed_if Φ (r ∷ Ψ) r (tree (Φ ++ r ∷ Ψ) (length Φ)) below-here agrees-here)
      (passes (not (repeated Φ r)) 7 at _ (not_T (repeated Φ r) (λ t. let (n, h, e) = repeat_of Φ r t in not_earlier n h e))
      (needed (leb (size (ty_of (tys_from [] Φ) r)) 128) 8 at (le→leb _ _ (rw tree-here at (ok.small (length Φ)))))))

-- ---- reading the records

abbrev pub rec_kind : TyRec → TypeKind
rec_kind rec01 = k01
rec_kind (rec02 a b) = k02
rec_kind (rec03 a b) = k03
rec_kind (rec04 a b) = k04

rec-size : (r : TyRec) → length (rec_bytes r) ≡ 1 + type_body (rec_kind r)
rec-size rec01 = refl
rec-size (rec02 a b) = refl
rec-size (rec03 a b) = refl
rec-size (rec04 a b) = refl

module _ (s : List ℕ) (at : ℕ) where
  rec-kind : (r : TyRec) → StandsRec s at r → kind_of (byte s at) ≡ type (rec_kind r)
  rec-kind rec01 h = ap kind_of (record_01 h)
  rec-kind (rec02 a b) h = ap kind_of (record_02 h).0
  rec-kind (rec03 a b) h = ap kind_of (record_03 h).0
  rec-kind (rec04 a b) h = ap kind_of (record_04 h).0

  rec-same : (r : TyRec) → StandsRec s at r → type_rec (rec_kind r) (byte s (at + 1)) (byte s (at + 2)) ≡ r
  rec-same rec01 h = refl
  rec-same (rec02 a b) h = ap₂ rec02 (record_02 h).1 (record_02 h).2
  rec-same (rec03 a b) h = ap₂ rec03 (record_03 h).1 (record_03 h).2
  rec-same (rec04 a b) h = ap₂ rec04 (record_04 h).1 (record_04 h).2

  type_goes : (q : Kind) (k : TypeKind) (r : TyRec) (more : ℕ) (Φ : Table) (go : Table → ℕ → Answer (Table × ℕ)) (x : Table × ℕ) → q ≡ type k → type_rec k (byte s (at + 1)) (byte s (at + 2)) ≡ r
      → at + 1 + type_body k ≤ length s → check_type Φ r at ≡ good tt → go (Φ ++ r ∷ []) (at + 1 + type_body k) ≡ good x → type_at q (suc more) s Φ at go ≡ good x
  type_goes q k r more Φ go x ek er h c g =
      rw (ek, er)
      (passes (leb (at + 1 + type_body k) (length s)) 3 at _ (le→leb _ _ h)
      (passes (ltb 0 (suc more)) 8 at _ (lt→ltb 0 (suc more) (omega arith))
      (goes (check_type Φ r at) tt _ c g)))

  type-stops : (q : Kind) (k : NodeKind) (more : ℕ) (Φ : Table) (go : Table → ℕ → Answer (Table × ℕ)) → q ≡ node k → type_at q more s Φ at go ≡ good (Φ, at)
  type-stops q k more Φ go e = rw e

-- the records of a table, up to a node's record
pub types-read : (s : List ℕ) (Ψ Φ : Table) (rest : List ℕ) (more at end : ℕ) (k : NodeKind) → TableOk (Φ ++ Ψ) → length Ψ ≤ more → drop at s ≡ table_bytes Ψ ++ rest → end ≡ at + length (table_bytes Ψ)
    → kind_of (byte s end) ≡ node k → read_types more s Φ at ≡ good (Φ ++ Ψ, end)
unfolding read_types
types-read s [] Φ rest zero at end k ok room e en stop =
    let z : end ≡ at = omega arith in
    rw (append-nil Φ, z) (type-stops s at (kind_of (byte s at)) k zero Φ _ (rw z at stop))
types-read s [] Φ rest (suc more) at end k ok room e en stop =
    let z : end ≡ at = omega arith in
    rw (append-nil Φ, z) (type-stops s at (kind_of (byte s at)) k (suc more) Φ _ (rw z at stop))
types-read s (r ∷ Ψ) Φ rest zero at end k ok room e en stop = absurd (not-suc-le-zero room)
types-read s (r ∷ Ψ) Φ rest (suc more) at end k ok room e en stop =
    let h : StandsRec s at r = record { rest = table_bytes Ψ ++ rest; here = e ∙ append_assoc (rec_bytes r) (table_bytes Ψ) rest } in
    let l = rec-size r in
    let z : at + 1 + type_body (rec_kind r) ≡ at + length (rec_bytes r) = omega arith in
    type_goes s at (kind_of (byte s at)) (rec_kind r) r more Φ _ _ (rec-kind s at r h) (rec-same s at r h) (omega (arith, record_end h)) (passed Φ Ψ r ok at)
    (rw (← append_snoc Φ r Ψ) (types-read s Ψ (Φ ++ r ∷ []) rest more (at + 1 + type_body (rec_kind r)) end k (rw append_snoc ok) (omega arith)
    (rw z (behind s (rec_bytes r) (table_bytes Ψ ++ rest) at h.here)) (omega (arith, length-append (rec_bytes r) (table_bytes Ψ))) stop))
