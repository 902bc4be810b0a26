-- A term that stands at an offset: its bytes, where its subterms stand, and where it ends. Assumes nothing.
use Prim.Native.Nat.{ℕ, ◌+◌, ◌≤◌, ◌<◌}
use mathlib.Core.Path.{◌≡◌, refl, sym, ap, ◌∙◌}
use mathlib.Core.List.{List, [], ◌∷◌, ◌++◌, append_assoc, append-nil}
use native.Mathlib.Omega.{arith}
use lib.ListN.{length, drop, length-append}
use lib.Seq.{drop-append_seam, drop-append-add}
use Rattle.calculus.specs.Terms.{opening, Term, var, lvar, fun, app, lfun, lapp, pair, proj, fix, con, name}
use Rattle.calculus.specs.Read.{node, NodeKind, k11, k12, k13, k14, k15, k16, k17, k18, k19, k1A, k1B, kind_of, byte, Sheet}
use Rattle.calculus.specs.Write.{table_bytes, term_bytes, record_bytes, sheet_bytes}
use Rattle.sheet_theorems.specs.Laid.{Stands, Laid}
use Rattle.calculus.specs.Stretch.{term_start}
use Rattle.sheet_theorems.proofs.KindBytes.{node_byte, node-kind, node_range}
use Rattle.sheet_theorems.proofs.Bytes.{first_byte, second-byte, third-byte, behind, within}

-- ---- the kind, and the end

-- the kind of a term's first record
abbrev pub kind_in : Term → NodeKind
kind_in (var i) = k11
kind_in (lvar i) = k12
kind_in (fun t e) = k13
kind_in (app f a) = k14
kind_in (lfun t e) = k15
kind_in (lapp f a) = k16
kind_in (pair t a b) = k17
kind_in (proj a e) = k18
kind_in (fix t e) = k19
kind_in (con p t) = k1A
kind_in (name a e) = k1B

-- the bytes behind a term's kind byte
abbrev pub behind_kind : Term → List ℕ
behind_kind (var i) = i ∷ []
behind_kind (lvar i) = i ∷ []
behind_kind (fun t e) = t ∷ term_bytes e
behind_kind (app f a) = term_bytes f ++ term_bytes a
behind_kind (lfun t e) = t ∷ term_bytes e
behind_kind (lapp f a) = term_bytes f ++ term_bytes a
behind_kind (pair t a b) = t ∷ (term_bytes a ++ term_bytes b)
behind_kind (proj a e) = term_bytes a ++ term_bytes e
behind_kind (fix t e) = t ∷ term_bytes e
behind_kind (con p t) = p ∷ t ∷ []
behind_kind (name a e) = term_bytes a ++ term_bytes e

pub kind-first : (e : Term) → term_bytes e ≡ node_byte (kind_in e) ∷ behind_kind e
kind-first (var i) = refl
kind-first (lvar i) = refl
kind-first (fun t e) = refl
kind-first (app f a) = refl
kind-first (lfun t e) = refl
kind-first (lapp f a) = refl
kind-first (pair t a b) = refl
kind-first (proj a e) = refl
kind-first (fix t e) = refl
kind-first (con p t) = refl
kind-first (name a e) = refl

pub term_nonempty : (e : Term) → 0 < length (term_bytes e)
term_nonempty e = rw (kind-first e) (omega arith)

module _ (s : List ℕ) (at : ℕ) where
  -- the last subterm, behind some bytes
  sub-last : (p : List ℕ) (e : Term) (rest : List ℕ) → drop at s ≡ p ++ (term_bytes e ++ rest) → Stands s (at + length p) e
  sub-last p e rest h = record { rest = rest; here = behind s p (term_bytes e ++ rest) at h }

  -- the first of two, and the second
  sub-first : (p : List ℕ) (a b : Term) (rest : List ℕ) → drop at s ≡ p ++ ((term_bytes a ++ term_bytes b) ++ rest) → Stands s (at + length p) a
  sub-first p a b rest h = sub-last p a (term_bytes b ++ rest) (h ∙ ap (λ (x : List ℕ). p ++ x) (append_assoc (term_bytes a) (term_bytes b) rest))

  sub-second : (p : List ℕ) (a b : Term) (rest : List ℕ) → drop at s ≡ p ++ ((term_bytes a ++ term_bytes b) ++ rest) → Stands s (at + length p + length (term_bytes a)) b
  sub-second p a b rest h = record {
    rest = rest;
    here = behind s (term_bytes a) (term_bytes b ++ rest) (at + length p)
        (behind s p _ at (h ∙ ap (λ (x : List ℕ). p ++ x) (append_assoc (term_bytes a) (term_bytes b) rest)));
  }

module _ {s : List ℕ} {at : ℕ} where
  -- the byte 11 of a variable, 13 of a function, ..
  pub stands-kind : {e : Term} → Stands s at e → byte s at ≡ node_byte (kind_in e)
  stands-kind {e} h = first_byte s (behind_kind e ++ h.rest) at (node_byte (kind_in e)) (rw (kind-first e) at h.here)

  pub stands-node : {e : Term} → Stands s at e → kind_of (byte s at) ≡ node (kind_in e)
  stands-node {e} h = rw (stands-kind h) (node-kind (kind_in e))

  pub stands_range : {e : Term} → Stands s at e → (0x11 ≤ byte s at) × (byte s at ≤ 0x1B)
  stands_range {e} h = rw (stands-kind h) (node_range (kind_in e))

  pub stands-end : {e : Term} → Stands s at e → at + length (term_bytes e) ≤ length s
  stands-end {e} h = within s (term_bytes e) h.rest at h.here (term_nonempty e)

  pub stands_in : {e : Term} → Stands s at e → at < length s
  stands_in {e} h = omega (arith, stands-end h, term_nonempty e)

  -- ---- each kind of node

  pub var_binder : {i : ℕ} → Stands s at (var i) → byte s (at + 1) ≡ i
  var_binder {i} h = second-byte s h.rest at 0x11 i h.here

  pub lvar_binder : {i : ℕ} → Stands s at (lvar i) → byte s (at + 1) ≡ i
  lvar_binder {i} h = second-byte s h.rest at 0x12 i h.here

  pub fun_type : {t : ℕ} {e : Term} → Stands s at (fun t e) → byte s (at + 1) ≡ t
  fun_type {t} {e} h = second-byte s (term_bytes e ++ h.rest) at 0x13 t h.here

  pub fun_body : {t : ℕ} {e : Term} → Stands s at (fun t e) → Stands s (at + 2) e
  fun_body {t} {e} h = sub-last s at (0x13 ∷ t ∷ []) e h.rest h.here

  pub app_function : {f a : Term} → Stands s at (app f a) → Stands s (at + 1) f
  app_function {f} {a} h = sub-first s at (0x14 ∷ []) f a h.rest h.here

  pub app_argument : {f a : Term} → Stands s at (app f a) → Stands s (at + 1 + length (term_bytes f)) a
  app_argument {f} {a} h = sub-second s at (0x14 ∷ []) f a h.rest h.here

  pub lfun_type : {t : ℕ} {e : Term} → Stands s at (lfun t e) → byte s (at + 1) ≡ t
  lfun_type {t} {e} h = second-byte s (term_bytes e ++ h.rest) at 0x15 t h.here

  pub lfun_body : {t : ℕ} {e : Term} → Stands s at (lfun t e) → Stands s (at + 2) e
  lfun_body {t} {e} h = sub-last s at (0x15 ∷ t ∷ []) e h.rest h.here

  pub lapp_function : {f a : Term} → Stands s at (lapp f a) → Stands s (at + 1) f
  lapp_function {f} {a} h = sub-first s at (0x16 ∷ []) f a h.rest h.here

  pub lapp_argument : {f a : Term} → Stands s at (lapp f a) → Stands s (at + 1 + length (term_bytes f)) a
  lapp_argument {f} {a} h = sub-second s at (0x16 ∷ []) f a h.rest h.here

  pub pair_type : {t : ℕ} {a b : Term} → Stands s at (pair t a b) → byte s (at + 1) ≡ t
  pair_type {t} {a} {b} h = second-byte s (term_bytes a ++ term_bytes b ++ h.rest) at 0x17 t h.here

  pub pair_first : {t : ℕ} {a b : Term} → Stands s at (pair t a b) → Stands s (at + 2) a
  pair_first {t} {a} {b} h = sub-first s at (0x17 ∷ t ∷ []) a b h.rest h.here

  pub pair_second : {t : ℕ} {a b : Term} → Stands s at (pair t a b) → Stands s (at + 2 + length (term_bytes a)) b
  pair_second {t} {a} {b} h = sub-second s at (0x17 ∷ t ∷ []) a b h.rest h.here

  pub proj_pair : {a e : Term} → Stands s at (proj a e) → Stands s (at + 1) a
  proj_pair {a} {e} h = sub-first s at (0x18 ∷ []) a e h.rest h.here

  pub proj_body : {a e : Term} → Stands s at (proj a e) → Stands s (at + 1 + length (term_bytes a)) e
  proj_body {a} {e} h = sub-second s at (0x18 ∷ []) a e h.rest h.here

  pub fix_type : {t : ℕ} {e : Term} → Stands s at (fix t e) → byte s (at + 1) ≡ t
  fix_type {t} {e} h = second-byte s (term_bytes e ++ h.rest) at 0x19 t h.here

  pub fix_body : {t : ℕ} {e : Term} → Stands s at (fix t e) → Stands s (at + 2) e
  fix_body {t} {e} h = sub-last s at (0x19 ∷ t ∷ []) e h.rest h.here

  pub con_part : {p t : ℕ} → Stands s at (con p t) → byte s (at + 1) ≡ p
  con_part {p} {t} h = second-byte s (t ∷ h.rest) at 0x1A p h.here

  pub con_type : {p t : ℕ} → Stands s at (con p t) → byte s (at + 2) ≡ t
  con_type {p} {t} h = third-byte s h.rest at 0x1A p t h.here

  pub name-first : {a e : Term} → Stands s at (name a e) → Stands s (at + 1) a
  name-first {a} {e} h = sub-first s at (0x1B ∷ []) a e h.rest h.here

  pub name_body : {a e : Term} → Stands s at (name a e) → Stands s (at + 1 + length (term_bytes a)) e
  name_body {a} {e} h = sub-second s at (0x1B ∷ []) a e h.rest h.here

-- ---- the term of a sheet, in its records

module _ {s : List ℕ} {σ : Sheet} where
  pub sheet-stands : Laid s σ → Stands s (length (table_bytes σ.table)) σ.term
  unfolding record_bytes
  sheet-stands l = record {
    rest = [];
    here = rw (l.bytes, append-nil (term_bytes σ.term)) (drop-append_seam (table_bytes σ.table) (term_bytes σ.term));
  }

  pub sheet-ends : Laid s σ → length (table_bytes σ.table) + length (term_bytes σ.term) ≡ length s
  unfolding record_bytes
  sheet-ends l = rw l.bytes (sym (length-append (table_bytes σ.table) (term_bytes σ.term)))

-- ---- and in the whole sheet

module _ {s : List ℕ} (σ : Sheet) (bytes : s ≡ sheet_bytes σ.edition σ.table σ.term) where
  pub whole-stands : Stands s (term_start σ) σ.term
  unfolding sheet_bytes record_bytes
  whole-stands = record {
    rest = [];
    here = rw (bytes, append-nil (term_bytes σ.term)) (drop-append-add (opening σ.edition) (table_bytes σ.table ++ term_bytes σ.term) (length (table_bytes σ.table)) ∙ drop-append_seam (table_bytes σ.table) (term_bytes σ.term));
  }
