-- The reader of type records, one record further or at its end. Assumes nothing.
use Prim.Native.Nat.{ℕ, zero, suc, ◌+◌, ◌*◌, ◌-◌, ◌≤◌, ◌<◌}
use mathlib.Core.Path.{◌≡◌, refl, sym, ap, ◌∙◌}
use mathlib.Core.Bool.{true, false}
use mathlib.Core.List.{List, [], ◌∷◌, ◌++◌}
use native.Mathlib.Omega.{arith}
use native.Mathlib.Decide.{dec_lt}
use borrow.Author.Tests.{lt-ltb, le-ltb, le-leb, lt-leb}
use lib.Dec.{ltb, ltb→lt}
use lib.ListN.{length, set, length-append, get_or-eq_default}
use lib.Seq.{get_or_at}
use Rattle.calculus.specs.Answer.{Refusal, Answer, good, refused, ◌>>=◌, refuse}
use Rattle.calculus.proofs.Answers.{good-inj, on-bind, on-need}
use Rattle.calculus.specs.Types.{size, TyRec, rec01, Table, ty_of, tys_from}
use Rattle.calculus.specs.Read.{Kind, unknown, type, node, TypeKind, k01, k02, k03, k04, kind_of, byte, type_body, type_rec, check_type, read_types}
use Rattle.calculus.specs.Write.{rec_bytes, table_bytes}
use Rattle.sheet_theorems.specs.Laid.{TableOk}
use Rattle.sheet_theorems.proofs.KindBytes.{type_byte, type_byte_lem}
use Rattle.sheet_theorems.proofs.Tables.{checked, empty-ok}
use Rattle.sheet_theorems.proofs.Laying.{table_snoc, rec-length}
use Rattle.sheet_theorems.proofs.TypeOffsets.{record_zero, record_later, table-length}
use Rattle.std.specs.declared.result.Result.TheVariants.{Ok, Err}
use Rattle.answers.specs.declared.Reason.{Reason}
use Rattle.answers.specs.declared.Refusal.{Refusal as Why}
use Rattle.answers.specs.Refusals.{said_why}
use Rattle.records.specs.Forms.{rec_of, rec_in}
use Rattle.records.proofs.FormLaws.{rec-first, rec-later, rec-long}
use Rattle.records.specs.Record.{no_record, record_at}
use Rattle.records.specs.declared.Form.{Form}
use Rattle.records.specs.declared.Node.{Node}
use Rattle.records.specs.declared.Record.TheVariants as rec
use Rattle.records.specs.Told.{sizes_of}
use Rattle.sheet.specs.Tables.{table_in, Before, size_of}
use Rattle.sheet.specs.Said.{TypesSaid, all_types, types_of, due_of, types_in}
use Rattle.sheet.proofs.KindLaws.{WhatStands, NoType, TypeHere, type_cut, record_kind, record_past}
use Rattle.sheet.proofs.TableLaws.{table_more, table-count, sizes-more}

-- ---- one record of `read_types`

module _ (s : List ℕ) (Θ : Table) (at : ℕ) where
  pub types-none : (more : ℕ) → kind_of (byte s at) ≡ unknown → read_types more s Θ at ≡ good (Θ, at)
  unfolding read_types
  types-none zero e = rw e
  types-none (suc more) e = rw e

  pub types-node : (more : ℕ) {k : _} → kind_of (byte s at) ≡ node k → read_types more s Θ at ≡ good (Θ, at)
  unfolding read_types
  types-node zero e = rw e
  types-node (suc more) e = rw e

  pub types-cut : (more : ℕ) (k : TypeKind) → kind_of (byte s at) ≡ type k → length s < at + 1 + type_body k → read_types more s Θ at ≡ refuse 3 at
  unfolding read_types
  types-cut zero k e h = simp (e, lt-leb (at + 1 + type_body k) (length s) h)
  types-cut (suc more) k e h = simp (e, lt-leb (at + 1 + type_body k) (length s) h)

  -- the rest, where the record is whole
  pub types-whole : (more : ℕ) (k : TypeKind) → length Θ + more ≡ 256 → kind_of (byte s at) ≡ type k → at + 1 + type_body k ≤ length s
      → read_types more s Θ at ≡ (size_of Θ (type_rec k (byte s (at + 1)) (byte s (at + 2))) at >>= λ z. read_types (more - 1) s (Θ ++ type_rec k (byte s (at + 1)) (byte s (at + 2)) ∷ []) (at + 1 + type_body k))
  unfolding read_types size_of
  types-whole zero k l e h = simp (e, le-leb (at + 1 + type_body k) (length s) h, le-ltb (length Θ) 256 (omega arith))
  types-whole (suc more) k l e h =
      let q = type_rec k (byte s (at + 1)) (byte s (at + 2)) in
      let m : suc more - 1 ≡ more = omega arith in
      simp (e, le-leb (at + 1 + type_body k) (length s) h, lt-ltb (length Θ) 256 (omega arith), lt-ltb 0 (suc more) (omega arith), m)
      (through (check_type Θ q at) _ _)
    where
      through : (c : Answer (Unit {0})) (z : ℕ) (r : Answer (Table × ℕ)) → (c >>= λ u. r) ≡ ((c >>= λ u. good z) >>= λ z. r)
      through (good u) z r = refl
      through (refused why) z r = refl

-- what a size that was given tells
size_tells : (Θ : Table) (q : TyRec) (at z : ℕ) → size_of Θ q at ≡ good z → (length Θ < 256) × (check_type Θ q at ≡ good tt) × (z ≡ size (ty_of (tys_from [] Θ) q))
unfolding size_of
size_tells Θ q at z e =
    on-need (ltb (length Θ) 256) 8 at _ z e λ h₁ e₁.
    on-bind (check_type Θ q at) _ z e₁ λ u h₂ e₂.
    (ltb→lt (length Θ) 256 h₁, h₂, sym (good-inj e₂))

-- ---- the state of the loop

pub record SoFar (s : List ℕ) (at count : ℕ) (sizes : List ℕ) : Type 0 where
  pub before : Before s count sizes
  pub end : at ≡ length (table_bytes (table_in s count))
  pub left : read_types 256 s [] 0 ≡ read_types (256 - count) s (table_in s count) at
  pub within : at ≤ length s

pub first : (s : List ℕ) → SoFar s 0 0 (sizes_of [])
unfolding table_in
first s = record { before = record { ok = empty-ok; sizes_are = refl }; end = refl; left = refl; within = omega arith }

-- the record behind a table is the one that its number gives
rec_by : (k : TypeKind) (x y : ℕ) → ¬ (type_rec k x y ≡ rec01) → type_body k ≡ 2
rec_by k01 x y d = absurd (d refl)
rec_by k02 x y d = refl
rec_by k03 x y d = refl
rec_by k04 x y d = refl

said_by : (k : TypeKind) (x y : ℕ) → rec_of (type_byte k) x y ≡ type_rec k x y
said_by k01 x y = refl
said_by k02 x y = refl
said_by k03 x y = refl
said_by k04 x y = refl

first-rec : (s : List ℕ) (q : TyRec) → TableOk (table_in s 0 ++ q ∷ []) → q ≡ rec01
unfolding table_in
first-rec s q ok = record_zero (q ∷ []) ok

module _ (s : List ℕ) (at : ℕ) {f : Form} {next : ℕ} (t : TypeHere s at f next) where
  abbrev q : TyRec
  q = type_rec t.kind (byte s (at + 1)) (byte s (at + 2))

  rec-here : (n : ℕ) → TableOk (table_in s n) → TableOk (table_in s n ++ q ∷ []) → at ≡ length (table_bytes (table_in s n)) → q ≡ rec_in s n
  rec-here zero o ok e = first-rec s q ok ∙ rec-first s 0 refl
  rec-here (suc n) o ok e =
      let Θ = table_in s (suc n) in
      let c : length Θ ≡ suc n = table-count s (suc n) in
      let l : suc n < length (Θ ++ q ∷ []) = omega (arith, length-append Θ (q ∷ [])) in
      let d : ¬ (q ≡ rec01) = λ z. record_later (Θ ++ q ∷ []) ok n l (get_or_at Θ q [] rec01 (suc n) c ∙ z) in
      let b : type_body t.kind ≡ 2 = rec_by t.kind (byte s (at + 1)) (byte s (at + 2)) d in
      let w : at + 1 + type_body t.kind ≤ length s = t.whole in
      let a : at ≡ 3 * suc n - 2 = omega (arith, table-length Θ o (omega arith)) in
      let k : byte s at ≡ type_byte t.kind = type_byte_lem (byte s at) t.kind t.kind_is in
      sym (rec-later s (suc n) at (λ z. omega arith) a ∙ rec-long s at (omega arith) ∙ rw k (said_by t.kind (byte s (at + 1)) (byte s (at + 2))))

  module _ (count : ℕ) (sizes : List ℕ) (i : SoFar s at count sizes) where
    abbrev Θ : Table
    Θ = table_in s count

    room : length Θ + (256 - count) ≡ 256
    room = let f = i.before.ok.few in omega (arith, table-count s count)

    went : read_types 256 s [] 0 ≡ (size_of Θ q at >>= λ z. read_types (256 - count - 1) s (Θ ++ q ∷ []) (at + 1 + type_body t.kind))
    went = i.left ∙ types-whole s Θ at (256 - count) t.kind room t.kind_is t.whole

    -- one type further
    pub next-type : (z : ℕ) → good z ≡ size_of Θ q at → SoFar s next (count + 1) (set sizes count z)
    next-type z e =
        let (few, ok, is) = size_tells Θ q at z (sym e) in
        let c : length Θ ≡ count = table-count s count in
        let more : TableOk (Θ ++ q ∷ []) = checked Θ q at tt i.before.ok (omega arith) ok in
        let same : Θ ++ q ∷ [] ≡ table_in s (count + 1) = ap (λ (x : TyRec). Θ ++ x ∷ []) (rec-here count i.before.ok more i.end) ∙ sym (table_more s count) in
        record {
          before = record {
            ok = rw same at more;
            sizes_are = rw (i.before.sizes_are, ← same) (sizes-more Θ q count z c (omega arith) is);
          };
          end = rw (← same, table_snoc Θ q) (omega (arith, t.past, i.end, length-append (table_bytes Θ) (rec_bytes q), rec-length t.kind (byte s (at + 1)) (byte s (at + 2))));
          left = went ∙ rw (← e, same, ← t.past) (ap (λ (m : ℕ). read_types m s (table_in s (count + 1)) next) (omega arith));
          within = rw t.past t.whole;
        }

    -- its record is the one that its number gives
    pub type_is : (z : ℕ) → good z ≡ size_of Θ q at → q ≡ rec_in s count
    type_is z e =
        let (few, ok, is) = size_tells Θ q at z (sym e) in
        let c : length Θ ≡ count = table-count s count in
        rec-here count i.before.ok (checked Θ q at tt i.before.ok (omega arith) ok) i.end

    pub type_refused : (why : Refusal) → refused why ≡ size_of Θ q at → refused why ≡ types_of (types_in s)
    unfolding types_of types_in
    type_refused why e = rw (went, ← e)

-- ---- the end of the types

-- where no type's record stands: a node's ends the types, and a refusal is the sheet's
abbrev types_end : WhatStands → ℕ → ℕ → List ℕ → Answer TypesSaid
types_end (Ok r) at n sizes = all_types n at sizes
types_end (Err why) at n sizes = refused (said_why why)

types_refused_lem : (s : List ℕ) (at count : ℕ) (sizes : List ℕ) → read_types 256 s [] 0 ≡ refuse 3 at → types_end (no_record Reason.CutShort at) at count sizes ≡ types_of (types_in s)
unfolding types_of types_in
types_refused_lem s at count sizes e = rw e

module _ (s : List ℕ) (at count : ℕ) (sizes : List ℕ) (i : SoFar s at count sizes) where
  -- the types are read, and this record is due behind them
  ended : (r : WhatStands) → types_end r at count sizes ≡ types_of (due_of r (table_in s count, at))
  unfolding types_of
  ended (Ok r) = rw (table-count s count, i.before.sizes_are)
  ended (Err why) = refl

  all_read : {r : WhatStands} → read_types (256 - count) s (table_in s count) at ≡ good (table_in s count, at) → r ≡ record_at true s at → types_end r at count sizes ≡ types_of (types_in s)
  unfolding types_in
  all_read {r} e h = ended r ∙ rw (i.left, e, ← h) refl

  stop : (k : Kind) {r : WhatStands} → kind_of (byte s at) ≡ k → at < length s → r ≡ record_at false s at → NoType r → types_end r at count sizes ≡ types_of (types_in s)
  stop unknown e h g o = all_read (types-none s (table_in s count) at (256 - count) e) (g ∙ record_kind false s at unknown h e ∙ sym (record_kind true s at unknown h e))
  stop (node k) e h g o = all_read (types-node s (table_in s count) at (256 - count) e) (g ∙ record_kind false s at (node k) h e ∙ sym (record_kind true s at (node k) h e))
  stop (type k) {r} e h g o = let c = type_cut s at k h e g o in rw c.0 (cut_off (i.left ∙ types-cut s (table_in s count) at (256 - count) k e c.1))
    where
      cut_off : read_types 256 s [] 0 ≡ refuse 3 at → types_end (no_record Reason.CutShort at) at count sizes ≡ types_of (types_in s)
      cut_off e = types_refused_lem s at count sizes e

  -- where no type record stands
  types-stop : {r : WhatStands} → r ≡ record_at false s at → NoType r → types_end r at count sizes ≡ types_of (types_in s)
  types-stop {r} g o = elim (dec_lt at (length s)) [
    | yes h ↦ stop (kind_of (byte s at)) refl h g o
    | no h ↦ all_read (types-none s (table_in s count) at (256 - count) (rw (get_or-eq_default s 0 {n = at} (omega arith)))) (g ∙ record_past false s at (omega arith) ∙ sym (record_past true s at (omega arith)))
  ]

  pub types-cut_off : {why : Why} → record_at false s at ≡ Err why → refused (said_why why) ≡ types_of (types_in s)
  types-cut_off e = types-stop (sym e) tt

  pub types-done : {n : Node} → record_at false s at ≡ Ok (rec.Node n) → all_types count at sizes ≡ types_of (types_in s)
  types-done e = types-stop (sym e) tt
