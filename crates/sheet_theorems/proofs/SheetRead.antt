-- A table and a term within the limits, written out as records, are read back as themselves. Assumes nothing.
use Prim.Native.Nat.{ℕ, zero, suc, ◌+◌, ◌*◌, ◌≤◌, ◌<◌, max}
use mathlib.Core.Path.{◌≡◌, refl, sym, ap, ◌∙◌}
use mathlib.Core.Logic.{◌↔◌}
use mathlib.Core.Bool.{Bool, ◌||◌, cond}
use mathlib.Core.List.{List, [], ◌∷◌, ◌++◌, append-nil}
use native.Mathlib.Omega.{arith}
use native.Mathlib.Nat.{le-max_left, le-max_right}
use lib.Dec.{T, leb, eqb, ltb, le→leb, lt→ltb, eqb_refl}
use lib.ListN.{length, drop, length-append}
use lib.Seq.{drop-append_seam}
use Rattle.calculus.specs.Answer.{Answer, good, ◌>>=◌}
use Rattle.calculus.specs.Types.{TyRec, rec01, rec02, rec03, rec04, Table}
use Rattle.calculus.specs.Terms.{Edition, first, second, opening, Term, var, lvar, fun, app, lfun, lapp, pair, proj, fix, con, name, nodes}
use Rattle.calculus.specs.Read.{Kind, node, NodeKind, kind_of, knows, byte, read_types, Got, got, node_body, node_typed, node_kind, head_at, node_of_kind, read_term, Sheet, read_records, edition_of, records_of, read_sheet}
use Rattle.calculus.specs.Write.{rec_bytes, table_bytes, term_bytes, record_bytes, sheet_bytes}
use Rattle.sheet_theorems.specs.Laid.{TableOk, Stands, depth, Ranged}
use Rattle.sheet_theorems.proofs.Going.{passes, goes}
use Rattle.laws.proofs.Tests.{by_eqb}
use Rattle.sheet_theorems.proofs.KindBytes.{node_range}
use Rattle.sheet_theorems.proofs.Laying.{laid, sheet-bytes}
use Rattle.sheet_theorems.proofs.TableRead.{types-read}
use Rattle.sheet_theorems.proofs.Standing.{kind_in, kind-first, stands-node, stands-end, fun_type, fun_body, app_function, app_argument, lfun_type, lfun_body, lapp_function, lapp_argument, pair_type, pair_first, pair_second, proj_pair, proj_body, fix_type, fix_body, var_binder, lvar_binder, con_part, con_type, name-first, name_body}

-- ---- the term

pub head_good : (E : Edition) (more : ℕ) (s : List ℕ) (types at n : ℕ) (k : NodeKind) → kind_of (byte s at) ≡ node k → T (knows E k) → at + 1 + node_body k ≤ length s → n < 2048
    → T (eqb (node_typed k) 0 || ltb (byte s (at + node_typed k)) types) → head_at E (suc more) s types at n ≡ good k
unfolding head_at
head_good E more s types at n k e kn h few t =
    passes (ltb at (length s)) 3 at _ (lt→ltb at (length s) (omega arith))
    (goes (node_kind (kind_of (byte s at)) at) k _ (ap (λ (q : Kind). node_kind q at) e)
    (passes (knows E k) 4 at _ kn
    (passes (leb (at + 1 + node_body k) (length s)) 3 at _ (le→leb _ _ h)
    (passes (ltb n 2048) 8 at _ (lt→ltb n 2048 few)
    (passes (ltb 0 (suc more)) 8 at _ (lt→ltb 0 (suc more) (omega arith))
    (passes (eqb (node_typed k) 0 || ltb (byte s (at + node_typed k)) types) 5 at _ t refl))))))

body_in : (e : Term) → 1 + node_body (kind_in e) ≤ length (term_bytes e)
body_in (var i) = omega arith
body_in (lvar i) = omega arith
body_in (fun t e) = omega arith
body_in (app f a) = omega arith
body_in (lfun t e) = omega arith
body_in (lapp f a) = omega arith
body_in (pair t a b) = omega arith
body_in (proj a e) = omega arith
body_in (fix t e) = omega arith
body_in (con p t) = omega arith
body_in (name a e) = omega arith

nodes_positive : (e : Term) → 0 < nodes e
nodes_positive (var i) = omega arith
nodes_positive (lvar i) = omega arith
nodes_positive (fun t e) = omega arith
nodes_positive (app f a) = omega arith
nodes_positive (lfun t e) = omega arith
nodes_positive (lapp f a) = omega arith
nodes_positive (pair t a b) = omega arith
nodes_positive (proj a e) = omega arith
nodes_positive (fix t e) = omega arith
nodes_positive (con p t) = omega arith
nodes_positive (name a e) = omega arith

depth_positive : (e : Term) → 0 < depth e
depth_positive (var i) = omega arith
depth_positive (lvar i) = omega arith
depth_positive (fun t e) = omega arith
depth_positive (app f a) = omega arith
depth_positive (lfun t e) = omega arith
depth_positive (lapp f a) = omega arith
depth_positive (pair t a b) = omega arith
depth_positive (proj a e) = omega arith
depth_positive (fix t e) = omega arith
depth_positive (con p t) = omega arith
depth_positive (name a e) = omega arith

same-got : (e : Term) {a b c d : ℕ} → a ≡ b → c ≡ d → got e a c ≡ got e b d
same-got e p q = rw (p, q)

-- the number at the place of a written type, if there is one, is below the count of types
module _ (E : Edition) (Θ : Table) (s : List ℕ) where
  number : (at t : ℕ) → byte s at ≡ t → t < length Θ → T (ltb (byte s at) (length Θ))
  number at t e h = lt→ltb (byte s at) (length Θ) (rw e h)

  typed-in : (e : Term) (at : ℕ) → Stands s at e → Ranged E Θ e → T (eqb (node_typed (kind_in e)) 0 || ltb (byte s (at + node_typed (kind_in e))) (length Θ))
  typed-in (var i) at h r = tt
  typed-in (lvar i) at h r = tt
  typed-in (fun t e) at h r = number (at + 1) t (fun_type h) r.0
  typed-in (app f a) at h r = tt
  typed-in (lfun t e) at h r = number (at + 1) t (lfun_type h) r.0
  typed-in (lapp f a) at h r = tt
  typed-in (pair t a b) at h r = number (at + 1) t (pair_type h) r.0
  typed-in (proj a e) at h r = tt
  typed-in (fix t e) at h r = number (at + 1) t (fix_type h) r.0
  typed-in (con p t) at h r = number (at + 2) t (con_type h) r
  typed-in (name a e) at h r = tt

  -- and the kind is one of the edition
  known_in : (e : Term) → Ranged E Θ e → T (knows E (kind_in e))
  known_in (var i) r = tt
  known_in (lvar i) r = tt
  known_in (fun t e) r = tt
  known_in (app f a) r = tt
  known_in (lfun t e) r = tt
  known_in (lapp f a) r = tt
  known_in (pair t a b) r = tt
  known_in (proj a e) r = tt
  known_in (fix t e) r = tt
  known_in (con p t) r = tt
  known_in (name a e) r = rw r.0 tt

  head_read : (e : Term) (more at n : ℕ) → Stands s at e → Ranged E Θ e → n + nodes e ≤ 2048 → head_at E (suc more) s (length Θ) at n ≡ good (kind_in e)
  head_read e more at n h r few =
      head_good E more s (length Θ) at n (kind_in e) (stands-node h) (known_in e r) (omega (arith, body_in e, stands-end h)) (omega (arith, nodes_positive e)) (typed-in e at h r)

  -- a subterm stands at the same offset, written another way
  moved : {e : Term} (a b : ℕ) → a ≡ b → Stands s b e → Stands s a e
  moved a b e h = rw e h

  -- what reads a term that stands, of depth at most `more`: the offset behind it, and the number of nodes so far
  abbrev pub Reads : ℕ → (ℕ → ℕ → Answer Got) → Type 0
  Reads more go = (e : Term) (at n next count : ℕ) → Stands s at e → Ranged E Θ e → depth e ≤ more → n + nodes e ≤ 2048 → next ≡ at + length (term_bytes e) → count ≡ n + nodes e
      → go at n ≡ got e next count

  module _ (more : ℕ) (go : ℕ → ℕ → Answer Got) (sub : Reads more go) where
    one-read : (mk : Term → Term) (e : Term) (at n next count : ℕ) → Stands s at e → Ranged E Θ e → depth e ≤ more → n + nodes e ≤ 2048 → next ≡ at + length (term_bytes e) → count ≡ n + nodes e
        → (go at n >>= λ e. got (mk e.term) e.next e.count) ≡ got (mk e) next count
    one-read mk e at n next count h r d few en ec = goes (go at n) _ _ (sub e at n next count h r d few en ec) refl

    two-read : (mk : Term → Term → Term) (a b : Term) (at n next count : ℕ) → Stands s at a → Stands s (at + length (term_bytes a)) b → Ranged E Θ a → Ranged E Θ b → max (depth a) (depth b) ≤ more
        → n + nodes a + nodes b ≤ 2048 → next ≡ at + length (term_bytes a) + length (term_bytes b) → count ≡ n + nodes a + nodes b
        → (go at n >>= λ a. go a.next a.count >>= λ b. got (mk a.term b.term) b.next b.count) ≡ got (mk a b) next count
    two-read mk a b at n next count h k r u d few en ec =
        goes (go at n) _ _ (sub a at n _ _ h r (omega (arith, le-max_left (depth a) (depth b))) (omega arith) refl refl)
        (goes (go (at + length (term_bytes a)) (n + nodes a)) _ _ (sub b _ _ next count k u (omega (arith, le-max_right (depth a) (depth b))) few en ec) refl)

    node_read : (e : Term) (at n next count : ℕ) → Stands s at e → Ranged E Θ e → depth e ≤ suc more → n + nodes e ≤ 2048 → next ≡ at + length (term_bytes e) → count ≡ n + nodes e
        → node_of_kind (kind_in e) (byte s (at + 1)) (byte s (at + 2)) (at + 1 + node_body (kind_in e)) (n + 1) go ≡ got e next count
    node_read (var i) at n next count h r d few en ec = rw (var_binder h) (same-got (var i) (omega arith) (omega arith))
    node_read (lvar i) at n next count h r d few en ec = rw (lvar_binder h) (same-got (lvar i) (omega arith) (omega arith))
    node_read (fun t e) at n next count h r d few en ec =
        rw (fun_type h) (one-read (λ e. fun t e) e (at + 1 + 1) (n + 1) next count (moved (at + 1 + 1) (at + 2) (omega arith) (fun_body h)) r.1 (omega arith) (omega arith) (omega arith) (omega arith))
    node_read (app f a) at n next count h r d few en ec =
        let l = length-append (term_bytes f) (term_bytes a) in
        two-read app f a (at + 1 + 0) (n + 1) next count (moved (at + 1 + 0) (at + 1) (omega arith) (app_function h)) (moved (at + 1 + 0 + length (term_bytes f)) (at + 1 + length (term_bytes f)) (omega arith) (app_argument h)) r.0 r.1 (omega arith) (omega arith) (omega arith) (omega arith)
    node_read (lfun t e) at n next count h r d few en ec =
        rw (lfun_type h) (one-read (λ e. lfun t e) e (at + 1 + 1) (n + 1) next count (moved (at + 1 + 1) (at + 2) (omega arith) (lfun_body h)) r.1 (omega arith) (omega arith) (omega arith) (omega arith))
    node_read (lapp f a) at n next count h r d few en ec =
        let l = length-append (term_bytes f) (term_bytes a) in
        two-read lapp f a (at + 1 + 0) (n + 1) next count (moved (at + 1 + 0) (at + 1) (omega arith) (lapp_function h)) (moved (at + 1 + 0 + length (term_bytes f)) (at + 1 + length (term_bytes f)) (omega arith) (lapp_argument h)) r.0 r.1 (omega arith) (omega arith) (omega arith) (omega arith)
    node_read (pair t a b) at n next count h r d few en ec =
        rw (pair_type h) (let l = length-append (term_bytes a) (term_bytes b) in
        two-read (λ a b. pair t a b) a b (at + 1 + 1) (n + 1) next count (moved (at + 1 + 1) (at + 2) (omega arith) (pair_first h)) (moved (at + 1 + 1 + length (term_bytes a)) (at + 2 + length (term_bytes a)) (omega arith) (pair_second h)) r.1 r.2 (omega arith) (omega arith) (omega arith) (omega arith))
    node_read (proj a e) at n next count h r d few en ec =
        let l = length-append (term_bytes a) (term_bytes e) in
        two-read proj a e (at + 1 + 0) (n + 1) next count (moved (at + 1 + 0) (at + 1) (omega arith) (proj_pair h)) (moved (at + 1 + 0 + length (term_bytes a)) (at + 1 + length (term_bytes a)) (omega arith) (proj_body h)) r.0 r.1 (omega arith) (omega arith) (omega arith) (omega arith)
    node_read (fix t e) at n next count h r d few en ec =
        rw (fix_type h) (one-read (λ e. fix t e) e (at + 1 + 1) (n + 1) next count (moved (at + 1 + 1) (at + 2) (omega arith) (fix_body h)) r.1 (omega arith) (omega arith) (omega arith) (omega arith))
    node_read (con p t) at n next count h r d few en ec = rw (con_part h, con_type h) (same-got (con p t) (omega arith) (omega arith))
    node_read (name a e) at n next count h r d few en ec =
        let l = length-append (term_bytes a) (term_bytes e) in
        two-read name a e (at + 1 + 0) (n + 1) next count (moved (at + 1 + 0) (at + 1) (omega arith) (name-first h)) (moved (at + 1 + 0 + length (term_bytes a)) (at + 1 + length (term_bytes a)) (omega arith) (name_body h)) r.1 r.2 (omega arith) (omega arith) (omega arith) (omega arith)

  pub term_read : (more : ℕ) → Reads more (λ at n. read_term E more s (length Θ) at n)
  unfolding read_term
  term_read zero e at n next count h r d few en ec = absurd (let z = depth_positive e in omega arith)
  term_read (suc more) e at n next count h r d few en ec =
      goes (head_at E (suc more) s (length Θ) at n) (kind_in e) _ (head_read e more at n h r few)
      (node_read more (λ at n. read_term E more s (length Θ) at n) (term_read more) e at n next count h r d few en ec)

-- ---- the length

rec-short : (r : TyRec) → length (rec_bytes r) ≤ 3
rec-short rec01 = omega arith
rec-short (rec02 a b) = omega arith
rec-short (rec03 a b) = omega arith
rec-short (rec04 a b) = omega arith

table-short : (Θ : Table) → length (table_bytes Θ) ≤ 3 * length Θ
table-short [] = omega arith
table-short (r ∷ Θ) = omega (arith, rec-short r, table-short Θ, length-append (rec_bytes r) (table_bytes Θ))

pub term_short : (e : Term) → length (term_bytes e) ≤ 3 * nodes e
term_short (var i) = omega arith
term_short (lvar i) = omega arith
term_short (fun t e) = omega (arith, term_short e)
term_short (app f a) = omega (arith, term_short f, term_short a, length-append (term_bytes f) (term_bytes a))
term_short (lfun t e) = omega (arith, term_short e)
term_short (lapp f a) = omega (arith, term_short f, term_short a, length-append (term_bytes f) (term_bytes a))
term_short (pair t a b) = omega (arith, term_short a, term_short b, length-append (term_bytes a) (term_bytes b))
term_short (proj a e) = omega (arith, term_short a, term_short e, length-append (term_bytes a) (term_bytes e))
term_short (fix t e) = omega (arith, term_short e)
term_short (con p t) = omega arith
term_short (name a e) = omega (arith, term_short a, term_short e, length-append (term_bytes a) (term_bytes e))

-- ---- the records

written-bytes : (Θ : Table) (e : Term) → record_bytes Θ e ≡ table_bytes Θ ++ term_bytes e
unfolding record_bytes
written-bytes Θ e = refl

written : (Θ : Table) (e : Term) → Stands (record_bytes Θ e) (length (table_bytes Θ)) e
unfolding record_bytes
written Θ e = record { rest = []; here = rw (append-nil (term_bytes e)) (drop-append_seam (table_bytes Θ) (term_bytes e)) }

written-length : (Θ : Table) (e : Term) → length (table_bytes Θ) + length (term_bytes e) ≡ length (record_bytes Θ e)
unfolding record_bytes
written-length Θ e = sym (length-append (table_bytes Θ) (term_bytes e))

pub records-read : (E : Edition) (Θ : Table) (e : Term) → TableOk Θ → Ranged E Θ e → depth e ≤ 64 → nodes e ≤ 2048 → read_records E (record_bytes Θ e) ≡ good (record { edition = E; table = Θ; term = e })
unfolding read_records
records-read E Θ e ok ranged deep few =
    let s = record_bytes Θ e in
    let at = length (table_bytes Θ) in
    let st : Stands s at e = written Θ e in
    let end : at + length (term_bytes e) ≡ length s = written-length Θ e in
    goes (read_types 256 s [] 0) (Θ, at) _ (types-read s Θ [] (term_bytes e) 256 0 at (kind_in e) ok ok.few (written-bytes Θ e) (omega arith) (stands-node st))
    (goes (read_term E 64 s (length Θ) at 0) _ _ (term_read E Θ s 64 e at 0 (length s) (nodes e) st ranged deep (omega arith) (omega arith) (omega arith))
    (passes (eqb (length s) (length s)) 9 (length s) _ (eqb_refl (length s)) refl))

-- ---- the sheet

-- 256 types and 2,048 nodes take at most 6,912 bytes, so no sheet within the other limits is too long
pub sheet-short : (E : Edition) (Θ : Table) (e : Term) → length Θ ≤ 256 → nodes e ≤ 2048 → length (sheet_bytes E Θ e) ≤ 6913
unfolding sheet_bytes record_bytes
sheet-short first Θ e h k = omega (arith, table-short Θ, term_short e, length-append (table_bytes Θ) (term_bytes e))
sheet-short second Θ e h k = omega (arith, table-short Θ, term_short e, length-append (table_bytes Θ) (term_bytes e))

-- no record is of kind 31
record_first : (Θ : Table) (e : Term) → byte (record_bytes Θ e) 0 ≤ 0x1B
unfolding record_bytes
record_first [] e = rw (kind-first e) (node_range (kind_in e)).1
record_first (rec01 ∷ Θ) e = omega arith
record_first (rec02 a b ∷ Θ) e = omega arith
record_first (rec03 a b ∷ Θ) e = omega arith
record_first (rec04 a b ∷ Θ) e = omega arith

-- so the first byte tells the edition
pub edition_written : (E : Edition) (Θ : Table) (e : Term) → edition_of (sheet_bytes E Θ e) ≡ E
unfolding edition_of sheet_bytes
edition_written first Θ e = by_eqb (λ (t : Bool). cond t second first ≡ first) (byte (record_bytes Θ e) 0) 0x31 (λ q. absurd (omega (arith, record_first Θ e))) (λ d. refl)
edition_written second Θ e = refl

pub records-written : (E : Edition) (Θ : Table) (e : Term) → records_of (sheet_bytes E Θ e) ≡ record_bytes Θ e
unfolding records_of sheet_bytes
records-written E Θ e = ap (λ (F : Edition). drop (length (opening F)) (opening E ++ record_bytes Θ e)) (edition_written E Θ e) ∙ drop-append_seam (opening E) (record_bytes Θ e)

pub sheet-read : (E : Edition) (Θ : Table) (e : Term) → TableOk Θ → Ranged E Θ e → depth e ≤ 64 → nodes e ≤ 2048 → read_sheet (sheet_bytes E Θ e) ≡ good (record { edition = E; table = Θ; term = e })
unfolding read_sheet
sheet-read E Θ e ok ranged deep few =
    passes (leb (length (sheet_bytes E Θ e)) 16384) 2 0 _ (le→leb (length (sheet_bytes E Θ e)) 16384 (omega (arith, sheet-short E Θ e ok.few few)))
    (rw (edition_written E Θ e, records-written E Θ e, records-read E Θ e ok ranged deep few) refl)

-- what is read is what is written out, within the limits
pub record TermLimits (E : Edition) (Θ : Table) (e : Term) : Type 0 where
  pub table : TableOk Θ
  pub ranged : Ranged E Θ e
  pub deep : depth e ≤ 64
  pub few : nodes e ≤ 2048

pub read-written : (s : List ℕ) (σ : Sheet) → (read_sheet s ≡ good σ) ↔ ((s ≡ sheet_bytes σ.edition σ.table σ.term) × TermLimits σ.edition σ.table σ.term)
read-written s σ = (
  (λ e. let l = laid s σ e in (sheet-bytes s σ e, record { table = l.table; ranged = l.ranged; deep = l.deep; few = l.few })),
  (λ w. rw w.0 (sheet-read σ.edition σ.table σ.term w.1.table w.1.ranged w.1.deep w.1.few)),
)
