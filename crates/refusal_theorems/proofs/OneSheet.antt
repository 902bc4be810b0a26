-- No two sheets have the same bytes, whatever their size: a reading that knows no limits gives each of them back. Assumes nothing.
use Prim.Native.Nat.{ℕ, zero, suc, ◌+◌, ◌≤◌}
use mathlib.Core.Path.{◌≡◌, refl, sym, ap, ◌∙◌}
use mathlib.Core.List.{List, [], ◌∷◌, ◌++◌, append_assoc, append-nil}
use native.Mathlib.Omega.{arith}
use lib.ListN.{length, get_or, drop}
use Rattle.calculus.specs.Types.{rec01, rec02, rec03, rec04, Table}
use Rattle.calculus.specs.Terms.{Term, var, lvar, fun, app, lfun, lapp, pair, proj, fix, con, name, nodes}
use Rattle.calculus.specs.Read.{k01, k02, k03, k04, k11, k12, k13, k14, k15, k16, k17, k18, k19, k1A, k1B, Kind, unknown, type, node, kind_of, Sheet, edition_of, records_of}
use Rattle.calculus.specs.Write.{table_bytes, term_bytes, record_bytes, sheet_bytes}
use Rattle.sheet_theorems.proofs.SheetRead.{edition_written, records-written}

-- ---- a term at the front of some bytes, with at most k nodes, and what stands behind it

abbrev node_on : Kind → List ℕ → (List ℕ → Term × List ℕ) → Term × List ℕ
node_on unknown s go = (var 0, s)
node_on (type k) s go = (var 0, s)
node_on (node k11) s go = (var (get_or s 0 0), drop 1 s)
node_on (node k12) s go = (lvar (get_or s 0 0), drop 1 s)
node_on (node k13) s go = let x = go (drop 1 s) in (fun (get_or s 0 0) x.0, x.1)
node_on (node k14) s go = let x = go s in let y = go x.1 in (app x.0 y.0, y.1)
node_on (node k15) s go = let x = go (drop 1 s) in (lfun (get_or s 0 0) x.0, x.1)
node_on (node k16) s go = let x = go s in let y = go x.1 in (lapp x.0 y.0, y.1)
node_on (node k17) s go = let x = go (drop 1 s) in let y = go x.1 in (pair (get_or s 0 0) x.0 y.0, y.1)
node_on (node k18) s go = let x = go s in let y = go x.1 in (proj x.0 y.0, y.1)
node_on (node k19) s go = let x = go (drop 1 s) in (fix (get_or s 0 0) x.0, x.1)
node_on (node k1A) s go = (con (get_or s 0 0) (get_or s 1 0), drop 2 s)
node_on (node k1B) s go = let x = go s in let y = go x.1 in (name x.0 y.0, y.1)

abbrev term_on : ℕ → List ℕ → Term × List ℕ
term_on zero s = (var 0, s)
term_on (suc k) s = node_on (kind_of (get_or s 0 0)) (drop 1 s) (λ r. term_on k r)

term_back : (e : Term) (k : ℕ) (rest : List ℕ) → nodes e ≤ k → term_on k (term_bytes e ++ rest) ≡ (e, rest)
term_back e zero rest h = absurd (none e h)
  where
    none : (e : Term) → nodes e ≤ 0 → ⊥
    none (var i) h = omega (arith, h)
    none (lvar i) h = omega (arith, h)
    none (fun t e) h = omega (arith, h)
    none (app f a) h = omega (arith, h)
    none (lfun t e) h = omega (arith, h)
    none (lapp f a) h = omega (arith, h)
    none (pair t a b) h = omega (arith, h)
    none (proj a e) h = omega (arith, h)
    none (fix t e) h = omega (arith, h)
    none (con p t) h = omega (arith, h)
    none (name a e) h = omega (arith, h)
term_back (var i) (suc k) rest h = refl
term_back (lvar i) (suc k) rest h = refl
term_back (fun t e) (suc k) rest h = rw (term_back e k rest (omega (arith, h))) refl
term_back (app f a) (suc k) rest h = rw (append_assoc (term_bytes f) (term_bytes a) rest, term_back f k (term_bytes a ++ rest) (omega (arith, h)), term_back a k rest (omega (arith, h))) refl
term_back (lfun t e) (suc k) rest h = rw (term_back e k rest (omega (arith, h))) refl
term_back (lapp f a) (suc k) rest h = rw (append_assoc (term_bytes f) (term_bytes a) rest, term_back f k (term_bytes a ++ rest) (omega (arith, h)), term_back a k rest (omega (arith, h))) refl
term_back (pair t a b) (suc k) rest h = rw (append_assoc (term_bytes a) (term_bytes b) rest, term_back a k (term_bytes b ++ rest) (omega (arith, h)), term_back b k rest (omega (arith, h))) refl
term_back (proj a e) (suc k) rest h = rw (append_assoc (term_bytes a) (term_bytes e) rest, term_back a k (term_bytes e ++ rest) (omega (arith, h)), term_back e k rest (omega (arith, h))) refl
term_back (fix t e) (suc k) rest h = rw (term_back e k rest (omega (arith, h))) refl
term_back (con p t) (suc k) rest h = refl
term_back (name a e) (suc k) rest h = rw (append_assoc (term_bytes a) (term_bytes e) rest, term_back a k (term_bytes e ++ rest) (omega (arith, h)), term_back e k rest (omega (arith, h))) refl

-- ---- at most k type records at the front of some bytes, and what stands behind them

abbrev type_on : Kind → List ℕ → (List ℕ → Table × List ℕ) → Table × List ℕ
type_on unknown s go = ([], s)
type_on (node k) s go = ([], s)
type_on (type k01) s go = let x = go (drop 1 s) in (rec01 ∷ x.0, x.1)
type_on (type k02) s go = let x = go (drop 3 s) in (rec02 (get_or s 1 0) (get_or s 2 0) ∷ x.0, x.1)
type_on (type k03) s go = let x = go (drop 3 s) in (rec03 (get_or s 1 0) (get_or s 2 0) ∷ x.0, x.1)
type_on (type k04) s go = let x = go (drop 3 s) in (rec04 (get_or s 1 0) (get_or s 2 0) ∷ x.0, x.1)

abbrev table_on_lem : ℕ → List ℕ → Table × List ℕ
table_on_lem zero s = ([], s)
table_on_lem (suc k) s = type_on (kind_of (get_or s 0 0)) s (λ r. table_on_lem k r)

-- a term begins with no type record
no_types_lem : (e : Term) (k : ℕ) → table_on_lem k (term_bytes e) ≡ ([], term_bytes e)
no_types_lem e zero = refl
no_types_lem (var i) (suc k) = refl
no_types_lem (lvar i) (suc k) = refl
no_types_lem (fun t e) (suc k) = refl
no_types_lem (app f a) (suc k) = refl
no_types_lem (lfun t e) (suc k) = refl
no_types_lem (lapp f a) (suc k) = refl
no_types_lem (pair t a b) (suc k) = refl
no_types_lem (proj a e) (suc k) = refl
no_types_lem (fix t e) (suc k) = refl
no_types_lem (con p t) (suc k) = refl
no_types_lem (name a e) (suc k) = refl

table-back : (Θ : Table) (e : Term) (k : ℕ) → length Θ ≤ k → table_on_lem k (table_bytes Θ ++ term_bytes e) ≡ (Θ, term_bytes e)
table-back [] e k h = no_types_lem e k
table-back (r ∷ Θ) e zero h = absurd (omega (arith, h))
table-back (rec01 ∷ Θ) e (suc k) h = rw (table-back Θ e k (omega (arith, h))) refl
table-back (rec02 a b ∷ Θ) e (suc k) h = rw (table-back Θ e k (omega (arith, h))) refl
table-back (rec03 a b ∷ Θ) e (suc k) h = rw (table-back Θ e k (omega (arith, h))) refl
table-back (rec04 a b ∷ Θ) e (suc k) h = rw (table-back Θ e k (omega (arith, h))) refl

-- ---- a sheet

abbrev bytes_of : Sheet → List ℕ
bytes_of σ = sheet_bytes σ.edition σ.table σ.term

abbrev sheet_on : ℕ → List ℕ → Sheet
sheet_on k s = let x = table_on_lem k (records_of s) in record { edition = edition_of s; table = x.0; term = (term_on k x.1).0 }

records-back : (σ : Sheet) (k : ℕ) → length σ.table ≤ k → table_on_lem k (records_of (bytes_of σ)) ≡ (σ.table, term_bytes σ.term)
unfolding record_bytes
records-back σ k h = ap (table_on_lem k) (records-written σ.edition σ.table σ.term) ∙ table-back σ.table σ.term k h

whole_term : (e : Term) (k : ℕ) → nodes e ≤ k → term_on k (term_bytes e) ≡ (e, [])
whole_term e k h = ap (term_on k) (sym (append-nil (term_bytes e))) ∙ term_back e k [] h

sheet-back : (σ : Sheet) (k : ℕ) → length σ.table ≤ k → nodes σ.term ≤ k → sheet_on k (bytes_of σ) ≡ σ
sheet-back σ k h l = rw (edition_written σ.edition σ.table σ.term, records-back σ k h, whole_term σ.term k l) refl

-- two sheets of the same bytes are the same
pub one_sheet : (σ ρ : Sheet) → sheet_bytes σ.edition σ.table σ.term ≡ sheet_bytes ρ.edition ρ.table ρ.term → σ ≡ ρ
one_sheet σ ρ e =
    let k = length σ.table + nodes σ.term + length ρ.table + nodes ρ.term in
    sym (sheet-back σ k (omega arith) (omega arith)) ∙ ap (sheet_on k) e ∙ sheet-back ρ k (omega arith) (omega arith)
