-- Every sheet that is made of a text is read: refusals 2 to 9 never come; and it has as many places as nodes. Assumes nothing.
use Prim.Native.Nat.{ℕ, ◌≤◌}
use mathlib.Core.Path.{◌≡◌, refl, sym, ap, subst, ◌∙◌}
use mathlib.Core.List.{List, [], ◌∷◌}
use native.Mathlib.Omega.{arith}
use lib.Dec.{leb}
use lib.ListN.{length}
use Rattle.calculus.specs.Answer.{Answer, good, refused, ◌>>=◌, need}
use Rattle.calculus.specs.Types.{Table}
use Rattle.calculus.specs.Read.{read_sheet}
use Rattle.calculus.specs.Record.{All}
use Rattle.calculus.specs.Terms.{Edition, Term, var, lvar, app, lfun, lapp, proj, con, nodes}
use Rattle.calculus.specs.Terms as Terms
use Rattle.sheet_theorems.specs.Laid.{depth, Ranged}
use Rattle.sheet_theorems.proofs.SheetRead.{TermLimits, read-written}
use Rattle.notation_calculus.specs.Words.{Word, words}
use Rattle.notation_calculus.specs.Trees.{Bound, Tree, spine, fun, fix, name, apart, Atom, named, part, tuple, Atoms, noAtoms, atoms, Trees, noTrees, trees, Body, of_type, of_term, Clause, Text}
use Rattle.notation_calculus.specs.Grammar.{text_of}
use Rattle.notation_calculus.specs.Make.{Placed, main_of, sheet_of, make, bytes_of}
use Rattle.notation_theorems.specs.Circuits.{Says}
use Rattle.notation_theorems.specs.Counted.{Spelt, Kept, BoundIn, TreeIn, AtomIn, AtomsIn, TreesIn, BodyIn, ClauseIn}
use Rattle.notation_theorems.proofs.Answering.{On, on_step, on_any, on_is, on_good}
use Rattle.notation_theorems.proofs.NodesMean.{LowTerm}
use Rattle.notation_theorems.proofs.TermsMean.{make-table, make-types}
use Rattle.notation_theorems.proofs.Counting.{main_kept}

-- ---- every tree, where nothing is asked of places and parts

abbrev Any : ℕ → Type 0
Any n = Unit {0}

any_bounds : (xs : List Bound) → All (BoundIn Any) xs
any_bounds [] = tt
any_bounds (x ∷ xs) = (tt, any_bounds xs)

mutual
  any-tree : (e : Tree) → TreeIn Any Any e
  any-tree (spine at a es) = (tt, any-atom a, any-atoms es)
  any-tree (fun at xs t e) = (any_bounds xs, any-tree e)
  any-tree (fix at x t e) = (tt, any-tree e)
  any-tree (name at x v e) = (tt, any-tree v, any-tree e)
  any-tree (apart at xs v e) = (any_bounds xs, any-tree v, any-tree e)

  any-atom : (a : Atom) → AtomIn Any Any a
  any-atom (named at n ts ks) = tt
  any-atom (part at p) = (tt, tt)
  any-atom (tuple e es) = (any-tree e, any-trees es)

  any-atoms : (es : Atoms) → AtomsIn Any Any es
  any-atoms noAtoms = tt
  any-atoms (atoms a es) = (any-atom a, any-atoms es)

  any-trees : (es : Trees) → TreesIn Any Any es
  any-trees noTrees = tt
  any-trees (trees at e es) = (tt, any-tree e, any-trees es)

any-body : (b : Body) → BodyIn Any Any b
any-body (of_type t) = tt
any-body (of_term e) = any-tree e

any_clauses : (cs : List Clause) → All (ClauseIn Any Any) cs
any_clauses [] = tt
any_clauses (c ∷ cs) = (any-body c.body, any_clauses cs)

-- ---- the sheet

ranged_of : (K : ℕ → Type 0) (E : Edition) (Θ : Table) (e : Term) → LowTerm (length Θ) e → Spelt K E e → Ranged E Θ e
ranged_of K E Θ (var i) l s = tt
ranged_of K E Θ (lvar i) l s = tt
ranged_of K E Θ (Terms.fun t e) l s = (l.0, ranged_of K E Θ e l.1 s)
ranged_of K E Θ (app f a) l s = (ranged_of K E Θ f l.0 s.0, ranged_of K E Θ a l.1 s.1)
ranged_of K E Θ (lfun t e) l s = (l.0, ranged_of K E Θ e l.1 s)
ranged_of K E Θ (lapp f a) l s = (ranged_of K E Θ f l.0 s.0, ranged_of K E Θ a l.1 s.1)
ranged_of K E Θ (Terms.pair t a b) l s = (l.0, ranged_of K E Θ a l.1 s.0, ranged_of K E Θ b l.2 s.1)
ranged_of K E Θ (proj a e) l s = (ranged_of K E Θ a l.0 s.0, ranged_of K E Θ e l.1 s.1)
ranged_of K E Θ (Terms.fix t e) l s = (l.0, ranged_of K E Θ e l.1 s)
ranged_of K E Θ (con p t) l s = l
ranged_of K E Θ (Terms.name a e) l s = (s.0, ranged_of K E Θ a l.0 s.1, ranged_of K E Θ e l.1 s.2)

-- what the sheet of a text keeps
abbrev pub SheetKept : (ℕ → Type 0) → (ℕ → Type 0) → Placed → Type 0
SheetKept P K p = (length p.places ≡ nodes p.sheet.term) × All P p.places × (depth p.sheet.term ≤ 64) × (nodes p.sheet.term ≤ 2048) × Spelt K p.sheet.edition p.sheet.term

pub sheet-kept : (P K : ℕ → Type 0) (X : Text) (p : Placed) → All (ClauseIn P K) X.clauses → sheet_of X ≡ good p → SheetKept P K p
unfolding sheet_of
sheet-kept P K X p within e = on_good (SheetKept P K) (sheet_of X) p (on_step (Kept P K X.edition 0) (SheetKept P K) (main_of X) (λ m. good (record { sheet = record { edition = X.edition; table = m.state.table; term = m.term }; places = m.places })) (main_kept P K X within) λ m k. (k.placed, k.below, subst (λ (d : ℕ). d ≤ 64) (sym k.deep) k.shallow, omega (arith, k.count, k.few), k.written)) e

text-reads : (X : Text) (p : Placed) → sheet_of X ≡ good p → read_sheet (bytes_of p.sheet) ≡ good p.sheet
text-reads X p e =
    let (placed, below, deep, few, spelt) = sheet-kept Any Any X p (any_clauses X.clauses) e in
    let limits : TermLimits p.sheet.edition p.sheet.table p.sheet.term = record { table = make-table X p e; ranged = ranged_of Any p.sheet.edition p.sheet.table p.sheet.term (make-types X p e) spelt; deep = deep; few = few } in
    (read-written (bytes_of p.sheet) p.sheet).1 (refl, limits)

-- what holds of the sheet of every text that the grammar gives holds of what is made of bytes
pub of_bytes : (P : Placed → Type 0) (text : List ℕ) (p : Placed) → make text ≡ good p → ((X : Text) → Says text X → sheet_of X ≡ good p → P p) → P p
unfolding make
of_bytes P text p e h =
    let Q : Placed → Type 0 = λ q. ((X : Text) → Says text X → sheet_of X ≡ good q → P q) → P q in
    on_good Q (make text) p (on_any Q (need (leb (length text) 65535) 30 0) (λ _. words text >>= λ ws. text_of ws >>= sheet_of) λ _. on_is Q (words text) (λ ws. text_of ws >>= sheet_of) λ ws ew. on_is Q (text_of ws) sheet_of λ X ex. made Q (sheet_of X) λ q es k. k X (ap (λ (m : Answer (List Word)). m >>= text_of) ew ∙ ex) es) e h
  where
    made : (Q : Placed → Type 0) (m : Answer Placed) → ((q : Placed) → m ≡ good q → Q q) → On Q m
    made Q (good q) k = k q refl
    made Q (refused why) k = tt

-- every sheet that is made is read, and is the sheet that was made
pub make-reads : (text : List ℕ) (p : Placed) → make text ≡ good p → read_sheet (bytes_of p.sheet) ≡ good p.sheet
make-reads text p e = of_bytes (λ (q : Placed). read_sheet (bytes_of q.sheet) ≡ good q.sheet) text p e λ X says f. text-reads X p f

-- there is a place for each node
pub places_of : (text : List ℕ) (p : Placed) → make text ≡ good p → length p.places ≡ nodes p.sheet.term
places_of text p e = of_bytes (λ (q : Placed). length q.places ≡ nodes q.sheet.term) text p e λ X says f. (sheet-kept Any Any X p (any_clauses X.clauses) f).0
