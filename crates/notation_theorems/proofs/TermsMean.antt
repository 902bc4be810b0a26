-- The sheet that is made of a text is the sheet of the term that the text means. Assumes nothing.
use Prim.Native.Nat.{ℕ, zero, suc, ◌+◌, ◌<◌}
use mathlib.Core.Path.{◌≡◌, refl, sym, ap, subst, ◌∙◌}
use mathlib.Core.Bool.{false}
use mathlib.Core.List.{List, [], ◌∷◌, ◌++◌}
use native.Mathlib.Omega.{arith}
use lib.Dec.{ltb}
use lib.ListN.{length, take}
use Rattle.calculus.specs.Answer.{Answer, good, ◌>>=◌, need}
use Rattle.calculus.specs.Types.{Ty, prod, TyRec, rec01, rec02, rec03, rec04, Table, rec_at, tree}
use Rattle.calculus.specs.Terms.{Term, var, proj, part_at}
use Rattle.calculus.specs.Terms as Terms
use Rattle.sheet_theorems.specs.Laid.{Agrees, Below, TableOk}
use Rattle.sheet_theorems.proofs.Tables.{empty-ok, checked}
use Rattle.notation_calculus.specs.Words.{Name}
use Rattle.notation_calculus.specs.Grammar.{most_nested}
use Rattle.notation_calculus.specs.Make.{Placed, start, above, lines_table, is_judged, judged_body, judged_clause, judged_from, main_name, main_of, sheet_of}
use Rattle.notation_calculus.specs.Trees.{Bound, Number, TypeTree, TypeTrees, no_types, types, Tree, spine, fun, fix, name, apart, Atom, named, part, tuple, Atoms, noAtoms, atoms, Trees, noTrees, trees, Body, of_type, of_term, Clause, Line, Text}
use Rattle.notation_calculus.specs.Making.{State, Found, Entry, Scope, cost_of, bind, bind_all, with_variables, entries, room_for, numbers_of, numbers_in, Put, put_of, clause_for, one_put, FoundAll, found_all, put_in, type_of, Made, counted, node, larger, over, variable, part_of, functions_of, name_of, Halves, halves_of, rest, apart_of, pair_of, applied, tuple_of, body_term, atom_of, spine_of, term_of}
use Rattle.notation_calculus.specs.Means.{Full, full, TypeEntry, Here, with, enter, entry, Nearest, Free, First, in_clause, rest_entry, Is, spine-is, fun-is, fix_is, name_is, apart-is, Apart, apart-two, apart_more, AtomMeans, variable-means, part-means, tuple-means, put_means, Tuple, alone, pairs, Applied, to_none, to-more, TypeIs, TypesAre, no_types_lem, first_of, second_of, top, Means}
use Rattle.notation_calculus.specs.Means as Means
use Rattle.notation_theorems.proofs.Answering.{On, on_step, on_any, on_test, on_either, on_map, on_good}
use Rattle.notation_theorems.proofs.Growing.{Ready, Grown, grown_same, grown_on, grown_length, grown_tree, tree_one}
use Rattle.notation_theorems.proofs.TypesMean.{shown, here_of, Low, LowScope, shown_grown, here_grown, low-more, lookup_says, Reached, ReachedAll, trees_of, trees_length, all_hold, numbers_in_lem, Chosen, clause_chosen, bound_low, put_here, one_put_lem, works_all, type_sound}
use Rattle.notation_theorems.proofs.NodesMean.{LowTerm, low_term_more, full_grown, StandsFor, node-stands, variable-is, variable-low, Whole, Exactly, functions_stand, part-stands, applied-stands, pair_stands, name-stands}

-- ---- a pair taken apart

-- the halves of a type are its two sides, or **1** twice
pub halves_are : (Θ : Table) (r : TyRec) (α : Ty) (n : ℕ) → Ready Θ → Agrees Θ r α → Below n r → n < length Θ → (tree Θ (halves_of r).left ≡ first_of α) × (tree Θ (halves_of r).right ≡ second_of α) × ((halves_of r).left < length Θ) × ((halves_of r).right < length Θ)
halves_are Θ rec01 α n R a b h = (tree_one Θ R ∙ sym (ap first_of a), tree_one Θ R ∙ sym (ap second_of a), R.some, R.some)
halves_are Θ (rec02 x y) α n R a b h = (sym (ap first_of a.0), sym (ap second_of a.0), omega (arith, b.0), omega (arith, b.1))
halves_are Θ (rec03 x y) α n R a b h = (tree_one Θ R ∙ sym (ap first_of a.0), tree_one Θ R ∙ sym (ap second_of a.0), R.some, R.some)
halves_are Θ (rec04 x y) α n R a b h = (tree_one Θ R ∙ sym (ap first_of a.0), tree_one Θ R ∙ sym (ap second_of a.0), R.some, R.some)

-- a node that was made, to the letter
pub node_says : (at : ℕ) (e : Term) (t below : ℕ) (ps : List ℕ) (σ : State) → On (λ (m : Made). (m.term ≡ e) × (m.type ≡ t) × (m.state.table ≡ σ.table)) (node at e t below ps σ)
unfolding node
node_says at e t below ps σ =
    let P : Made → Type 0 = λ m. (m.term ≡ e) × (m.type ≡ t) × (m.state.table ≡ σ.table) in
    let m : Made = record { term = e; type = t; deep = suc below; places = at ∷ ps; state = counted σ } in
    on_test P (ltb σ.nodes 2048) 34 at (λ _. need (ltb below 64) 34 at >>= λ _. good m) λ _. on_test P (ltb below 64) 34 at (λ _. good m) λ _. (refl, refl, refl)

module _ (X : Text) (H : Here) (Θ₀ : Table) (b : Tree) (go : List Entry → State → Answer Made) (G : (Γ : List Entry) (τ : State) → Ready τ.table → Grown Θ₀ τ.table → Low (length τ.table) Γ → On (StandsFor τ (Is X (with H (shown τ.table Γ)) b)) (go Γ τ)) where
  -- the term of a pair v, its type α, taken apart in the scope of Γ
  abbrev Taken : List Bound → Table → List Entry → Term → ℕ → Full → Ty → Type 0
  Taken xs Θ Γ v t e τ = Apart X (with H (shown Θ Γ)) xs (full Θ v) (tree Θ t) b e τ

  apart-stands : (xs : List Bound) (v : Made) (Γ : List Entry) → Whole v → Grown Θ₀ v.state.table → Low (length v.state.table) Γ → On (StandsFor v.state (Taken xs v.state.table Γ v.term v.type)) (apart_of go Γ xs v)
  apart-stands [] v Γ W g₀ low = tt
  apart-stands (x ∷ []) v Γ W g₀ low = tt
  apart-stands (x ∷ y ∷ []) v Γ (R, l, lowv) g₀ low =
      let Θ : Table = v.state.table in
      let hs : Halves = halves_of (rec_at Θ v.type) in
      let α : Ty = tree Θ v.type in
      let (ea, eb, la, lb) = halves_are Θ (rec_at Θ v.type) α v.type R (R.ok.agrees v.type) (R.ok.earlier v.type l) l in
      let Δ : List Entry = bind y hs.right (bind x hs.left Γ) in
      let Q : Full → Ty → Type 0 = Taken (x ∷ y ∷ []) Θ Γ v.term v.type in
      on_step (StandsFor v.state (Is X (with H (shown Θ Δ)) b)) (StandsFor v.state Q) (go Δ v.state) (λ e. over x.place proj e.type v e e.state) (G Δ v.state R g₀ (lb, (la, low))) λ e (Re, ge, le, lowe, is).
      let Φ : Table = e.state.table in
      let fv = full_grown Θ Φ v.term ge lowv in
      let is' = rw (ea, eb) at is in
      node-stands v.state Q x.place (proj v.term e.term) e.type (larger v.deep e.deep) (v.places ++ e.places) e.state Re ge le (low_term_more (length Θ) (length Φ) v.term (grown_length Θ Φ ge) lowv, lowe) (subst (λ (f : Full). Q (Means.proj f (full Φ e.term)) (tree Φ e.type)) (sym fv) (apart-two is'))
  apart-stands (x ∷ y ∷ z ∷ zs) v Γ (R, l, lowv) g₀ low =
      let Θ : Table = v.state.table in
      let hs : Halves = halves_of (rec_at Θ v.type) in
      let α : Ty = tree Θ v.type in
      let (ea, eb, la, lb) = halves_are Θ (rec_at Θ v.type) α v.type R (R.ok.agrees v.type) (R.ok.earlier v.type l) l in
      let Δ : List Entry = bind rest hs.right (bind x hs.left Γ) in
      let Q : Full → Ty → Type 0 = Taken (x ∷ y ∷ z ∷ zs) Θ Γ v.term v.type in
      let P : Made → Type 0 = λ m. (m.term ≡ var 0) × (m.type ≡ hs.right) × (m.state.table ≡ Θ) in
      let next : Made → Answer Made = λ e. over x.place proj e.type v e e.state in
      on_step P (StandsFor v.state Q) (node y.place (var 0) hs.right 0 [] v.state) (λ r. apart_of go Δ (y ∷ z ∷ zs) r >>= next) (node_says y.place (var 0) hs.right 0 [] v.state) λ r (er, et, es).
      let Rr : Ready r.state.table = subst (λ (Ψ : Table). Ready Ψ) (sym es) R in
      let lr : r.type < length r.state.table = subst (λ (Ψ : Table). r.type < length Ψ) (sym es) (subst (λ (n : ℕ). n < length Θ) (sym et) lb) in
      let lowr : LowTerm (length r.state.table) r.term = subst (λ (f : Term). LowTerm (length r.state.table) f) (sym er) tt in
      let lowΔ : Low (length r.state.table) Δ = subst (λ (Ψ : Table). Low (length Ψ) Δ) (sym es) (lb, (la, low)) in
      on_step (StandsFor r.state (Taken (y ∷ z ∷ zs) r.state.table Δ r.term r.type)) (StandsFor v.state Q) (apart_of go Δ (y ∷ z ∷ zs) r) next (apart-stands (y ∷ z ∷ zs) r Δ (Rr, lr, lowr) (subst (λ (Ψ : Table). Grown Θ₀ Ψ) (sym es) g₀) lowΔ) λ e (Re, ge, le, lowe, is).
      let Φ : Table = e.state.table in
      let gv : Grown Θ Φ = subst (λ (Ψ : Table). Grown Ψ Φ) es ge in
      let fv = full_grown Θ Φ v.term gv lowv in
      let at_v : Taken (y ∷ z ∷ zs) Θ Δ r.term r.type (full Φ e.term) (tree Φ e.type) = subst (λ (Ψ : Table). Taken (y ∷ z ∷ zs) Ψ Δ r.term r.type (full Φ e.term) (tree Φ e.type)) es is in
      let is' = rw (er, et, ea, eb) at at_v in
      node-stands v.state Q x.place (proj v.term e.term) e.type (larger v.deep e.deep) (v.places ++ e.places) e.state Re gv le (low_term_more (length Θ) (length Φ) v.term (grown_length Θ Φ gv) lowv, lowe) (subst (λ (f : Full). Q (Means.proj f (full Φ e.term)) (tree Φ e.type)) (sym fv) (apart_more is'))

-- ---- tuples and applications

-- what makes terms does so rightly, from every state that Θ has grown to
abbrev pub Makes : Text → Here → Table → (State → Tree → Answer Made) → Type 0
Makes X H Θ go = (τ : State) (e : Tree) → Ready τ.table → Grown Θ τ.table → On (StandsFor τ (Is X H e)) (go τ e)

abbrev pub MakesAtoms : Text → Here → Table → (State → Atom → Answer Made) → Type 0
MakesAtoms X H Θ go = (τ : State) (a : Atom) → Ready τ.table → Grown Θ τ.table → On (StandsFor τ (AtomMeans X H a)) (go τ a)

-- what a term is said to be stays so while the table grows
carried : (P : Full → Ty → Type 0) (m : Made) (Φ : Table) → Grown m.state.table Φ → Whole m → P (full m.state.table m.term) (tree m.state.table m.type) → P (full Φ m.term) (tree Φ m.type)
carried P m Φ g W p = subst (λ (τ : Ty). P (full Φ m.term) τ) (sym (grown_tree m.state.table Φ m.type g W.1)) (subst (λ (f : Full). P f (tree m.state.table m.type)) (sym (full_grown m.state.table Φ m.term g W.2)) p)

exact : (P : Full → Ty → Type 0) (f : Full) (φ : Ty) (g : Full) (γ : Ty) → Exactly f φ g γ → P f φ → P g γ
exact P f φ g γ (e, d) p = subst (λ (τ : Ty). P g τ) (sym d) (subst (λ (h : Full). P h φ) (sym e) p)

pub tuple-stands : (X : Text) (H : Here) (Θ : Table) (go : State → Tree → Answer Made) (σ : State) (e : Tree) (es : Trees) → Makes X H Θ go → Ready σ.table → Grown Θ σ.table → On (StandsFor σ (Tuple X H e es)) (tuple_of go σ e es)
tuple-stands X H Θ go σ e noTrees W R g = on_map (StandsFor σ (Is X H e)) (StandsFor σ (Tuple X H e noTrees)) (go σ e) (W σ e R g) λ m (Rm, gm, lm, lowm, is). (Rm, gm, lm, lowm, alone is)
tuple-stands X H Θ go σ e (trees at d es) W R g =
    let Q : Made → Type 0 = StandsFor σ (Tuple X H e (trees at d es)) in
    on_step (StandsFor σ (Is X H e)) Q (go σ e) (λ a. tuple_of go a.state d es >>= λ b. pair_of at a b) (W σ e R g) λ a (Ra, ga, la, lowa, ia).
    on_step (StandsFor a.state (Tuple X H d es)) Q (tuple_of go a.state d es) (λ b. pair_of at a b) (tuple-stands X H Θ go a.state d es W Ra (grown_on Θ σ.table a.state.table g ga)) λ b (Rb, gb, lb, lowb, ib).
    let Φ : Table = b.state.table in
    let π : Ty = prod (Means.half_ty (tree Φ a.type)) (Means.half_ty (tree Φ b.type)) in
    let E : Full → Ty → Type 0 = Exactly (Means.pair π (full Φ a.term) (full Φ b.term)) π in
    on_map (StandsFor b.state E) Q (pair_of at a b) (pair_stands at a b ((Ra, la, lowa), gb, (Rb, lb, lowb))) λ m (Rm, gm, lm, lowm, is). (
      Rm,
      grown_on σ.table Φ m.state.table (grown_on σ.table a.state.table Φ ga gb) gm,
      lm,
      lowm,
      exact (Tuple X H e (trees at d es)) (Means.pair π (full Φ a.term) (full Φ b.term)) π (full m.state.table m.term) (tree m.state.table m.type) is (pairs (carried (Is X H e) a Φ gb (Ra, la, lowa) ia) ib refl),
    )

spine_stands : (X : Text) (H : Here) (Θ : Table) (go : State → Atom → Answer Made) (at : ℕ) (f : Made) (es : Atoms) → MakesAtoms X H Θ go → Whole f → Grown Θ f.state.table → On (StandsFor f.state (Applied X H (full f.state.table f.term) (tree f.state.table f.type) es)) (spine_of go at f es)
spine_stands X H Θ go at f noAtoms W (R, l, low) g = (R, grown_same f.state.table, l, low, to_none)
spine_stands X H Θ go at f (atoms a es) W (R, l, low) g =
    let ff : Full = full f.state.table f.term in
    let φ : Ty = tree f.state.table f.type in
    let Q : Made → Type 0 = StandsFor f.state (Applied X H ff φ (atoms a es)) in
    on_step (StandsFor f.state (AtomMeans X H a)) Q (go f.state a) (λ x. applied at (rec_at x.state.table f.type) f x >>= λ y. spine_of go at y es) (W f.state a R g) λ x (Rx, gx, lx, lowx, ix).
    let Φ : Table = x.state.table in
    let α : Ty = tree Φ x.type in
    let xx : Full = full Φ x.term in
    let E : Full → Ty → Type 0 = Exactly (Means.app_of (tree Φ f.type) α (full Φ f.term) xx) (Means.result_of (tree Φ f.type)) in
    on_step (StandsFor x.state E) Q (applied at (rec_at Φ f.type) f x) (λ y. spine_of go at y es) (applied-stands at f x ((R, l, low), gx, (Rx, lx, lowx))) λ y (Ry, gy, ly, lowy, iy).
    let Ψ : Table = y.state.table in
    let gfy : Grown f.state.table Ψ = grown_on f.state.table Φ Ψ gx gy in
    let ef = full_grown f.state.table Φ f.term gx low in
    let eφ = grown_tree f.state.table Φ f.type gx l in
    let head : full Ψ y.term ≡ Means.app_of φ α ff xx = iy.0 ∙ ap (λ (τ : Ty). Means.app_of τ α (full Φ f.term) xx) eφ ∙ ap (λ (h : Full). Means.app_of φ α h xx) ef in
    let type : tree Ψ y.type ≡ Means.result_of φ = iy.1 ∙ ap Means.result_of eφ in
    on_map (StandsFor y.state (Applied X H (full Ψ y.term) (tree Ψ y.type) es)) Q (spine_of go at y es) (spine_stands X H Θ go at y es W (Ry, ly, lowy) (grown_on Θ f.state.table Ψ g gfy)) λ m (Rm, gm, lm, lowm, im).
    (Rm, grown_on f.state.table Ψ m.state.table gfy gm, lm, lowm, to-more ix (subst (λ (τ : Ty). Applied X H (Means.app_of φ α ff xx) τ es (full m.state.table m.term) (tree m.state.table m.type)) type (subst (λ (h : Full). Applied X H h (tree Ψ y.type) es (full m.state.table m.term) (tree m.state.table m.type)) head im)))

-- ---- putting in

-- terms are made rightly with so many levels
abbrev pub TermSound : Text → ℕ → Type 0
TermSound X more = (S : Scope) (σ : State) (e : Tree) → Ready σ.table → LowScope (length σ.table) S → On (StandsFor σ (Is X (here_of σ.table S) e)) (term_of X more S σ e)

pub lifted : (S : Scope) (Θ Φ : Table) → Grown Θ Φ → LowScope (length Θ) S → LowScope (length Φ) S
lifted S Θ Φ g low = (low-more _ _ S.types (grown_length Θ Φ g) low.0, low-more _ _ S.variables (grown_length Θ Φ g) low.1)

pub makes_of : (X : Text) (more : ℕ) (S : Scope) (σ : State) → TermSound X more → LowScope (length σ.table) S → Makes X (here_of σ.table S) σ.table (λ τ e. term_of X more S τ e)
makes_of X more S σ sound low τ e R g = on_map (StandsFor τ (Is X (here_of τ.table S) e)) (StandsFor τ (Is X (here_of σ.table S) e)) (term_of X more S τ e) (sound S τ e R (lifted S σ.table τ.table g low)) λ m (Rm, gm, lm, lowm, is).
    (Rm, gm, lm, lowm, subst (λ (H : Here). Is X H e (full m.state.table m.term) (tree m.state.table m.type)) (here_grown σ.table τ.table S g low) is)

module _ (X : Text) (more : ℕ) (sound : TermSound X more) (S : Scope) (H : Here) (numbers : H.numbers ≡ S.numbers) (seen : H.seen ≡ S.seen) where
  abbrev put : Scope → State → Body → Answer Made
  put = body_term (λ Q τ e. term_of X more Q τ e)

  body-stands :
      (σ : State) (at : ℕ) (n : Name) (ts : TypeTrees) (ks : List Number) (xs : FoundAll) (ns : List ℕ) (c : Clause) (j : ℕ) (τ : State) (b : Body)
      → Free n H.variables ts ks
      → ReachedAll σ (TypesAre X H ts) xs
      → numbers_of S.numbers ks ≡ good ns
      → First false n (length xs.types) ns (take S.seen X.clauses) j c
      → τ.table ≡ xs.state.table
      → c.body ≡ b
      → On (StandsFor σ (AtomMeans X H (named at n ts ks))) (put (put_of (entries S) X.clauses c j xs.types ns).scope τ b)
  body-stands σ at n ts ks xs ns c j τ (of_type t) free all ne first same be = tt
  body-stands σ at n ts ks xs ns c j τ (of_term e) free (Rs, gs, ls, are) ne first same be =
      let P : Scope = (put_of (entries S) X.clauses c j xs.types ns).scope in
      let Rτ : Ready τ.table = subst (λ (Θ : Table). Ready Θ) (sym same) Rs in
      let lowτ : LowScope (length τ.table) P = (subst (λ (Θ : Table). Low (length Θ) P.types) (sym same) (bound_low (length xs.state.table) c.types xs.types ls), tt) in
      let here : here_of τ.table P ≡ in_clause X.clauses c j (trees_of xs.state.table xs.types) ns = ap (λ (Θ : Table). here_of Θ P) same ∙ put_here xs.state.table (entries S) X.clauses c j xs.types ns in
      let first' : First false n (length (trees_of xs.state.table xs.types)) ns (take H.seen X.clauses) j c = subst (λ (k : ℕ). First false n (length (trees_of xs.state.table xs.types)) ns (take k X.clauses) j c) (sym seen) (subst (λ (k : ℕ). First false n k ns (take S.seen X.clauses) j c) (sym (trees_length xs.state.table xs.types)) first) in
      on_map (StandsFor τ (Is X (here_of τ.table P) e)) (StandsFor σ (AtomMeans X H (named at n ts ks))) (term_of X more P τ e) (sound P τ e Rτ lowτ) λ m (Rm, gm, lm, lowm, is). (
        Rm,
        grown_on σ.table xs.state.table m.state.table gs (subst (λ (Θ : Table). Grown Θ m.state.table) same gm),
        lm,
        lowm,
        put_means free are (ap (λ (Γ : List Entry). numbers_of Γ ks) numbers ∙ ne) first' be (subst (λ (G : Here). Is X G e (full m.state.table m.term) (tree m.state.table m.type)) here is),
      )

  put-stands :
      (σ : State) (type : Scope → State → TypeTree → Answer Found) (at : ℕ) (n : Name) (ts : TypeTrees) (ks : List Number)
      → On (ReachedAll σ (TypesAre X H ts)) (found_all type S at 0 σ ts)
      → Free n H.variables ts ks
      → On (StandsFor σ (AtomMeans X H (named at n ts ks))) (put_in X false S type put σ at n ts ks)
  put-stands σ type at n ts ks all free =
      let Q : Made → Type 0 = StandsFor σ (AtomMeans X H (named at n ts ks)) in
      let cs : List Clause = take S.seen X.clauses in
      on_step (ReachedAll σ (TypesAre X H ts)) Q (found_all type S at 0 σ ts) (λ xs. numbers_in S at (length xs.types) ks >>= λ ns. clause_for (entries S) X.clauses cs 0 false n xs.types ns at >>= λ p. one_put xs.state p.cost at >>= λ τ. put p.scope τ p.body) all λ xs reached.
      on_step (λ (ns : List ℕ). numbers_of S.numbers ks ≡ good ns) Q (numbers_in S at (length xs.types) ks) (λ ns. clause_for (entries S) X.clauses cs 0 false n xs.types ns at >>= λ p. one_put xs.state p.cost at >>= λ τ. put p.scope τ p.body) (numbers_in_lem S at (length xs.types) ks) λ ns ne.
      on_step (Chosen (entries S) X.clauses cs 0 false n xs.types ns) Q (clause_for (entries S) X.clauses cs 0 false n xs.types ns at) (λ p. one_put xs.state p.cost at >>= λ τ. put p.scope τ p.body) (clause_chosen (entries S) X.clauses cs 0 false n xs.types ns at) λ p (j, c, e, first).
      on_step (λ (τ : State). τ.table ≡ xs.state.table) Q (one_put xs.state p.cost at) (λ τ. put p.scope τ p.body) (one_put_lem xs.state p.cost at) λ τ same.
      let z : 0 + j ≡ j = omega arith in
      let e' : p ≡ put_of (entries S) X.clauses c j xs.types ns = e ∙ ap (λ (i : ℕ). put_of (entries S) X.clauses c i xs.types ns) z in
      subst (λ (q : Put). On Q (put q.scope τ q.body)) (sym e') (body-stands σ at n ts ks xs ns c j τ c.body free reached ne first same refl)

-- ---- atoms

module _ (X : Text) (more : ℕ) (sound : TermSound X more) (S : Scope) (σ : State) (low : LowScope (length σ.table) S) where
  abbrev here : Here
  here = here_of σ.table S

  abbrev type_in : Scope → State → TypeTree → Answer Found
  type_in R τ t = type_of X more R τ t

  abbrev term_in : State → Tree → Answer Made
  term_in τ e = term_of X more S τ e

  abbrev put_term : Scope → State → Body → Answer Made
  put_term = body_term (λ R τ e. term_of X more R τ e)

  named-stands : (τ : State) (at : ℕ) (n : Name) (ts : TypeTrees) (ks : List Number) → Ready τ.table → Grown σ.table τ.table → Free n here.variables ts ks → On (StandsFor τ (AtomMeans X here (named at n ts ks))) (put_in X false S type_in put_term τ at n ts ks)
  named-stands τ at n ts ks R g free = put-stands X more sound S here refl refl τ type_in at n ts ks (all_hold X here σ.table type_in S at 0 τ ts (works_all X more S σ (type_sound X more) low) R g) free

  variable-stands : (τ : State) (at j v : ℕ) (n : Name) → Ready τ.table → v < length τ.table → Nearest n here.variables j (tree τ.table v) → On (StandsFor τ (AtomMeans X here (named at n no_types []))) (node at (variable τ.table j v) v 0 [] τ)
  variable-stands τ at j v n R l is = node-stands τ (AtomMeans X here (named at n no_types [])) at (variable τ.table j v) v 0 [] τ R (grown_same τ.table) l (variable-low τ.table j v (length τ.table)) (subst (λ (f : Full). AtomMeans X here (named at n no_types []) f (tree τ.table v)) (sym (variable-is τ.table j v R)) (variable-means is refl))

  pub atom_stands : MakesAtoms X here σ.table (λ τ a. atom_of X S type_in term_in put_term τ a)
  atom_stands τ (part at p) R g =
      let T₀ : Ty = (part_at p).type X.edition in
      on_map (StandsFor τ (Exactly (Means.con p T₀) T₀)) (StandsFor τ (AtomMeans X here (part at p))) (part_of X.edition τ at p) (part-stands X.edition τ at p R) λ m (Rm, gm, lm, lowm, is).
      (Rm, gm, lm, lowm, exact (AtomMeans X here (part at p)) (Means.con p T₀) T₀ (full m.state.table m.term) (tree m.state.table m.type) is (part-means refl))
  atom_stands τ (tuple e es) R g = on_map (StandsFor τ (Tuple X here e es)) (StandsFor τ (AtomMeans X here (tuple e es))) (tuple_of term_in τ e es) (tuple-stands X here σ.table term_in τ e es (makes_of X more S σ sound low) R g) λ m (Rm, gm, lm, lowm, is). (Rm, gm, lm, lowm, tuple-means is)
  atom_stands τ (named at n no_types []) R g =
      let same : shown τ.table S.variables ≡ shown σ.table S.variables = shown_grown σ.table τ.table S.variables g low.1 in
      lookup_says (On (StandsFor τ (AtomMeans X here (named at n no_types [])))) τ.table n S.variables 0 (length τ.table) (λ i t. node at (variable τ.table i t) t 0 [] τ) (put_in X false S type_in put_term τ at n no_types []) (lifted S σ.table τ.table g low).1 (λ j v h is. let z : j ≡ 0 + j = omega arith in subst (λ (i : ℕ). On (StandsFor τ (AtomMeans X here (named at n no_types []))) (node at (variable τ.table i v) v 0 [] τ)) z (variable-stands τ at j v n R h (subst (λ (Γ : List TypeEntry). Nearest n Γ j (tree τ.table v)) same is))) λ none. named-stands τ at n no_types [] R g (λ _. subst (λ (Γ : List TypeEntry). (i : ℕ) (ρ : Ty) → Nearest n Γ i ρ → ⊥) same none)
  atom_stands τ (named at n no_types (k ∷ ks)) R g = named-stands τ at n no_types (k ∷ ks) R g λ t. absurd t
  atom_stands τ (named at n (types t ts) ks) R g = named-stands τ at n (types t ts) ks R g λ t'. absurd t'

-- ---- terms

pub shown_bound : (Θ : Table) (xs : List Bound) (v : ℕ) (Γ : List Entry) → shown Θ (bind_all xs v Γ) ≡ enter xs (tree Θ v) (shown Θ Γ)
shown_bound Θ [] v Γ = refl
shown_bound Θ (x ∷ xs) v Γ = shown_bound Θ xs v (bind x v Γ)

pub low_bound : (n : ℕ) (xs : List Bound) (v : ℕ) (Γ : List Entry) → v < n → Low n Γ → Low n (bind_all xs v Γ)
low_bound n [] v Γ h l = l
low_bound n (x ∷ xs) v Γ h l = low_bound n xs v (bind x v Γ) h (h, l)

-- the scope of a body, over the table of a later state
pub inner : (S : Scope) (Θ Φ : Table) (Γ : List Entry) → Grown Θ Φ → LowScope (length Θ) S → here_of Φ (with_variables S Γ) ≡ with (here_of Θ S) (shown Φ Γ)
inner S Θ Φ Γ g low = ap (λ (H : Here). with H (shown Φ Γ)) (here_grown Θ Φ S g low)

pub term_sound : (X : Text) (more : ℕ) → TermSound X more
term_sound X zero S σ (spine at a es) R low = tt
term_sound X zero S σ (fun at xs t e) R low = tt
term_sound X zero S σ (fix at x t e) R low = tt
term_sound X zero S σ (name at x v e) R low = tt
term_sound X zero S σ (apart at xs v e) R low = tt
term_sound X (suc more) S σ (spine at a es) R low =
    let H : Here = here_of σ.table S in
    let go : State → Atom → Answer Made = atom_of X S (λ R τ t. type_of X more R τ t) (λ τ d. term_of X more S τ d) (body_term (λ Q τ d. term_of X more Q τ d)) in
    let W : MakesAtoms X H σ.table go = atom_stands X more (term_sound X more) S σ low in
    let Q : Made → Type 0 = StandsFor σ (Is X H (spine at a es)) in
    on_step (StandsFor σ (AtomMeans X H a)) Q (go σ a) (λ f. spine_of go at f es) (W σ a R (grown_same σ.table)) λ f (Rf, gf, lf, lowf, isf).
    on_map (StandsFor f.state (Applied X H (full f.state.table f.term) (tree f.state.table f.type) es)) Q (spine_of go at f es) (spine_stands X H σ.table go at f es W (Rf, lf, lowf) gf) λ m (Rm, gm, lm, lowm, im).
    (Rm, grown_on σ.table f.state.table m.state.table gf gm, lm, lowm, spine-is isf im)
term_sound X (suc more) S σ (fun at xs t e) R low =
    let H : Here = here_of σ.table S in
    let Q : Made → Type 0 = StandsFor σ (Is X H (fun at xs t e)) in
    on_step (Reached σ (TypeIs X H t)) Q (type_of X more S σ t) (λ θ. room_for S (length xs) at >>= λ _. term_of X more (with_variables S (bind_all xs θ.type S.variables)) θ.state e >>= λ b. functions_of xs θ.type b) (type_sound X more S σ t R low) λ θ (Rθ, gθ, lθ, isθ).
    let Θ : Table = θ.state.table in
    let Γ : List Entry = bind_all xs θ.type S.variables in
    let lowθ = lifted S σ.table Θ gθ low in
    let scope : here_of Θ (with_variables S Γ) ≡ with H (enter xs (tree Θ θ.type) H.variables) = inner S σ.table Θ Γ gθ low ∙ ap (λ (Δ : List TypeEntry). with H Δ) (shown_bound Θ xs θ.type S.variables ∙ ap (λ (Δ : List TypeEntry). enter xs (tree Θ θ.type) Δ) (shown_grown σ.table Θ S.variables gθ low.1)) in
    on_any Q (room_for S (length xs) at) (λ _. term_of X more (with_variables S Γ) θ.state e >>= λ b. functions_of xs θ.type b) λ _.
    on_step (StandsFor θ.state (Is X (here_of Θ (with_variables S Γ)) e)) Q (term_of X more (with_variables S Γ) θ.state e) (λ b. functions_of xs θ.type b) (term_sound X more (with_variables S Γ) θ.state e Rθ (lowθ.0, low_bound (length Θ) xs θ.type S.variables lθ lowθ.1)) λ b (Rb, gb, lb, lowb, isb).
    let Φ : Table = b.state.table in
    let τ : Ty = tree Φ b.type in
    let ee : Full = full Φ b.term in
    let eθ = grown_tree Θ Φ θ.type gb lθ in
    let E : Full → Ty → Type 0 = Exactly (Means.full_functions xs (tree Φ θ.type) τ ee) (Means.arrows_of xs (tree Φ θ.type) τ) in
    on_map (StandsFor b.state E) Q (functions_of xs θ.type b) (functions_stand xs θ.type b (Rb, lb, lowb) (omega (arith, lθ, grown_length Θ Φ gb))) λ m (Rm, gm, lm, lowm, is). (
      Rm,
      grown_on σ.table Φ m.state.table (grown_on σ.table Θ Φ gθ gb) gm,
      lm,
      lowm,
      exact (Is X H (fun at xs t e)) (Means.full_functions xs (tree Φ θ.type) τ ee) (Means.arrows_of xs (tree Φ θ.type) τ) (full m.state.table m.term) (tree m.state.table m.type) is (subst (λ (ρ : Ty). Is X H (fun at xs t e) (Means.full_functions xs ρ τ ee) (Means.arrows_of xs ρ τ)) (sym eθ) (fun-is isθ (subst (λ (G : Here). Is X G e ee τ) scope isb) refl refl)),
    )
term_sound X (suc more) S σ (fix at x t e) R low =
    let H : Here = here_of σ.table S in
    let P : Full → Ty → Type 0 = Is X H (fix at x t e) in
    let Q : Made → Type 0 = StandsFor σ P in
    on_step (Reached σ (TypeIs X H t)) Q (type_of X more S σ t) (λ θ. room_for S 1 at >>= λ _. term_of X more (with_variables S (bind x θ.type S.variables)) θ.state e >>= λ b. node x.place (Terms.fix θ.type b.term) θ.type b.deep b.places b.state) (type_sound X more S σ t R low) λ θ (Rθ, gθ, lθ, isθ).
    let Θ : Table = θ.state.table in
    let Γ : List Entry = bind x θ.type S.variables in
    let lowθ = lifted S σ.table Θ gθ low in
    let scope : here_of Θ (with_variables S Γ) ≡ with H (entry x (tree Θ θ.type) ∷ H.variables) = inner S σ.table Θ Γ gθ low ∙ ap (λ (Δ : List TypeEntry). with H (entry x (tree Θ θ.type) ∷ Δ)) (shown_grown σ.table Θ S.variables gθ low.1) in
    on_any Q (room_for S 1 at) (λ _. term_of X more (with_variables S Γ) θ.state e >>= λ b. node x.place (Terms.fix θ.type b.term) θ.type b.deep b.places b.state) λ _.
    on_step (StandsFor θ.state (Is X (here_of Θ (with_variables S Γ)) e)) Q (term_of X more (with_variables S Γ) θ.state e) (λ b. node x.place (Terms.fix θ.type b.term) θ.type b.deep b.places b.state) (term_sound X more (with_variables S Γ) θ.state e Rθ (lowθ.0, (lθ, lowθ.1))) λ b (Rb, gb, lb, lowb, isb).
    let Φ : Table = b.state.table in
    let eθ = grown_tree Θ Φ θ.type gb lθ in
    let l : θ.type < length Φ = omega (arith, lθ, grown_length Θ Φ gb) in
    node-stands σ P x.place (Terms.fix θ.type b.term) θ.type b.deep b.places b.state Rb (grown_on σ.table Θ Φ gθ gb) l (l, lowb) (subst (λ (ρ : Ty). P (Means.fix ρ (full Φ b.term)) ρ) (sym eθ) (fix_is isθ (subst (λ (G : Here). Is X G e (full Φ b.term) (tree Φ b.type)) scope isb)))
term_sound X (suc more) S σ (name at x v e) R low =
    let H : Here = here_of σ.table S in
    let Q : Made → Type 0 = StandsFor σ (Is X H (name at x v e)) in
    on_step (StandsFor σ (Is X H v)) Q (term_of X more S σ v) (λ a. room_for S 1 at >>= λ _. term_of X more (with_variables S (bind x a.type S.variables)) a.state e >>= λ b. name_of X.edition x a b) (term_sound X more S σ v R low) λ a (Ra, ga, la, lowa, isa).
    let Θ : Table = a.state.table in
    let Γ : List Entry = bind x a.type S.variables in
    let lowΘ = lifted S σ.table Θ ga low in
    let scope : here_of Θ (with_variables S Γ) ≡ with H (entry x (tree Θ a.type) ∷ H.variables) = inner S σ.table Θ Γ ga low ∙ ap (λ (Δ : List TypeEntry). with H (entry x (tree Θ a.type) ∷ Δ)) (shown_grown σ.table Θ S.variables ga low.1) in
    on_any Q (room_for S 1 at) (λ _. term_of X more (with_variables S Γ) a.state e >>= λ b. name_of X.edition x a b) λ _.
    on_step (StandsFor a.state (Is X (here_of Θ (with_variables S Γ)) e)) Q (term_of X more (with_variables S Γ) a.state e) (λ b. name_of X.edition x a b) (term_sound X more (with_variables S Γ) a.state e Ra (lowΘ.0, (la, lowΘ.1))) λ b (Rb, gb, lb, lowb, isb).
    let Φ : Table = b.state.table in
    let τ : Ty = tree Φ b.type in
    let N : Full → Ty → Full = λ f α. Means.named_of X.edition α τ f (full Φ b.term) in
    on_map (StandsFor b.state (Exactly (N (full Φ a.term) (tree Φ a.type)) τ)) Q (name_of X.edition x a b) (name-stands X.edition x a b ((Ra, la, lowa), gb, (Rb, lb, lowb))) λ m (Rm, gm, lm, lowm, is). (
      Rm,
      grown_on σ.table Φ m.state.table (grown_on σ.table Θ Φ ga gb) gm,
      lm,
      lowm,
      exact (Is X H (name at x v e)) (N (full Φ a.term) (tree Φ a.type)) τ (full m.state.table m.term) (tree m.state.table m.type) is (carried (λ (f : Full) (α : Ty). Is X H (name at x v e) (N f α) τ) a Φ gb (Ra, la, lowa) (name_is isa (subst (λ (G : Here). Is X G e (full Φ b.term) τ) scope isb) refl)),
    )
term_sound X (suc more) S σ (apart at xs v e) R low =
    let H : Here = here_of σ.table S in
    let Q : Made → Type 0 = StandsFor σ (Is X H (apart at xs v e)) in
    let go : List Entry → State → Answer Made = λ Γ τ. term_of X more (with_variables S Γ) τ e in
    let G : (Γ : List Entry) (τ : State) → Ready τ.table → Grown σ.table τ.table → Low (length τ.table) Γ → On (StandsFor τ (Is X (with H (shown τ.table Γ)) e)) (go Γ τ) = λ Γ τ Rτ g lowΓ. subst (λ (K : Here). On (StandsFor τ (Is X K e)) (go Γ τ)) (inner S σ.table τ.table Γ g low) (term_sound X more (with_variables S Γ) τ e Rτ ((lifted S σ.table τ.table g low).0, lowΓ)) in
    on_step (StandsFor σ (Is X H v)) Q (term_of X more S σ v) (λ a. room_for S (length xs + length xs) at >>= λ _. apart_of go S.variables xs a) (term_sound X more S σ v R low) λ a (Ra, ga, la, lowa, isa).
    let Θ : Table = a.state.table in
    on_any Q (room_for S (length xs + length xs) at) (λ _. apart_of go S.variables xs a) λ _.
    on_map (StandsFor a.state (Apart X (with H (shown Θ S.variables)) xs (full Θ a.term) (tree Θ a.type) e)) Q (apart_of go S.variables xs a) (apart-stands X H σ.table e go G xs a S.variables (Ra, la, lowa) ga (lifted S σ.table Θ ga low).1) λ m (Rm, gm, lm, lowm, im). (
      Rm,
      grown_on σ.table Θ m.state.table ga gm,
      lm,
      lowm,
      apart-is isa (subst (λ (Δ : List TypeEntry). Apart X (with H Δ) xs (full Θ a.term) (tree Θ a.type) e (full m.state.table m.term) (tree m.state.table m.type)) (shown_grown σ.table Θ S.variables ga low.1) im),
    )

-- ---- the text

pub start_ready : Ready start.table
start_ready = record { ok = checked [] rec01 0 tt empty-ok (omega arith) refl; one = refl; some = omega arith }

-- the lines `table` leave a table that the reader accepts
pub lines_ready : (X : Text) (σ : State) (ls : List Line) → Ready σ.table → On (λ (τ : State). Ready τ.table) (lines_table X σ ls)
lines_ready X σ [] R = R
lines_ready X σ (l ∷ ls) R = on_step (Reached σ (TypeIs X (here_of σ.table (above l.seen)) l.type)) (λ (τ : State). Ready τ.table) (type_of X most_nested (above l.seen) σ l.type) (λ t. lines_table X t.state ls) (type_sound X most_nested (above l.seen) σ l.type R (tt, tt)) λ t (Rt, gt, lt, is). lines_ready X t.state ls Rt

-- clauses that are judged leave the table as it is
pub judged_clause_lem : (X : Text) (i : ℕ) (σ : State) (c : Clause) → Ready σ.table → On (λ (τ : State). Ready τ.table) (judged_clause X i σ c)
judged_clause_lem X i σ c R =
    let P : State → Type 0 = λ τ. Ready τ.table in
    let next : ℕ → Answer State = λ k. good (record { table = σ.table; nodes = σ.nodes; puts = k }) in
    on_either P (is_judged c) (one_put σ (cost_of c) c.head.place >>= λ τ. judged_body X i τ c.body >>= next) (good σ) (on_any P (one_put σ (cost_of c) c.head.place) (λ τ. judged_body X i τ c.body >>= next) λ τ. on_any P (judged_body X i τ c.body) next λ k. R) R

pub judged_ready : (X : Text) (i : ℕ) (σ : State) (cs : List Clause) → Ready σ.table → On (λ (τ : State). Ready τ.table) (judged_from X i σ cs)
judged_ready X i σ [] R = R
judged_ready X i σ (c ∷ cs) R = on_step (λ (τ : State). Ready τ.table) (λ (τ : State). Ready τ.table) (judged_clause X i σ c) (λ τ. judged_from X (suc i) τ cs) (judged_clause_lem X i σ c R) λ τ Rτ. judged_ready X (suc i) τ cs Rτ

-- what the text means, on a table that the reader accepts and that has the term's types
abbrev Meant : Text → Made → Type 0
Meant X m = TableOk m.state.table × Means X (full m.state.table m.term) × LowTerm (length m.state.table) m.term

main_means : (X : Text) → On (Meant X) (main_of X)
unfolding main_of
main_means X =
    let S : Scope = above (length X.clauses) in
    let type : Scope → State → TypeTree → Answer Found = λ Q τ t. type_of X most_nested Q τ t in
    let go : Scope → State → Body → Answer Made = body_term (λ Q τ e. term_of X most_nested Q τ e) in
    let main : Atom = named X.end main_name no_types [] in
    on_step (λ (τ : State). Ready τ.table) (Meant X) (lines_table X start X.lines) (λ σ. judged_from X 0 σ X.clauses >>= λ τ. put_in X false S type go τ X.end main_name no_types []) (lines_ready X start X.lines start_ready) λ ρ Rρ.
    on_step (λ (τ : State). Ready τ.table) (Meant X) (judged_from X 0 ρ X.clauses) (λ σ. put_in X false S type go σ X.end main_name no_types []) (judged_ready X 0 ρ X.clauses Rρ) λ σ R.
    on_map (StandsFor σ (AtomMeans X (top X) main)) (Meant X) (put_in X false S type go σ X.end main_name no_types []) (put-stands X most_nested (term_sound X most_nested) S (top X) refl refl σ type X.end main_name no_types [] (R, grown_same σ.table, tt, no_types_lem) (λ _ i τ h. no-variable h)) λ m (Rm, gm, lm, lowm, is).
    (Rm.ok, (tree m.state.table m.type, is), lowm)
  where
    no-variable : {n : Name} {i : ℕ} {τ : Ty} → Nearest n [] i τ → ⊥
    no-variable = elim [ ]

-- the sheet of a text is the sheet of the term that the text means, and its table is one that the reader accepts
pub make_means : (X : Text) (p : Placed) → sheet_of X ≡ good p → Means X (full p.sheet.table p.sheet.term)
unfolding sheet_of
make_means X p e =
    let P : Placed → Type 0 = λ q. Means X (full q.sheet.table q.sheet.term) in
    on_good P (sheet_of X) p (on_step (Meant X) P (main_of X) (λ m. good (record { sheet = record { edition = X.edition; table = m.state.table; term = m.term }; places = m.places })) (main_means X) λ m h. h.1) e

pub make-table : (X : Text) (p : Placed) → sheet_of X ≡ good p → TableOk p.sheet.table
unfolding sheet_of
make-table X p e =
    let P : Placed → Type 0 = λ q. TableOk q.sheet.table in
    on_good P (sheet_of X) p (on_step (Meant X) P (main_of X) (λ m. good (record { sheet = record { edition = X.edition; table = m.state.table; term = m.term }; places = m.places })) (main_means X) λ m h. h.0) e

pub make-types : (X : Text) (p : Placed) → sheet_of X ≡ good p → LowTerm (length p.sheet.table) p.sheet.term
unfolding sheet_of
make-types X p e =
    let P : Placed → Type 0 = λ q. LowTerm (length q.sheet.table) q.sheet.term in
    on_good P (sheet_of X) p (on_step (Meant X) P (main_of X) (λ m. good (record { sheet = record { edition = X.edition; table = m.state.table; term = m.term }; places = m.places })) (main_means X) λ m h. h.2) e
