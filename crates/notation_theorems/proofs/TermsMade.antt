-- A text all of whose parts mean something is made, or a limit is passed: 33 and 35 say that something has no meaning. Assumes nothing.
use Prim.Native.Nat.{ℕ, zero, suc, ◌+◌, ◌<◌}
use mathlib.Core.Path.{◌≡◌, refl, sym, ap, subst, ◌∙◌}
use mathlib.Core.Bool.{Bool, true, false, ◌&&◌, cond}
use mathlib.Core.List.{List, [], ◌∷◌}
use native.Mathlib.Omega.{arith}
use lib.Dec.{T, leb, ltb}
use lib.ListN.{length, take}
use Rattle.calculus.specs.Answer.{Answer, good, ◌>>=◌, need}
use Rattle.calculus.specs.Types.{Ty, sharable, is_arrow, TyRec, rec01, rec02, rec03, rec04, Table, rec_at, tree}
use Rattle.calculus.specs.Read.{formed}
use Rattle.calculus.specs.Record.{All}
use Rattle.calculus.specs.Terms.{Edition, first, second, is_second, Term, var, app, lapp, proj, con, part_at}
use Rattle.calculus.specs.Terms as Terms
use Rattle.sheet_theorems.specs.Laid.{Agrees}
use Rattle.laws.proofs.Tests.{and_of}
use Rattle.notation_calculus.specs.Words.{Name}
use Rattle.notation_calculus.specs.Trees.{Bound, Number, TypeTree, TypeTrees, no_types, types, Tree, spine, fun, fix, name, apart, Atom, named, part, tuple, Atoms, noAtoms, atoms, Trees, noTrees, trees, Body, of_type, of_term, Clause, Line, Text}
use Rattle.notation_calculus.specs.Grammar.{most_nested}
use Rattle.notation_calculus.specs.Making.{most_puts, most_entries, State, Found, Entry, Scope, bind, bind_all, with_variables, entries, is_sharable, shares, arrow_of, listed, numbers_of, cost_of, one_put, put_in, type_of, Made, node, over, variable, part_type, part_of, function_of, functions_of, name_of, Halves, halves_of, rest, apart_of, half_of, pair_of, applied, tuple_of, body_term, atom_of, spine_of, term_of}
use Rattle.notation_calculus.specs.Make.{Placed, start, above, lines_table, is_judged, judged_body, judged_clause, judged_from, main_name, main_of, sheet_of}
use Rattle.notation_calculus.specs.Means.{Full, full, TypeEntry, Here, with, enter, entry, Nearest, First, in_clause, rest_entry, Is, spine-is, fun-is, fix_is, name_is, apart-is, Apart, apart-two, apart_more, AtomMeans, variable-means, part-means, tuple-means, put_means, Tuple, alone, pairs, Applied, to_none, to-more, TypeIs, TypesAre, no_types_lem, first_of, second_of, top, Means}
use Rattle.notation_calculus.specs.Means as Means
use Rattle.notation_theorems.specs.Limited.{Limited, BodyMeans, ClausesMean, LineMeans, AllMeans}
use Rattle.notation_theorems.proofs.Growing.{Ready, Grown, grown_same, grown_on, grown_length, tree_one, Listed, listed-holds}
use Rattle.notation_theorems.proofs.TypesMean.{shown, here_of, Low, LowScope, shown_grown, here_grown, lookup_says, Reached, all_hold, works_all, one_put_lem, type_sound}
use Rattle.notation_theorems.proofs.NodesMean.{LowTerm, StandsFor, Whole, Exactly, shares-is, functions_stand, applied-stands}
use Rattle.notation_theorems.proofs.TermsMean.{halves_are, node_says, Makes, MakesAtoms, tuple-stands, lifted, makes_of, atom_stands, shown_bound, low_bound, inner, term_sound, start_ready, lines_ready, judged_clause_lem, judged_ready}
use Rattle.notation_theorems.proofs.MeansOne.{type_one, term_one}
use Rattle.notation_theorems.proofs.TypesMade.{limited-step, limited-any, limited_by, limited-either, listed-limited, all-limited, put-limited, limited-all, type_limited}

-- ---- nodes

node-limited : (at : ℕ) (e : Term) (t below : ℕ) (ps : List ℕ) (σ : State) → Limited (node at e t below ps σ)
unfolding node
node-limited at e t below ps σ = limited_by (ltb σ.nodes 2048) at _ (limited_by (ltb below 64) at _ tt)

one_shares : (Θ : Table) → Ready Θ → T (sharable (tree Θ 0))
one_shares Θ R = subst (λ (τ : Ty). T (sharable τ)) (sym (tree_one Θ R)) tt

shares_so : (Θ : Table) (t : ℕ) → Ready Θ → shares Θ t ≡ true → T (sharable (tree Θ t))
shares_so Θ t R e = subst (λ (b : Bool). T b) (sym e ∙ shares-is Θ t R) tt

arrow_so : (Θ : Table) (r : TyRec) (τ : Ty) → Agrees Θ r τ → is_sharable r ≡ false → T (is_arrow τ)
arrow_so Θ rec01 τ a e = absurd (subst (λ (b : Bool). T b) e tt)
arrow_so Θ (rec02 x y) τ a e = absurd (subst (λ (b : Bool). T b) e tt)
arrow_so Θ (rec03 x y) τ a e = subst (λ (ρ : Ty). T (is_arrow ρ)) (sym a.0) tt
arrow_so Θ (rec04 x y) τ a e = subst (λ (ρ : Ty). T (is_arrow ρ)) (sym a.0) tt

-- the arrow of the left side's sort keeps the rule of sides
arrow_formed : (Θ : Table) (t b : ℕ) → Ready Θ → T (formed Θ (arrow_of Θ t b))
arrow_formed Θ t b R = by (shares Θ t) refl
  where
    by : (s : Bool) → shares Θ t ≡ s → T (formed Θ (cond s (rec03 t b) (rec04 t b)))
    by true e = shares_so Θ t R e
    by false e = arrow_so Θ (rec_at Θ t) (tree Θ t) (R.ok.agrees t) e

half_shares : (Θ : Table) (t : ℕ) → Ready Θ → T (sharable (tree Θ (half_of Θ t)))
half_shares Θ t R = by (shares Θ t) refl
  where
    by : (s : Bool) → shares Θ t ≡ s → T (sharable (tree Θ (cond s t 0)))
    by true e = shares_so Θ t R e
    by false e = one_shares Θ R

function_limited : (x : Bound) (t : ℕ) (e : Made) → Ready e.state.table → Limited (function_of x t e)
function_limited x t e R = limited-any (listed e.state (arrow_of e.state.table t e.type) x.place) _ (listed-limited e.state (arrow_of e.state.table t e.type) x.place (arrow_formed e.state.table t e.type R)) λ w. node-limited _ _ _ _ _ _

functions-limited : (xs : List Bound) (t : ℕ) (e : Made) → Whole e → t < length e.state.table → Limited (functions_of xs t e)
functions-limited [] t e W h = tt
functions-limited (x ∷ xs) t e W h = limited-step (StandsFor e.state (Exactly (Means.full_functions xs (tree e.state.table t) (tree e.state.table e.type) (full e.state.table e.term)) (Means.arrows_of xs (tree e.state.table t) (tree e.state.table e.type)))) (functions_of xs t e) (λ f. function_of x t f) (functions_stand xs t e W h) (functions-limited xs t e W h) λ f (Rf, gf, lf, lowf, isf). function_limited x t f Rf

name-limited : (E : Edition) (x : Bound) (v e : Made) → Ready e.state.table → Limited (name_of E x v e)
name-limited E x v e R = limited-either (is_second E && shares e.state.table v.type) _ _ (node-limited _ _ _ _ _ _) (limited-any (function_of x v.type e) _ (function_limited x v.type e R) λ f. node-limited _ _ _ _ _ _)

pair_limited : (at : ℕ) (a b : Made) → Ready b.state.table → Limited (pair_of at a b)
pair_limited at a b R =
    let Θ : Table = b.state.table in
    limited-any (listed b.state (rec02 (half_of Θ a.type) (half_of Θ b.type)) at) _ (listed-limited b.state (rec02 (half_of Θ a.type) (half_of Θ b.type)) at (and_of (sharable (tree Θ (half_of Θ a.type))) (sharable (tree Θ (half_of Θ b.type))) (half_shares Θ a.type R) (half_shares Θ b.type R))) λ t. node-limited _ _ _ _ _ _

applied-limited : (at : ℕ) (r : TyRec) (f a : Made) → Limited (applied at r f a)
applied-limited at rec01 f a = node-limited _ _ _ _ _ _
applied-limited at (rec02 x y) f a = node-limited _ _ _ _ _ _
applied-limited at (rec03 x y) f a = node-limited _ _ _ _ _ _
applied-limited at (rec04 x y) f a = node-limited _ _ _ _ _ _

part-type-limited : (E : Edition) (k : ℕ) (σ : State) (at : ℕ) → Ready σ.table → Limited (part_type E k σ at)
part-type-limited E zero σ at R = tt
part-type-limited E (suc zero) σ at R = listed-limited σ (rec03 0 0) at (one_shares σ.table R)
part-type-limited first (suc (suc k)) σ at R = limited-step (Listed σ (rec03 0 0)) (listed σ (rec03 0 0) at) (λ x. listed x.state (rec03 0 x.type) at) (listed-holds σ (rec03 0 0) at R (R.some, R.some)) (listed-limited σ (rec03 0 0) at (one_shares σ.table R)) λ x (Rx, gx, lx, a). listed-limited x.state (rec03 0 x.type) at (one_shares x.state.table Rx)
part-type-limited second (suc (suc k)) σ at R = limited-step (Listed σ (rec02 0 0)) (listed σ (rec02 0 0) at) (λ x. listed x.state (rec03 x.type 0) at) (listed-holds σ (rec02 0 0) at R (R.some, R.some)) (listed-limited σ (rec02 0 0) at (and_of (sharable (tree σ.table 0)) (sharable (tree σ.table 0)) (one_shares σ.table R) (one_shares σ.table R))) λ x (Rx, gx, lx, a).
    listed-limited x.state (rec03 x.type 0) at (subst (λ (τ : Ty). T (sharable τ)) (sym a.0) (and_of (sharable (tree x.state.table 0)) (sharable (tree x.state.table 0)) a.1 a.2))

part-limited : (E : Edition) (σ : State) (at p : ℕ) → Ready σ.table → Limited (part_of E σ at p)
part-limited E σ at p R = limited-any (part_type E (part_at p).inputs σ at) _ (part-type-limited E (part_at p).inputs σ at R) λ t. node-limited _ _ _ _ _ _

-- ---- a pair taken apart

module _ (X : Text) (H : Here) (Θ₀ : Table) (b : Tree) (go : List Entry → State → Answer Made) (L : (Γ : List Entry) (τ : State) (f : Full) (ρ : Ty) → Ready τ.table → Grown Θ₀ τ.table → Low (length τ.table) Γ → Is X (with H (shown τ.table Γ)) b f ρ → Limited (go Γ τ)) where
  apart-limited : (xs : List Bound) (v : Made) (Γ : List Entry) (w e : Full) (α τ : Ty) → Whole v → Grown Θ₀ v.state.table → Low (length v.state.table) Γ → tree v.state.table v.type ≡ α → Apart X (with H (shown v.state.table Γ)) xs w α b e τ → Limited (apart_of go Γ xs v)
  apart-limited [] v Γ w e α τ _ g₀ low ev h = elim h [ ]
  apart-limited (x ∷ []) v Γ w e α τ _ g₀ low ev h = elim h [ ]
  apart-limited (x ∷ y ∷ []) v Γ w e α τ (R, l, lowv) g₀ low ev (apart-two {e = d} is) =
      let Θ : Table = v.state.table in
      let hs : Halves = halves_of (rec_at Θ v.type) in
      let (ea, eb, la, lb) = halves_are Θ (rec_at Θ v.type) α v.type R (subst (λ (ρ : Ty). Agrees Θ (rec_at Θ v.type) ρ) ev (R.ok.agrees v.type)) (R.ok.earlier v.type l) l in
      let Δ : List Entry = bind y hs.right (bind x hs.left Γ) in
      limited-any (go Δ v.state) _ (L Δ v.state d τ R g₀ (lb, (la, low)) (subst (λ (ρ : Ty). Is X (with H (entry y ρ ∷ entry x (tree Θ hs.left) ∷ shown Θ Γ)) b d τ) (sym eb) (subst (λ (ρ : Ty). Is X (with H (entry y (second_of α) ∷ entry x ρ ∷ shown Θ Γ)) b d τ) (sym ea) is))) λ m. node-limited _ _ _ _ _ _
  apart-limited (x ∷ y ∷ z ∷ zs) v Γ w e α τ (R, l, lowv) g₀ low ev (apart_more {e = d} is) =
      let Θ : Table = v.state.table in
      let hs : Halves = halves_of (rec_at Θ v.type) in
      let (ea, eb, la, lb) = halves_are Θ (rec_at Θ v.type) α v.type R (subst (λ (ρ : Ty). Agrees Θ (rec_at Θ v.type) ρ) ev (R.ok.agrees v.type)) (R.ok.earlier v.type l) l in
      let Δ : List Entry = bind rest hs.right (bind x hs.left Γ) in
      let P : Made → Type 0 = λ m. (m.term ≡ var 0) × (m.type ≡ hs.right) × (m.state.table ≡ Θ) in
      let next : Made → Answer Made = λ m. over x.place proj m.type v m m.state in
      let is' : Apart X (with H (shown Θ Δ)) (y ∷ z ∷ zs) (Means.var 0) (second_of α) b d τ = subst (λ (ρ : Ty). Apart X (with H (rest_entry ρ ∷ entry x (tree Θ hs.left) ∷ shown Θ Γ)) (y ∷ z ∷ zs) (Means.var 0) (second_of α) b d τ) (sym eb) (subst (λ (ρ : Ty). Apart X (with H (rest_entry (second_of α) ∷ entry x ρ ∷ shown Θ Γ)) (y ∷ z ∷ zs) (Means.var 0) (second_of α) b d τ) (sym ea) is) in
      limited-step P (node y.place (var 0) hs.right 0 [] v.state) (λ r. apart_of go Δ (y ∷ z ∷ zs) r >>= next) (node_says y.place (var 0) hs.right 0 [] v.state) (node-limited _ _ _ _ _ _) λ r (er, et, es).
      let Rr : Ready r.state.table = subst (λ (Ψ : Table). Ready Ψ) (sym es) R in
      let lr : r.type < length r.state.table = subst (λ (Ψ : Table). r.type < length Ψ) (sym es) (subst (λ (n : ℕ). n < length Θ) (sym et) lb) in
      let lowr : LowTerm (length r.state.table) r.term = subst (λ (f : Term). LowTerm (length r.state.table) f) (sym er) tt in
      let lowΔ : Low (length r.state.table) Δ = subst (λ (Ψ : Table). Low (length Ψ) Δ) (sym es) (lb, (la, low)) in
      let er' : tree r.state.table r.type ≡ second_of α = ap (λ (Ψ : Table). tree Ψ r.type) es ∙ ap (λ (n : ℕ). tree Θ n) et ∙ eb in
      limited-any (apart_of go Δ (y ∷ z ∷ zs) r) next (apart-limited (y ∷ z ∷ zs) r Δ (Means.var 0) d (second_of α) τ (Rr, lr, lowr) (subst (λ (Ψ : Table). Grown Θ₀ Ψ) (sym es) g₀) lowΔ er' (subst (λ (Ψ : Table). Apart X (with H (shown Ψ Δ)) (y ∷ z ∷ zs) (Means.var 0) (second_of α) b d τ) (sym es) is')) λ m. node-limited _ _ _ _ _ _

-- ---- tuples and applications

abbrev MakesLimited : Text → Here → Table → (State → Tree → Answer Made) → Type 0
MakesLimited X H Θ go = (τ : State) (e : Tree) (f : Full) (ρ : Ty) → Ready τ.table → Grown Θ τ.table → Is X H e f ρ → Limited (go τ e)

abbrev AtomsLimited : Text → Here → Table → (State → Atom → Answer Made) → Type 0
AtomsLimited X H Θ go = (τ : State) (a : Atom) (f : Full) (ρ : Ty) → Ready τ.table → Grown Θ τ.table → AtomMeans X H a f ρ → Limited (go τ a)

tuple-limited : (X : Text) (H : Here) (Θ : Table) (go : State → Tree → Answer Made) (σ : State) (e : Tree) (es : Trees) (f : Full) (ρ : Ty) → Makes X H Θ go → MakesLimited X H Θ go → Ready σ.table → Grown Θ σ.table → Tuple X H e es f ρ → Limited (tuple_of go σ e es)
tuple-limited X H Θ go σ e noTrees f ρ W L R g (alone d) = L σ e f ρ R g d
tuple-limited X H Θ go σ e (trees at d es) f ρ W L R g (pairs {v = v} {w = w} {τ = τ} {ρ = υ} p ps q) =
    limited-step (StandsFor σ (Is X H e)) (go σ e) (λ a. tuple_of go a.state d es >>= λ b. pair_of at a b) (W σ e R g) (L σ e v τ R g p) λ a (Ra, ga, la, lowa, ia).
    limited-step (StandsFor a.state (Tuple X H d es)) (tuple_of go a.state d es) (λ b. pair_of at a b) (tuple-stands X H Θ go a.state d es W Ra (grown_on Θ σ.table a.state.table g ga)) (tuple-limited X H Θ go a.state d es w υ W L Ra (grown_on Θ σ.table a.state.table g ga) ps) λ b (Rb, gb, lb, lowb, ib). pair_limited at a b Rb

spine_limited : (X : Text) (H : Here) (Θ : Table) (go : State → Atom → Answer Made) (at : ℕ) (f : Made) (es : Atoms) (h e : Full) (φ τ : Ty) → MakesAtoms X H Θ go → AtomsLimited X H Θ go → Whole f → Grown Θ f.state.table → Applied X H h φ es e τ → Limited (spine_of go at f es)
spine_limited X H Θ go at f noAtoms h e φ τ W L Wf g d = tt
spine_limited X H Θ go at f (atoms a es) h e φ τ W L (R, l, low) g (to-more {x = x₀} {α = α} da d) =
    limited-step (StandsFor f.state (AtomMeans X H a)) (go f.state a) (λ x. applied at (rec_at x.state.table f.type) f x >>= λ y. spine_of go at y es) (W f.state a R g) (L f.state a x₀ α R g da) λ x (Rx, gx, lx, lowx, ix).
    let Φ : Table = x.state.table in
    let E : Full → Ty → Type 0 = Exactly (Means.app_of (tree Φ f.type) (tree Φ x.type) (full Φ f.term) (full Φ x.term)) (Means.result_of (tree Φ f.type)) in
    limited-step (StandsFor x.state E) (applied at (rec_at Φ f.type) f x) (λ y. spine_of go at y es) (applied-stands at f x ((R, l, low), gx, (Rx, lx, lowx))) (applied-limited at (rec_at Φ f.type) f x) λ y (Ry, gy, ly, lowy, iy).
    spine_limited X H Θ go at y es _ e _ τ W L (Ry, ly, lowy) (grown_on Θ f.state.table y.state.table g (grown_on f.state.table Φ y.state.table gx gy)) d

-- ---- atoms

abbrev pub TermLimited : Text → ℕ → Type 0
TermLimited X more = (S : Scope) (σ : State) (e : Tree) (f : Full) (ρ : Ty) → Ready σ.table → LowScope (length σ.table) S → Is X (here_of σ.table S) e f ρ → Limited (term_of X more S σ e)

makes-limited : (X : Text) (more : ℕ) (S : Scope) (σ : State) → TermLimited X more → LowScope (length σ.table) S → MakesLimited X (here_of σ.table S) σ.table (λ τ e. term_of X more S τ e)
makes-limited X more S σ limits low τ e f ρ R g is = limits S τ e f ρ R (lifted S σ.table τ.table g low) (subst (λ (G : Here). Is X G e f ρ) (sym (here_grown σ.table τ.table S g low)) is)

module _ (X : Text) (more : ℕ) (limits : TermLimited X more) (S : Scope) (σ : State) (low : LowScope (length σ.table) S) where
  abbrev here : Here
  here = here_of σ.table S

  abbrev type_in : Scope → State → TypeTree → Answer Found
  type_in R τ t = type_of X more R τ t

  abbrev put_term : Scope → State → Body → Answer Made
  put_term = body_term (λ R τ e. term_of X more R τ e)

  named-limited :
      (τ : State) (at : ℕ) (n : Name) (ts : TypeTrees) (ks : List Number) {τs : List Ty} {ns : List ℕ} {j : ℕ} {c : Clause} {b : Tree} {f : Full} {ρ : Ty}
      → Ready τ.table → Grown σ.table τ.table
      → TypesAre X here ts τs → numbers_of S.numbers ks ≡ good ns → First false n (length τs) ns (take S.seen X.clauses) j c → c.body ≡ of_term b → Is X (in_clause X.clauses c j τs ns) b f ρ
      → Limited (put_in X false S type_in put_term τ at n ts ks)
  named-limited τ at n ts ks {τs = τs} {ns} {j} {c} {b} {f} {ρ} R g are ne picked be is = put-limited X false S here type_in put_term τ at n ts ks τs ns j c (all_hold X here σ.table type_in S at 0 τ ts (works_all X more S σ (type_sound X more) low) R g) (all-limited X here σ.table type_in S at 0 τ ts τs (works_all X more S σ (type_sound X more) low) (limited-all X more S σ (type_limited X more) low) R g are) are ne picked λ P υ Rυ lowυ same.
      subst (λ (d : Body). Limited (put_term P υ d)) (sym be) (limits P υ b f ρ Rυ lowυ (subst (λ (G : Here). Is X G b f ρ) (sym same) is))

  -- a name that stands alone: a variable, or what is put in
  alone-limited : (τ : State) (at : ℕ) (n : Name) → Ready τ.table → Grown σ.table τ.table → (((i : ℕ) (ρ : Ty) → Nearest n here.variables i ρ → ⊥) → Limited (put_in X false S type_in put_term τ at n no_types [])) → Limited (atom_of X S type_in (λ υ e. term_of X more S υ e) put_term τ (named at n no_types []))
  alone-limited τ at n R g k = lookup_says (λ (m : Answer Made). Limited m) σ.table n S.variables 0 (length σ.table) (λ j v. node at (variable τ.table j v) v 0 [] τ) (put_in X false S type_in put_term τ at n no_types []) low.1 (λ j v l near'. node-limited _ _ _ _ _ _) k

  atom-limited : AtomsLimited X here σ.table (λ τ a. atom_of X S type_in (λ υ e. term_of X more S υ e) put_term τ a)
  atom-limited τ (part at p) f ρ R g d = part-limited X.edition τ at p R
  atom-limited τ (tuple e es) f ρ R g (tuple-means d) = tuple-limited X here σ.table (λ υ t. term_of X more S υ t) τ e es f ρ (makes_of X more S σ (term_sound X more) low) (makes-limited X more S σ limits low) R g d
  atom-limited τ (named at n ts ks) f ρ R g (variable-means {i = i} h e) = alone-limited τ at n R g λ none. absurd (none i ρ h)
  atom-limited τ (named at n no_types []) f ρ R g (put_means free are ne picked be d) = alone-limited τ at n R g λ none. named-limited τ at n no_types [] R g are ne picked be d
  atom-limited τ (named at n no_types (k ∷ ks)) f ρ R g (put_means free are ne picked be d) = named-limited τ at n no_types (k ∷ ks) R g are ne picked be d
  atom-limited τ (named at n (types t ts) ks) f ρ R g (put_means free are ne picked be d) = named-limited τ at n (types t ts) ks R g are ne picked be d

-- ---- terms

pub term_limited : (X : Text) (more : ℕ) → TermLimited X more
term_limited X zero S σ (spine at a es) f ρ R low d = refl
term_limited X zero S σ (fun at xs t e) f ρ R low d = refl
term_limited X zero S σ (fix at x t e) f ρ R low d = refl
term_limited X zero S σ (name at x v e) f ρ R low d = refl
term_limited X zero S σ (apart at xs v e) f ρ R low d = refl
term_limited X (suc more) S σ (spine at a es) f ρ R low (spine-is {f = f₀} {φ = φ} da dp) =
    let H : Here = here_of σ.table S in
    let go : State → Atom → Answer Made = atom_of X S (λ Q τ t. type_of X more Q τ t) (λ τ d. term_of X more S τ d) (body_term (λ Q τ d. term_of X more Q τ d)) in
    let W : MakesAtoms X H σ.table go = atom_stands X more (term_sound X more) S σ low in
    let L : AtomsLimited X H σ.table go = atom-limited X more (term_limited X more) S σ low in
    limited-step (StandsFor σ (AtomMeans X H a)) (go σ a) (λ g. spine_of go at g es) (W σ a R (grown_same σ.table)) (L σ a f₀ φ R (grown_same σ.table) da) λ g (Rg, gg, lg, lowg, ig).
    spine_limited X H σ.table go at g es f₀ f φ ρ W L (Rg, lg, lowg) gg dp
term_limited X (suc more) S σ (fun at xs t e) f ρ R low (fun-is {e = d} {θ = θ₀} {τ = τ} dt db p r) =
    let H : Here = here_of σ.table S in
    limited-step (Reached σ (TypeIs X H t)) (type_of X more S σ t) (λ θ. need (leb (entries S + length xs) most_entries) 34 at >>= λ _. term_of X more (with_variables S (bind_all xs θ.type S.variables)) θ.state e >>= λ b. functions_of xs θ.type b) (type_sound X more S σ t R low) (type_limited X more S σ t θ₀ R low dt) λ θ (Rθ, gθ, lθ, isθ).
    let Θ : Table = θ.state.table in
    let Γ : List Entry = bind_all xs θ.type S.variables in
    let lowθ = lifted S σ.table Θ gθ low in
    let lowΓ : LowScope (length Θ) (with_variables S Γ) = (lowθ.0, low_bound (length Θ) xs θ.type S.variables lθ lowθ.1) in
    let scope : here_of Θ (with_variables S Γ) ≡ with H (enter xs (tree Θ θ.type) H.variables) = inner S σ.table Θ Γ gθ low ∙ ap (λ (Δ : List TypeEntry). with H Δ) (shown_bound Θ xs θ.type S.variables ∙ ap (λ (Δ : List TypeEntry). enter xs (tree Θ θ.type) Δ) (shown_grown σ.table Θ S.variables gθ low.1)) in
    let body : Is X (here_of Θ (with_variables S Γ)) e d τ = subst (λ (G : Here). Is X G e d τ) (sym scope) (subst (λ (υ : Ty). Is X (with H (enter xs υ H.variables)) e d τ) (type_one dt isθ) db) in
    limited_by (leb (entries S + length xs) most_entries) at _ (limited-step (StandsFor θ.state (Is X (here_of Θ (with_variables S Γ)) e)) (term_of X more (with_variables S Γ) θ.state e) (λ b. functions_of xs θ.type b) (term_sound X more (with_variables S Γ) θ.state e Rθ lowΓ) (term_limited X more (with_variables S Γ) θ.state e d τ Rθ lowΓ body) λ b (Rb, gb, lb, lowb, isb). functions-limited xs θ.type b (Rb, lb, lowb) (omega (arith, lθ, grown_length Θ b.state.table gb)))
term_limited X (suc more) S σ (fix at x t e) f ρ R low (fix_is {e = d} {θ = θ₀} {τ = τ} dt db) =
    let H : Here = here_of σ.table S in
    limited-step (Reached σ (TypeIs X H t)) (type_of X more S σ t) (λ θ. need (leb (entries S + 1) most_entries) 34 at >>= λ _. term_of X more (with_variables S (bind x θ.type S.variables)) θ.state e >>= λ b. node x.place (Terms.fix θ.type b.term) θ.type b.deep b.places b.state) (type_sound X more S σ t R low) (type_limited X more S σ t θ₀ R low dt) λ θ (Rθ, gθ, lθ, isθ).
    let Θ : Table = θ.state.table in
    let Γ : List Entry = bind x θ.type S.variables in
    let lowθ = lifted S σ.table Θ gθ low in
    let lowΓ : LowScope (length Θ) (with_variables S Γ) = (lowθ.0, (lθ, lowθ.1)) in
    let scope : here_of Θ (with_variables S Γ) ≡ with H (entry x (tree Θ θ.type) ∷ H.variables) = inner S σ.table Θ Γ gθ low ∙ ap (λ (Δ : List TypeEntry). with H (entry x (tree Θ θ.type) ∷ Δ)) (shown_grown σ.table Θ S.variables gθ low.1) in
    let body : Is X (here_of Θ (with_variables S Γ)) e d τ = subst (λ (G : Here). Is X G e d τ) (sym scope) (subst (λ (υ : Ty). Is X (with H (entry x υ ∷ H.variables)) e d τ) (type_one dt isθ) db) in
    limited_by (leb (entries S + 1) most_entries) at _ (limited-any (term_of X more (with_variables S Γ) θ.state e) _ (term_limited X more (with_variables S Γ) θ.state e d τ Rθ lowΓ body) λ b. node-limited _ _ _ _ _ _)
term_limited X (suc more) S σ (name at x v e) f ρ R low (name_is {v = v₀} {e = d} {α = α} dv db p) =
    let H : Here = here_of σ.table S in
    limited-step (StandsFor σ (Is X H v)) (term_of X more S σ v) (λ a. need (leb (entries S + 1) most_entries) 34 at >>= λ _. term_of X more (with_variables S (bind x a.type S.variables)) a.state e >>= λ b. name_of X.edition x a b) (term_sound X more S σ v R low) (term_limited X more S σ v v₀ α R low dv) λ a (Ra, ga, la, lowa, isa).
    let Θ : Table = a.state.table in
    let Γ : List Entry = bind x a.type S.variables in
    let lowΘ = lifted S σ.table Θ ga low in
    let lowΓ : LowScope (length Θ) (with_variables S Γ) = (lowΘ.0, (la, lowΘ.1)) in
    let scope : here_of Θ (with_variables S Γ) ≡ with H (entry x (tree Θ a.type) ∷ H.variables) = inner S σ.table Θ Γ ga low ∙ ap (λ (Δ : List TypeEntry). with H (entry x (tree Θ a.type) ∷ Δ)) (shown_grown σ.table Θ S.variables ga low.1) in
    let body : Is X (here_of Θ (with_variables S Γ)) e d ρ = subst (λ (G : Here). Is X G e d ρ) (sym scope) (subst (λ (υ : Ty). Is X (with H (entry x υ ∷ H.variables)) e d ρ) (term_one dv isa).1 db) in
    limited_by (leb (entries S + 1) most_entries) at _ (limited-step (StandsFor a.state (Is X (here_of Θ (with_variables S Γ)) e)) (term_of X more (with_variables S Γ) a.state e) (λ b. name_of X.edition x a b) (term_sound X more (with_variables S Γ) a.state e Ra lowΓ) (term_limited X more (with_variables S Γ) a.state e d ρ Ra lowΓ body) λ b (Rb, gb, lb, lowb, isb). name-limited X.edition x a b Rb)
term_limited X (suc more) S σ (apart at xs v e) f ρ R low (apart-is {v = v₀} {α = α} dv da) =
    let H : Here = here_of σ.table S in
    let go : List Entry → State → Answer Made = λ Γ τ. term_of X more (with_variables S Γ) τ e in
    let L : (Γ : List Entry) (τ : State) (g : Full) (υ : Ty) → Ready τ.table → Grown σ.table τ.table → Low (length τ.table) Γ → Is X (with H (shown τ.table Γ)) e g υ → Limited (go Γ τ) = λ Γ τ g υ Rτ gτ lowΓ is. term_limited X more (with_variables S Γ) τ e g υ Rτ ((lifted S σ.table τ.table gτ low).0, lowΓ) (subst (λ (K : Here). Is X K e g υ) (sym (inner S σ.table τ.table Γ gτ low)) is) in
    limited-step (StandsFor σ (Is X H v)) (term_of X more S σ v) (λ a. need (leb (entries S + (length xs + length xs)) most_entries) 34 at >>= λ _. apart_of go S.variables xs a) (term_sound X more S σ v R low) (term_limited X more S σ v v₀ α R low dv) λ a (Ra, ga, la, lowa, isa).
    let Θ : Table = a.state.table in
    limited_by (leb (entries S + (length xs + length xs)) most_entries) at _ (apart-limited X H σ.table e go L xs a S.variables v₀ f α ρ (Ra, la, lowa) ga (lifted S σ.table Θ ga low).1 (term_one isa dv).1 (subst (λ (Δ : List TypeEntry). Apart X (with H Δ) xs v₀ α e f ρ) (sym (shown_grown σ.table Θ S.variables ga low.1)) da))

-- ---- the text

lines-limited : (X : Text) (σ : State) (ls : List Line) → Ready σ.table → All (LineMeans X) ls → Limited (lines_table X σ ls)
lines-limited X σ [] R h = tt
lines-limited X σ (l ∷ ls) R h = limited-step (Reached σ (TypeIs X (here_of σ.table (above l.seen)) l.type)) (type_of X most_nested (above l.seen) σ l.type) (λ t. lines_table X t.state ls) (type_sound X most_nested (above l.seen) σ l.type R (tt, tt)) (type_limited X most_nested (above l.seen) σ l.type h.0.0 R (tt, tt) h.0.1) λ t (Rt, gt, lt, it). lines-limited X t.state ls Rt h.1

body_judged : (X : Text) (i : ℕ) (σ : State) (b : Body) → Ready σ.table → BodyMeans X i b → Limited (judged_body X i σ b)
body_judged X i σ (of_type t) R (τ, d) = limited-any {A = Found} {B = ℕ} (type_of X most_nested (above i) σ t) (λ x. good x.state.puts) (type_limited X most_nested (above i) σ t τ R (tt, tt) d) λ x. tt
body_judged X i σ (of_term e) R (f, τ, d) = limited-any {A = Made} {B = ℕ} (term_of X most_nested (above i) σ e) (λ m. good m.state.puts) (term_limited X most_nested (above i) σ e f τ R (tt, tt) d) λ m. tt

clauses_limited : (X : Text) (i : ℕ) (σ : State) (cs : List Clause) → Ready σ.table → ClausesMean X i cs → Limited (judged_from X i σ cs)
clauses_limited X i σ [] R h = tt
clauses_limited X i σ (c ∷ cs) R h = limited-step (λ (τ : State). Ready τ.table) (judged_clause X i σ c) (λ τ. judged_from X (suc i) τ cs) (judged_clause_lem X i σ c R) (one (is_judged c) refl) λ τ Rτ. clauses_limited X (suc i) τ cs Rτ h.1
  where
    next : ℕ → Answer State
    next k = good (record { table = σ.table; nodes = σ.nodes; puts = k })

    one : (b : Bool) → is_judged c ≡ b → Limited (cond b (one_put σ (cost_of c) c.head.place >>= λ τ. judged_body X i τ c.body >>= next) (good σ))
    one true e = limited-step (λ (τ : State). τ.table ≡ σ.table) (one_put σ (cost_of c) c.head.place) (λ τ. judged_body X i τ c.body >>= next) (one_put_lem σ (cost_of c) c.head.place) (limited_by (leb (σ.puts + cost_of c) most_puts) c.head.place _ tt) λ τ same. limited-any (judged_body X i τ c.body) next (body_judged X i τ c.body (subst (λ (Θ : Table). Ready Θ) (sym same) R) (h.0 (subst (λ (b : Bool). T b) (sym e) tt))) λ k. tt
    one false e = tt

main_limited : (X : Text) → AllMeans X → Limited (main_of X)
unfolding main_of
main_limited X all =
    let S : Scope = above (length X.clauses) in
    let type : Scope → State → TypeTree → Answer Found = λ Q τ t. type_of X most_nested Q τ t in
    let go : Scope → State → Body → Answer Made = body_term (λ Q τ e. term_of X most_nested Q τ e) in
    limited-step (λ (τ : State). Ready τ.table) (lines_table X start X.lines) (λ σ. judged_from X 0 σ X.clauses >>= λ τ. put_in X false S type go τ X.end main_name no_types []) (lines_ready X start X.lines start_ready) (lines-limited X start X.lines start_ready all.lines) λ ρ Rρ.
    limited-step (λ (τ : State). Ready τ.table) (judged_from X 0 ρ X.clauses) (λ σ. put_in X false S type go σ X.end main_name no_types []) (judged_ready X 0 ρ X.clauses Rρ) (clauses_limited X 0 ρ X.clauses Rρ all.clauses) λ σ R.
    main σ R all.main.1
  where
    main : (σ : State) → Ready σ.table → {e : Full} → Means X e → Limited (put_in X false (above (length X.clauses)) (λ Q τ t. type_of X most_nested Q τ t) (body_term (λ Q τ e. term_of X most_nested Q τ e)) σ X.end main_name no_types [])
    main σ R (τ, variable-means h p) = absurd (no-variable h)
      where
        no-variable : {n : Name} {i : ℕ} {υ : Ty} → Nearest n [] i υ → ⊥
        no-variable = elim [ ]
    main σ R (τ, put_means free are ne picked be d) = named-limited X most_nested (term_limited X most_nested) (above (length X.clauses)) σ (tt, tt) σ X.end main_name no_types [] R (grown_same σ.table) are ne picked be d

-- where every part of a text means something, the text is made, or a limit is passed: 33 and 35 tell of a part that means nothing
pub means_made : (X : Text) → AllMeans X → Limited (sheet_of X)
unfolding sheet_of
means_made X all = limited-any {A = Made} {B = Placed} (main_of X) (λ m. good (record { sheet = record { edition = X.edition; table = m.state.table; term = m.term }; places = m.places })) (main_limited X all) λ m. tt
