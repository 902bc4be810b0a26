-- Hygiene: a definition that is put in is a closed term, so no variable of the place where it is named is caught; and the sheet of a text
-- has no variable out of scope. Assumes nothing.
use Prim.Native.Nat.{ℕ, zero, suc, ◌+◌, ◌<◌, ◌≤◌}
use mathlib.Core.Path.{◌≡◌, refl, ap, subst, ◌∙◌}
use mathlib.Core.Bool.{Bool, false, ◌&&◌, cond}
use mathlib.Core.List.{List, [], ◌∷◌, ◌++◌}
use native.Mathlib.Omega.{arith}
use lib.Dec.{ltb, leb}
use lib.ListN.{length, take}
use Rattle.calculus.specs.Answer.{Answer, good, refused, ◌>>=◌, need}
use Rattle.calculus.specs.Types.{TyRec, rec01, rec02, rec03, rec04, rec_at}
use Rattle.calculus.specs.Terms.{Edition, is_second, Term, var, lvar, app, lfun, lapp, proj, con, part_at}
use Rattle.calculus.specs.Terms as Terms
use Rattle.laws.proofs.Tests.{on_cond}
use Rattle.notation_calculus.specs.Words.{Name, same_name}
use Rattle.notation_calculus.specs.Trees.{Bound, Number, TypeTree, TypeTrees, no_types, types, Tree, spine, fun, fix, name, apart, Atom, named, part, tuple, Atoms, noAtoms, atoms, Trees, noTrees, trees, Body, of_type, of_term, Clause, Text}
use Rattle.notation_calculus.specs.Grammar.{most_nested}
use Rattle.notation_calculus.specs.Making.{most_entries, State, Found, Entry, Scope, lookup, bind, bind_all, with_variables, entries, room_for, number_of, numbers_in, Put, put_of, meant, clause_for, one_put, FoundAll, waiting, found_all, no_arguments, put_in, type_of, Made, counted, node, larger, over, shares, variable, part_type, part_of, arrow_of, listed, function_of, functions_of, name_of, Halves, halves_of, rest, apart_of, half_of, pair_of, applied, tuple_of, body_term, atom_of, spine_of, term_of}
use Rattle.notation_calculus.specs.Make.{Placed, start, above, lines_table, judged_from, main_name, main_of, sheet_of}
use Rattle.notation_theorems.specs.Scoped.{Scoped}
use Rattle.notation_theorems.proofs.Answering.{On, on_step, on_any, on_test, on_either, on_good}

-- ---- terms

-- more binders around a term do no harm
pub scoped_more : (j k : ℕ) (e : Term) → j ≤ k → Scoped j e → Scoped k e
scoped_more j k (var i) h s = omega arith
scoped_more j k (lvar i) h s = omega arith
scoped_more j k (Terms.fun t e) h s = scoped_more (suc j) (suc k) e (omega arith) s
scoped_more j k (app f a) h s = (scoped_more j k f h s.0, scoped_more j k a h s.1)
scoped_more j k (lfun t e) h s = scoped_more (suc j) (suc k) e (omega arith) s
scoped_more j k (lapp f a) h s = (scoped_more j k f h s.0, scoped_more j k a h s.1)
scoped_more j k (Terms.pair t a b) h s = (scoped_more j k a h s.0, scoped_more j k b h s.1)
scoped_more j k (proj a e) h s = (scoped_more j k a h s.0, scoped_more (suc (suc j)) (suc (suc k)) e (omega arith) s.1)
scoped_more j k (Terms.fix t e) h s = scoped_more (suc j) (suc k) e (omega arith) s
scoped_more j k (con p t) h s = tt
scoped_more j k (Terms.name a e) h s = (scoped_more j k a h s.0, scoped_more (suc j) (suc k) e (omega arith) s.1)

-- a term that was made, under k binders
abbrev pub Fit : ℕ → Made → Type 0
Fit k m = Scoped k m.term

-- ---- nodes

node-fits : (k at : ℕ) (e : Term) (t below : ℕ) (ps : List ℕ) (σ : State) → Scoped k e → On (Fit k) (node at e t below ps σ)
unfolding node
node-fits k at e t below ps σ h =
    let m : Made = record { term = e; type = t; deep = suc below; places = at ∷ ps; state = counted σ } in
    on_test (Fit k) (ltb σ.nodes 2048) 34 at (λ _. need (ltb below 64) 34 at >>= λ _. good m) λ _. on_test (Fit k) (ltb below 64) 34 at (λ _. good m) λ _. h

over-fits : (k at : ℕ) (build : Term → Term → Term) (t : ℕ) (a b : Made) (σ : State) → Scoped k (build a.term b.term) → On (Fit k) (over at build t a b σ)
over-fits k at build t a b σ h = node-fits k at (build a.term b.term) t (larger a.deep b.deep) (a.places ++ b.places) σ h

function_fits : (k : ℕ) (x : Bound) (t : ℕ) (e : Made) → Fit (suc k) e → On (Fit k) (function_of x t e)
function_fits k x t e h = on_any (Fit k) (listed e.state (arrow_of e.state.table t e.type) x.place) _ λ w. node-fits k _ _ _ _ _ _ (on_cond (Scoped k) (shares e.state.table t) (Terms.fun w.type e.term) (lfun w.type e.term) (λ _. h) h)

functions-fit : (k : ℕ) (xs : List Bound) (t : ℕ) (e : Made) → Fit (length xs + k) e → On (Fit k) (functions_of xs t e)
functions-fit k [] t e h = subst (λ (n : ℕ). Scoped n e.term) {x = 0 + k} {y = k} (omega arith) h
functions-fit k (x ∷ xs) t e h = on_step (Fit (suc k)) (Fit k) (functions_of xs t e) _ (functions-fit (suc k) xs t e (subst (λ (n : ℕ). Scoped n e.term) (omega arith) h)) λ f g. function_fits k x t f g

name-fits : (k : ℕ) (E : Edition) (x : Bound) (v e : Made) → Fit k v → Fit (suc k) e → On (Fit k) (name_of E x v e)
name-fits k E x v e h g = on_either (Fit k) (is_second E && shares e.state.table v.type) (over x.place Terms.name e.type v e e.state) _ (over-fits k x.place Terms.name e.type v e e.state (h, g)) (on_step (Fit k) (Fit k) (function_of x v.type e) (λ f. over x.place (cond (shares e.state.table v.type) app lapp) e.type f v f.state) (function_fits k x v.type e g) λ f s. over-fits k x.place (cond (shares e.state.table v.type) app lapp) e.type f v f.state (either_way f s))
  where
    either_way : (f : Made) → Fit k f → Scoped k (cond (shares e.state.table v.type) app lapp f.term v.term)
    either_way f s = on_cond (λ (b : Term → Term → Term). Scoped k (b f.term v.term)) (shares e.state.table v.type) app lapp (λ _. (s, h)) (s, h)

pair_fits : (k at : ℕ) (a b : Made) → Fit k a → Fit k b → On (Fit k) (pair_of at a b)
pair_fits k at a b h g = on_any (Fit k) (listed b.state (rec02 (half_of b.state.table a.type) (half_of b.state.table b.type)) at) (λ t. over at (Terms.pair t.type) t.type a b t.state) λ t. over-fits k at (Terms.pair t.type) t.type a b t.state (h, g)

applied-fits : (k at : ℕ) (r : TyRec) (f a : Made) → Fit k f → Fit k a → On (Fit k) (applied at r f a)
applied-fits k at r f a h g = go r
  where
    by-sort : Scoped k (cond (shares a.state.table a.type) app lapp f.term a.term)
    by-sort = on_cond (λ (b : Term → Term → Term). Scoped k (b f.term a.term)) (shares a.state.table a.type) app lapp (λ _. (h, g)) (h, g)

    go : (q : TyRec) → On (Fit k) (applied at q f a)
    go rec01 = over-fits k at (cond (shares a.state.table a.type) app lapp) 0 f a a.state by-sort
    go (rec02 x y) = over-fits k at (cond (shares a.state.table a.type) app lapp) 0 f a a.state by-sort
    go (rec03 x y) = over-fits k at app y f a a.state (h, g)
    go (rec04 x y) = over-fits k at lapp y f a a.state (h, g)

part-fits : (k : ℕ) (E : Edition) (σ : State) (at p : ℕ) → On (Fit k) (part_of E σ at p)
part-fits k E σ at p = on_any (Fit k) (part_type E (part_at p).inputs σ at) _ λ t. node-fits k _ _ _ _ _ _ tt

apart_fits : (go : List Entry → State → Answer Made) (Γ : List Entry) (xs : List Bound) (v : Made) → ((Δ : List Entry) (σ : State) → On (Fit (length Δ)) (go Δ σ)) → Fit (length Γ) v → On (Fit (length Γ)) (apart_of go Γ xs v)
apart_fits go Γ [] v H h = tt
apart_fits go Γ (x ∷ []) v H h = tt
apart_fits go Γ (x ∷ y ∷ []) v H h =
    let hs : Halves = halves_of (rec_at v.state.table v.type) in
    on_step (Fit (suc (suc (length Γ)))) (Fit (length Γ)) (go (bind y hs.right (bind x hs.left Γ)) v.state) (λ e. over x.place proj e.type v e e.state) (H (bind y hs.right (bind x hs.left Γ)) v.state) λ e g.
    over-fits (length Γ) x.place proj e.type v e e.state (h, g)
apart_fits go Γ (x ∷ y ∷ z ∷ zs) v H h =
    let hs : Halves = halves_of (rec_at v.state.table v.type) in
    let Δ : List Entry = bind rest hs.right (bind x hs.left Γ) in
    on_step (Fit (suc (suc (length Γ)))) (Fit (length Γ)) (node y.place (var 0) hs.right 0 [] v.state) (λ r. apart_of go Δ (y ∷ z ∷ zs) r >>= λ e. over x.place proj e.type v e e.state) (node-fits (suc (suc (length Γ))) y.place (var 0) hs.right 0 [] v.state (omega arith)) λ r s.
    on_step (Fit (suc (suc (length Γ)))) (Fit (length Γ)) (apart_of go Δ (y ∷ z ∷ zs) r) (λ e. over x.place proj e.type v e e.state) (apart_fits go Δ (y ∷ z ∷ zs) r H s) λ e g.
    over-fits (length Γ) x.place proj e.type v e e.state (h, g)

-- ---- names

-- what is found has a number below the entries
lookup-below : {A : Type 0} (P : A → Type 0) (n : Name) (Γ : List Entry) (i : ℕ) (found : ℕ → ℕ → A) (other : A) → ((j v : ℕ) → j < i + length Γ → P (found j v)) → P other → P (lookup n Γ i found other)
lookup-below P n [] i found other f g = g
lookup-below P n (e ∷ es) i found other f g = on_cond P (same_name n e.name) (found i e.value) (lookup n es (suc i) found other) (λ _. f i e.value (omega arith)) (lookup-below P n es (suc i) found other (λ j v h. f j v (subst (λ (x : ℕ). j < x) (omega arith) h)) g)

bound_length : (xs : List Bound) (v : ℕ) (Γ : List Entry) → length (bind_all xs v Γ) ≡ length xs + length Γ
bound_length [] v Γ = omega arith
bound_length (x ∷ xs) v Γ = bound_length xs v (bind x v Γ) ∙ omega arith

-- ---- putting in

-- a definition is put in with no variable in scope
abbrev Bare : Put → Type 0
Bare p = p.scope.variables ≡ []

clause_bare : (under : ℕ) (all cs : List Clause) (i : ℕ) (sort : Bool) (n : Name) (ts ns : List ℕ) (at : ℕ) → On Bare (clause_for under all cs i sort n ts ns at)
clause_bare under all [] i sort n ts ns at = tt
clause_bare under all (c ∷ cs) i sort n ts ns at = on_either Bare (meant c sort n (length ts) ns) (good (put_of under all c i ts ns)) _ refl (clause_bare under all cs (suc i) sort n ts ns at)

-- whatever a definition makes of a body with no variable in scope, it makes where it is put in
put_in_bare :
    {A : Type 0} (P : A → Type 0) (X : Text) (sort : Bool) (S : Scope) (type : Scope → State → TypeTree → Answer Found) (go : Scope → State → Body → Answer A) (σ : State) (at : ℕ) (n : Name) (ts : TypeTrees) (ks : List Number)
    → ((R : Scope) (τ : State) (b : Body) → R.variables ≡ [] → On P (go R τ b))
    → On P (put_in X sort S type go σ at n ts ks)
put_in_bare P X sort S type go σ at n ts ks H =
    on_any P (found_all type S at 0 σ ts) _ λ xs.
    on_any P (numbers_in S at (length xs.types) ks) _ λ ns.
    on_step Bare P (clause_for (entries S) X.clauses (take S.seen X.clauses) 0 sort n xs.types ns at) _ (clause_bare (entries S) X.clauses (take S.seen X.clauses) 0 sort n xs.types ns at) λ p bare.
    on_any P (one_put xs.state p.cost at) _ λ τ. H p.scope τ p.body bare

-- ---- terms

tuple-fits : (k : ℕ) (go : State → Tree → Answer Made) (σ : State) (e : Tree) (es : Trees) → ((τ : State) (d : Tree) → On (Fit k) (go τ d)) → On (Fit k) (tuple_of go σ e es)
tuple-fits k go σ e noTrees H = H σ e
tuple-fits k go σ e (trees at d es) H = on_step (Fit k) (Fit k) (go σ e) _ (H σ e) λ a f. on_step (Fit k) (Fit k) (tuple_of go a.state d es) _ (tuple-fits k go a.state d es H) λ b g. pair_fits k at a b f g

spine_fits : (k : ℕ) (go : State → Atom → Answer Made) (at : ℕ) (f : Made) (es : Atoms) → ((τ : State) (a : Atom) → On (Fit k) (go τ a)) → Fit k f → On (Fit k) (spine_of go at f es)
spine_fits k go at f noAtoms H h = h
spine_fits k go at f (atoms a es) H h = on_step (Fit k) (Fit k) (go f.state a) _ (H f.state a) λ x g. on_step (Fit k) (Fit k) (applied at (rec_at x.state.table f.type) f x) _ (applied-fits k at (rec_at x.state.table f.type) f x h g) λ y s. spine_fits k go at y es H s

-- the terms of a scope fit it, by the levels left
Fits : Text → ℕ → Type 0
Fits X more = (S : Scope) (σ : State) (e : Tree) → On (Fit (length S.variables)) (term_of X more S σ e)

body-fits : (X : Text) (more : ℕ) (k : ℕ) → ((S : Scope) (σ : State) (e : Tree) → On (Fit (length S.variables)) (term_of X more S σ e)) → (R : Scope) (τ : State) (b : Body) → R.variables ≡ [] → On (Fit k) (body_term (λ S σ e. term_of X more S σ e) R τ b)
body-fits X more k H R τ (of_type t) bare = tt
body-fits X more k H R τ (of_term e) bare = loosened (term_of X more R τ e) (H R τ e)
  where
    loosened : (m : Answer Made) → On (Fit (length R.variables)) m → On (Fit k) m
    loosened (good m) h = scoped_more 0 k m.term (omega arith) (subst (λ (Γ : List Entry). Scoped (length Γ) m.term) bare h)
    loosened (refused why) h = tt

atom_fits : (X : Text) (more : ℕ) (S : Scope) (σ : State) (a : Atom) → ((R : Scope) (τ : State) (e : Tree) → On (Fit (length R.variables)) (term_of X more R τ e)) → On (Fit (length S.variables)) (atom_of X S (λ R τ t. type_of X more R τ t) (λ τ e. term_of X more S τ e) (body_term (λ R τ e. term_of X more R τ e)) σ a)
atom_fits X more S σ (part at p) H = part-fits (length S.variables) X.edition σ at p
atom_fits X more S σ (tuple e es) H = tuple-fits (length S.variables) (λ τ d. term_of X more S τ d) σ e es (λ τ d. H S τ d)
atom_fits X more S σ (named at n ts ks) H = on_either (Fit k) (no_arguments ts ks) _ _ (lookup-below (On (Fit k)) n S.variables 0 _ _ (λ j v h. found j v (omega arith)) there) there
  where
    k : ℕ
    k = length S.variables

    found : (j v : ℕ) → j < length S.variables → On (Fit (length S.variables)) (node at (variable σ.table j v) v 0 [] σ)
    found j v h = node-fits (length S.variables) at (variable σ.table j v) v 0 [] σ (on_cond (Scoped (length S.variables)) (shares σ.table v) (var j) (lvar j) (λ _. h) h)

    there : On (Fit (length S.variables)) (put_in X false S (λ R τ t. type_of X more R τ t) (body_term (λ R τ e. term_of X more R τ e)) σ at n ts ks)
    there = put_in_bare (Fit (length S.variables)) X false S (λ R τ t. type_of X more R τ t) (body_term (λ R τ e. term_of X more R τ e)) σ at n ts ks (body-fits X more (length S.variables) H)

-- every variable of a term that is made is bound in it, or is one of the scope's
pub term_fits : (X : Text) (more : ℕ) (S : Scope) (σ : State) (e : Tree) → On (Fit (length S.variables)) (term_of X more S σ e)
term_fits X zero S σ (spine at a es) = tt
term_fits X zero S σ (fun at xs t e) = tt
term_fits X zero S σ (fix at x t e) = tt
term_fits X zero S σ (name at x v e) = tt
term_fits X zero S σ (apart at xs v e) = tt
term_fits X (suc more) S σ (spine at a es) =
    let go : State → Atom → Answer Made = atom_of X S (λ R τ t. type_of X more R τ t) (λ τ d. term_of X more S τ d) (body_term (λ R τ d. term_of X more R τ d)) in
    on_step (Fit (length S.variables)) (Fit (length S.variables)) (go σ a) (λ f. spine_of go at f es) (atom_fits X more S σ a (term_fits X more)) λ f h.
    spine_fits (length S.variables) go at f es (λ τ b. atom_fits X more S τ b (term_fits X more)) h
term_fits X (suc more) S σ (fun at xs t e) =
    on_any (Fit (length S.variables)) (type_of X more S σ t) _ λ θ.
    on_any (Fit (length S.variables)) (room_for S (length xs) at) _ λ _.
    on_step (Fit (length (bind_all xs θ.type S.variables))) (Fit (length S.variables)) (term_of X more (with_variables S (bind_all xs θ.type S.variables)) θ.state e) _ (term_fits X more (with_variables S (bind_all xs θ.type S.variables)) θ.state e) λ b h.
    functions-fit (length S.variables) xs θ.type b (subst (λ (n : ℕ). Scoped n b.term) (bound_length xs θ.type S.variables) h)
term_fits X (suc more) S σ (fix at x t e) =
    on_any (Fit (length S.variables)) (type_of X more S σ t) _ λ θ.
    on_any (Fit (length S.variables)) (room_for S 1 at) _ λ _.
    on_step (Fit (suc (length S.variables))) (Fit (length S.variables)) (term_of X more (with_variables S (bind x θ.type S.variables)) θ.state e) _ (term_fits X more (with_variables S (bind x θ.type S.variables)) θ.state e) λ b h.
    node-fits (length S.variables) _ _ _ _ _ _ h
term_fits X (suc more) S σ (name at x v e) =
    on_step (Fit (length S.variables)) (Fit (length S.variables)) (term_of X more S σ v) _ (term_fits X more S σ v) λ a h.
    on_any (Fit (length S.variables)) (room_for S 1 at) _ λ _.
    on_step (Fit (suc (length S.variables))) (Fit (length S.variables)) (term_of X more (with_variables S (bind x a.type S.variables)) a.state e) _ (term_fits X more (with_variables S (bind x a.type S.variables)) a.state e) λ b g.
    name-fits (length S.variables) X.edition x a b h g
term_fits X (suc more) S σ (apart at xs v e) =
    on_step (Fit (length S.variables)) (Fit (length S.variables)) (term_of X more S σ v) _ (term_fits X more S σ v) λ a h.
    on_any (Fit (length S.variables)) (room_for S (length xs + length xs) at) _ λ _.
    apart_fits (λ Γ τ. term_of X more (with_variables S Γ) τ e) S.variables xs a (λ Γ τ. term_fits X more (with_variables S Γ) τ e) h

-- ---- the theorems

-- a definition is a closed term wherever it is put in
pub put_in_closed :
    (X : Text) (more : ℕ) (S : Scope) (type : Scope → State → TypeTree → Answer Found) (σ : State) (at : ℕ) (n : Name) (ts : TypeTrees) (ks : List Number) (m : Made)
    → put_in X false S type (body_term (λ R τ e. term_of X more R τ e)) σ at n ts ks ≡ good m
    → Scoped 0 m.term
put_in_closed X more S type σ at n ts ks m e = on_good (Fit 0) _ m (put_in_bare (Fit 0) X false S type _ σ at n ts ks (body-fits X more 0 (term_fits X more))) e

same_after : {A B : Type 0} (m : Answer A) (f g : A → Answer B) → ((a : A) → f a ≡ g a) → (m >>= f) ≡ (m >>= g)
same_after (good a) f g h = h a
same_after (refused why) f g h = refl

-- arguments are worked out without the variables: only their number counts, for the limit
types_alone :
    (S : Scope) (Γ : List Entry) (type : Scope → State → TypeTree → Answer Found) (at i : ℕ) (σ : State) (ts : TypeTrees)
    → length Γ ≡ length S.variables
    → found_all type (with_variables S Γ) at i σ ts ≡ found_all type S at i σ ts
types_alone S Γ type at i σ no_types e = refl
types_alone S Γ type at i σ (types t ts) e =
    ap (λ (k : ℕ). room k >>= λ _. type (over-entries k) σ t >>= λ x. rest_of (with_variables S Γ) x) e ∙ same_after (room (length S.variables)) _ _ λ _. same_after (type (waiting S i) σ t) _ _ λ x. ap (λ (m : Answer FoundAll). m >>= λ xs. good (record { types = x.type ∷ xs.types; state = xs.state })) (types_alone S Γ type at (suc i) x.state ts e)
  where
    room : ℕ → Answer (Unit {0})
    room k = need (leb (S.under + k + suc i) most_entries) 34 at

    over-entries : ℕ → Scope
    over-entries k = record { seen = S.seen; under = S.under + k + i; types = S.types; numbers = S.numbers; variables = [] }

    rest_of : Scope → Found → Answer FoundAll
    rest_of R x = found_all type R at (suc i) x.state ts >>= λ xs. good (record { types = x.type ∷ xs.types; state = xs.state })

numbers_alone : (S : Scope) (Γ : List Entry) (at i : ℕ) (ks : List Number) → length Γ ≡ length S.variables → numbers_in (with_variables S Γ) at i ks ≡ numbers_in S at i ks
numbers_alone S Γ at i [] e = refl
numbers_alone S Γ at i (k ∷ ks) e =
    ap (λ (n : ℕ). room n >>= λ _. number_of S.numbers k >>= λ v. rest_of (with_variables S Γ) v) e ∙ same_after (room (length S.variables)) _ _ λ _. same_after (number_of S.numbers k) _ _ λ v. ap (λ (m : Answer (List ℕ)). m >>= λ vs. good (v ∷ vs)) (numbers_alone S Γ at (suc i) ks e)
  where
    room : ℕ → Answer (Unit {0})
    room n = need (leb (S.under + n + suc i) most_entries) 34 at

    rest_of : Scope → ℕ → Answer (List ℕ)
    rest_of R v = numbers_in R at (suc i) ks >>= λ vs. good (v ∷ vs)

-- .. and what it is does not depend on the variables there: only their number counts, for the limit
pub put_in_alone :
    {A : Type 0} (X : Text) (sort : Bool) (S : Scope) (Γ : List Entry) (type : Scope → State → TypeTree → Answer Found) (go : Scope → State → Body → Answer A) (σ : State) (at : ℕ) (n : Name) (ts : TypeTrees) (ks : List Number)
    → length Γ ≡ length S.variables
    → put_in X sort (with_variables S Γ) type go σ at n ts ks ≡ put_in X sort S type go σ at n ts ks
put_in_alone {A = A} X sort S Γ type go σ at n ts ks e =
    ap (λ (m : Answer FoundAll). m >>= λ xs. numbers_in (with_variables S Γ) at (length xs.types) ks >>= λ ns. chosen (length Γ) xs ns) (types_alone S Γ type at 0 σ ts e)
    ∙ same_after (found_all type S at 0 σ ts) _ _ λ xs.
    ap (λ (m : Answer (List ℕ)). m >>= λ ns. chosen (length Γ) xs ns) (numbers_alone S Γ at (length xs.types) ks e) ∙ ap (λ (k : ℕ). numbers_in S at (length xs.types) ks >>= λ ns. chosen k xs ns) e
  where
    chosen : ℕ → FoundAll → List ℕ → Answer A
    chosen k xs ns = clause_for (S.under + k) X.clauses (take S.seen X.clauses) 0 sort n xs.types ns at >>= λ p. one_put xs.state p.cost at >>= λ τ. go p.scope τ p.body

-- the term of a text is closed: its sheet has no variable out of scope
main_closed : (X : Text) → On (Fit 0) (main_of X)
unfolding main_of
main_closed X =
    let go : Scope → State → Body → Answer Made = body_term (λ S τ e. term_of X most_nested S τ e) in
    let type : Scope → State → TypeTree → Answer Found = λ R τ t. type_of X most_nested R τ t in
    let S : Scope = above (length X.clauses) in
    on_any (Fit 0) (lines_table X start X.lines) (λ σ. judged_from X 0 σ X.clauses >>= λ τ. put_in X false S type go τ X.end main_name no_types []) λ ρ.
    on_any (Fit 0) (judged_from X 0 ρ X.clauses) (λ σ. put_in X false S type go σ X.end main_name no_types []) λ σ.
    put_in_bare (Fit 0) X false S type go σ X.end main_name no_types [] (body-fits X most_nested 0 (term_fits X most_nested))

pub made-closed : (X : Text) (p : Placed) → sheet_of X ≡ good p → Scoped 0 p.sheet.term
unfolding sheet_of
made-closed X p e =
    let Closed : Placed → Type 0 = λ q. Scoped 0 q.sheet.term in
    on_good Closed (sheet_of X) p (on_step (Fit 0) Closed (main_of X) (λ m. good (record { sheet = record { edition = X.edition; table = m.state.table; term = m.term }; places = m.places })) (main_closed X) λ m h. h) e
