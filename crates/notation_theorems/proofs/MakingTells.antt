-- A text's term is refused at places that its trees name: a definition that is put in has the sort that was asked, and a list that is taken
-- apart has two names, so that the refusals at 0 never come. Assumes nothing.
use Prim.Native.Nat.{ℕ, zero, suc, ◌+◌}
use mathlib.Core.Bool.{Bool, true, false, ◌&&◌, cond}
use mathlib.Core.List.{List, [], ◌∷◌}
use lib.Dec.{T, eqb, leb, ltb}
use lib.ListN.{length, take}
use Rattle.calculus.specs.Answer.{Answer, good, refuse, numbered, ◌>>=◌}
use Rattle.calculus.specs.Types.{TyRec, rec01, rec02, rec03, rec04, rec_at, size, ty_of, tys_from}
use Rattle.calculus.specs.Read.{formed, repeated}
use Rattle.calculus.specs.Record.{All}
use Rattle.calculus.specs.Terms.{Edition, first, second, is_second, Term, var, lvar, app, lfun, lapp, proj, con, part_at}
use Rattle.calculus.specs.Terms as Terms
use Rattle.laws.proofs.Tests.{and_both}
use Rattle.sheet_theorems.proofs.Judging.{Judged, value, refusal, Any, of_bind, of_require, of_last}
use Rattle.notation_calculus.specs.Words.{Name, same_name}
use Rattle.notation_calculus.specs.Trees.{Bound, Number, TypeTree, typed, TypeAtom, one, ones, inside, typeNamed, Side, nothing, side, TypeTrees, no_types, types, Tree, spine, fun, fix, name, apart, Atom, named, part, tuple, Atoms, noAtoms, atoms, Trees, noTrees, trees, Body, of_type, of_term, Clause, Line, Text}
use Rattle.notation_calculus.specs.Grammar.{most_nested, is_type, same_sort}
use Rattle.notation_calculus.specs.Making.{most_puts, most_entries, State, Found, Entry, Scope, lookup, bind, bind_all, with_variables, entries, room_for, number_of, numbers_in, fit_all, Put, put_of, cost_of, meant, clause_for, one_put, waiting, found_all, no_arguments, put_in, form_of, joined, more_bits, ones_of, atom_type, body_type, type_of, Made, node, over, shares, variable, part_type, part_of, arrow_of, listed, function_of, functions_of, name_of, halves_of, apart_of, pair_of, applied, tuple_of, body_term, atom_of, spine_of, term_of}
use Rattle.notation_calculus.specs.Make.{start, above, lines_table, judged_body, judged_clause, is_judged, judged_from, main_name, main_of, sheet_of}
use Rattle.notation_theorems.specs.Standing.{Two, BoundOn, NumberOn, TypeOn, TypeAtomOn, SideOn, TypesOn, TreeOn, AtomOn, AtomsOn, TreesOn, BodyOn, ClauseOn, TypeLineOn, TextOn}
use Rattle.notation_theorems.proofs.Telling.{RefusedOn, unknown, beyond, unformed, of_tests, of_either}

all-taken : {A : Type 0} (P : A → Type 0) (n : ℕ) (l : List A) → All P l → All P (take n l)
all-taken P zero l h = tt
all-taken P (suc n) [] h = tt
all-taken P (suc n) (x ∷ l) h = (h.0, all-taken P n l h.1)

-- ---- types

module _ (P : ℕ → Type 0) where
  -- an answer whose value may be any
  abbrev Fine : {A : Type 0} → Answer A → Type 0
  Fine m = Judged (RefusedOn P) Any m

  listed-tells : (σ : State) (r : TyRec) (at : ℕ) → P at → Fine (listed σ r at)
  unfolding listed
  listed-tells σ r at h =
      of_either (repeated σ.table r) _ _ (value tt) (of_require (formed σ.table r) (numbered 35 at) _ (λ _. unformed at h) λ _.
      of_require (leb (size (ty_of (tys_from [] σ.table) r)) 128) (numbered 34 at) _ (λ _. beyond at h) λ _.
      of_require (ltb (length σ.table) 256) (numbered 34 at) _ (λ _. beyond at h) λ _. value tt)

  room-tells : (S : Scope) (more at : ℕ) → P at → Fine (room_for S more at)
  room-tells S more at h = of_last (leb (entries S + more) most_entries) (numbered 34 at) (beyond at h)

  put-tells : (σ : State) (cost at : ℕ) → P at → Fine (one_put σ cost at)
  put-tells σ cost at h = of_require (leb (σ.puts + cost) most_puts) (numbered 34 at) _ (λ _. beyond at h) λ _. value tt

  lookup-tells : {A : Type 0} (n : Name) (Γ : List Entry) (i : ℕ) (found : ℕ → ℕ → Answer A) (other : Answer A) → ((j v : ℕ) → Fine (found j v)) → Fine other → Fine (lookup n Γ i found other)
  lookup-tells n [] i found other f g = g
  lookup-tells n (e ∷ es) i found other f g = of_either (same_name n e.name) (found i e.value) (lookup n es (suc i) found other) (f i e.value) (lookup-tells n es (suc i) found other f g)

  number_tells : (Γ : List Entry) (k : Number) → NumberOn P k → Fine (number_of Γ k)
  number_tells Γ k h =
      of_either k.is_open _ _ (of_bind (lookup k.name Γ 0 (λ i v. good v) (refuse 33 k.place)) _ (lookup-tells k.name Γ 0 (λ i v. good v) (refuse 33 k.place) (λ j v. value tt) (refusal (unknown k.place h))) λ n _ _.
      of_require (leb (n + k.plus) 255) (numbered 34 k.place) _ (λ _. beyond k.place h) λ _. value tt) (value tt)

  numbers-tells : (S : Scope) (at i : ℕ) (ks : List Number) → P at → All (NumberOn P) ks → Fine (numbers_in S at i ks)
  numbers-tells S at i [] h hs = value tt
  numbers-tells S at i (k ∷ ks) h hs =
      of_bind (room_for S (suc i) at) _ (room-tells S (suc i) at h) λ _ _ _.
      of_bind (number_of S.numbers k) _ (number_tells S.numbers k hs.0) λ n _ _.
      of_bind (numbers_in S at (suc i) ks) _ (numbers-tells S at (suc i) ks h hs.1) λ ns _ _. value tt

  -- a body of the sort that was asked
  abbrev OfSort : Bool → Body → Type 0
  OfSort sort b = BodyOn P b × T (same_sort (is_type b) sort)

  clause-tells : (under : ℕ) (all cs : List Clause) (i : ℕ) (sort : Bool) (n : Name) (ts ns : List ℕ) (at : ℕ) → P at → All (ClauseOn P) cs → Judged (RefusedOn P) (λ (p : Put). OfSort sort p.body) (clause_for under all cs i sort n ts ns at)
  clause-tells under all [] i sort n ts ns at h hs = refusal (unknown at h)
  clause-tells under all (c ∷ cs) i sort n ts ns at h hs = of_tests (meant c sort n (length ts) ns) (good (put_of under all c i ts ns)) (clause_for under all cs (suc i) sort n ts ns at) (λ t. value (hs.0.1, sorted t)) λ _. clause-tells under all cs (suc i) sort n ts ns at h hs.1
    where
      sorted : T (meant c sort n (length ts) ns) → T (same_sort (is_type c.body) sort)
      sorted t =
          let a = and_both (same_sort (is_type c.body) sort && same_name c.head.name n && eqb (length c.types) (length ts)) (fit_all c.numbers ns) t in
          let b = and_both (same_sort (is_type c.body) sort && same_name c.head.name n) (eqb (length c.types) (length ts)) a.0 in
          (and_both (same_sort (is_type c.body) sort) (same_name c.head.name n) b.0).0

  abbrev WorksTypes : (Scope → State → TypeTree → Answer Found) → Type 0
  WorksTypes go = (S : Scope) (σ : State) (t : TypeTree) → TypeOn P t → Fine (go S σ t)

  arguments-tells : (go : Scope → State → TypeTree → Answer Found) (S : Scope) (at i : ℕ) (σ : State) (ts : TypeTrees) → WorksTypes go → P at → TypesOn P ts → Fine (found_all go S at i σ ts)
  arguments-tells go S at i σ no_types W h hs = value tt
  arguments-tells go S at i σ (types t ts) W h hs =
      of_bind (room_for S (suc i) at) _ (room-tells S (suc i) at h) λ _ _ _.
      of_bind (go (waiting S i) σ t) _ (W (waiting S i) σ t hs.0) λ x _ _.
      of_bind (found_all go S at (suc i) x.state ts) _ (arguments-tells go S at (suc i) x.state ts W h hs.1) λ xs _ _. value tt

  put-in-tells :
      {A : Type 0} (X : Text) (sort : Bool) (S : Scope) (type : Scope → State → TypeTree → Answer Found) (go : Scope → State → Body → Answer A) (σ : State) (at : ℕ) (n : Name) (ts : TypeTrees) (ks : List Number)
      → All (ClauseOn P) X.clauses
      → WorksTypes type
      → ((R : Scope) (τ : State) (b : Body) → OfSort sort b → Fine (go R τ b))
      → P at
      → TypesOn P ts
      → All (NumberOn P) ks
      → Fine (put_in X sort S type go σ at n ts ks)
  put-in-tells X sort S type go σ at n ts ks all W H h hs ls =
      let cs : List Clause = take S.seen X.clauses in
      of_bind (found_all type S at 0 σ ts) _ (arguments-tells type S at 0 σ ts W h hs) λ xs _ _.
      of_bind (numbers_in S at (length xs.types) ks) _ (numbers-tells S at (length xs.types) ks h ls) λ ns _ _.
      of_bind (clause_for (entries S) X.clauses cs 0 sort n xs.types ns at) _ (clause-tells (entries S) X.clauses cs 0 sort n xs.types ns at h (all-taken (ClauseOn P) S.seen X.clauses all)) λ p _ b.
      of_bind (one_put xs.state p.cost at) _ (put-tells xs.state p.cost at h) λ τ _ _. H p.scope τ p.body b

  side-tells : (go : State → TypeTree → Answer Found) (x : Found) (p : Side) → ((σ : State) (t : TypeTree) → TypeOn P t → Fine (go σ t)) → SideOn P p → Fine (joined go x p)
  side-tells go x nothing W h = value tt
  side-tells go x (side f at t) W h = of_bind (go x.state t) _ (W x.state t h.1) λ y _ _. listed-tells y.state (form_of f x.type y.type) at h.0

  bits-tells : (at n : ℕ) (x : Found) → P at → Fine (more_bits at n x)
  bits-tells at zero x h = value tt
  bits-tells at (suc n) x h = of_bind (listed x.state (rec02 0 x.type) at) _ (listed-tells x.state (rec02 0 x.type) at h) λ y _ _. bits-tells at n y h

  ones-tells : (at place n : ℕ) (σ : State) → P at → P place → Fine (ones_of at place n σ)
  ones-tells at place zero σ h k = refusal (unknown place k)
  ones-tells at place (suc n) σ h k = bits-tells at n (record { type = 0; state = σ }) h

  module _ (X : Text) (all : All (ClauseOn P) X.clauses) where
    type-body-tells : (more : ℕ) → WorksTypes (λ R τ t. type_of X more R τ t) → (R : Scope) (τ : State) (b : Body) → OfSort true b → Fine (body_type (λ S σ t. type_of X more S σ t) R τ b)
    type-body-tells more W R τ (of_type t) h = W R τ t h.0
    type-body-tells more W R τ (of_term e) h = absurd h.1

    type-atom-tells : (more : ℕ) → WorksTypes (λ R τ t. type_of X more R τ t) → (S : Scope) (σ : State) (a : TypeAtom) → TypeAtomOn P a → Fine (atom_type X S (λ R τ t. type_of X more R τ t) (body_type (λ R τ t. type_of X more R τ t)) σ a)
    type-atom-tells more W S σ one h = value tt
    type-atom-tells more W S σ (ones at k) h = of_bind (number_of S.numbers k) _ (number_tells S.numbers k h.1) λ n _ _. ones-tells at k.place n σ h.0 h.1
    type-atom-tells more W S σ (inside t) h = W S σ t h
    type-atom-tells more W S σ (typeNamed at n ts ks) h = of_either (no_arguments ts ks) _ _ (lookup-tells n S.types 0 (λ i v. good (record { type = v; state = σ })) _ (λ j v. value tt) there) there
      where
        there : Fine (put_in X true S (λ R τ t. type_of X more R τ t) (body_type (λ R τ t. type_of X more R τ t)) σ at n ts ks)
        there = put-in-tells X true S (λ R τ t. type_of X more R τ t) (body_type (λ R τ t. type_of X more R τ t)) σ at n ts ks all W (type-body-tells more W) h.0 h.1 h.2

    type-tells : (more : ℕ) → WorksTypes (λ S σ t. type_of X more S σ t)
    type-tells zero S σ (typed at a p q) h = refusal (beyond at h.0)
    type-tells (suc more) S σ (typed at a p q) h =
        of_bind (atom_type X S (λ R τ t. type_of X more R τ t) (body_type (λ R τ t. type_of X more R τ t)) σ a) _ (type-atom-tells more (type-tells more) S σ a h.1) λ x _ _.
        of_bind (joined (λ τ t. type_of X more S τ t) x p) _ (side-tells (λ τ t. type_of X more S τ t) x p (λ τ t. type-tells more S τ t) h.2) λ y _ _.
        side-tells (λ τ t. type_of X more S τ t) y q (λ τ t. type-tells more S τ t) h.3

  -- ---- nodes

  node-tells : (at : ℕ) (e : Term) (t below : ℕ) (places : List ℕ) (σ : State) → P at → Fine (node at e t below places σ)
  unfolding node
  node-tells at e t below places σ h =
      of_require (ltb σ.nodes 2048) (numbered 34 at) _ (λ _. beyond at h) λ _.
      of_require (ltb below 64) (numbered 34 at) _ (λ _. beyond at h) λ _. value tt

  over-tells : (at : ℕ) (build : Term → Term → Term) (t : ℕ) (a b : Made) (σ : State) → P at → Fine (over at build t a b σ)
  over-tells at build t a b σ h = node-tells at _ t _ _ σ h

  part-type-tells : (E : Edition) (k : ℕ) (σ : State) (at : ℕ) → P at → Fine (part_type E k σ at)
  part-type-tells E zero σ at h = value tt
  part-type-tells E (suc zero) σ at h = listed-tells σ (rec03 0 0) at h
  part-type-tells first (suc (suc k)) σ at h = of_bind (listed σ (rec03 0 0) at) _ (listed-tells σ (rec03 0 0) at h) λ x _ _. listed-tells x.state (rec03 0 x.type) at h
  part-type-tells second (suc (suc k)) σ at h = of_bind (listed σ (rec02 0 0) at) _ (listed-tells σ (rec02 0 0) at h) λ x _ _. listed-tells x.state (rec03 x.type 0) at h

  part-tells : (E : Edition) (σ : State) (at p : ℕ) → P at → Fine (part_of E σ at p)
  part-tells E σ at p h = of_bind (part_type E (part_at p).inputs σ at) _ (part-type-tells E (part_at p).inputs σ at h) λ t _ _. node-tells at (con p t.type) t.type 0 [] t.state h

  function-tells : (x : Bound) (t : ℕ) (e : Made) → BoundOn P x → Fine (function_of x t e)
  function-tells x t e h = of_bind (listed e.state (arrow_of e.state.table t e.type) x.place) _ (listed-tells e.state (arrow_of e.state.table t e.type) x.place h) λ w _ _. node-tells x.place _ w.type e.deep e.places w.state h

  functions-tells : (xs : List Bound) (t : ℕ) (e : Made) → All (BoundOn P) xs → Fine (functions_of xs t e)
  functions-tells [] t e h = value tt
  functions-tells (x ∷ xs) t e h = of_bind (functions_of xs t e) _ (functions-tells xs t e h.1) λ f _ _. function-tells x t f h.0

  name-tells : (E : Edition) (x : Bound) (v e : Made) → BoundOn P x → Fine (name_of E x v e)
  name-tells E x v e h = of_either (is_second E && shares e.state.table v.type) _ _ (over-tells x.place Terms.name e.type v e e.state h) (of_bind (function_of x v.type e) _ (function-tells x v.type e h) λ f _ _. over-tells x.place (cond (shares e.state.table v.type) app lapp) e.type f v f.state h)

  apart-tells : (go : List Entry → State → Answer Made) (Γ : List Entry) (xs : List Bound) (v : Made) → ((Δ : List Entry) (σ : State) → Fine (go Δ σ)) → Two xs → All (BoundOn P) xs → Fine (apart_of go Γ xs v)
  apart-tells go Γ [] v H two h = absurd two
  apart-tells go Γ (x ∷ []) v H two h = absurd two
  apart-tells go Γ (x ∷ y ∷ []) v H two h = of_bind (go _ v.state) _ (H _ v.state) λ e _ _. over-tells x.place proj e.type v e e.state h.0
  apart-tells go Γ (x ∷ y ∷ z ∷ zs) v H two h =
      of_bind (node y.place (var 0) (halves_of (rec_at v.state.table v.type)).right 0 [] v.state) _ (node-tells y.place (var 0) (halves_of (rec_at v.state.table v.type)).right 0 [] v.state h.1.0) λ r _ _.
      of_bind (apart_of go _ (y ∷ z ∷ zs) r) _ (apart-tells go _ (y ∷ z ∷ zs) r H tt h.1) λ e _ _. over-tells x.place proj e.type v e e.state h.0

  pair-tells : (at : ℕ) (a b : Made) → P at → Fine (pair_of at a b)
  pair-tells at a b h = of_bind (listed b.state _ at) _ (listed-tells b.state _ at h) λ t _ _. over-tells at (Terms.pair t.type) t.type a b t.state h

  applied-tells : (at : ℕ) (r : TyRec) (f a : Made) → P at → Fine (applied at r f a)
  applied-tells at rec01 f a h = over-tells at (cond (shares a.state.table a.type) app lapp) 0 f a a.state h
  applied-tells at (rec02 x y) f a h = over-tells at (cond (shares a.state.table a.type) app lapp) 0 f a a.state h
  applied-tells at (rec03 x y) f a h = over-tells at app y f a a.state h
  applied-tells at (rec04 x y) f a h = over-tells at lapp y f a a.state h

  -- ---- terms

  tuple_tells : (go : State → Tree → Answer Made) (σ : State) (e : Tree) (es : Trees) → ((τ : State) (d : Tree) → TreeOn P d → Fine (go τ d)) → TreeOn P e → TreesOn P es → Fine (tuple_of go σ e es)
  tuple_tells go σ e noTrees H h hs = H σ e h
  tuple_tells go σ e (trees at d es) H h hs =
      of_bind (go σ e) _ (H σ e h) λ a _ _.
      of_bind (tuple_of go a.state d es) _ (tuple_tells go a.state d es H hs.1 hs.2) λ b _ _. pair-tells at a b hs.0

  spine-tells : (go : State → Atom → Answer Made) (at : ℕ) (f : Made) (es : Atoms) → P at → ((τ : State) (a : Atom) → AtomOn P a → Fine (go τ a)) → AtomsOn P es → Fine (spine_of go at f es)
  spine-tells go at f noAtoms p H h = value tt
  spine-tells go at f (atoms a es) p H h =
      of_bind (go f.state a) _ (H f.state a h.0) λ x _ _.
      of_bind (applied at (rec_at x.state.table f.type) f x) _ (applied-tells at (rec_at x.state.table f.type) f x p) λ g _ _. spine-tells go at g es p H h.1

  module _ (X : Text) (all : All (ClauseOn P) X.clauses) where
    abbrev MakesTerms : ℕ → Type 0
    MakesTerms more = (S : Scope) (σ : State) (e : Tree) → TreeOn P e → Fine (term_of X more S σ e)

    term-body-tells : (more : ℕ) → MakesTerms more → (R : Scope) (τ : State) (b : Body) → OfSort false b → Fine (body_term (λ S σ e. term_of X more S σ e) R τ b)
    term-body-tells more H R τ (of_type t) h = absurd h.1
    term-body-tells more H R τ (of_term e) h = H R τ e h.0

    atom-tells : (more : ℕ) → MakesTerms more → (S : Scope) (σ : State) (a : Atom) → AtomOn P a → Fine (atom_of X S (λ R τ t. type_of X more R τ t) (λ τ e. term_of X more S τ e) (body_term (λ R τ e. term_of X more R τ e)) σ a)
    atom-tells more H S σ (part at p) h = part-tells X.edition σ at p h
    atom-tells more H S σ (tuple e es) h = tuple_tells (λ τ d. term_of X more S τ d) σ e es (λ τ d. H S τ d) h.0 h.1
    atom-tells more H S σ (named at n ts ks) h = of_either (no_arguments ts ks) _ _ (lookup-tells n S.variables 0 (λ i t. node at (variable σ.table i t) t 0 [] σ) _ (λ j v. node-tells at (variable σ.table j v) v 0 [] σ h.0) there) there
      where
        there : Fine (put_in X false S (λ R τ t. type_of X more R τ t) (body_term (λ R τ e. term_of X more R τ e)) σ at n ts ks)
        there = put-in-tells X false S (λ R τ t. type_of X more R τ t) (body_term (λ R τ e. term_of X more R τ e)) σ at n ts ks all (type-tells X all more) (term-body-tells more H) h.0 h.1 h.2

    term-tells : (more : ℕ) → MakesTerms more
    term-tells zero S σ (spine at a es) h = refusal (beyond at h.0)
    term-tells zero S σ (fun at xs t e) h = refusal (beyond at h.0)
    term-tells zero S σ (fix at x t e) h = refusal (beyond at h.0)
    term-tells zero S σ (name at x v e) h = refusal (beyond at h.0)
    term-tells zero S σ (apart at xs v e) h = refusal (beyond at h.0)
    term-tells (suc more) S σ (spine at a es) h =
        let go : State → Atom → Answer Made = atom_of X S (λ R τ t. type_of X more R τ t) (λ τ d. term_of X more S τ d) (body_term (λ R τ d. term_of X more R τ d)) in
        of_bind (go σ a) _ (atom-tells more (term-tells more) S σ a h.1) λ f _ _. spine-tells go at f es h.0 (λ τ b. atom-tells more (term-tells more) S τ b) h.2
    term-tells (suc more) S σ (fun at xs t e) h =
        of_bind (type_of X more S σ t) _ (type-tells X all more S σ t h.2) λ θ _ _.
        of_bind (room_for S (length xs) at) _ (room-tells S (length xs) at h.0) λ _ _ _.
        of_bind (term_of X more (with_variables S (bind_all xs θ.type S.variables)) θ.state e) _ (term-tells more (with_variables S (bind_all xs θ.type S.variables)) θ.state e h.3) λ b _ _. functions-tells xs θ.type b h.1
    term-tells (suc more) S σ (fix at x t e) h =
        of_bind (type_of X more S σ t) _ (type-tells X all more S σ t h.2) λ θ _ _.
        of_bind (room_for S 1 at) _ (room-tells S 1 at h.0) λ _ _ _.
        of_bind (term_of X more (with_variables S (bind x θ.type S.variables)) θ.state e) _ (term-tells more (with_variables S (bind x θ.type S.variables)) θ.state e h.3) λ b _ _. node-tells x.place (Terms.fix θ.type b.term) θ.type b.deep b.places b.state h.1
    term-tells (suc more) S σ (name at x v e) h =
        of_bind (term_of X more S σ v) _ (term-tells more S σ v h.2) λ a _ _.
        of_bind (room_for S 1 at) _ (room-tells S 1 at h.0) λ _ _ _.
        of_bind (term_of X more (with_variables S (bind x a.type S.variables)) a.state e) _ (term-tells more (with_variables S (bind x a.type S.variables)) a.state e h.3) λ b _ _. name-tells X.edition x a b h.1
    term-tells (suc more) S σ (apart at xs v e) h =
        of_bind (term_of X more S σ v) _ (term-tells more S σ v h.3) λ a _ _.
        of_bind (room_for S (length xs + length xs) at) _ (room-tells S (length xs + length xs) at h.0) λ _ _ _.
        apart-tells (λ Γ τ. term_of X more (with_variables S Γ) τ e) S.variables xs a (λ Γ τ. term-tells more (with_variables S Γ) τ e h.4) h.1 h.2

    -- ---- the text

    lines-tells : (σ : State) (ls : List Line) → All (TypeLineOn P) ls → Fine (lines_table X σ ls)
    lines-tells σ [] h = value tt
    lines-tells σ (l ∷ ls) h = of_bind (type_of X most_nested (above l.seen) σ l.type) (λ t. lines_table X t.state ls) (type-tells X all most_nested (above l.seen) σ l.type h.0) λ t _ _. lines-tells t.state ls h.1

    judged-body-tells : (i : ℕ) (σ : State) (b : Body) → BodyOn P b → Fine (judged_body X i σ b)
    judged-body-tells i σ (of_type t) h = of_bind (type_of X most_nested (above i) σ t) (λ x. good x.state.puts) (type-tells X all most_nested (above i) σ t h) λ x _ _. value tt
    judged-body-tells i σ (of_term e) h = of_bind (term_of X most_nested (above i) σ e) (λ m. good m.state.puts) (term-tells most_nested (above i) σ e h) λ m _ _. value tt

    judged-clause-tells : (i : ℕ) (σ : State) (c : Clause) → ClauseOn P c → Fine (judged_clause X i σ c)
    judged-clause-tells i σ c h = of_either (is_judged c) _ _ (of_bind (one_put σ (cost_of c) c.head.place) _ (put-tells σ (cost_of c) c.head.place h.0) λ τ _ _. of_bind (judged_body X i τ c.body) _ (judged-body-tells i τ c.body h.1) λ k _ _. value tt) (value tt)

    judged-tells : (i : ℕ) (σ : State) (cs : List Clause) → All (ClauseOn P) cs → Fine (judged_from X i σ cs)
    judged-tells i σ [] h = value tt
    judged-tells i σ (c ∷ cs) h = of_bind (judged_clause X i σ c) _ (judged-clause-tells i σ c h.0) λ τ _ _. judged-tells (suc i) τ cs h.1

  main-tells : (X : Text) → TextOn P X → Fine (main_of X)
  unfolding main_of
  main-tells X h =
      let S : Scope = above (length X.clauses) in
      let type : Scope → State → TypeTree → Answer Found = λ R τ t. type_of X most_nested R τ t in
      let go : Scope → State → Body → Answer Made = body_term (λ R τ e. term_of X most_nested R τ e) in
      of_bind (lines_table X start X.lines) (λ σ. judged_from X 0 σ X.clauses >>= λ τ. put_in X false S type go τ X.end main_name no_types []) (lines-tells X h.clauses start X.lines h.lines) λ σ _ _.
      of_bind (judged_from X 0 σ X.clauses) (λ τ. put_in X false S type go τ X.end main_name no_types []) (judged-tells X h.clauses 0 σ X.clauses h.clauses) λ τ _ _.
      put-in-tells X false S type go τ X.end main_name no_types [] h.clauses (type-tells X h.clauses most_nested) (term-body-tells X h.clauses most_nested (term-tells X h.clauses most_nested)) h.end tt tt

  pub sheet_tells : (X : Text) → TextOn P X → Judged (RefusedOn P) Any (sheet_of X)
  unfolding sheet_of
  sheet_tells X h = of_bind (main_of X) _ (main-tells X h) λ m _ _. value tt
