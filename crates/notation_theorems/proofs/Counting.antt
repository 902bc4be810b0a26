-- What a text's term keeps while it is made (Counted): one lemma a form. Assumes nothing.
use Prim.Native.Nat.{ℕ, zero, suc, ◌+◌, max}
use mathlib.Core.Path.{◌≡◌, refl, sym, ap, subst, ◌∙◌}
use mathlib.Core.Bool.{Bool, true, false, ◌&&◌, cond}
use mathlib.Core.List.{List, [], ◌∷◌, ◌++◌}
use native.Mathlib.Omega.{arith}
use lib.Dec.{T, leb, ltb, leb→le, nleb→lt, ltb→lt}
use lib.ListN.{length, length-append, take}
use Rattle.calculus.specs.Answer.{Answer, good, ◌>>=◌, need}
use Rattle.calculus.specs.Types.{TyRec, rec01, rec02, rec03, rec04, rec_at, size, ty_of, tys_from}
use Rattle.calculus.specs.Read.{formed, repeated}
use Rattle.calculus.specs.Record.{All}
use Rattle.calculus.specs.Terms.{Edition, first, second, is_second, Term, var, lvar, app, lfun, lapp, proj, con, nodes, part_at}
use Rattle.calculus.specs.Terms as Terms
use Rattle.sheet_theorems.specs.Laid.{depth}
use Rattle.laws.proofs.Tests.{on_cond, and_both}
use Rattle.notation_calculus.specs.Words.{Name, same_name}
use Rattle.notation_calculus.specs.Trees.{Bound, Number, TypeTree, typed, TypeAtom, one, ones, inside, typeNamed, Side, nothing, side, TypeTrees, no_types, types, Tree, spine, fun, fix, name, apart, Atom, named, part, tuple, Atoms, noAtoms, atoms, Trees, noTrees, trees, Body, of_type, of_term, Clause, Line, Text}
use Rattle.notation_calculus.specs.Grammar.{most_nested}
use Rattle.notation_calculus.specs.Making.{most_puts, State, Found, Entry, Scope, lookup, bind, bind_all, number_in, with_variables, entries, room_for, number_of, numbers_in, Put, put_of, meant, clause_for, one_put, FoundAll, waiting, found_all, no_arguments, put_in, form_of, joined, ones_of, atom_type, body_type, type_of, Made, counted, node, larger, over, shares, variable, part_type, part_of, arrow_of, listed, function_of, functions_of, name_of, Halves, halves_of, rest, apart_of, half_of, pair_of, applied, tuple_of, body_term, atom_of, spine_of, term_of}
use Rattle.notation_calculus.specs.Make.{start, above, lines_table, judged_body, judged_clause, is_judged, judged_from, main_name, main_of}
use Rattle.notation_calculus.specs.Making.{cost_of}
use Rattle.notation_theorems.specs.Counted.{Spelt, Kept, BoundIn, TreeIn, AtomIn, AtomsIn, TreesIn, BodyIn, ClauseIn}
use Rattle.notation_theorems.proofs.Answering.{On, on_step, on_any, on_test, on_either, on_tests, on_map}
use Rattle.notation_theorems.proofs.Growing.{ones_keep}

-- ---- the nodes of a state

abbrev Still : State → Found → Type 0
Still σ x = x.state.nodes ≡ σ.nodes

listed-still : (σ : State) (r : TyRec) (at : ℕ) → On (Still σ) (listed σ r at)
unfolding listed
listed-still σ r at = on_either (Still σ) (repeated σ.table r) (good (record { type = number_in σ.table 0 r; state = σ })) _ refl (on_any (Still σ) (need (formed σ.table r) 35 at) _ λ _. on_any (Still σ) (need (leb (size (ty_of (tys_from [] σ.table) r)) 128) 34 at) _ λ _. on_any (Still σ) (need (ltb (length σ.table) 256) 34 at) _ λ _. refl)

put-still : (σ : State) (cost at : ℕ) → On (λ (τ : State). τ.nodes ≡ σ.nodes) (one_put σ cost at)
put-still σ cost at = on_any (λ (τ : State). τ.nodes ≡ σ.nodes) (need (leb (σ.puts + cost) most_puts) 34 at) _ λ _. refl

-- what works out types makes no nodes
abbrev Stills : (Scope → State → TypeTree → Answer Found) → Type 0
Stills go = (S : Scope) (σ : State) (t : TypeTree) → On (Still σ) (go S σ t)

side_still : (go : State → TypeTree → Answer Found) (x : Found) (p : Side) → ((σ : State) (t : TypeTree) → On (Still σ) (go σ t)) → On (Still x.state) (joined go x p)
side_still go x nothing W = refl
side_still go x (side f at t) W = on_step (Still x.state) (Still x.state) (go x.state t) (λ y. listed y.state (form_of f x.type y.type) at) (W x.state t) λ y e.
    on_map (Still y.state) (Still x.state) (listed y.state (form_of f x.type y.type) at) (listed-still y.state (form_of f x.type y.type) at) λ z d. d ∙ e

types-still : (go : Scope → State → TypeTree → Answer Found) (S : Scope) (at i : ℕ) (σ : State) (ts : TypeTrees) → Stills go → On (λ (xs : FoundAll). xs.state.nodes ≡ σ.nodes) (found_all go S at i σ ts)
types-still go S at i σ no_types W = refl
types-still go S at i σ (types t ts) W = on_any Q (room_for S (suc i) at) (λ _. go (waiting S i) σ t >>= λ x. found_all go S at (suc i) x.state ts >>= λ xs. good (record { types = x.type ∷ xs.types; state = xs.state })) λ _.
    on_step (Still σ) Q (go (waiting S i) σ t) (λ x. found_all go S at (suc i) x.state ts >>= λ xs. good (record { types = x.type ∷ xs.types; state = xs.state })) (W (waiting S i) σ t) λ x e.
    on_step (λ (xs : FoundAll). xs.state.nodes ≡ x.state.nodes) Q (found_all go S at (suc i) x.state ts) (λ xs. good (record { types = x.type ∷ xs.types; state = xs.state })) (types-still go S at (suc i) x.state ts W) λ xs d. d ∙ e
  where
    Q : FoundAll → Type 0
    Q xs = xs.state.nodes ≡ σ.nodes

-- the body of a clause that is found is one of theirs
clause_in : (P : Body → Type 0) (under : ℕ) (all cs : List Clause) (i : ℕ) (sort : Bool) (n : Name) (ts ns : List ℕ) (at : ℕ) → All (λ (c : Clause). P c.body) cs → On (λ (p : Put). P p.body) (clause_for under all cs i sort n ts ns at)
clause_in P under all [] i sort n ts ns at h = tt
clause_in P under all (c ∷ cs) i sort n ts ns at h = on_either (λ (p : Put). P p.body) (meant c sort n (length ts) ns) (good (put_of under all c i ts ns)) (clause_for under all cs (suc i) sort n ts ns at) h.0 (clause_in P under all cs (suc i) sort n ts ns at h.1)

all-taken : {A : Type 0} (P : A → Type 0) (n : ℕ) (l : List A) → All P l → All P (take n l)
all-taken P zero l h = tt
all-taken P (suc n) [] h = tt
all-taken P (suc n) (x ∷ l) h = (h.0, all-taken P n l h.1)

-- what is put in comes of a body of the text, in a state with as many nodes
put_keeps :
    {A : Type 0} (Q : A → Type 0) (P : Body → Type 0) (X : Text) (sort : Bool) (S : Scope) (type : Scope → State → TypeTree → Answer Found) (go : Scope → State → Body → Answer A) (σ : State) (at : ℕ) (n : Name) (ts : TypeTrees) (ks : List Number)
    → Stills type
    → All (λ (c : Clause). P c.body) X.clauses
    → ((R : Scope) (τ : State) (b : Body) → P b → τ.nodes ≡ σ.nodes → On Q (go R τ b))
    → On Q (put_in X sort S type go σ at n ts ks)
put_keeps Q P X sort S type go σ at n ts ks W all H =
    let cs : List Clause = take S.seen X.clauses in
    on_step (λ (xs : FoundAll). xs.state.nodes ≡ σ.nodes) Q (found_all type S at 0 σ ts) (λ xs. numbers_in S at (length xs.types) ks >>= λ ns. clause_for (entries S) X.clauses cs 0 sort n xs.types ns at >>= λ p. one_put xs.state p.cost at >>= λ τ. go p.scope τ p.body) (types-still type S at 0 σ ts W) λ xs e.
    on_any Q (numbers_in S at (length xs.types) ks) (λ ns. clause_for (entries S) X.clauses cs 0 sort n xs.types ns at >>= λ p. one_put xs.state p.cost at >>= λ τ. go p.scope τ p.body) λ ns.
    on_step (λ (p : Put). P p.body) Q (clause_for (entries S) X.clauses cs 0 sort n xs.types ns at) (λ p. one_put xs.state p.cost at >>= λ τ. go p.scope τ p.body) (clause_in P (entries S) X.clauses cs 0 sort n xs.types ns at (all-taken (λ (c : Clause). P c.body) S.seen X.clauses all)) λ p h.
    on_step (λ (τ : State). τ.nodes ≡ xs.state.nodes) Q (one_put xs.state p.cost at) (λ τ. go p.scope τ p.body) (put-still xs.state p.cost at) λ τ d. H p.scope τ p.body h (d ∙ e)

any_clause : (cs : List Clause) → All (λ (c : Clause). Unit {0}) cs
any_clause [] = tt
any_clause (c ∷ cs) = (tt, any_clause cs)

lookup-either : {A : Type 0} (P : A → Type 0) (n : Name) (Γ : List Entry) (i : ℕ) (found : ℕ → ℕ → A) (other : A) → ((j v : ℕ) → P (found j v)) → P other → P (lookup n Γ i found other)
lookup-either P n [] i found other f g = g
lookup-either P n (e ∷ es) i found other f g = on_cond P (same_name n e.name) (found i e.value) (lookup n es (suc i) found other) (λ _. f i e.value) (lookup-either P n es (suc i) found other f g)

module _ (X : Text) (more : ℕ) (W : Stills (λ S σ t. type_of X more S σ t)) (S : Scope) (σ : State) where
  abbrev type_in : Scope → State → TypeTree → Answer Found
  type_in R τ t = type_of X more R τ t

  abbrev put_type : Scope → State → Body → Answer Found
  put_type = body_type type_in

  body-still : (R : Scope) (τ : State) (b : Body) → Unit {0} → τ.nodes ≡ σ.nodes → On (Still σ) (put_type R τ b)
  body-still R τ (of_type t) h e = on_map (Still τ) (Still σ) (type_in R τ t) (W R τ t) λ x d. d ∙ e
  body-still R τ (of_term d) h e = tt

  put-in-still : (at : ℕ) (n : Name) (ts : TypeTrees) (ks : List Number) → On (Still σ) (put_in X true S type_in put_type σ at n ts ks)
  put-in-still at n ts ks = put_keeps (Still σ) (λ _. Unit {0}) X true S type_in put_type σ at n ts ks W (any_clause X.clauses) body-still

  atom-still : (a : TypeAtom) → On (Still σ) (atom_type X S type_in put_type σ a)
  atom-still one = refl
  atom-still (ones at k) = on_any (Still σ) (number_of S.numbers k) (λ n. ones_of at k.place n σ) λ n. ones_keep (λ (ρ τ : State). τ.nodes ≡ ρ.nodes) (λ ρ. refl) (λ ρ τ υ d e. e ∙ d) listed-still at k.place n σ
  atom-still (inside t) = W S σ t
  atom-still (typeNamed at n ts ks) = on_either (Still σ) (no_arguments ts ks) _ _ (lookup-either (On (Still σ)) n S.types 0 (λ i v. good (record { type = v; state = σ })) (put_in X true S type_in put_type σ at n ts ks) (λ j v. refl) (put-in-still at n ts ks)) (put-in-still at n ts ks)

type_still : (X : Text) (more : ℕ) → Stills (λ S σ t. type_of X more S σ t)
type_still X zero S σ (typed at a p q) = tt
type_still X (suc more) S σ (typed at a p q) =
    let go : State → TypeTree → Answer Found = λ τ t. type_of X more S τ t in
    on_step (Still σ) (Still σ) (atom_type X S (λ R τ t. type_of X more R τ t) (body_type (λ R τ t. type_of X more R τ t)) σ a) (λ x. joined go x p >>= λ y. joined go y q) (atom-still X more (type_still X more) S σ a) λ x e.
    on_step (Still x.state) (Still σ) (joined go x p) (λ y. joined go y q) (side_still go x p (λ τ t. type_still X more S τ t)) λ y d.
    on_map (Still y.state) (Still σ) (joined go y q) (side_still go y q (λ τ t. type_still X more S τ t)) λ z f. f ∙ d ∙ e

-- ---- nodes

larger-is : (a b : ℕ) → larger a b ≡ max a b
larger-is a b = by (leb a b) refl
  where
    by : (t : Bool) → leb a b ≡ t → cond t b a ≡ max a b
    by true e = omega (arith, leb→le a b (subst (λ (t : Bool). T t) (sym e) tt))
    by false e = omega (arith, nleb→lt a b (subst (λ (t : Bool). T (not' t)) (sym e) tt))
      where
        not' : Bool → Bool
        not' true = false
        not' false = true

pub all_both : {A : Type 0} (P : A → Type 0) (xs ys : List A) → All P xs → All P ys → All P (xs ++ ys)
all_both P [] ys h k = k
all_both P (x ∷ xs) ys h k = (h.0, all_both P xs ys h.1 k)

second_of_lem : (E : Edition) → T (is_second E) → E ≡ second
second_of_lem first t = absurd t
second_of_lem second t = refl

module _ (P K : ℕ → Type 0) (E : Edition) where
  node_kept : (n at : ℕ) (e : Term) (t below : ℕ) (ps : List ℕ) (σ : State) → P at → All P ps → nodes e ≡ suc (length ps) → depth e ≡ suc below → σ.nodes ≡ n + length ps → Spelt K E e → On (Kept P K E n) (node at e t below ps σ)
  unfolding node
  node_kept n at e t below ps σ l ls ns d c w =
      let m : Made = record { term = e; type = t; deep = suc below; places = at ∷ ps; state = counted σ } in
      on_test (Kept P K E n) (ltb σ.nodes 2048) 34 at (λ _. need (ltb below 64) 34 at >>= λ _. good m) λ f.
      on_test (Kept P K E n) (ltb below 64) 34 at (λ _. good m) λ g.
      record { placed = sym ns; below = (l, ls); deep = d; shallow = ltb→lt below 64 g; count = omega (arith, c, ns); few = ltb→lt σ.nodes 2048 f; written = w }

  over-kept :
      (n na nb at : ℕ) (build : Term → Term → Term) (t : ℕ) (a b : Made) (σ : State) → P at → Kept P K E na a → Kept P K E nb b
      → σ.nodes ≡ n + (nodes a.term + nodes b.term)
      → nodes (build a.term b.term) ≡ suc (nodes a.term + nodes b.term)
      → depth (build a.term b.term) ≡ suc (max (depth a.term) (depth b.term))
      → Spelt K E (build a.term b.term)
      → On (Kept P K E n) (over at build t a b σ)
  over-kept n na nb at build t a b σ l A B c ns d w =
      let la : length (a.places ++ b.places) ≡ length a.places + length b.places = length-append a.places b.places in
      node_kept n at (build a.term b.term) t (larger a.deep b.deep) (a.places ++ b.places) σ l (all_both P a.places b.places A.below B.below) (omega (arith, ns, la, A.placed, B.placed)) (d ∙ ap (λ (k : ℕ). suc (max k (depth b.term))) A.deep ∙ ap (λ (k : ℕ). suc (max a.deep k)) B.deep ∙ ap (λ (k : ℕ). suc k) (sym (larger-is a.deep b.deep))) (omega (arith, c, la, A.placed, B.placed)) w

  function-kept : (n : ℕ) (x : Bound) (t : ℕ) (e : Made) → BoundIn P x → Kept P K E n e → On (Kept P K E n) (function_of x t e)
  function-kept n x t e l Ke = on_step (Still e.state) (Kept P K E n) (listed e.state (arrow_of e.state.table t e.type) x.place) (λ w. node x.place (cond (shares e.state.table t) (Terms.fun w.type e.term) (lfun w.type e.term)) w.type e.deep e.places w.state) (listed-still e.state (arrow_of e.state.table t e.type) x.place) λ w s.
      let f : Term = Terms.fun w.type e.term in
      let g : Term = lfun w.type e.term in
      let b : Bool = shares e.state.table t in
      let ns : suc (nodes e.term) ≡ suc (length e.places) = ap (λ (k : ℕ). suc k) (sym Ke.placed) in
      let d : suc (depth e.term) ≡ suc e.deep = ap (λ (k : ℕ). suc k) Ke.deep in
      node_kept n x.place (cond b f g) w.type e.deep e.places w.state l Ke.below (on_cond (λ (h : Term). nodes h ≡ suc (length e.places)) b f g (λ _. ns) ns) (on_cond (λ (h : Term). depth h ≡ suc e.deep) b f g (λ _. d) d) (omega (arith, s, Ke.count, Ke.placed)) (on_cond (λ (h : Term). Spelt K E h) b f g (λ _. Ke.written) Ke.written)

  functions-kept : (n : ℕ) (xs : List Bound) (t : ℕ) (e : Made) → All (BoundIn P) xs → Kept P K E n e → On (Kept P K E n) (functions_of xs t e)
  functions-kept n [] t e ls Ke = Ke
  functions-kept n (x ∷ xs) t e ls Ke = on_step (Kept P K E n) (Kept P K E n) (functions_of xs t e) (λ f. function_of x t f) (functions-kept n xs t e ls.1 Ke) λ f F. function-kept n x t f ls.0 F

  -- a function applied, whichever its sort
  application-kept : (n na nb at : ℕ) (b : Bool) (t : ℕ) (f a : Made) (σ : State) → P at → Kept P K E na f → Kept P K E nb a → σ.nodes ≡ n + (nodes f.term + nodes a.term) → On (Kept P K E n) (over at (cond b app lapp) t f a σ)
  application-kept n na nb at b t f a σ l F A c = over-kept n na nb at (cond b app lapp) t f a σ l F A c (on_cond (λ (k : Term → Term → Term). nodes (k f.term a.term) ≡ suc (nodes f.term + nodes a.term)) b app lapp (λ _. refl) refl) (on_cond (λ (k : Term → Term → Term). depth (k f.term a.term) ≡ suc (max (depth f.term) (depth a.term))) b app lapp (λ _. refl) refl) (on_cond (λ (k : Term → Term → Term). Spelt K E (k f.term a.term)) b app lapp (λ _. (F.written, A.written)) (F.written, A.written))

  name-kept : (n : ℕ) (x : Bound) (v e : Made) → BoundIn P x → Kept P K E n v → Kept P K E v.state.nodes e → On (Kept P K E n) (name_of E x v e)
  name-kept n x v e l Kv Ke = on_tests (Kept P K E n) (is_second E && shares e.state.table v.type) (over x.place Terms.name e.type v e e.state) (function_of x v.type e >>= λ f. over x.place (cond (shares e.state.table v.type) app lapp) e.type f v f.state)
      (λ t. over-kept n n v.state.nodes x.place Terms.name e.type v e e.state l Kv Ke (omega (arith, Kv.count, Ke.count)) refl refl (second_of_lem E (and_both (is_second E) (shares e.state.table v.type) t).0, Kv.written, Ke.written))
      (λ t. on_step (Kept P K E v.state.nodes) (Kept P K E n) (function_of x v.type e) (λ f. over x.place (cond (shares e.state.table v.type) app lapp) e.type f v f.state) (function-kept v.state.nodes x v.type e l Ke) λ f F. application-kept n v.state.nodes n x.place (shares e.state.table v.type) e.type f v f.state l F Kv (omega (arith, Kv.count, F.count)))

  pair-kept : (n at : ℕ) (a b : Made) → P at → Kept P K E n a → Kept P K E a.state.nodes b → On (Kept P K E n) (pair_of at a b)
  pair-kept n at a b l A B =
      let r : TyRec = rec02 (half_of b.state.table a.type) (half_of b.state.table b.type) in
      on_step (Still b.state) (Kept P K E n) (listed b.state r at) (λ t. over at (Terms.pair t.type) t.type a b t.state) (listed-still b.state r at) λ t s.
      over-kept n n a.state.nodes at (Terms.pair t.type) t.type a b t.state l A B (omega (arith, s, A.count, B.count)) refl refl (A.written, B.written)

  applied-kept : (n at : ℕ) (r : TyRec) (f a : Made) → P at → Kept P K E n f → Kept P K E f.state.nodes a → On (Kept P K E n) (applied at r f a)
  applied-kept n at r f a l F A = go r
    where
      c : a.state.nodes ≡ n + (nodes f.term + nodes a.term)
      c = omega (arith, F.count, A.count)

      go : (q : TyRec) → On (Kept P K E n) (applied at q f a)
      go rec01 = application-kept n n f.state.nodes at (shares a.state.table a.type) 0 f a a.state l F A c
      go (rec02 x y) = application-kept n n f.state.nodes at (shares a.state.table a.type) 0 f a a.state l F A c
      go (rec03 x y) = over-kept n n f.state.nodes at app y f a a.state l F A c refl refl (F.written, A.written)
      go (rec04 x y) = over-kept n n f.state.nodes at lapp y f a a.state l F A c refl refl (F.written, A.written)

  part-still : (E' : Edition) (k : ℕ) (σ : State) (at : ℕ) → On (Still σ) (part_type E' k σ at)
  part-still E' zero σ at = refl
  part-still E' (suc zero) σ at = listed-still σ (rec03 0 0) at
  part-still first (suc (suc k)) σ at = on_step (Still σ) (Still σ) (listed σ (rec03 0 0) at) (λ x. listed x.state (rec03 0 x.type) at) (listed-still σ (rec03 0 0) at) λ x e. on_map (Still x.state) (Still σ) (listed x.state (rec03 0 x.type) at) (listed-still x.state (rec03 0 x.type) at) λ y d. d ∙ e
  part-still second (suc (suc k)) σ at = on_step (Still σ) (Still σ) (listed σ (rec02 0 0) at) (λ x. listed x.state (rec03 x.type 0) at) (listed-still σ (rec02 0 0) at) λ x e. on_map (Still x.state) (Still σ) (listed x.state (rec03 x.type 0) at) (listed-still x.state (rec03 x.type 0) at) λ y d. d ∙ e

  part-kept : (σ : State) (at p : ℕ) → P at → K p → On (Kept P K E σ.nodes) (part_of E σ at p)
  part-kept σ at p l k = on_step (Still σ) (Kept P K E σ.nodes) (part_type E (part_at p).inputs σ at) (λ t. node at (con p t.type) t.type 0 [] t.state) (part-still E (part_at p).inputs σ at) λ t e. node_kept σ.nodes at (con p t.type) t.type 0 [] t.state l tt refl refl (omega (arith, e)) k

  variable-kept : (σ : State) (at i t : ℕ) → P at → On (Kept P K E σ.nodes) (node at (variable σ.table i t) t 0 [] σ)
  variable-kept σ at i t l = node_kept σ.nodes at (variable σ.table i t) t 0 [] σ l tt (on_cond (λ (f : Term). nodes f ≡ 1) (shares σ.table t) (var i) (lvar i) (λ _. refl) refl) (on_cond (λ (f : Term). depth f ≡ 1) (shares σ.table t) (var i) (lvar i) (λ _. refl) refl) (omega arith) (on_cond (λ (f : Term). Spelt K E f) (shares σ.table t) (var i) (lvar i) (λ _. tt) tt)

  apart-kept : (n : ℕ) (go : List Entry → State → Answer Made) (Γ : List Entry) (xs : List Bound) (v : Made) → ((Δ : List Entry) (σ : State) → On (Kept P K E σ.nodes) (go Δ σ)) → All (BoundIn P) xs → Kept P K E n v → On (Kept P K E n) (apart_of go Γ xs v)
  apart-kept n go Γ [] v H ls Kv = tt
  apart-kept n go Γ (x ∷ []) v H ls Kv = tt
  apart-kept n go Γ (x ∷ y ∷ []) v H ls Kv =
      let hs : Halves = halves_of (rec_at v.state.table v.type) in
      let Δ : List Entry = bind y hs.right (bind x hs.left Γ) in
      on_step (Kept P K E v.state.nodes) (Kept P K E n) (go Δ v.state) (λ e. over x.place proj e.type v e e.state) (H Δ v.state) λ e Ke.
      over-kept n n v.state.nodes x.place proj e.type v e e.state ls.0 Kv Ke (omega (arith, Kv.count, Ke.count)) refl refl (Kv.written, Ke.written)
  apart-kept n go Γ (x ∷ y ∷ z ∷ zs) v H ls Kv =
      let hs : Halves = halves_of (rec_at v.state.table v.type) in
      let Δ : List Entry = bind rest hs.right (bind x hs.left Γ) in
      let N : ℕ = v.state.nodes in
      on_step (Kept P K E N) (Kept P K E n) (node y.place (var 0) hs.right 0 [] v.state) (λ r. apart_of go Δ (y ∷ z ∷ zs) r >>= λ e. over x.place proj e.type v e e.state) (node_kept N y.place (var 0) hs.right 0 [] v.state ls.1.0 tt refl refl (omega arith) tt) λ r R.
      on_step (Kept P K E N) (Kept P K E n) (apart_of go Δ (y ∷ z ∷ zs) r) (λ e. over x.place proj e.type v e e.state) (apart-kept N go Δ (y ∷ z ∷ zs) r H ls.1 R) λ e Ke.
      over-kept n n N x.place proj e.type v e e.state ls.0 Kv Ke (omega (arith, Kv.count, Ke.count)) refl refl (Kv.written, Ke.written)

  tuple-kept : (go : State → Tree → Answer Made) (σ : State) (e : Tree) (es : Trees) → ((τ : State) (d : Tree) → TreeIn P K d → On (Kept P K E τ.nodes) (go τ d)) → TreeIn P K e → TreesIn P K es → On (Kept P K E σ.nodes) (tuple_of go σ e es)
  tuple-kept go σ e noTrees H i is = H σ e i
  tuple-kept go σ e (trees at d es) H i is = on_step (Kept P K E σ.nodes) (Kept P K E σ.nodes) (go σ e) (λ a. tuple_of go a.state d es >>= λ b. pair_of at a b) (H σ e i) λ a A. on_step (Kept P K E a.state.nodes) (Kept P K E σ.nodes) (tuple_of go a.state d es) (λ b. pair_of at a b) (tuple-kept go a.state d es H is.1 is.2) λ b B. pair-kept σ.nodes at a b is.0 A B

  spine-kept : (n : ℕ) (go : State → Atom → Answer Made) (at : ℕ) (f : Made) (es : Atoms) → P at → ((τ : State) (a : Atom) → AtomIn P K a → On (Kept P K E τ.nodes) (go τ a)) → AtomsIn P K es → Kept P K E n f → On (Kept P K E n) (spine_of go at f es)
  spine-kept n go at f noAtoms l H is F = F
  spine-kept n go at f (atoms a es) l H is F = on_step (Kept P K E f.state.nodes) (Kept P K E n) (go f.state a) (λ x. applied at (rec_at x.state.table f.type) f x >>= λ g. spine_of go at g es) (H f.state a is.0) λ x A. on_step (Kept P K E n) (Kept P K E n) (applied at (rec_at x.state.table f.type) f x) (λ g. spine_of go at g es) (applied-kept n at (rec_at x.state.table f.type) f x l F A) λ g G. spine-kept n go at g es l H is.1 G

-- ---- terms

module _ (P K : ℕ → Type 0) (X : Text) (within : All (ClauseIn P K) X.clauses) where
  abbrev E : Edition
  E = X.edition

  abbrev Keeps : ℕ → Type 0
  Keeps more = (S : Scope) (σ : State) (e : Tree) → TreeIn P K e → On (Kept P K E σ.nodes) (term_of X more S σ e)

  body_kept : (more n : ℕ) → Keeps more → (R : Scope) (τ : State) (b : Body) → BodyIn P K b → τ.nodes ≡ n → On (Kept P K E n) (body_term (λ S σ e. term_of X more S σ e) R τ b)
  body_kept more n H R τ (of_type t) i e = tt
  body_kept more n H R τ (of_term d) i e = subst (λ (k : ℕ). On (Kept P K E k) (term_of X more R τ d)) e (H R τ d i)

  atom-kept : (more : ℕ) → Keeps more → (S : Scope) (σ : State) (a : Atom) → AtomIn P K a → On (Kept P K E σ.nodes) (atom_of X S (λ R τ t. type_of X more R τ t) (λ τ e. term_of X more S τ e) (body_term (λ R τ e. term_of X more R τ e)) σ a)
  atom-kept more H S σ (part at p) i = part-kept P K E σ at p i.0 i.1
  atom-kept more H S σ (tuple e es) i = tuple-kept P K E (λ τ d. term_of X more S τ d) σ e es (λ τ d. H S τ d) i.0 i.1
  atom-kept more H S σ (named at n ts ks) i = on_either (Kept P K E σ.nodes) (no_arguments ts ks) _ _ (lookup-either (On (Kept P K E σ.nodes)) n S.variables 0 _ _ (λ j v. variable-kept P K E σ at j v i) there) there
    where
      there : On (Kept P K E σ.nodes) (put_in X false S (λ R τ t. type_of X more R τ t) (body_term (λ R τ e. term_of X more R τ e)) σ at n ts ks)
      there = put_keeps (Kept P K E σ.nodes) (BodyIn P K) X false S (λ R τ t. type_of X more R τ t) (body_term (λ R τ e. term_of X more R τ e)) σ at n ts ks (type_still X more) within (body_kept more σ.nodes H)

  term_kept : (more : ℕ) → Keeps more
  term_kept zero S σ (spine at a es) i = tt
  term_kept zero S σ (fun at xs t e) i = tt
  term_kept zero S σ (fix at x t e) i = tt
  term_kept zero S σ (name at x v e) i = tt
  term_kept zero S σ (apart at xs v e) i = tt
  term_kept (suc more) S σ (spine at a es) i =
      let go : State → Atom → Answer Made = atom_of X S (λ R τ t. type_of X more R τ t) (λ τ d. term_of X more S τ d) (body_term (λ R τ d. term_of X more R τ d)) in
      on_step (Kept P K E σ.nodes) (Kept P K E σ.nodes) (go σ a) (λ f. spine_of go at f es) (atom-kept more (term_kept more) S σ a i.1) λ f F. spine-kept P K E σ.nodes go at f es i.0 (λ τ b j. atom-kept more (term_kept more) S τ b j) i.2 F
  term_kept (suc more) S σ (fun at xs t e) i =
      on_step (Still σ) (Kept P K E σ.nodes) (type_of X more S σ t) (λ θ. room_for S (length xs) at >>= λ _. term_of X more (with_variables S (bind_all xs θ.type S.variables)) θ.state e >>= λ b. functions_of xs θ.type b) (type_still X more S σ t) λ θ s.
      on_any (Kept P K E σ.nodes) (room_for S (length xs) at) (λ _. term_of X more (with_variables S (bind_all xs θ.type S.variables)) θ.state e >>= λ b. functions_of xs θ.type b) λ _.
      on_step (Kept P K E θ.state.nodes) (Kept P K E σ.nodes) (term_of X more (with_variables S (bind_all xs θ.type S.variables)) θ.state e) (λ b. functions_of xs θ.type b) (term_kept more (with_variables S (bind_all xs θ.type S.variables)) θ.state e i.1) λ b B.
      functions-kept P K E σ.nodes xs θ.type b i.0 (subst (λ (k : ℕ). Kept P K E k b) s B)
  term_kept (suc more) S σ (fix at x t e) i =
      on_step (Still σ) (Kept P K E σ.nodes) (type_of X more S σ t) (λ θ. room_for S 1 at >>= λ _. term_of X more (with_variables S (bind x θ.type S.variables)) θ.state e >>= λ b. node x.place (Terms.fix θ.type b.term) θ.type b.deep b.places b.state) (type_still X more S σ t) λ θ s.
      on_any (Kept P K E σ.nodes) (room_for S 1 at) (λ _. term_of X more (with_variables S (bind x θ.type S.variables)) θ.state e >>= λ b. node x.place (Terms.fix θ.type b.term) θ.type b.deep b.places b.state) λ _.
      on_step (Kept P K E θ.state.nodes) (Kept P K E σ.nodes) (term_of X more (with_variables S (bind x θ.type S.variables)) θ.state e) (λ b. node x.place (Terms.fix θ.type b.term) θ.type b.deep b.places b.state) (term_kept more (with_variables S (bind x θ.type S.variables)) θ.state e i.1) λ b B.
      node_kept P K E σ.nodes x.place (Terms.fix θ.type b.term) θ.type b.deep b.places b.state i.0 B.below (ap (λ (k : ℕ). suc k) (sym B.placed)) (ap (λ (k : ℕ). suc k) B.deep) (omega (arith, s, B.count, B.placed)) B.written
  term_kept (suc more) S σ (name at x v e) i =
      on_step (Kept P K E σ.nodes) (Kept P K E σ.nodes) (term_of X more S σ v) (λ a. room_for S 1 at >>= λ _. term_of X more (with_variables S (bind x a.type S.variables)) a.state e >>= λ b. name_of X.edition x a b) (term_kept more S σ v i.1) λ a A.
      on_any (Kept P K E σ.nodes) (room_for S 1 at) (λ _. term_of X more (with_variables S (bind x a.type S.variables)) a.state e >>= λ b. name_of X.edition x a b) λ _.
      on_step (Kept P K E a.state.nodes) (Kept P K E σ.nodes) (term_of X more (with_variables S (bind x a.type S.variables)) a.state e) (λ b. name_of X.edition x a b) (term_kept more (with_variables S (bind x a.type S.variables)) a.state e i.2) λ b B.
      name-kept P K E σ.nodes x a b i.0 A B
  term_kept (suc more) S σ (apart at xs v e) i =
      on_step (Kept P K E σ.nodes) (Kept P K E σ.nodes) (term_of X more S σ v) (λ a. room_for S (length xs + length xs) at >>= λ _. apart_of (λ Γ τ. term_of X more (with_variables S Γ) τ e) S.variables xs a) (term_kept more S σ v i.1) λ a A.
      on_any (Kept P K E σ.nodes) (room_for S (length xs + length xs) at) (λ _. apart_of (λ Γ τ. term_of X more (with_variables S Γ) τ e) S.variables xs a) λ _.
      apart-kept P K E σ.nodes (λ Γ τ. term_of X more (with_variables S Γ) τ e) S.variables xs a (λ Γ τ. term_kept more (with_variables S Γ) τ e i.2) i.0 A

  -- ---- the text

  lines-still : (σ : State) (ls : List Line) → On (λ (τ : State). τ.nodes ≡ σ.nodes) (lines_table X σ ls)
  lines-still σ [] = refl
  lines-still σ (l ∷ ls) = on_step (Still σ) (λ (τ : State). τ.nodes ≡ σ.nodes) (type_of X most_nested (above l.seen) σ l.type) (λ t. lines_table X t.state ls) (type_still X most_nested (above l.seen) σ l.type) λ t e. on_map (λ (τ : State). τ.nodes ≡ t.state.nodes) (λ (τ : State). τ.nodes ≡ σ.nodes) (lines_table X t.state ls) (lines-still t.state ls) λ τ d. d ∙ e

  judged-still : (i : ℕ) (σ : State) (cs : List Clause) → On (λ (τ : State). τ.nodes ≡ σ.nodes) (judged_from X i σ cs)
  judged-still i σ [] = refl
  judged-still i σ (c ∷ cs) = on_step Q Q (judged_clause X i σ c) (λ τ. judged_from X (suc i) τ cs) clause λ τ e. on_map (λ (ρ : State). ρ.nodes ≡ τ.nodes) Q (judged_from X (suc i) τ cs) (judged-still (suc i) τ cs) λ ρ d. d ∙ e
    where
      Q : State → Type 0
      Q τ = τ.nodes ≡ σ.nodes

      next : ℕ → Answer State
      next k = good (record { table = σ.table; nodes = σ.nodes; puts = k })

      clause : On Q (judged_clause X i σ c)
      clause = on_either Q (is_judged c) (one_put σ (cost_of c) c.head.place >>= λ τ. judged_body X i τ c.body >>= next) (good σ) (on_any Q (one_put σ (cost_of c) c.head.place) (λ τ. judged_body X i τ c.body >>= next) λ τ. on_any Q (judged_body X i τ c.body) next λ k. refl) refl

  pub main_kept : On (Kept P K E 0) (main_of X)
  unfolding main_of
  main_kept =
      let S : Scope = above (length X.clauses) in
      let type : Scope → State → TypeTree → Answer Found = λ R τ t. type_of X most_nested R τ t in
      let go : Scope → State → Body → Answer Made = body_term (λ R τ e. term_of X most_nested R τ e) in
      on_step (λ (τ : State). τ.nodes ≡ 0) (Kept P K E 0) (lines_table X start X.lines) (λ σ. judged_from X 0 σ X.clauses >>= λ τ. put_in X false S type go τ X.end main_name no_types []) (lines-still start X.lines) λ ρ d.
      on_step (λ (τ : State). τ.nodes ≡ ρ.nodes) (Kept P K E 0) (judged_from X 0 ρ X.clauses) (λ σ. put_in X false S type go σ X.end main_name no_types []) (judged-still 0 ρ X.clauses) λ σ e.
      put_keeps (Kept P K E 0) (BodyIn P K) X false S type go σ X.end main_name no_types [] (type_still X most_nested) within λ R τ b i f. body_kept most_nested 0 (term_kept most_nested) R τ b i (f ∙ e ∙ d)
