-- The machine of terms does what `term_of` does to the tree that the grammar reads from the same words. Assumes nothing.
use Prim.Native.Nat.{ℕ, zero, suc, ◌+◌, ◌≤◌}
use mathlib.Core.Path.{◌≡◌, refl, sym, ap, subst, ◌∙◌}
use mathlib.Core.Bool.{Bool, true, false, ◌||◌, cond}
use mathlib.Core.List.{List, [], ◌∷◌}
use native.Mathlib.Omega.{arith}
use lib.Dec.{T}
use lib.ListN.{length, take}
use Rattle.calculus.specs.Answer.{Answer, good, refused, ◌>>=◌, refuse}
use Rattle.calculus.specs.Types.{rec_at}
use Rattle.calculus.specs.Terms.{var, proj}
use Rattle.calculus.specs.Terms as Terms
use Rattle.laws.proofs.Tests.{T-is, or_left}
use Rattle.notation_calculus.specs.Words.{Name, fun, fix, lets, within, round, endRound, equals, comma, colon, dot, square, curly, Token, sign, part, number, name, Word}
use Rattle.notation_calculus.specs.Trees.{Bound, Number, TypeTree, TypeTrees, no_types, types, Tree, spine, apart, Atom, named, tuple, Atoms, noAtoms, atoms, Trees, noTrees, trees, Body, of_type, of_term, Text}
use Rattle.notation_calculus.specs.Trees as Trees
use Rattle.notation_calculus.specs.Grammar.{most_nested, Got, got, peek, behind, place, is_token, is, expect, name_at, list_from, numbers_at, arguments_at, type_at, begins_atom, trees_from, read_atom, atoms_from, spine_at, names_from, nameless, Group, Lists, group_at, lists_at, groups_tree, Binds, binds_each, binds_pair, binds_from, function_tree, apart_tree, bound_body, let_body, let_at, term_at}
use Rattle.notation_calculus.specs.Making.{State, Found, Entry, Scope, lookup, bind, bind_all, with_variables, entries, room_for, numbers_in, Put, clause_for, one_put, FoundAll, found_all, put_in, type_of, Made, node, over, variable, part_of, functions_of, name_of, halves_of, rest, apart_of, pair_of, applied, tuple_of, body_term, atom_of, spine_of, term_of}
use Rattle.notation_theorems.proofs.Answering.{On, on_step, on_any, on_test, on_either, on_map, on_is, on_good}
use Rattle.notation_machine.specs.Walked.{Runs}
use Rattle.notation_machine.specs.Bodies.{words_for, AllRead}
use Rattle.notation_machine.specs.Lists.{head_at, next_list}
use Rattle.notation_machine.specs.TypeFrom.{type_from}
use Rattle.notation_machine.specs.TermMachine.{none, some, Spine, Element, Taken, TermWish, of_function, of_fix, value_of_name, value_of_names, under_name, under_names, element, of_definition, TermLevel, Terming, wanted_term, came_term, applying, TermHere, ask_term, term_done, pairs_of, Apart, apart_from, projections, behind_atom, behind_element, term_put_in, atom_entered, list_below, under_lists, pair_from, names_typed, function_from, fix_from, let_from, term_entered, term_left, term_move}
use Rattle.notation_machine.proofs.Running.{Follows, good_right, bind-bind, follows_now, follows_as, follows_for, follows_step, follows_then, follows_to, follows_both, follows_same, follows_all}
use Rattle.notation_machine.proofs.ReadLaws.{on_expect, on_expected, on_pair, on_closed, Numbers, numbers-read, Arguments, arguments_read, Used, used_read, lookup-both}
use Rattle.notation_machine.proofs.Bodies.{BodyFound, body-found, read_take}
use Rattle.notation_machine.proofs.Behind.{Left, behind_fewer, behind_one, atom_left}
use Rattle.notation_machine.proofs.Lists.{Scans, among, ListsReady, ready_more, ListsMet, lists_read, scan-ends, heads_then, is_in, lookup-found, lookup_in, bound_in_lem, Covers, covers-two, covers_one}
use Rattle.notation_machine.proofs.TypeFrom.{TypeRead, TypesRead, type_read, types-read}

module _ (X : Text) (bodies : List (List Word)) (reads : AllRead bodies X.clauses) where
  abbrev move : Terming → Answer Terming
  move s = term_move X bodies s

  -- the machine started at these words does what `term_of` does to the tree, and stands behind it
  abbrev pub TermGoes : ℕ → List Word → Got Tree → Type 0
  TermGoes more ws g = (S : Scope) (σ : State) (K : List TermLevel) → Follows move (good (wanted_term more S σ ws K)) (term_of X more S σ g.value) (λ m. good (came_term more m g.rest K))

  -- ---- no level is left

  abbrev None : List Word → Got Tree → Type 0
  None ws g = (S : Scope) (σ : State) → term_of X zero S σ g.value ≡ refuse 34 (place ws)

  none-bound : (m : ℕ) (ws us : List Word) (build : TypeTree → Tree → Tree) → ((t : TypeTree) (e : Tree) (S : Scope) (σ : State) → term_of X zero S σ (build t e) ≡ refuse 34 (place ws)) → On (None ws) (bound_body (λ vs. term_at m vs) (λ vs. type_at m false vs) build us)
  none-bound m ws us build h = on_expect (None ws) colon us _ (on_any (None ws) (type_at m false (behind us)) _ λ t. on_expect (None ws) dot t.rest _ (on_any (None ws) (term_at m (behind t.rest)) _ λ e. h t.value e.value))

  none-let : (m : ℕ) (ws us : List Word) (build : Tree → Tree → Tree) → ((v e : Tree) (S : Scope) (σ : State) → term_of X zero S σ (build v e) ≡ refuse 34 (place ws)) → On (None ws) (let_body (λ vs. term_at m vs) build us)
  none-let m ws us build h = on_expect (None ws) equals us _ (on_any (None ws) (term_at m (behind us)) _ λ v. on_expect (None ws) within v.rest _ (on_any (None ws) (term_at m (behind v.rest)) _ λ e. h v.value e.value))

  none-function : (at : ℕ) (xs : Binds) (t : TypeTree) (e : Tree) (S : Scope) (σ : State) → term_of X zero S σ (function_tree at xs t e) ≡ refuse 34 at
  none-function at (binds_each xs) t e S σ = refl
  none-function at (binds_pair p ls) t e S σ = refl

  none_left : (m : ℕ) (ws : List Word) → On (None ws) (term_at m ws)
  none_left zero ws = tt
  none_left (suc m) ws = on_either (None ws) (is fun ws) _ _ (on_any (None ws) (binds_from (λ vs. lists_at (suc m) vs) (length ws) (behind ws)) _ λ xs. none-bound m ws xs.rest (function_tree (place ws) xs.value) (none-function (place ws) xs.value)) (on_either (None ws) (is fix ws) _ _ (on_any (None ws) (name_at (behind ws)) _ λ x. none-bound m ws x.rest (Trees.fix (place ws) x.value) λ t e S σ. refl) (on_either (None ws) (is lets ws) _ _ (on_either (None ws) (is round (behind ws)) _ _ (on_any (None ws) (lists_at (suc m) (behind ws)) _ λ ls. none-let m ws ls.rest (apart_tree (place ws) ls.value) λ v e S σ. refl) (on_any (None ws) (name_at (behind ws)) _ λ x. none-let m ws x.rest (Trees.name (place ws) x.value) λ v e S σ. refl)) (on_any (None ws) (read_atom (λ vs. term_at m vs) (λ vs. type_at m false vs) (peek ws).token ws) _ λ f. on_any (None ws) (atoms_from (λ vs. term_at m vs) (λ vs. type_at m false vs) (length ws) f.rest) _ λ as' S σ. refl)))

  none-goes : (m : ℕ) (ws : List Word) → On (TermGoes zero ws) (term_at m ws)
  none-goes m ws = on_map (None ws) (TermGoes zero ws) (term_at m ws) (none_left m ws) λ g h S σ K. follows_for move (h S σ) (follows_step move (record { steps = 0; lead = refl }))

  -- a pair is taken apart, over those that are taken apart already; in its body the machine does what a definition does
  module _ (more : ℕ) (S : Scope) (K : List TermLevel) (after : List Word) (body : List Entry → State → List TermLevel → Answer Terming) (in_body : List Entry → State → Answer Made) (known : Name → Bool) (E : (Δ : List Entry) → ((n : Name) → T (known n) → T (is_in n Δ)) → (τ : State) (L : List TermLevel) → Follows move (body Δ τ L) (in_body Δ τ) (λ m. good (came_term more m after L))) where
    abbrev level : TermHere
    level = record { more = more; scope = S; above = K }

    abbrev apartAsk : Apart → Answer Terming
    apartAsk a = body a.variables a.state (record { wish = under_names a.taken; scope = S } ∷ K)

    abbrev closed_by : List Taken → Made → Answer Terming
    closed_by ps m = projections ps m >>= λ f. good (term_done level f after)

    abbrev projected : Bound → Made → Made → Answer Made
    projected x v b = over x.place proj b.type v b b.state

    abbrev onto : Bound → Made → List Taken → List Taken
    onto x v ps = record { place = x.place; pair = v } ∷ ps

    close-one : (x : Bound) (v : Made) (ps : List Taken) (b : Made) → Follows move (closed_by (onto x v ps) b) (projected x v b) (closed_by ps)
    close-one x v ps b = follows_as move (bind-bind (projected x v b) (λ f. projections ps f) (λ f. good (term_done level f after))) (follows_all move (projected x v b))

    apart-goes : (Γ : List Entry) (xs : List Bound) (v : Made) (ps : List Taken) → Covers known xs Γ → Follows move (apart_from Γ xs v ps >>= apartAsk) (apart_of in_body Γ xs v) (closed_by ps)
    apart-goes Γ [] v ps c = record { steps = 0; lead = refl }
    apart-goes Γ (x ∷ []) v ps c = record { steps = 0; lead = refl }
    apart-goes Γ (x ∷ y ∷ []) v ps c =
        let h = halves_of (rec_at v.state.table v.type) in
        follows_then move (in_body (bind y h.right (bind x h.left Γ)) v.state) (projected x v) (E (bind y h.right (bind x h.left Γ)) (covers-two known x y h.left h.right Γ c) v.state (record { wish = under_names (onto x v ps); scope = S } ∷ K)) λ b. follows_step move (close-one x v ps b)
    apart-goes Γ (x ∷ y ∷ z ∷ zs) v ps c =
        let h = halves_of (rec_at v.state.table v.type) in
        let Δ = bind rest h.right (bind x h.left Γ) in
        follows_as move (bind-bind (node y.place (var 0) h.right 0 [] v.state) (λ r. apart_from Δ (y ∷ z ∷ zs) r (onto x v ps)) apartAsk) (follows_same move (node y.place (var 0) h.right 0 [] v.state) λ r.
        follows_then move (apart_of in_body Δ (y ∷ z ∷ zs) r) (projected x v) (apart-goes Δ (y ∷ z ∷ zs) r (onto x v ps) (covers_one known x rest (y ∷ z ∷ zs) h.left h.right Γ c)) λ b. close-one x v ps b)

  -- ---- lists in one another

  abbrev Goes : ℕ → Type 0
  Goes more = (m : ℕ) → m ≤ most_nested → (ws : List Word) → On (TermGoes more ws) (term_at m ws)

  -- a level, and all below it
  abbrev Lower : ℕ → Type 0
  Lower zero = Goes zero
  Lower (suc more) = Goes (suc more) × Lower more

  goes-here : (more : ℕ) → Lower more → Goes more
  goes-here zero lower = lower
  goes-here (suc more) lower = lower.0

  -- each list takes a level, and the body stands below all of them
  abbrev BodyGoes : ℕ → List Group → List Word → Got Tree → Type 0
  BodyGoes more [] ws e = TermGoes more ws e
  BodyGoes zero (g ∷ gs) ws e = Unit {0}
  BodyGoes (suc more) (g ∷ gs) ws e = BodyGoes more gs ws e

  body_below : (more : ℕ) → Lower more → (gs : List Group) (m : ℕ) → m ≤ most_nested → (ws : List Word) → On (BodyGoes more gs ws) (term_at m ws)
  body_below more lower [] m h ws = goes-here more lower m h ws
  body_below zero lower (g ∷ gs) m h ws = on_map (None ws) (BodyGoes zero (g ∷ gs) ws) (term_at m ws) (none_left m ws) λ e k. tt
  body_below (suc more) lower (g ∷ gs) m h ws = body_below more lower.1 gs m h ws

  -- behind the names of a list: the lists that the scan meets are taken apart, and then the body is made
  abbrev Under : List Group → Type 0
  Under gs =
      (more : ℕ) (S : Scope) (σ : State) (us vs ws : List Word) (e : Got Tree) (K : List TermLevel) → Scans gs us vs → is round (next_list vs) ≡ false → ListsReady gs (λ n. is_in n S.variables) → BodyGoes more gs (behind ws) e
      → Follows move (under_lists more S σ us ws K) (term_of X more S σ (groups_tree gs e.value)) (λ m. good (came_term more m e.rest K))

  abbrev value_tree : ℕ → Tree
  value_tree p = spine p (named p (nameless p).name no_types []) noAtoms

  in-goes :
      (p : ℕ) (xs : List Bound) (gs : List Group) → Under gs
      → (more : ℕ) (S : Scope) (σ : State) (us vs ws : List Word) (e : Got Tree) (K : List TermLevel) → Scans gs us vs → is round (next_list vs) ≡ false → T (is_in (nameless p).name S.variables) → ListsReady gs (λ n. among n xs || is_in n S.variables) → BodyGoes more (record { place = p; names = xs } ∷ gs) (behind ws) e
      → Follows move (list_below more S σ p xs us ws K) (term_of X more S σ (apart p xs (value_tree p) (groups_tree gs e.value))) (λ m. good (came_term more m e.rest K))
  in-goes p xs gs under zero S σ us vs ws e K s o t r E = record { steps = 0; lead = refl }
  in-goes p xs gs under (suc zero) S σ us vs ws e K s o t r E = lookup_in (λ (q : Answer Terming). Follows move q (term_of X 1 S σ (apart p xs (value_tree p) (groups_tree gs e.value))) (λ m. good (came_term 1 m e.rest K))) (nameless p).name S.variables 0 _ t λ i v. record { steps = 0; lead = refl }
  in-goes p xs gs under (suc (suc k)) S σ us vs ws e K s o t r E =
      lookup-found (λ (q : Answer Terming) (a : Answer Made). Follows move q ((a >>= λ f. good f) >>= taken) (λ m. good (came_term (suc (suc k)) m e.rest K))) (nameless p).name S.variables 0 _ _ t λ i v.
      follows_for move (ap (λ (q : Answer Made). q >>= taken) (good_right (node p (variable σ.table i v) v 0 [] σ))) (
      follows_same move (node p (variable σ.table i v) v 0 [] σ) λ a.
      follows_step move (follows_same move (room_for S (length xs + length xs) p) λ _.
      apart-goes (suc k) S K e.rest (λ Δ τ L. under_lists (suc k) (with_variables S Δ) τ us ws L) in_body known (λ Δ c τ L. under (suc k) (with_variables S Δ) τ us vs ws e L s o (ready_more gs known (λ n. is_in n Δ) c r) E) S.variables xs a [] (λ n q. q)))
    where
      known : Name → Bool
      known n = among n xs || is_in n S.variables

      in_body : List Entry → State → Answer Made
      in_body Δ τ = term_of X (suc k) (with_variables S Δ) τ (groups_tree gs e.value)

      taken : Made → Answer Made
      taken a = room_for S (length xs + length xs) p >>= λ _. apart_of in_body S.variables xs a

  under_goes : (gs : List Group) → Under gs
  under_goes [] more S σ us vs ws e K s o r E = rw (ap (λ (q : List Word). is round q) s ∙ o) (E S σ K)
  under_goes (g ∷ gs) more S σ us vs ws e K s o r E =
      rw (s.0.opens, s.0.heads, s.0.stands) (in-goes g.place g.names gs (under_goes gs) more S σ (behind (next_list us)) vs ws e K s.1 o r.0 r.1 E)

  -- ---- a function whose variable is taken apart

  abbrev pair_scope : Scope → ℕ → ℕ → Scope
  pair_scope S p t = with_variables S (bind (nameless p) t S.variables)

  abbrev pair_typed : ℕ → ℕ → ℕ → List Bound → List Word → List Word → Scope → State → List TermLevel → Answer Terming
  pair_typed more at' p xs us vs S σ K = expect colon us >>= λ ws. type_from X more S σ ws >>= λ t. room_for S 1 at' >>= λ _. list_below more (pair_scope S p t.value.type) t.value.state p xs vs t.rest (record { wish = of_function (nameless p ∷ []) t.value.type; scope = S } ∷ K)

  abbrev PairGoes : ℕ → ℕ → ℕ → List Bound → List Word → List Word → Got Tree → Type 0
  PairGoes more at' p xs us vs g = (S : Scope) (σ : State) (K : List TermLevel) → Follows move (pair_typed more at' p xs us vs S σ K) (term_of X (suc more) S σ g.value) (λ m. good (came_term (suc more) m g.rest K))

  pair_goes :
      (more : ℕ) → Lower more → (m : ℕ) → m ≤ most_nested → (at' p : ℕ) (ls : Lists) (us vs : List Word) → Scans ls.inner vs us → ListsReady ls.inner (λ n. among n ls.names)
      → On (PairGoes more at' p ls.names us vs) (bound_body (λ vs. term_at m vs) (λ vs. type_at m false vs) (function_tree at' (binds_pair p ls)) us)
  pair_goes more lower m h at' p ls us vs s r =
      on_expected Q colon us _ λ c. on_step (TypeRead X more (behind us)) Q (type_at m false (behind us)) _ (type_read X more m h (behind us)) λ t T.
      on_expect Q dot t.rest _ (on_step (BodyGoes more (group_at p ls) (behind t.rest)) Q (term_at m (behind t.rest)) _ (body_below more lower (group_at p ls) m h (behind t.rest)) λ e E S σ K.
      rw c (follows_as move (ap (λ (q : Answer (Got Found)). q >>= asked S K) (T S σ) ∙ bind-bind (type_of X more S σ t.value) (λ x. got x t.rest) (asked S K)) (
      follows_same move (type_of X more S σ t.value) λ θ. follows_same move (room_for S 1 at') λ _.
      follows_then move (term_of X more (pair_scope S p θ.type) θ.state (groups_tree (group_at p ls) e.value)) (functions_of (nameless p ∷ []) θ.type) (in-goes p ls.names ls.inner (under_goes ls.inner) more (pair_scope S p θ.type) θ.state vs us t.rest e (record { wish = of_function (nameless p ∷ []) θ.type; scope = S } ∷ K) s (scan-ends colon (refl, refl, refl) us c) (bound_in_lem (nameless p) θ.type S.variables) (ready_more ls.inner (λ n. among n ls.names) (λ n. among n ls.names || is_in n (pair_scope S p θ.type).variables) (λ n q. or_left (among n ls.names) (is_in n (pair_scope S p θ.type).variables) q) r) E) λ b.
      follows_step move (follows_all move (functions_of (nameless p ∷ []) θ.type b)))))
    where
      Q : Got Tree → Type 0
      Q = PairGoes more at' p ls.names us vs

      asked : Scope → List TermLevel → Got Found → Answer Terming
      asked S K t = room_for S 1 at' >>= λ _. list_below more (pair_scope S p t.value.type) t.value.state p ls.names vs t.rest (record { wish = of_function (nameless p ∷ []) t.value.type; scope = S } ∷ K)

  module _ (more : ℕ) (lower : Lower more) where
    below : Goes more
    below = goes-here more lower

    abbrev at : Scope → List TermLevel → TermHere
    at S K = record { more = more; scope = S; above = K }

    abbrev waits : TermWish → Scope → List TermLevel → List TermLevel
    waits w S K = record { wish = w; scope = S } ∷ K

    abbrev typed : Scope → State → TypeTree → Answer Found
    typed R τ t = type_of X more R τ t

    abbrev go : Scope → State → Tree → Answer Made
    go R τ e = term_of X more R τ e

    abbrev atom : Scope → State → Atom → Answer Made
    atom S τ a = atom_of X S typed (go S) (body_term go) τ a

    -- from an answer of the machine at a level to the end of that level
    abbrev Ends : (Scope → State → List TermLevel → Answer Terming) → Got Tree → Type 0
    Ends p g = (S : Scope) (σ : State) (K : List TermLevel) → Follows move (p S σ K) (term_of X (suc more) S σ g.value) (λ m. good (term_done (at S K) m g.rest))

    -- the machine reads what the grammar reads
    reads_same : {A : Type 0} (m : Answer A) (f : A → Answer (Got Tree)) (p : A → Scope → State → List TermLevel → Answer Terming) → ((a : A) → On (Ends (p a)) (f a)) → On (Ends (λ S σ K. m >>= λ a. p a S σ K)) (m >>= f)
    reads_same (good a) f p h = h a
    reads_same (refused why) f p h = tt

    -- ---- functions and fixed points

    -- what the machine does behind the names, and what is done with the body
    module _ (place' count : ℕ) (Γ : ℕ → List Entry → List Entry) (wish : ℕ → TermWish) (close : ℕ → Made → Answer Made) (build : TypeTree → Tree → Tree) where
      abbrev bound_from : List Word → Scope → State → List TermLevel → Answer Terming
      bound_from us S σ K = type_from X more S σ us >>= λ t. room_for S count place' >>= λ _. good (ask_term (at S K) (wish t.value.type) (with_variables S (Γ t.value.type S.variables)) t.value.state (behind t.rest))

      abbrev boundOf : Scope → State → TypeTree → Tree → Answer Made
      boundOf S σ t e = typed S σ t >>= λ θ. room_for S count place' >>= λ _. go (with_variables S (Γ θ.type S.variables)) θ.state e >>= λ b. close θ.type b

      bound-goes :
          ((S : Scope) (K : List TermLevel) (t : ℕ) (b : Made) (vs : List Word) → term_left X bodies (at S K) (wish t) b vs ≡ (close t b >>= λ m. good (term_done (at S K) m vs)))
          → ((S : Scope) (σ : State) (t : TypeTree) (e : Tree) → term_of X (suc more) S σ (build t e) ≡ boundOf S σ t e)
          → (m : ℕ) → m ≤ most_nested → (us : List Word) → On (Ends (bound_from (behind us))) (bound_body (λ vs. term_at m vs) (λ vs. type_at m false vs) build us)
      bound-goes left is-built m h us =
          on_expect Q colon us _ (on_step (TypeRead X more (behind us)) Q (type_at m false (behind us)) _ (type_read X more m h (behind us)) λ t T.
          on_expect Q dot t.rest _ (on_step (TermGoes more (behind t.rest)) Q (term_at m (behind t.rest)) _ (below m h (behind t.rest)) λ e G S σ K.
          follows_for move (is-built S σ t.value e.value) (follows_as move (ap (λ (q : Answer (Got Found)). q >>= asked S K) (T S σ) ∙ bind-bind (typed S σ t.value) (λ x. got x t.rest) (asked S K)) (
          follows_same move (typed S σ t.value) λ θ. follows_same move (room_for S count place') λ _.
          follows_then move (go (with_variables S (Γ θ.type S.variables)) θ.state e.value) (close θ.type) (G (with_variables S (Γ θ.type S.variables)) θ.state (waits (wish θ.type) S K)) λ b.
          follows_step move (follows_as move (left S K θ.type b e.rest) (follows_all move (close θ.type b)))))))
        where
          Q : Got Tree → Type 0
          Q = Ends (bound_from (behind us))

          asked : Scope → List TermLevel → Got Found → Answer Terming
          asked S K t = room_for S count place' >>= λ _. good (ask_term (at S K) (wish t.value.type) (with_variables S (Γ t.value.type S.variables)) t.value.state (behind t.rest))

    -- ---- names for terms

    -- = term in term: both are read one level below
    let-reads :
        (m : ℕ) → m ≤ most_nested → (us : List Word) (build : Tree → Tree → Tree) (Q : Got Tree → Type 0)
        → ((v e : Got Tree) → TermGoes more (behind us) v → TermGoes more (behind v.rest) e → Q (record { value = build v.value e.value; rest = e.rest }))
        → On Q (let_body (λ vs. term_at m vs) build us)
    let-reads m h us build Q k =
        on_expect Q equals us _ (on_step (TermGoes more (behind us)) Q (term_at m (behind us)) _ (below m h (behind us)) λ v A.
        on_expect Q within v.rest _ (on_step (TermGoes more (behind v.rest)) Q (term_at m (behind v.rest)) _ (below m h (behind v.rest)) λ e E. k v e A E))

    abbrev nameFrom : ℕ → Bound → List Word → Scope → State → List TermLevel → Answer Terming
    nameFrom place' x us S σ K = good (ask_term (at S K) (value_of_name place' x) S σ us)

    name-goes : (place' : ℕ) (x : Bound) (m : ℕ) → m ≤ most_nested → (us : List Word) → On (Ends (nameFrom place' x (behind us))) (let_body (λ vs. term_at m vs) (Trees.name place' x) us)
    name-goes place' x m h us = let-reads m h us (Trees.name place' x) (Ends (nameFrom place' x (behind us))) λ v e A E S σ K.
        follows_then move (go S σ v.value) (λ a. room_for S 1 place' >>= λ _. go (with_variables S (bind x a.type S.variables)) a.state e.value >>= λ b. name_of X.edition x a b) (A S σ (waits (value_of_name place' x) S K)) λ a.
        follows_step move (follows_same move (room_for S 1 place') λ _.
        follows_then move (go (with_variables S (bind x a.type S.variables)) a.state e.value) (λ b. name_of X.edition x a b) (E (with_variables S (bind x a.type S.variables)) a.state (waits (under_name x a) S K)) λ b.
        follows_step move (follows_all move (name_of X.edition x a b)))

    -- .. behind a list, which begins behind the parenthesis
    abbrev namesGo : ℕ → List Bound → List Word → List Word → Scope → State → List TermLevel → Answer Terming
    namesGo place' xs us vs S σ K = expect equals us >>= λ ws. good (ask_term (at S K) (value_of_names place' xs vs) S σ ws)

    names-go :
        (place' : ℕ) (ls : Lists) (m : ℕ) → m ≤ most_nested → (us vs : List Word) → Scans ls.inner vs us → ListsReady ls.inner (λ n. among n ls.names)
        → On (Ends (namesGo place' ls.names us vs)) (let_body (λ vs. term_at m vs) (apart_tree place' ls) us)
    names-go place' ls m h us vs s r =
        on_expected Q equals us _ λ c. on_step (TermGoes more (behind us)) Q (term_at m (behind us)) _ (below m h (behind us)) λ v A.
        on_expect Q within v.rest _ (on_step (BodyGoes more ls.inner (behind v.rest)) Q (term_at m (behind v.rest)) _ (body_below more lower ls.inner m h (behind v.rest)) λ e E S σ K.
        rw c (follows_then move (go S σ v.value) (λ a. room_for S (length ls.names + length ls.names) place' >>= λ _. apart_of (in_body S e) S.variables ls.names a) (A S σ (waits (value_of_names place' ls.names vs) S K)) λ a.
        follows_step move (follows_same move (room_for S (length ls.names + length ls.names) place') λ _.
        apart-goes more S K e.rest (λ Δ τ L. under_lists more (with_variables S Δ) τ vs v.rest L) (in_body S e) (λ n. among n ls.names) (λ Δ k τ L. under_goes ls.inner more (with_variables S Δ) τ vs us v.rest e L s (scan-ends equals (refl, refl, refl) us c) (ready_more ls.inner (λ n. among n ls.names) (λ n. is_in n Δ) k r) E) S.variables ls.names a [] (λ n q. or_left (among n ls.names) (is_in n S.variables) q))))
      where
        Q : Got Tree → Type 0
        Q = Ends (namesGo place' ls.names us vs)

        in_body : Scope → Got Tree → List Entry → State → Answer Made
        in_body S e Δ τ = go (with_variables S Δ) τ (groups_tree ls.inner e.value)

    let-goes : (place' m k : ℕ) → m ≤ most_nested → (us : List Word) → On (Ends (λ S σ K. let_from X bodies (at S K) σ place' us)) (let_at (λ vs. term_at m vs) (λ vs. lists_at k vs) place' us)
    let-goes place' m k h us = by (is round us)
      where
        lists : Scope → State → List TermLevel → Answer Terming
        lists S σ K = list_from head_at (length us) (behind us) >>= λ xs. expect endRound xs.rest >>= λ ws. namesGo place' xs.value ws (behind us) S σ K

        Q : Bool → Got Tree → Type 0
        Q b = Ends (λ S σ K. cond b (lists S σ K) (name_at us >>= λ x. nameFrom place' x.value (behind x.rest) S σ K))

        by : (b : Bool) → On (Q b) (cond b (lists_at k us >>= λ ls. let_body (λ vs. term_at m vs) (apart_tree place' ls.value) ls.rest) (name_at us >>= λ x. let_body (λ vs. term_at m vs) (Trees.name place' x.value) x.rest))
        by true = on_step (ListsMet us) (Ends lists) (lists_at k us) _ (lists_read k us) λ ls L.
            on_map (Ends (namesGo place' ls.value.names ls.rest (behind us))) (Ends lists) (let_body (λ vs. term_at m vs) (apart_tree place' ls.value) ls.rest) (names-go place' ls.value m h ls.rest (behind us) L.scans L.ready) λ g E S σ K.
            follows_as move (heads_then us ls L λ xs ws. namesGo place' xs ws (behind us) S σ K) (E S σ K)
        by false = reads_same (name_at us) _ (λ x. nameFrom place' x.value (behind x.rest)) λ x. name-goes place' x.value m h x.rest

    -- ---- tuples

    -- the rest of a tuple behind an element
    abbrev tupleFrom : Scope → Made → Trees → Answer Made
    tupleFrom S a noTrees = good a
    tupleFrom S a (trees comma' e es) = do
      b ← go S a.state e
      c ← tupleFrom S b es
      pair_of comma' a c

    tuple-from : (S : Scope) (σ : State) (e : Tree) (es : Trees) → tuple_of (go S) σ e es ≡ (go S σ e >>= λ a. tupleFrom S a es)
    tuple-from S σ e noTrees = sym (good_right (go S σ e))
    tuple-from S σ e (trees comma' e₁ es) = by (go S σ e) (λ τ. tuple-from S τ e₁ es)
      where
        by : (m : Answer Made) → ((τ : State) → tuple_of (go S) τ e₁ es ≡ (go S τ e₁ >>= λ a. tupleFrom S a es)) → (m >>= λ a. tuple_of (go S) a.state e₁ es >>= λ b. pair_of comma' a b) ≡ (m >>= λ a. tupleFrom S a (trees comma' e₁ es))
        by (good a) h = ap (λ (q : Answer Made). q >>= λ b. pair_of comma' a b) (h a.state) ∙ bind-bind (go S a.state e₁) (λ b. tupleFrom S b es) (λ c. pair_of comma' a c)
        by (refused why) h = refl

    -- pairs of the elements before, then the tuple is an atom
    abbrev pairsThen : Spine → List Element → Scope → List TermLevel → List Word → Made → Answer Terming
    pairsThen s before S K us b = pairs_of before b >>= λ p. behind_atom (at S K) s p (behind us)

    abbrev TreesGo : List Word → Got Trees → Type 0
    TreesGo us es = is comma es.rest ≡ false → (s : Spine) (before : List Element) (S : Scope) (K : List TermLevel) (a : Made) → Follows move (behind_element (at S K) s before a us) (tupleFrom S a es.value) (pairsThen s before S K es.rest)

    trees-go : (m : ℕ) → m ≤ most_nested → (rounds : ℕ) (us : List Word) → On (TreesGo us) (trees_from (λ vs. term_at m vs) rounds us)
    trees-go m h zero us = λ c s before S K a. rw c (follows_now move refl)
    trees-go m h (suc rounds) us = by (is comma us) refl (trees-go m h rounds)
      where
        by :
            (b : Bool) → is comma us ≡ b → ((vs : List Word) → On (TreesGo vs) (trees_from (λ vs. term_at m vs) rounds vs))
            → On (TreesGo us) (cond b (term_at m (behind us) >>= λ e. trees_from (λ vs. term_at m vs) rounds e.rest >>= λ es. got (trees (place us) e.value es.value) es.rest) (got noTrees us))
        by true e ih =
            on_step (TermGoes more (behind us)) (TreesGo us) (term_at m (behind us)) (λ e. trees_from (λ vs. term_at m vs) rounds e.rest >>= λ es. got (trees (place us) e.value es.value) es.rest) (below m h (behind us)) λ d G.
            on_step (TreesGo d.rest) (TreesGo us) (trees_from (λ vs. term_at m vs) rounds d.rest) (λ es. got (trees (place us) d.value es.value) es.rest) (ih d.rest) λ es T c s before S K a.
            let el : Element = record { made = a; comma = place us } in
            rw e (follows_then move (go S a.state d.value) (λ b. tupleFrom S b es.value >>= λ q. pair_of (place us) a q) (G S a.state (waits (element s (el ∷ before)) S K)) λ b.
            follows_step move (follows_then move (tupleFrom S b es.value) (λ q. pair_of (place us) a q) (T c s (el ∷ before) S K b) λ q.
            follows_as move (bind-bind (pair_of (place us) a q) (λ p. pairs_of before p) (λ p. behind_atom (at S K) s p (behind es.rest))) (follows_all move (pair_of (place us) a q))))
        by false e ih = λ c s before S K a. rw e (follows_now move refl)

    -- ---- atoms

    abbrev AtomGoes : Token → List Word → Got Atom → Type 0
    AtomGoes k ws a = (s : Spine) (S : Scope) (K : List TermLevel) (σ : State) → Follows move (atom_entered X bodies (at S K) s σ k ws) (atom S σ a.value) (λ x. behind_atom (at S K) s x a.rest)

    -- a name's arguments are there: the definition is put in
    module _ (us : List Word) (ts : Got TypeTrees) (ks : Got (List Number)) (types_are : TypesRead X more us ts) (numbers-are : numbers_at ts.rest ≡ good ks) where
      put-goes : (x : Bound) (s : Spine) (S : Scope) (K : List TermLevel) (σ : State) → Follows move (term_put_in X bodies (at S K) s σ x us) (put_in X false S typed (body_term go) σ x.place x.name ts.value ks.value) (λ m. behind_atom (at S K) s m ks.rest)
      put-goes x s S K σ =
          follows_as move (ap (λ (q : Answer (Got FoundAll)). q >>= opened) (types_are S x.place σ) ∙ bind-bind (found_all typed S x.place 0 σ ts.value) (λ xs. got xs ts.rest) opened) (
          follows_same move (found_all typed S x.place 0 σ ts.value) λ xs. rw numbers-are (
          follows_same move (numbers_in S x.place (length xs.types) ks.value) λ ns.
          follows_both move (λ (p : Put). BodyFound false (words_of xs ns) p.body) (clause_for (entries S) X.clauses (take S.seen X.clauses) 0 false x.name xs.types ns x.place) (body-found (entries S) X.clauses false x.name xs.types ns x.place bodies (take S.seen X.clauses) 0 (read_take S.seen bodies X.clauses reads)) λ p f.
          follows_same move (one_put xs.state p.cost x.place) λ σ₁. body-goes (words_of xs ns) p.body f p.scope σ₁))
        where
          words_of : FoundAll → List ℕ → List Word
          words_of xs ns = words_for bodies (take S.seen X.clauses) false x.name (length xs.types) ns

          opened : Got FoundAll → Answer Terming
          opened xs = numbers_at xs.rest >>= λ ks. numbers_in S x.place (length xs.value.types) ks.value >>= λ ns. clause_for (entries S) X.clauses (take S.seen X.clauses) 0 false x.name xs.value.types ns x.place >>= λ p. one_put xs.value.state p.cost x.place >>= λ σ₁. good (ask_term (at S K) (of_definition s ks.rest) p.scope σ₁ (words_of xs.value ns))

          body-goes : (vs : List Word) (b : Body) → BodyFound false vs b → (R : Scope) (τ : State) → Follows move (good (ask_term (at S K) (of_definition s ks.rest) R τ vs)) (body_term go R τ b) (λ m. behind_atom (at S K) s m ks.rest)
          body-goes vs (of_type t) f R τ = absurd f
          body-goes vs (of_term e) (after, f) R τ = follows_to move (go R τ e) (on_good (TermGoes more vs) (term_at most_nested vs) _ (below most_nested (omega arith) vs) f R τ (waits (of_definition s ks.rest) S K)) λ m. follows_step move (follows_now move refl)

    name-used : (m : ℕ) → m ≤ most_nested → (n : Name) (ws : List Word) → On (AtomGoes (name n) ws) (read_atom (λ vs. term_at m vs) (λ vs. type_at m false vs) (name n) ws)
    name-used m h n ws =
        on_step (λ (ts : Got TypeTrees). TypesRead X more us ts × Arguments (is square us) us ts) (AtomGoes (name n) ws) (arguments_at (λ vs. type_at m false vs) us) _ (on_pair (TypesRead X more us) (Arguments (is square us) us) (arguments_at (λ vs. type_at m false vs) us) (types-read X more m h us) (arguments_read (λ vs. type_at m false vs) us)) λ ts (T, A).
        on_is (AtomGoes (name n) ws) (numbers_at ts.rest) (λ ks. got (named (place ws) n ts.value ks.value) ks.rest) λ ks f s S K σ.
        by (is square us || is curly us) ts ks s S K σ (used_read us ts ks A (on_good (Numbers (is curly ts.rest) ts.rest) (numbers_at ts.rest) ks (numbers-read ts.rest) f)) (put-goes us ts ks T f x s S K σ)
      where
        us : List Word
        us = behind ws

        x : Bound
        x = record { name = n; place = place ws }

        by :
            (b : Bool) (ts : Got TypeTrees) (ks : Got (List Number)) (s : Spine) (S : Scope) (K : List TermLevel) (σ : State)
            → Used b (behind ws) ts.value ks
            → Follows move (term_put_in X bodies (at S K) s σ x us) (put_in X false S typed (body_term go) σ (place ws) n ts.value ks.value) (λ m. behind_atom (at S K) s m ks.rest)
            → Follows move (cond b (term_put_in X bodies (at S K) s σ x us) (lookup n S.variables 0 (λ i t. node (place ws) (variable σ.table i t) t 0 [] σ >>= λ m. behind_atom (at S K) s m us) (term_put_in X bodies (at S K) s σ x us))) (atom S σ (named (place ws) n ts.value ks.value)) (λ m. behind_atom (at S K) s m ks.rest)
        by true ts ks s S K σ q h = rw q h
        by false ts ks s S K σ q h = rw q.0 (lookup-both (λ (p : Answer Terming) (r : Answer Made). Follows move p r (λ m. behind_atom (at S K) s m ks.rest)) n S.variables 0 (λ j v. follows_as move (ap (λ (vs : List Word). node (place ws) (variable σ.table j v) v 0 [] σ >>= λ m. behind_atom (at S K) s m vs) q.1) (follows_all move (node (place ws) (variable σ.table j v) v 0 [] σ))) h)

    atom-goes : (m : ℕ) → m ≤ most_nested → (k : Token) (ws : List Word) → On (AtomGoes k ws) (read_atom (λ vs. term_at m vs) (λ vs. type_at m false vs) k ws)
    atom-goes m h (sign o) ws =
        on_test (AtomGoes (sign o) ws) (is_token round (sign o)) 32 (place ws) _ λ r.
        on_step (TermGoes more (behind ws)) (AtomGoes (sign o) ws) (term_at m (behind ws)) (λ e. trees_from (λ vs. term_at m vs) (length ws) e.rest >>= λ es. expect endRound es.rest >>= λ after. got (tuple e.value es.value) after) (below m h (behind ws)) λ e G.
        on_step (TreesGo e.rest) (AtomGoes (sign o) ws) (trees_from (λ vs. term_at m vs) (length ws) e.rest) (λ es. expect endRound es.rest >>= λ after. got (tuple e.value es.value) after) (trees-go m h (length ws) e.rest) λ es N.
        on_closed (AtomGoes (sign o) ws) es.rest (λ after. got (tuple e.value es.value) after) λ c s S K σ.
        rw (T-is (is_token round (sign o)) r) (follows_for move (tuple-from S σ e.value es.value) (follows_then move (go S σ e.value) (λ a. tupleFrom S a es.value) (G S σ (waits (element s []) S K)) λ a. follows_step move (N c s [] S K a)))
    atom-goes m h (part p) ws = λ s S K σ. follows_all move (part_of X.edition σ (place ws) p)
    atom-goes m h (number n) ws = tt
    atom-goes m h (name n) ws = name-used m h n ws

    -- ---- applications

    abbrev AtomsGo : List Word → Got Atoms → Type 0
    AtomsGo us rest' = (place' : ℕ) (S : Scope) (K : List TermLevel) (f : Made) → Follows move (good (applying more S place' f us K)) (spine_of (atom S) place' f rest'.value) (λ g. good (term_done (at S K) g rest'.rest))

    no_words : (us : List Word) → length us ≤ 0 → AtomsGo us (record { value = noAtoms; rest = us })
    no_words [] h place' S K f = follows_step move (follows_now move refl)
    no_words (w ∷ ws) h place' S K f = absurd (omega arith)

    atoms-go : (m : ℕ) → m ≤ most_nested → (rounds : ℕ) (us : List Word) → length us ≤ rounds → On (AtomsGo us) (atoms_from (λ vs. term_at m vs) (λ vs. type_at m false vs) rounds us)
    atoms-go m h zero us l = no_words us l
    atoms-go m h (suc rounds) us l = by (begins_atom us) refl (atoms-go m h rounds)
      where
        read : Answer (Got Atom)
        read = read_atom (λ vs. term_at m vs) (λ vs. type_at m false vs) (peek us).token us

        by :
            (b : Bool) → begins_atom us ≡ b → ((vs : List Word) → length vs ≤ rounds → On (AtomsGo vs) (atoms_from (λ vs. term_at m vs) (λ vs. type_at m false vs) rounds vs))
            → On (AtomsGo us) (cond b (read_atom (λ vs. term_at m vs) (λ vs. type_at m false vs) (peek us).token us >>= λ a. atoms_from (λ vs. term_at m vs) (λ vs. type_at m false vs) rounds a.rest >>= λ rest'. got (atoms a.value rest'.value) rest'.rest) (got noAtoms us))
        by true e ih =
            on_step (λ (a : Got Atom). AtomGoes (peek us).token us a × Left rounds a) (AtomsGo us) read _ (on_pair (AtomGoes (peek us).token us) (Left rounds) read (atom-goes m h (peek us).token us) (atom_left rounds m (peek us).token us (behind_one rounds us l))) λ a (A, k).
            on_step (AtomsGo a.rest) (AtomsGo us) (atoms_from (λ vs. term_at m vs) (λ vs. type_at m false vs) rounds a.rest) (λ rest'. got (atoms a.value rest'.value) rest'.rest) (ih a.rest k) λ rest' N place' S K f.
            follows_step move (rw e (follows_then move (atom S f.state a.value) (λ x. applied place' (rec_at x.state.table f.type) f x >>= λ g. spine_of (atom S) place' g rest'.value) (A (record { place = place'; function = some f }) S K f.state) λ x. follows_same move (applied place' (rec_at x.state.table f.type) f x) λ g. N place' S K g))
        by false e ih = λ place' S K f. follows_step move (rw e (follows_now move refl))

    spine-goes : (m : ℕ) → m ≤ most_nested → (ws : List Word) → On (Ends (λ S σ K. atom_entered X bodies (at S K) (record { place = place ws; function = none }) σ (peek ws).token ws)) (spine_at (λ vs. term_at m vs) (λ vs. type_at m false vs) ws)
    spine-goes m h ws =
        on_step (λ (a : Got Atom). AtomGoes (peek ws).token ws a × Left (length ws) a) Q read _ (on_pair (AtomGoes (peek ws).token ws) (Left (length ws)) read (atom-goes m h (peek ws).token ws) (atom_left (length ws) m (peek ws).token ws (behind_fewer (length ws) ws (omega arith)))) λ a (A, k).
        on_step (AtomsGo a.rest) Q (atoms_from (λ vs. term_at m vs) (λ vs. type_at m false vs) (length ws) a.rest) (λ rest'. got (spine (place ws) a.value rest'.value) rest'.rest) (atoms-go m h (length ws) a.rest k) λ rest' N S σ K.
        follows_then move (atom S σ a.value) (λ f. spine_of (atom S) (place ws) f rest'.value) (A (record { place = place ws; function = none }) S K σ) λ f. N (place ws) S K f
      where
        Q : Got Tree → Type 0
        Q = Ends (λ S σ K. atom_entered X bodies (at S K) (record { place = place ws; function = none }) σ (peek ws).token ws)

        read : Answer (Got Atom)
        read = read_atom (λ vs. term_at m vs) (λ vs. type_at m false vs) (peek ws).token ws

    -- ---- a level

    typed-goes : (m : ℕ) → m ≤ most_nested → (ws : List Word) → On (Ends (λ S σ K. names_typed X bodies (at S K) σ ws)) (names_from (length ws) (behind ws) >>= λ xs. bound_body (λ vs. term_at m vs) (λ vs. type_at m false vs) (Trees.fun (place ws) xs.value) xs.rest)
    typed-goes m h ws = reads_same (names_from (length ws) (behind ws)) _ (λ xs S σ K. bound_from (place ws) (length xs.value) (bind_all xs.value) (of_function xs.value) (functions_of xs.value) (Trees.fun (place ws) xs.value) (behind xs.rest) S σ K) λ xs.
        bound-goes (place ws) (length xs.value) (bind_all xs.value) (of_function xs.value) (functions_of xs.value) (Trees.fun (place ws) xs.value) (λ S K t b vs. refl) (λ S σ t e. refl) m h xs.rest

    function-goes : (m k : ℕ) → m ≤ most_nested → (ws : List Word) → On (Ends (λ S σ K. function_from X bodies (at S K) σ ws)) (binds_from (λ vs. lists_at k vs) (length ws) (behind ws) >>= λ xs. bound_body (λ vs. term_at m vs) (λ vs. type_at m false vs) (function_tree (place ws) xs.value) xs.rest)
    function-goes m k h ws = by (is round us)
      where
        us : List Word
        us = behind ws

        close : Got Binds → Answer (Got Tree)
        close xs = bound_body (λ vs. term_at m vs) (λ vs. type_at m false vs) (function_tree (place ws) xs.value) xs.rest

        lists : Scope → State → List TermLevel → Answer Terming
        lists S σ K = list_from head_at (length us) (behind us) >>= λ xs. expect endRound xs.rest >>= λ vs. pair_typed more (place ws) (place us) xs.value vs (behind us) S σ K

        Q : Bool → Got Tree → Type 0
        Q b = Ends (λ S σ K. cond b (pair_from X bodies (at S K) σ (place ws) us) (names_typed X bodies (at S K) σ ws))

        by : (b : Bool) → On (Q b) (cond b (lists_at k us >>= λ ls. got (binds_pair (place us) ls.value) ls.rest) (names_from (length ws) us >>= λ xs. got (binds_each xs.value) xs.rest) >>= close)
        by true = subst (On (Q true)) (sym (bind-bind (lists_at k us) (λ ls. got (binds_pair (place us) ls.value) ls.rest) close)) (on_step (ListsMet us) (Ends lists) (lists_at k us) _ (lists_read k us) λ ls L.
            on_map (PairGoes more (place ws) (place us) ls.value.names ls.rest (behind us)) (Ends lists) (close (record { value = binds_pair (place us) ls.value; rest = ls.rest })) (pair_goes more lower m h (place ws) (place us) ls.value ls.rest (behind us) L.scans L.ready) λ g E S σ K.
            follows_as move (heads_then us ls L λ xs vs. pair_typed more (place ws) (place us) xs vs (behind us) S σ K) (E S σ K))
        by false = subst (On (Q false)) (sym (bind-bind (names_from (length ws) us) (λ xs. got (binds_each xs.value) xs.rest) close)) (typed-goes m h ws)

    fix-goes : (m : ℕ) → m ≤ most_nested → (ws : List Word) → On (Ends (λ S σ K. fix_from X bodies (at S K) σ ws)) (name_at (behind ws) >>= λ x. bound_body (λ vs. term_at m vs) (λ vs. type_at m false vs) (Trees.fix (place ws) x.value) x.rest)
    fix-goes m h ws = reads_same (name_at (behind ws)) _ (λ x S σ K. bound_from (place ws) 1 (bind x.value) (of_fix x.value) (closed x) (Trees.fix (place ws) x.value) (behind x.rest) S σ K) λ x.
        bound-goes (place ws) 1 (bind x.value) (of_fix x.value) (closed x) (Trees.fix (place ws) x.value) (λ S K t b vs. refl) (λ S σ t e. refl) m h x.rest
      where
        closed : Got Bound → ℕ → Made → Answer Made
        closed x t b = node x.value.place (Terms.fix t b.term) t b.deep b.places b.state

    level-goes : Goes (suc more)
    level-goes zero h ws = tt
    level-goes (suc m) h ws = on_map (Ends (λ S σ K. term_entered X bodies (at S K) σ ws)) (TermGoes (suc more) ws) (term_at (suc m) ws) (by (is fun ws) (is fix ws) (is lets ws)) λ g E S σ K. follows_step move (E S σ K)
      where
        k : m ≤ most_nested
        k = omega arith

        Q : Bool → Bool → Bool → Got Tree → Type 0
        Q a b c = Ends (λ S σ K. cond a (function_from X bodies (at S K) σ ws) (cond b (fix_from X bodies (at S K) σ ws) (cond c (let_from X bodies (at S K) σ (place ws) (behind ws)) (atom_entered X bodies (at S K) (record { place = place ws; function = none }) σ (peek ws).token ws))))

        by : (a b c : Bool) → On (Q a b c) (cond a (binds_from (λ vs. lists_at (suc m) vs) (length ws) (behind ws) >>= λ xs. bound_body (λ vs. term_at m vs) (λ vs. type_at m false vs) (function_tree (place ws) xs.value) xs.rest) (cond b (name_at (behind ws) >>= λ x. bound_body (λ vs. term_at m vs) (λ vs. type_at m false vs) (Trees.fix (place ws) x.value) x.rest) (cond c (let_at (λ vs. term_at m vs) (λ vs. lists_at (suc m) vs) (place ws) (behind ws)) (spine_at (λ vs. term_at m vs) (λ vs. type_at m false vs) ws))))
        by true b c = function-goes m (suc m) k ws
        by false true c = fix-goes m k ws
        by false false true = let-goes (place ws) m (suc m) k (behind ws)
        by false false false = spine-goes m k ws

  all-lower : (more : ℕ) → Lower more
  all-lower zero = λ m h ws. none-goes m ws
  all-lower (suc more) = let lower : Lower more = all-lower more in (level-goes more lower, lower)

  pub term_goes : (more m : ℕ) → m ≤ most_nested → (ws : List Word) → On (TermGoes more ws) (term_at m ws)
  term_goes more = goes-here more (all-lower more)

-- where the grammar reads a tree from the words, the machine started at them does what `term_of` does to the tree: it gets to the term that
-- `term_of` makes, before the words behind the tree, or refuses as `term_of` does
pub machine_terms :
    (X : Text) (bodies : List (List Word)) → AllRead bodies X.clauses
    → (m more : ℕ) (ws : List Word) (g : Got Tree) → m ≤ most_nested → term_at m ws ≡ good g
    → (S : Scope) (σ : State) (K : List TermLevel) → (n : ℕ) × Runs (term_move X bodies) n (wanted_term more S σ ws K) (term_of X more S σ g.value >>= λ t. good (came_term more t g.rest K))
machine_terms X bodies reads m more ws g h e S σ K =
    let f = on_good (TermGoes X bodies reads more ws) (term_at m ws) g (term_goes X bodies reads more m h ws) e S σ K in
    (f.steps, f.lead)
