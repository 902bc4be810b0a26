-- The machine of terms ends: each step leaves fewer steps to do. Assumes nothing.
use Prim.Native.Nat.{ℕ, zero, suc, ◌+◌, ◌*◌, ◌-◌, ◌≤◌, ◌<◌}
use mathlib.Core.Path.{◌≡◌, refl, sym, ap, subst}
use mathlib.Core.Bool.{Bool, true, false, ◌||◌}
use mathlib.Core.List.{List, [], ◌∷◌}
use native.Mathlib.Omega.{arith}
use native.Mathlib.Nat.{mul-le-mul_right}
use lib.Dec.{T, eqb, leb, leb→le}
use lib.ListN.{length, take}
use Rattle.calculus.specs.Answer.{Answer, good, ◌>>=◌, refuse, need}
use Rattle.calculus.specs.Types.{rec_at}
use Rattle.calculus.specs.Terms as Terms
use Rattle.notation_calculus.specs.Words.{Name, same_name, Sign, sign_code, fun, fix, lets, round, endRound, equals, comma, colon, square, curly, Token, sign, part, number, name, Word}
use Rattle.notation_calculus.specs.Trees.{Bound, Number, Text}
use Rattle.notation_calculus.specs.Grammar.{most_nested, Got, got, peek, behind, place, is_token, is, expect, bound_name, name_at, list_from, numbers_at, arguments_at, type_at, begins_atom, names_from, nameless}
use Rattle.notation_calculus.specs.Making.{most_puts, State, Found, Entry, Scope, lookup, with_variables, entries, room_for, numbers_in, Put, clause_for, one_put, FoundAll, found_all, type_of, Made, node, variable, part_of, functions_of, name_of, applied}
use Rattle.notation_theorems.proofs.Answering.{On, on_step, on_any, on_test, on_either, on_tests, on_map}
use Rattle.notation_machine.specs.Bodies.{number_for, words_for}
use Rattle.notation_machine.specs.Lists.{head_at, next_list, list_count}
use Rattle.notation_machine.specs.TypeFrom.{type_from, types_from}
use Rattle.notation_machine.specs.TypeSteps.{AllShort}
use Rattle.notation_machine.specs.TermMachine.{Function, none, some, Spine, Element, TermWish, of_function, of_fix, value_of_name, value_of_names, under_name, under_names, element, of_definition, TermLevel, Terming, wanted_term, came_term, applying, TermHere, ask_term, term_done, pairs_of, Apart, apart_from, projections, applied_to, behind_atom, behind_element, term_put_in, term_named_at, atom_entered, application_from, list_made, list_below, under_lists, pair_from, names_typed, function_from, fix_from, let_from, term_entered, done_by, term_left, term_move}
use Rattle.notation_machine.specs.TermSteps.{term_put_steps, term_wish_steps, term_level_steps, term_steps, TermGoing}
use Rattle.notation_machine.proofs.ReadLaws.{on_expect, on_expected}
use Rattle.notation_machine.proofs.Lists.{OutsideLists, count-ends, count-scan, count_next}
use Rattle.notation_machine.proofs.Behind.{Left, behind_fewer, heads-keep, numbers-left, type_left_lem, arguments_left, name-left, names-left}
use Rattle.notation_machine.proofs.TypeFalls.{sign_some, behind_less, paid, clause_costs, words-short}
use Rattle.notation_machine.proofs.Spending.{Spent, SpentAll, type_spends, types_spend, Unspent, node_free, part_free, functions_free, name_free, pairs_free, applied_free, apart_free, projections_free}

-- ---- words and types

-- a name that stands there can be passed
name-some : (ws : List Word) → On (λ (g : Got Bound). length g.rest + 1 ≤ length ws) (name_at ws)
name-some [] = tt
name-some (w ∷ ws) = on_any (λ (g : Got Bound). length g.rest + 1 ≤ length (w ∷ ws)) (bound_name w.token w.place) (λ n. got n ws) λ n. omega arith

-- what is found at some words leaves no more words, and spends
abbrev Passed : ℕ → ℕ → Got Found → Type 0
Passed n puts t = (length t.rest ≤ n) × (puts ≤ t.value.state.puts)

type_passed : (X : Text) (more : ℕ) (S : Scope) (σ : State) (n : ℕ) (ws : List Word) → length ws ≤ n → On (Passed n σ.puts) (type_from X more S σ ws)
unfolding type_from
type_passed X more S σ n ws h = on_step (Left n) (Passed n σ.puts) (type_at most_nested false ws) (λ t. type_of X more S σ t.value >>= λ x. got x t.rest) (type_left_lem n most_nested false ws h) λ t l. on_step (Spent σ.puts) (Passed n σ.puts) (type_of X more S σ t.value) (λ x. got x t.rest) (type_spends X more S σ t.value) λ x k. (l, k)

abbrev PassedAll : ℕ → ℕ → Got FoundAll → Type 0
PassedAll n puts t = (length t.rest ≤ n) × (puts ≤ t.value.state.puts)

types-passed : (X : Text) (more : ℕ) (S : Scope) (at : ℕ) (σ : State) (n : ℕ) (ws : List Word) → length ws ≤ n → On (PassedAll n σ.puts) (types_from X more S at σ ws)
unfolding types_from
types-passed X more S at σ n ws h = on_step (Left n) (PassedAll n σ.puts) (arguments_at (λ us. type_at most_nested false us) ws) (λ ts. found_all (λ R τ t. type_of X more R τ t) S at 0 σ ts.value >>= λ xs. got xs ts.rest) (arguments_left n most_nested ws h) λ ts l. on_step (SpentAll σ.puts) (PassedAll n σ.puts) (found_all (λ R τ t. type_of X more R τ t) S at 0 σ ts.value) (λ xs. got xs ts.rest) (types_spend X more S at 0 σ ts.value) λ xs k. (l, k)

-- ---- lists

-- between two words no fewer words stand than lists begin
abbrev Counted : List Word → List Word → Type 0
Counted vs us = list_count vs + length us ≤ length vs + list_count us

counted_next : (vs us : List Word) → Counted vs us → Counted vs (behind us)
counted_next vs us c = omega (arith, count_next us)

-- a sign behind the names of a list at `vs`: there and behind it stand fewer words than lists begin from `vs` on
abbrev Ended : List Word → List Word → Type 0
Ended vs us = list_count vs + length us + 1 ≤ length vs

heads-ended : {B : Type 0} (Q : B → Type 0) (s : Sign) → OutsideLists s → eqb (sign_code s) 0 ≡ false → (rounds : ℕ) (vs : List Word) (f : List Bound → List Word → Answer B) → ((xs : List Bound) (us : List Word) → Ended vs us → On Q (f xs us)) → On Q (list_from head_at rounds vs >>= λ xs. expect endRound xs.rest >>= λ us. expect s us >>= λ ws. f xs.value ws)
heads-ended Q s o z rounds vs f h =
    on_step (λ (xs : Got (List Bound)). Counted vs xs.rest) Q (list_from head_at rounds vs) _ (heads-keep (Counted vs) (counted_next vs) rounds vs (omega arith)) λ xs c.
    on_expect Q endRound xs.rest _ (on_expected Q s (behind xs.rest) _ λ e.
    let d : Counted vs (behind xs.rest) = counted_next vs xs.rest c in
    h xs.value (behind (behind xs.rest)) (omega (arith, count-ends s o (behind xs.rest) e, sign_some s (behind xs.rest) z (rw e tt))))

-- ---- what is put in is paid for

put-paid : (most puts cost : ℕ) → puts + cost ≤ most_puts → 1 ≤ cost → term_put_steps most (puts + cost) + (3 * most + 3) ≤ term_put_steps most puts
unfolding term_put_steps
put-paid most puts cost h k = let e : most_puts - puts ≡ (most_puts - (puts + cost)) + cost = omega arith in rw e (paid (most_puts - (puts + cost)) cost (3 * most + 3) k)

spent_less : (most a b : ℕ) → a ≤ b → term_put_steps most b ≤ term_put_steps most a
unfolding term_put_steps
spent_less most a b h = mul-le-mul_right (3 * most + 3) (omega arith)

-- what a machine has to do when it starts
pub term_start_lem : (most more : ℕ) (S : Scope) (σ : State) (ws : List Word) → length ws ≤ most → term_steps most (wanted_term more S σ ws []) ≤ 1 + 3 * most + most_puts * (3 * most + 3)
unfolding term_put_steps
term_start_lem most more S σ ws h = let q : (most_puts - σ.puts) * (3 * most + 3) ≤ most_puts * (3 * most + 3) = mul-le-mul_right (3 * most + 3) (omega arith) in omega arith

-- ---- steps

module _ (X : Text) (bodies : List (List Word)) (most : ℕ) (short : AllShort most bodies) where
  -- what is left at a level, from these words on
  abbrev here : TermHere → ℕ → List Word → ℕ
  here h puts ws = 3 * length ws + term_level_steps h.above + term_put_steps most puts

  abbrev Most : ℕ → Terming → Type 0
  Most n s = term_steps most s ≤ n

  most-less : (m n : ℕ) (p : Answer Terming) → m ≤ n → On (Most m) p → On (Most n) p
  most-less m n p h o = on_map (Most m) (Most n) p o λ s k. omega arith

  -- an atom is there
  atom-falls : (h : TermHere) (s : Spine) (x : Made) (ws : List Word) → On (Most (1 + here h x.state.puts ws)) (behind_atom h s x ws)
  atom-falls h s x ws = by s.function
    where
      by : (f : Function) → On (Most (1 + here h x.state.puts ws)) (applied_to h s.place f x ws)
      by none = omega arith
      by (some f) = on_step (Unspent x.state.puts) (Most (1 + here h x.state.puts ws)) (applied s.place (rec_at x.state.table f.type) f x) _ (applied_free s.place (rec_at x.state.table f.type) f x) λ g e. let q : term_put_steps most g.state.puts ≡ term_put_steps most x.state.puts = ap (term_put_steps most) e in omega arith

  -- .. made from a state, and it spent nothing
  made-falls : (h : TermHere) (s : Spine) (puts : ℕ) (m : Answer Made) (ws : List Word) → On (Unspent puts) m → On (Most (1 + here h puts ws)) (m >>= λ x. behind_atom h s x ws)
  made-falls h s puts m ws o = on_step (Unspent puts) (Most (1 + here h puts ws)) m (λ x. behind_atom h s x ws) o λ x e. let q : here h x.state.puts ws ≡ here h puts ws = ap (λ (p : ℕ). here h p ws) e in most-less (1 + here h x.state.puts ws) (1 + here h puts ws) (behind_atom h s x ws) (omega arith) (atom-falls h s x ws)

  done-falls : (h : TermHere) (puts : ℕ) (m : Answer Made) (ws : List Word) → On (Unspent puts) m → On (Most (here h puts ws)) (done_by X bodies h m ws)
  done-falls h puts m ws o = on_step (Unspent puts) (Most (here h puts ws)) m (λ x. good (term_done h x ws)) o λ x e. let q : here h x.state.puts ws ≡ here h puts ws = ap (λ (p : ℕ). here h p ws) e in omega arith

  element-falls : (h : TermHere) (s : Spine) (before : List Element) (m : Made) (ws : List Word) → On (Most (1 + here h m.state.puts ws)) (behind_element h s before m ws)
  element-falls h s before m ws = on_tests (Most (1 + here h m.state.puts ws)) (is comma ws) (good (ask_term h (element s (record { made = m; comma = place ws } ∷ before)) h.scope m.state (behind ws))) (pairs_of before m >>= λ p. behind_atom h s p (behind ws)) (λ t. let k : length (behind ws) + 1 ≤ length ws = sign_some comma ws refl t in omega arith) λ _. most-less (1 + here h m.state.puts (behind ws)) (1 + here h m.state.puts ws) (pairs_of before m >>= λ p. behind_atom h s p (behind ws)) (omega (arith, behind_less ws)) (made-falls h s m.state.puts (pairs_of before m) (behind ws) (pairs_free before m))

  -- a definition is put in, and pays for its body
  put-falls : (h : TermHere) (s : Spine) (σ : State) (x : Bound) (ws : List Word) → On (Most (here h σ.puts ws)) (term_put_in X bodies h s σ x ws)
  put-falls h s σ x ws =
      on_step (PassedAll (length ws) σ.puts) Q (types_from X h.more h.scope x.place σ ws) _ (types-passed X h.more h.scope x.place σ (length ws) ws (omega arith)) λ ts (lt, kt).
      on_step (Left (length ws)) Q (numbers_at ts.rest) _ (numbers-left (length ws) ts.rest lt) λ ks l.
      on_any Q (numbers_in h.scope x.place (length ts.value.types) ks.value) _ λ ns.
      on_step (λ (p : Put). 1 ≤ p.cost) Q (clause_for (entries h.scope) X.clauses (take h.scope.seen X.clauses) 0 false x.name ts.value.types ns x.place) _ (clause_costs (entries h.scope) X.clauses (take h.scope.seen X.clauses) 0 false x.name ts.value.types ns x.place) λ p c.
      paid-by ts.value ks ns p kt l c
    where
      Q : Terming → Type 0
      Q = Most (here h σ.puts ws)

      vs : List ℕ → List ℕ → List Word
      vs ts ns = words_for bodies (take h.scope.seen X.clauses) false x.name (length ts) ns

      paid-by : (xs : FoundAll) (ks : Got (List Number)) (ns : List ℕ) (p : Put) → σ.puts ≤ xs.state.puts → length ks.rest ≤ length ws → 1 ≤ p.cost → On Q (one_put xs.state p.cost x.place >>= λ σ₁. good (ask_term h (of_definition s ks.rest) p.scope σ₁ (vs xs.types ns)))
      paid-by xs ks ns p kt l c = by (leb (xs.state.puts + p.cost) most_puts) (leb→le (xs.state.puts + p.cost) most_puts)
        where
          by : (b : Bool) → (T b → xs.state.puts + p.cost ≤ most_puts) → On Q ((need b 34 x.place >>= λ _. good (record { table = xs.state.table; nodes = xs.state.nodes; puts = xs.state.puts + p.cost })) >>= λ σ₁. good (ask_term h (of_definition s ks.rest) p.scope σ₁ (vs xs.types ns)))
          by true g =
              let q : length (vs xs.types ns) ≤ most = words-short most bodies (number_for (take h.scope.seen X.clauses) false x.name (length xs.types) ns) short in
              omega (arith, put-paid most xs.state.puts p.cost (g tt) c, spent_less most σ.puts xs.state.puts kt)
          by false g = tt

  named-falls : (h : TermHere) (s : Spine) (σ : State) (x : Bound) (ws : List Word) → On (Most (1 + here h σ.puts ws)) (term_named_at X bodies h s σ x ws)
  named-falls h s σ x ws = on_either Q (is square ws || is curly ws) (term_put_in X bodies h s σ x ws) _ there (found h.scope.variables 0)
    where
      Q : Terming → Type 0
      Q = Most (1 + here h σ.puts ws)

      there : On Q (term_put_in X bodies h s σ x ws)
      there = most-less (here h σ.puts ws) (1 + here h σ.puts ws) (term_put_in X bodies h s σ x ws) (omega arith) (put-falls h s σ x ws)

      found : (Γ : List Entry) (i : ℕ) → On Q (lookup x.name Γ i (λ i t. node x.place (variable σ.table i t) t 0 [] σ >>= λ m. behind_atom h s m ws) (term_put_in X bodies h s σ x ws))
      found [] i = there
      found (e ∷ es) i = on_either Q (same_name x.name e.name) (node x.place (variable σ.table i e.value) e.value 0 [] σ >>= λ m. behind_atom h s m ws) _ (made-falls h s σ.puts (node x.place (variable σ.table i e.value) e.value 0 [] σ) ws (node_free x.place (variable σ.table i e.value) e.value 0 [] σ)) (found es (suc i))

  -- a word that is not the end can be passed
  part-some : (ws : List Word) (p : ℕ) → (peek ws).token ≡ part p → length (behind ws) + 1 ≤ length ws
  part-some [] p e = let z : ◌≡◌ {A = ℕ} 0 1 = cc in absurd (omega arith)
  part-some (w ∷ ws) p e = omega arith

  named_some : (ws : List Word) (n : Name) → (peek ws).token ≡ name n → length (behind ws) + 1 ≤ length ws
  named_some [] n e = let z : ◌≡◌ {A = ℕ} 0 1 = cc in absurd (omega arith)
  named_some (w ∷ ws) n e = omega arith

  -- an atom takes a word
  entered-falls : (h : TermHere) (s : Spine) (σ : State) (k : Token) (ws : List Word) → (peek ws).token ≡ k → On (Most (here h σ.puts ws)) (atom_entered X bodies h s σ k ws)
  entered-falls h s σ (sign t) ws e = on_test (Most (here h σ.puts ws)) (is_token round (sign t)) 32 (place ws) _ λ r. let k : length (behind ws) + 1 ≤ length ws = sign_some round ws refl (subst (λ (o : Token). T (is_token round o)) (sym e) r) in omega arith
  entered-falls h s σ (part p) ws e = most-less (1 + here h σ.puts (behind ws)) (here h σ.puts ws) (part_of X.edition σ (place ws) p >>= λ m. behind_atom h s m (behind ws)) (omega (arith, part-some ws p e)) (made-falls h s σ.puts (part_of X.edition σ (place ws) p) (behind ws) (part_free X.edition σ (place ws) p))
  entered-falls h s σ (number n) ws e = tt
  entered-falls h s σ (name n) ws e = most-less (1 + here h σ.puts (behind ws)) (here h σ.puts ws) (term_named_at X bodies h s σ (record { name = n; place = place ws }) (behind ws)) (omega (arith, named_some ws n e)) (named-falls h s σ (record { name = n; place = place ws }) (behind ws))

  application-falls : (h : TermHere) (at : ℕ) (f : Made) (ws : List Word) → On (Most (here h f.state.puts ws)) (application_from X bodies h at f ws)
  application-falls h at f ws = on_either (Most (here h f.state.puts ws)) (begins_atom ws) (atom_entered X bodies h (record { place = at; function = some f }) f.state (peek ws).token ws) (good (term_done h f ws)) (entered-falls h (record { place = at; function = some f }) f.state (peek ws).token ws refl) (omega arith)

  -- ---- functions, fixed points and names: the first word is passed

  -- the variable is there that is taken apart: it and its level are paid for, and so are the lists behind it
  list-in-falls :
      (more : ℕ) (S : Scope) (σ : State) (at : ℕ) (xs : List Bound) (us ws : List Word) (K : List TermLevel) (n : ℕ) → 4 + 3 * list_count us + 3 * length ws + term_level_steps K + term_put_steps most σ.puts ≤ n
      → On (Most n) (list_below more S σ at xs us ws K)
  list-in-falls zero S σ at xs us ws K n h = tt
  list-in-falls (suc more) S σ at xs us ws K n h = found S.variables 0
    where
      made : (more i t : ℕ) → On (Most n) (list_made more S σ at xs us i t ws K)
      made zero i t = tt
      made (suc more) i t =
          on_step (Unspent σ.puts) (Most n) (node at (variable σ.table i t) t 0 [] σ) _ (node_free at (variable σ.table i t) t 0 [] σ) λ v e.
          let q : term_put_steps most v.state.puts ≡ term_put_steps most σ.puts = ap (term_put_steps most) e in omega arith

      found : (Γ : List Entry) (i : ℕ) → On (Most n) (lookup (nameless at).name Γ i (λ i t. list_made more S σ at xs us i t ws K) (refuse 32 at))
      found [] i = tt
      found (e ∷ es) i = on_either (Most n) (same_name (nameless at).name e.name) (list_made more S σ at xs us i e.value ws K) _ (made more i e.value) (found es (suc i))

  -- the next list is one that is paid for; or the body is wanted
  under-falls :
      (more : ℕ) (S : Scope) (σ : State) (us ws : List Word) (K : List TermLevel) (n : ℕ) → 1 + 3 * list_count us + 3 * length ws + term_level_steps K + term_put_steps most σ.puts ≤ n
      → On (Most n) (under_lists more S σ us ws K)
  under-falls more S σ us ws K n h =
      on_tests (Most n) (is round (next_list us)) _ _ (λ t. on_any (Most n) (list_from head_at (length (next_list us)) (behind (next_list us))) _ λ xs. list-in-falls more S σ (place (next_list us)) xs.value (behind (next_list us)) ws K n (omega (arith, count-scan us t))) λ _. omega (arith, behind_less ws)

  pair-falls : (h : TermHere) (σ : State) (at : ℕ) (ws us : List Word) → length us + 1 ≤ length ws → T (is round us) → On (Most (here h σ.puts ws)) (pair_from X bodies h σ at us)
  pair-falls h σ at ws us k t =
      let j : length (behind us) + 1 ≤ length us = sign_some round us refl t in
      heads-ended Q colon (refl, refl, refl) refl (length us) (behind us) _ λ xs vs d.
      on_step (Passed (length vs) σ.puts) Q (type_from X h.more h.scope σ vs) _ (type_passed X h.more h.scope σ (length vs) vs (omega arith)) λ t (lt, kt).
      on_any Q (room_for h.scope 1 at) _ λ _. list-in-falls h.more _ t.value.state (place us) xs (behind us) t.rest _ (here h σ.puts ws) (omega (arith, spent_less most σ.puts t.value.state.puts kt))
    where
      Q : Terming → Type 0
      Q = Most (here h σ.puts ws)

  typed-falls : (h : TermHere) (σ : State) (ws : List Word) → T (is fun ws) → On (Most (here h σ.puts ws)) (names_typed X bodies h σ ws)
  typed-falls h σ ws t =
      let k : length (behind ws) + 1 ≤ length ws = sign_some fun ws refl t in
      on_step (Left (length (behind ws))) Q (names_from (length ws) (behind ws)) _ (names-left (length (behind ws)) (length ws) (behind ws) (omega arith)) λ xs l.
      on_step (Passed (length (behind ws)) σ.puts) Q (type_from X h.more h.scope σ (behind xs.rest)) _ (type_passed X h.more h.scope σ (length (behind ws)) (behind xs.rest) (behind_fewer (length (behind ws)) xs.rest l)) λ t (lt, kt).
      on_any Q (room_for h.scope (length xs.value) (place ws)) _ λ _. omega (arith, behind_less t.rest, spent_less most σ.puts t.value.state.puts kt)
    where
      Q : Terming → Type 0
      Q = Most (here h σ.puts ws)

  function-falls : (h : TermHere) (σ : State) (ws : List Word) → T (is fun ws) → On (Most (here h σ.puts ws)) (function_from X bodies h σ ws)
  function-falls h σ ws t = on_tests (Most (here h σ.puts ws)) (is round (behind ws)) _ _ (λ r. pair-falls h σ (place ws) ws (behind ws) (sign_some fun ws refl t) r) λ _. typed-falls h σ ws t

  fix-falls : (h : TermHere) (σ : State) (ws : List Word) → T (is fix ws) → On (Most (here h σ.puts ws)) (fix_from X bodies h σ ws)
  fix-falls h σ ws t =
      let k : length (behind ws) + 1 ≤ length ws = sign_some fix ws refl t in
      on_step (Left (length (behind ws))) Q (name_at (behind ws)) _ (name-left (length (behind ws)) (behind ws) (omega arith)) λ x l.
      on_step (Passed (length (behind ws)) σ.puts) Q (type_from X h.more h.scope σ (behind x.rest)) _ (type_passed X h.more h.scope σ (length (behind ws)) (behind x.rest) (behind_fewer (length (behind ws)) x.rest l)) λ t (lt, kt).
      on_any Q (room_for h.scope 1 (place ws)) _ λ _. omega (arith, behind_less t.rest, spent_less most σ.puts t.value.state.puts kt)
    where
      Q : Terming → Type 0
      Q = Most (here h σ.puts ws)

  let-falls : (h : TermHere) (σ : State) (at : ℕ) (ws us : List Word) → length us + 1 ≤ length ws → On (Most (here h σ.puts ws)) (let_from X bodies h σ at us)
  let-falls h σ at ws us k =
      on_tests Q (is round us) _ _ (λ t. let j : length (behind us) + 1 ≤ length us = sign_some round us refl t in heads-ended Q equals (refl, refl, refl) refl (length us) (behind us) (λ xs vs. good (ask_term h (value_of_names at xs (behind us)) h.scope σ vs)) λ xs vs d. omega arith) λ _.
      on_step (λ (g : Got Bound). length g.rest + 1 ≤ length us) Q (name_at us) _ (name-some us) λ x l. omega (arith, behind_less x.rest)
    where
      Q : Terming → Type 0
      Q = Most (here h σ.puts ws)

  term-entered-falls : (h : TermHere) (σ : State) (ws : List Word) → On (Most (here h σ.puts ws)) (term_entered X bodies h σ ws)
  term-entered-falls h σ ws = on_tests Q (is fun ws) (function_from X bodies h σ ws) _ (function-falls h σ ws) λ _. on_tests Q (is fix ws) (fix_from X bodies h σ ws) _ (fix-falls h σ ws) λ _. on_tests Q (is lets ws) (let_from X bodies h σ (place ws) (behind ws)) _ (λ t. let-falls h σ (place ws) ws (behind ws) (sign_some lets ws refl t)) λ _. entered-falls h (record { place = place ws; function = none }) σ (peek ws).token ws refl
    where
      Q : Terming → Type 0
      Q = Most (here h σ.puts ws)

  left-falls : (h : TermHere) (w : TermWish) (m : Made) (ws : List Word) → On (Most (1 + term_wish_steps w + here h m.state.puts ws)) (term_left X bodies h w m ws)
  left-falls h (of_function xs t) m ws = most-less (here h m.state.puts ws) (1 + 0 + here h m.state.puts ws) (done_by X bodies h (functions_of xs t m) ws) (omega arith) (done-falls h m.state.puts (functions_of xs t m) ws (functions_free xs t m))
  left-falls h (of_fix x t) m ws = most-less (here h m.state.puts ws) (1 + 0 + here h m.state.puts ws) (term_left X bodies h (of_fix x t) m ws) (omega arith) (done-falls h m.state.puts (node x.place (Terms.fix t m.term) t m.deep m.places m.state) ws (node_free x.place (Terms.fix t m.term) t m.deep m.places m.state))
  left-falls h (value_of_name at x) m ws = on_any (Most (1 + 2 + here h m.state.puts ws)) (room_for h.scope 1 at) _ λ _. omega (arith, behind_less ws)
  left-falls h (value_of_names at xs us) m ws =
      on_any Q (room_for h.scope (length xs + length xs) at) _ λ _. on_step (λ (a : Apart). a.state.puts ≡ m.state.puts) Q (apart_from h.scope.variables xs m []) _ (apart_free h.scope.variables xs m []) λ a e.
      let q : term_put_steps most a.state.puts ≡ term_put_steps most m.state.puts = ap (term_put_steps most) e in
      under-falls h.more (with_variables h.scope a.variables) a.state us ws (record { wish = under_names a.taken; scope = h.scope } ∷ h.above) (1 + (2 + 3 * list_count us) + here h m.state.puts ws) (omega arith)
    where
      Q : Terming → Type 0
      Q = Most (1 + (2 + 3 * list_count us) + here h m.state.puts ws)
  left-falls h (under_name x v) m ws = most-less (here h m.state.puts ws) (1 + 0 + here h m.state.puts ws) (done_by X bodies h (name_of X.edition x v m) ws) (omega arith) (done-falls h m.state.puts (name_of X.edition x v m) ws (name_free X.edition x v m))
  left-falls h (under_names ps) m ws = most-less (here h m.state.puts ws) (1 + 0 + here h m.state.puts ws) (done_by X bodies h (projections ps m) ws) (omega arith) (done-falls h m.state.puts (projections ps m) ws (projections_free ps m))
  left-falls h (element s before) m ws = element-falls h s before m ws
  left-falls h (of_definition s us) m ws = most-less (1 + here h m.state.puts us) (1 + 3 * length us + here h m.state.puts ws) (behind_atom h s m us) (omega arith) (atom-falls h s m us)

  -- ---- a step

  fall-as : (m n : ℕ) (p : Answer Terming) → m < n → On (Most m) p → On (λ (t : Terming). term_steps most t < n) p
  fall-as m n p h o = on_map (Most m) (λ (t : Terming). term_steps most t < n) p o λ s k. omega arith

  -- each step of a machine that goes on leaves fewer steps to do
  pub term_falls : (s : Terming) → TermGoing s → On (λ (t : Terming). term_steps most t < term_steps most s) (term_move X bodies s)
  term_falls (wanted_term zero S σ ws K) g = tt
  term_falls (wanted_term (suc more) S σ ws K) g = fall-as (here (record { more = more; scope = S; above = K }) σ.puts ws) (term_steps most (wanted_term (suc more) S σ ws K)) (term_move X bodies (wanted_term (suc more) S σ ws K)) (omega arith) (term-entered-falls (record { more = more; scope = S; above = K }) σ ws)
  term_falls (applying more S at f ws K) g = fall-as (here (record { more = more; scope = S; above = K }) f.state.puts ws) (term_steps most (applying more S at f ws K)) (term_move X bodies (applying more S at f ws K)) (omega arith) (application-falls (record { more = more; scope = S; above = K }) at f ws)
  term_falls (came_term more m ws []) g = absurd g
  term_falls (came_term more m ws (l ∷ K)) g = fall-as (1 + term_wish_steps l.wish + here (record { more = more; scope = l.scope; above = K }) m.state.puts ws) (term_steps most (came_term more m ws (l ∷ K))) (term_move X bodies (came_term more m ws (l ∷ K))) (omega arith) (left-falls (record { more = more; scope = l.scope; above = K }) l.wish m ws)
