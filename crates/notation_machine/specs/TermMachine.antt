-- The machine that makes a term as the code reads it: word by word, with a level for each term that is not yet done. It knows no trees;
-- `machine_terms` (proofs/Terms) says that it does what `term_of` does to the tree of these words. Assumes nothing.
use Rattle.std.specs.Prelude.{ℕ, zero, suc, ◌+◌, false, ◌||◌, cond, List, [], ◌∷◌, length, take}
use Rattle.calculus.specs.Answer.{Answer, good, ◌>>=◌, refuse, need}
use Rattle.calculus.specs.Types.{rec_at}
use Rattle.calculus.specs.Terms.{var, proj}
use Rattle.calculus.specs.Terms as Terms
use Rattle.notation_calculus.specs.Words.{fun, fix, lets, round, endRound, equals, comma, colon, square, curly, Token, sign, part, number, name, Word}
use Rattle.notation_calculus.specs.Trees.{Bound, Text}
use Rattle.notation_calculus.specs.Grammar.{peek, behind, place, is_token, is, expect, name_at, list_from, numbers_at, begins_atom, names_from, nameless}
use Rattle.notation_calculus.specs.Making.{State, Entry, Scope, lookup, bind, bind_all, with_variables, entries, room_for, numbers_in, clause_for, one_put, Made, node, over, variable, part_of, functions_of, name_of, halves_of, rest, pair_of, applied}
use Rattle.notation_machine.specs.Bodies.{words_for}
use Rattle.notation_machine.specs.Lists.{head_at, next_list}
use Rattle.notation_machine.specs.TypeFrom.{type_from, types_from}

-- ---- what waits

-- what stands left of an atom in an application
pub data Function : Type 0 where
  none : Function
  some : Made → Function

-- an application that begins at a place
pub record Spine : Type 0 where
  pub place : ℕ
  pub function : Function

-- an element of a tuple, and the comma behind it
pub record Element : Type 0 where
  pub made : Made
  pub comma : ℕ

-- a pair that is taken apart, for a name at a place
pub record Taken : Type 0 where
  pub place : ℕ
  pub pair : Made

-- what is done with a term that is made one level below
pub data TermWish : Type 0 where
  of_function : List Bound → ℕ → TermWish  -- the body behind names and their type
  of_fix : Bound → ℕ → TermWish
  value_of_name : ℕ → Bound → TermWish  -- `let` at a place
  value_of_names : ℕ → List Bound → List Word → TermWish  -- .. and the words behind the parenthesis of their list
  under_name : Bound → Made → TermWish  -- the body of a `let` with its value
  under_names : List Taken → TermWish
  element : Spine → List Element → TermWish  -- of a tuple; with those before it, the last first
  of_definition : Spine → List Word → TermWish  -- the body of a definition, behind whose name and arguments these words stand

pub record TermLevel : Type 0 where
  pub wish : TermWish
  pub scope : Scope

-- the term at these words is wanted, with so many levels left; or this term came, and these words stand behind it; or it is the function of an
-- application that begins at a place, which may go on here
pub data Terming : Type 0 where
  wanted_term : ℕ → Scope → State → List Word → List TermLevel → Terming
  came_term : ℕ → Made → List Word → List TermLevel → Terming
  applying : ℕ → Scope → ℕ → Made → List Word → List TermLevel → Terming

-- the level that the machine is at, the levels that there may still be below it, and those above, the nearest first
pub record TermHere : Type 0 where
  pub more : ℕ
  pub scope : Scope
  pub above : List TermLevel

abbrev pub ask_term : TermHere → TermWish → Scope → State → List Word → Terming
ask_term h w S σ ws = wanted_term h.more S σ ws (record { wish = w; scope = h.scope } ∷ h.above)

abbrev pub term_done : TermHere → Made → List Word → Terming
term_done h m ws = came_term (suc h.more) m ws h.above

-- ---- tuples, and pairs taken apart

-- pairs from the last comma on
abbrev pub pairs_of : List Element → Made → Answer Made
pairs_of [] m = good m
pairs_of (a ∷ before) m = do
  p ← pair_of a.comma a.made m
  pairs_of before p

-- the names of a pair are bound, and the pairs that are taken apart, the innermost first
pub record Apart : Type 0 where
  pub variables : List Entry
  pub state : State
  pub taken : List Taken

abbrev pub apart_from : List Entry → List Bound → Made → List Taken → Answer Apart
apart_from Γ [] v ps = refuse 32 0
apart_from Γ (x ∷ []) v ps = refuse 32 0
apart_from Γ (x ∷ y ∷ []) v ps =
    let h = halves_of (rec_at v.state.table v.type) in
    good (record { variables = bind y h.right (bind x h.left Γ); state = v.state; taken = record { place = x.place; pair = v } ∷ ps })
apart_from Γ (x ∷ y ∷ z ∷ zs) v ps = do
  let h = halves_of (rec_at v.state.table v.type)
  r ← node y.place (var 0) h.right 0 [] v.state
  apart_from (bind rest h.right (bind x h.left Γ)) (y ∷ z ∷ zs) r (record { place = x.place; pair = v } ∷ ps)

abbrev pub projections : List Taken → Made → Answer Made
projections [] e = good e
projections (p ∷ ps) e = do
  f ← over p.place proj e.type p.pair e e.state
  projections ps f

-- ---- applications

-- an atom is there: it is the function, or the argument of the function so far
abbrev pub applied_to : TermHere → ℕ → Function → Made → List Word → Answer Terming
applied_to h at none x ws = good (applying h.more h.scope at x ws h.above)
applied_to h at (some f) x ws = do
  g ← applied at (rec_at x.state.table f.type) f x
  good (applying h.more h.scope at g ws h.above)

abbrev pub behind_atom : TermHere → Spine → Made → List Word → Answer Terming
behind_atom h s x ws = applied_to h s.place s.function x ws

-- behind an element of a tuple: a comma, or the closing parenthesis
abbrev pub behind_element : TermHere → Spine → List Element → Made → List Word → Answer Terming
behind_element h s before m ws = cond (is comma ws) (good (ask_term h (element s (record { made = m; comma = place ws } ∷ before)) h.scope m.state (behind ws))) (do
  p ← pairs_of before m
  behind_atom h s p (behind ws))

-- ---- lists in one another

-- variable i of a type is made, for a list at a place: its names, and the words behind its parenthesis; this takes a level
abbrev pub list_made : ℕ → Scope → State → ℕ → List Bound → List Word → ℕ → ℕ → List Word → List TermLevel → Answer Terming
list_made zero S σ at xs us i t ws K = refuse 34 at
list_made (suc more) S σ at xs us i t ws K = do
  v ← node at (variable σ.table i t) t 0 [] σ
  good (came_term (suc more) v ws (record { wish = value_of_names at xs us; scope = S } ∷ K))

-- .. in a body, one level below; the nameless variable of a list stands in the scope, and 32 is never met
abbrev pub list_below : ℕ → Scope → State → ℕ → List Bound → List Word → List Word → List TermLevel → Answer Terming
list_below zero S σ at xs us ws K = refuse 34 at
list_below (suc more) S σ at xs us ws K = lookup (nameless at).name S.variables 0 (λ i t. list_made more S σ at xs us i t ws K) (refuse 32 at)

-- the body of names that were bound, behind `in` or a dot: the next list is taken apart in it, or it is wanted
abbrev pub under_lists : ℕ → Scope → State → List Word → List Word → List TermLevel → Answer Terming
under_lists more S σ us ws K = cond (is round (next_list us)) (do
  xs ← list_from head_at (length (next_list us)) (behind (next_list us))
  list_below more S σ (place (next_list us)) xs.value (behind (next_list us)) ws K) (good (wanted_term more S σ (behind ws) K))

module _ (X : Text) (bodies : List (List Word)) where
  -- behind a name: its arguments, the clause, its cost, and then its body is wanted
  abbrev pub term_put_in : TermHere → Spine → State → Bound → List Word → Answer Terming
  term_put_in h s σ x ws = do
    ts ← types_from X h.more h.scope x.place σ ws
    ks ← numbers_at ts.rest
    ns ← numbers_in h.scope x.place (length ts.value.types) ks.value
    p ← clause_for (entries h.scope) X.clauses (take h.scope.seen X.clauses) 0 false x.name ts.value.types ns x.place
    σ₁ ← one_put ts.value.state p.cost x.place
    good (ask_term h (of_definition s ks.rest) p.scope σ₁ (words_for bodies (take h.scope.seen X.clauses) false x.name (length ts.value.types) ns))

  -- behind a name: a variable, if no arguments follow; or a definition
  abbrev pub term_named_at : TermHere → Spine → State → Bound → List Word → Answer Terming
  term_named_at h s σ x ws =
      let there = term_put_in h s σ x ws in
      cond (is square ws || is curly ws) there (lookup x.name h.scope.variables 0 (λ i t. node x.place (variable σ.table i t) t 0 [] σ >>= λ m. behind_atom h s m ws) there)

  -- an atom begins with this word; the grammar has seen that one does, and 32 is never met
  abbrev pub atom_entered : TermHere → Spine → State → Token → List Word → Answer Terming
  atom_entered h s σ (sign t) ws = do
    _ ← need (is_token round (sign t)) 32 (place ws)
    good (ask_term h (element s []) h.scope σ (behind ws))
  atom_entered h s σ (part p) ws = do
    m ← part_of X.edition σ (place ws) p
    behind_atom h s m (behind ws)
  atom_entered h s σ (number k) ws = refuse 32 (place ws)
  atom_entered h s σ (name n) ws = term_named_at h s σ (record { name = n; place = place ws }) (behind ws)

  -- behind the function of an application: one more atom, or no more
  abbrev pub application_from : TermHere → ℕ → Made → List Word → Answer Terming
  application_from h at f ws = cond (begins_atom ws) (atom_entered h (record { place = at; function = some f }) f.state (peek ws).token ws) (good (term_done h f ws))

  -- ---- functions, fixed points and names

  -- : type . term, behind `fun` at a place and before a list
  abbrev pub pair_from : TermHere → State → ℕ → List Word → Answer Terming
  pair_from h σ at ws = do
    xs ← list_from head_at (length ws) (behind ws)
    ws₁ ← expect endRound xs.rest
    ws₂ ← expect colon ws₁
    t ← type_from X h.more h.scope σ ws₂
    _ ← room_for h.scope 1 at
    list_below h.more (with_variables h.scope (bind (nameless (place ws)) t.value.type h.scope.variables)) t.value.state (place ws) xs.value (behind ws) t.rest (record { wish = of_function (nameless (place ws) ∷ []) t.value.type; scope = h.scope } ∷ h.above)

  -- .. behind `fun` and its names
  abbrev pub names_typed : TermHere → State → List Word → Answer Terming
  names_typed h σ ws = do
    xs ← names_from (length ws) (behind ws)
    t ← type_from X h.more h.scope σ (behind xs.rest)
    _ ← room_for h.scope (length xs.value) (place ws)
    good (ask_term h (of_function xs.value t.value.type) (with_variables h.scope (bind_all xs.value t.value.type h.scope.variables)) t.value.state (behind t.rest))

  -- .. behind `fun`
  abbrev pub function_from : TermHere → State → List Word → Answer Terming
  function_from h σ ws = cond (is round (behind ws)) (pair_from h σ (place ws) (behind ws)) (names_typed h σ ws)

  -- .. behind `fix` and its name
  abbrev pub fix_from : TermHere → State → List Word → Answer Terming
  fix_from h σ ws = do
    x ← name_at (behind ws)
    t ← type_from X h.more h.scope σ (behind x.rest)
    _ ← room_for h.scope 1 (place ws)
    good (ask_term h (of_fix x.value t.value.type) (with_variables h.scope (bind x.value t.value.type h.scope.variables)) t.value.state (behind t.rest))

  -- = term, behind `let` at a place and a name, or a list
  abbrev pub let_from : TermHere → State → ℕ → List Word → Answer Terming
  let_from h σ at ws = cond (is round ws) (do
    xs ← list_from head_at (length ws) (behind ws)
    ws₁ ← expect endRound xs.rest
    ws₂ ← expect equals ws₁
    good (ask_term h (value_of_names at xs.value (behind ws)) h.scope σ ws₂)) (do
      x ← name_at ws
      good (ask_term h (value_of_name at x.value) h.scope σ (behind x.rest)))

  -- ---- steps

  -- a term begins with this word
  abbrev pub term_entered : TermHere → State → List Word → Answer Terming
  term_entered h σ ws = cond (is fun ws) (function_from h σ ws) (cond (is fix ws) (fix_from h σ ws) (cond (is lets ws) (let_from h σ (place ws) (behind ws)) (atom_entered h (record { place = place ws; function = none }) σ (peek ws).token ws)))

  -- the level is done with an answer
  abbrev pub done_by : TermHere → Answer Made → List Word → Answer Terming
  done_by h answer ws = do
    m ← answer
    good (term_done h m ws)

  -- the term came that this level waited for
  abbrev pub term_left : TermHere → TermWish → Made → List Word → Answer Terming
  term_left h (of_function xs t) m ws = done_by h (functions_of xs t m) ws
  term_left h (of_fix x t) m ws = done_by h (node x.place (Terms.fix t m.term) t m.deep m.places m.state) ws
  term_left h (value_of_name at x) m ws = do
    _ ← room_for h.scope 1 at
    good (ask_term h (under_name x m) (with_variables h.scope (bind x m.type h.scope.variables)) m.state (behind ws))
  term_left h (value_of_names at xs us) m ws = do
    _ ← room_for h.scope (length xs + length xs) at
    a ← apart_from h.scope.variables xs m []
    under_lists h.more (with_variables h.scope a.variables) a.state us ws (record { wish = under_names a.taken; scope = h.scope } ∷ h.above)
  term_left h (under_name x v) m ws = done_by h (name_of X.edition x v m) ws
  term_left h (under_names ps) m ws = done_by h (projections ps m) ws
  term_left h (element s before) m ws = behind_element h s before m ws
  term_left h (of_definition s us) m ws = behind_atom h s m us

  -- one step; a term that no level waits for stays
  abbrev pub term_move : Terming → Answer Terming
  term_move (wanted_term zero S σ ws K) = refuse 34 (place ws)
  term_move (wanted_term (suc more) S σ ws K) = term_entered (record { more = more; scope = S; above = K }) σ ws
  term_move (applying more S at f ws K) = application_from (record { more = more; scope = S; above = K }) at f ws
  term_move (came_term more m ws []) = good (came_term more m ws [])
  term_move (came_term more m ws (l ∷ K)) = term_left (record { more = more; scope = l.scope; above = K }) l.wish m ws
