-- The machine that works out a type as the code reads it: word by word, with a level for each type that is not yet done. It knows no trees;
-- `machine-types` (proofs/Types) says that it does what `type_of` does to the tree of these words. Assumes nothing.
use Rattle.std.specs.Prelude.{ℕ, zero, suc, Bool, true, false, ◌||◌, cond, List, [], ◌∷◌, length, take}
use Rattle.calculus.specs.Answer.{Answer, good, ◌>>=◌, refuse, need}
use Rattle.notation_calculus.specs.Words.{arrow, linear, times, round, endRound, comma, square, endSquare, curly, power, Token, sign, part, number, name, Word}
use Rattle.notation_calculus.specs.Trees.{Bound, Form, product, Text}
use Rattle.notation_calculus.specs.Trees as Trees
use Rattle.notation_calculus.specs.Grammar.{peek, behind, place, is_token, is, number_at, numbers_at}
use Rattle.notation_calculus.specs.Making.{State, Found, Scope, lookup, form_of, listed, entries, room_for, number_of, numbers_in, clause_for, one_put, waiting, ones_of}
use Rattle.notation_machine.specs.Bodies.{words_for}

-- what is done with a type that is worked out one level below
pub data Wish : Type 0 where
  enclosed : Wish  -- ( type )
  argument : Bound → List ℕ → Wish  -- of a name; with the arguments before it, the last first
  body : List Word → Wish  -- of a definition, behind whose name and arguments these words stand
  other : Form → ℕ → ℕ → Wish  -- right of a sign at a place, left of which a type stands

-- a level that waits for the type below; yes means that no arrow is read behind its own
pub record TypeLevel : Type 0 where
  pub wish : Wish
  pub tight : Bool
  pub scope : Scope

-- the type at these words is wanted, with so many levels left; or this type came, and these words stand behind it
pub data Typing : Type 0 where
  wanted : ℕ → Bool → Scope → State → List Word → List TypeLevel → Typing
  came : ℕ → Found → List Word → List TypeLevel → Typing

-- the level that the machine is at, the levels that there may still be below it, and those above, the nearest first
pub record TypeHere : Type 0 where
  pub more : ℕ
  pub tight : Bool
  pub scope : Scope
  pub above : List TypeLevel

abbrev pub ask_type : TypeHere → Wish → Bool → Scope → State → List Word → Typing
ask_type h w tight S σ ws = wanted h.more tight S σ ws (record { wish = w; tight = h.tight; scope = h.scope } ∷ h.above)

abbrev pub type_done : TypeHere → Found → List Word → Typing
type_done h x ws = came (suc h.more) x ws h.above

-- ---- sides

-- the side that stands behind a sign
abbrev pub ask_side : TypeHere → Form → Bool → Found → List Word → Typing
ask_side h f tight x ws = ask_type h (other f (place ws) x.type) tight h.scope x.state (behind ws)

-- behind an atom with its product
abbrev pub arrow_from : TypeHere → Found → List Word → Typing
arrow_from h x ws = cond h.tight (type_done h x ws) (cond (is arrow ws) (ask_side h Trees.arrow false x ws) (cond (is linear ws) (ask_side h Trees.linear false x ws) (type_done h x ws)))

-- behind an atom
abbrev pub side_from : TypeHere → Found → List Word → Typing
side_from h x ws = cond (is times ws) (ask_side h product true x ws) (arrow_from h x ws)

-- behind the other side
abbrev pub behind_side : Form → TypeHere → Found → List Word → Typing
behind_side product h x ws = arrow_from h x ws
behind_side Trees.arrow h x ws = type_done h x ws
behind_side Trees.linear h x ws = type_done h x ws

-- ---- rows

-- behind a 1: how many stand in a row, or nothing
abbrev pub ones_from : TypeHere → State → List Word → Answer Typing
ones_from h σ ws = cond (is power ws) (do
  k ← number_at (behind ws)
  n ← number_of h.scope.numbers k.value
  x ← ones_of (place ws) k.value.place n σ
  good (side_from h x k.rest)) (good (side_from h (record { type = 0; state = σ }) ws))

-- ---- names

-- the arguments in their order
abbrev pub in_order_lem : List ℕ → List ℕ → List ℕ
in_order_lem [] ts = ts
in_order_lem (t ∷ given) ts = in_order_lem given (t ∷ ts)

-- behind a bracket or a comma: the next argument, which waits too
abbrev pub ask_argument : TypeHere → State → Bound → List ℕ → List Word → Answer Typing
ask_argument h σ x given ws = do
  _ ← room_for h.scope (suc (length given)) x.place
  good (ask_type h (argument x given) false (waiting h.scope (length given)) σ ws)

module _ (X : Text) (bodies : List (List Word)) where
  -- the type arguments are there: numbers, the clause, its cost, and then its body is wanted
  abbrev pub type_put_in : TypeHere → State → Bound → List ℕ → List Word → Answer Typing
  type_put_in h σ x ts ws = do
    ks ← numbers_at ws
    ns ← numbers_in h.scope x.place (length ts) ks.value
    p ← clause_for (entries h.scope) X.clauses (take h.scope.seen X.clauses) 0 true x.name ts ns x.place
    σ₁ ← one_put σ p.cost x.place
    good (ask_type h (body ks.rest) false p.scope σ₁ (words_for bodies (take h.scope.seen X.clauses) true x.name (length ts) ns))

  -- behind an argument: a comma, or the closing bracket; the grammar has seen that it stands there, and 32 is never met
  abbrev pub behind_argument : TypeHere → State → Bound → List ℕ → List Word → Answer Typing
  behind_argument h σ x given ws = cond (is comma ws) (ask_argument h σ x given (behind ws)) (do
    _ ← need (is endSquare ws) 32 (place ws)
    type_put_in h σ x (in_order_lem given []) (behind ws))

  -- behind a name: a parameter of the definition, if no arguments follow; or a definition
  abbrev pub type_named_at : TypeHere → State → Bound → List Word → Answer Typing
  type_named_at h σ x ws =
      let there = cond (is square ws) (ask_argument h σ x [] (behind ws)) (type_put_in h σ x [] ws) in
      cond (is square ws || is curly ws) there (lookup x.name h.scope.types 0 (λ i v. good (side_from h (record { type = v; state = σ }) ws)) there)

  -- ---- steps

  -- a type begins with this word; the grammar has seen that one does, and 32 is never met
  abbrev pub type_entered : TypeHere → State → Token → List Word → Answer Typing
  type_entered h σ (sign t) ws = do
    _ ← need (is_token round (sign t)) 32 (place ws)
    good (ask_type h enclosed false h.scope σ (behind ws))
  type_entered h σ (part p) ws = refuse 32 (place ws)
  type_entered h σ (number k) ws = ones_from h σ (behind ws)
  type_entered h σ (name n) ws = type_named_at h σ (record { name = n; place = place ws }) (behind ws)

  -- the type came that this level waited for; behind one in parentheses the closing one stands
  abbrev pub type_left : TypeHere → Wish → Found → List Word → Answer Typing
  type_left h enclosed x ws = do
    _ ← need (is endRound ws) 32 (place ws)
    good (side_from h x (behind ws))
  type_left h (argument n given) x ws = behind_argument h x.state n (x.type ∷ given) ws
  type_left h (body us) x ws = good (side_from h x us)
  type_left h (other f at t) x ws = do
    y ← listed x.state (form_of f t x.type) at
    good (behind_side f h y ws)

  -- one step; a type that no level waits for stays
  abbrev pub type_move : Typing → Answer Typing
  type_move (wanted zero tight S σ ws K) = refuse 34 (place ws)
  type_move (wanted (suc more) tight S σ ws K) = type_entered (record { more = more; tight = tight; scope = S; above = K }) σ (peek ws).token ws
  type_move (came more x ws []) = good (came more x ws [])
  type_move (came more x ws (l ∷ K)) = type_left (record { more = more; tight = l.tight; scope = l.scope; above = K }) l.wish x ws
