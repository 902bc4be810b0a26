-- What the functions of the walk do: in each record, whatever the memory held, the answer is that of the machine. Assumes nothing.
use Rattle.std.specs.Prelude.{ℕ, ◌+◌, ◌≤◌, ◌<◌, ◌≡◌, Bool, false, cond, List, [], Result, eqb, length, drop}
use Rattle.answers.specs.declared.Refusal.{Refusal}
use Rattle.calculus.specs.Answer.{Answer, good, ◌>>=◌}
use Rattle.notation_calculus.specs.Words.{Word, run}
use Rattle.notation_calculus.specs.Trees.{Form, product, arrow, linear, Text}
use Rattle.notation_calculus.specs.Grammar.{peek, number_at}
use Rattle.notation_calculus.specs.Making.{State, Found, Scope, lookup, number_of, more_bits, ones_of}
use Rattle.notation_machine.specs.TypeMachine.{Wish, enclosed, body, other, TypeLevel, Typing, TypeHere, ask_type, type_done, arrow_from, side_from, ones_from, ask_argument, behind_side, type_put_in, type_named_at, type_entered, type_left, type_move}
use Rattle.notation_machine.specs.TypeSteps.{Going}
use Rattle.words.specs.Next.{run_at}
use Rattle.words.specs.Lexed.{from, Lexed}
use Rattle.making_memory.specs.Map.{making_size}
use Rattle.clauses.specs.Meant.{values_in}
use Rattle.walk_levels.specs.declared.Level.{Level}
use Rattle.walk_levels.specs.Levels.{pushed}
use Rattle.walks.specs.Walkable.{row_bodies, Walkable}
use Rattle.walks.specs.Walked.{TypesWalked}
use Rattle.walks.specs.declared.PutAt.{PutAt}
use Rattle.walks.specs.Says.{bound_at}
use Rattle.type_walk.specs.declared.levels.Want.{Want}
use Rattle.type_walk.specs.declared.levels.Here.{Here}
use Rattle.type_walk.specs.declared.levels.Walking as code
use Rattle.type_walk.specs.declared.levels.Walking.TheVariants as walking
use Rattle.type_walk.specs.Holding.{given_from, AllBelow, here_with, around_of, AtLevel, Answered, Answers}

-- ---- a level that waits

pub record CanWait (w : List ℕ) (h : Here) : Type 0 where
  pub room : making_size ≤ length w
  pub level : h.more + 1 < 82
  pub frame : h.frame < 82
  pub top : h.top ≤ 1024

pub record Waited (w : List ℕ) (h : Here) (l : Level) (q : Want) (r : code.Walking) (w' : List ℕ) : Type 0 where
  pub stored : w' ≡ pushed w (h.more + 1) l (around_of h)
  pub wants : r ≡ walking.Wanted q

-- ---- a part of a step

-- the memory holds some level, with a state of which P holds
pub record CanMove (text w : List ℕ) (h : Here) (P : State → Type 0) : Type 0 where
  pub X : Text
  pub m₀ : ℕ
  pub base : ℕ
  pub σ : State
  pub S : Scope
  pub K : List TypeLevel
  pub held : AtLevel text w X m₀ base σ h S K
  pub known : P σ

-- what the machine does at a level
abbrev pub Moving : Type 0
Moving = Text → List (List Word) → TypeHere → State → Answer Typing

pub record Moved (text w : List ℕ) (h : Here) (P : State → Type 0) (go : Moving) (r : Result code.Walking Refusal) (w' : List ℕ) : Type 0 where
  pub walked : TypesWalked (h.more + 1) h.top w w'
  pub says : (X : Text) (m₀ base : ℕ) (σ : State) (S : Scope) (K : List TypeLevel) → AtLevel text w X m₀ base σ h S K → P σ → Answers text w' X m₀ base r (go X (row_bodies text w 0 (length X.clauses)) (here_with h S K) σ)

-- a type of the table
abbrev pub Known : ℕ → State → Type 0
Known ty σ = ty < length σ.table

abbrev pub found_in_lem : ℕ → State → Found
found_in_lem ty σ = record { type = ty; state = σ }

-- ---- a step

pub record CanStep (text w : List ℕ) (s : code.Walking) : Type 0 where
  pub X : Text
  pub m₀ : ℕ
  pub base : ℕ
  pub t : Typing
  pub held : Answered text w X m₀ base s (good t)
  pub going : Going t

pub record Stepped (text w : List ℕ) (s : code.Walking) (r : Result code.Walking Refusal) (w' : List ℕ) : Type 0 where
  pub says : (X : Text) (m₀ base : ℕ) (t : Typing) → Answered text w X m₀ base s (good t) → Going t → TypesWalked m₀ base w w' × Answers text w' X m₀ base r (type_move X (row_bodies text w 0 (length X.clauses)) t)

-- ---- the parts

abbrev pub done_at : Here → ℕ → ℕ → code.Walking
done_at h ty at = walking.Came (record { more = h.more + 1; top = h.top; ty = ty; at = at })

-- 3 for a product, 4 for an arrow, 5 for a linear one
abbrev pub form_by : ℕ → Form
form_by n = cond (eqb n 3) product (cond (eqb n 4) arrow linear)

-- behind an atom; behind its product
abbrev pub side_after : List ℕ → ℕ → ℕ → Moving
side_after text ty at X bodies t σ = good (side_from t (found_in_lem ty σ) (from text at))

abbrev pub arrow_after : List ℕ → ℕ → ℕ → Moving
arrow_after text ty at X bodies t σ = good (arrow_from t (found_in_lem ty σ) (from text at))

-- the type is done
abbrev pub done_after : List ℕ → ℕ → ℕ → Moving
done_after text ty at X bodies t σ = good (type_done t (found_in_lem ty σ) (from text at))

-- the side behind a sign at a place, up to which a type stands
abbrev pub side_ask : List ℕ → ℕ → Bool → ℕ → ℕ → ℕ → Moving
side_ask text form tight ty sign end X bodies t σ = good (ask_type t (other (form_by form) sign ty) tight t.scope σ (from text end))

-- behind a 1; behind the sign of a row at a place; behind a row with so many bits more than one
abbrev pub ones_after : List ℕ → ℕ → Moving
ones_after text at X bodies t σ = ones_from t σ (from text at)

abbrev pub power_after : List ℕ → ℕ → ℕ → Moving
power_after text sign at X bodies t σ = do
  k ← number_at (from text at)
  n ← number_of t.scope.numbers k.value
  x ← ones_of sign k.value.place n σ
  good (side_from t x k.rest)

abbrev pub row_after : List ℕ → ℕ → ℕ → ℕ → Moving
row_after text more sign end X bodies t σ = do
  x ← more_bits sign more (found_in_lem 0 σ)
  good (side_from t x (from text end))

-- the next argument of a name, where so many wait
abbrev pub argument_ask : List ℕ → List ℕ → ℕ → ℕ → ℕ → ℕ → Moving
argument_ask text w top name given at X bodies t σ = ask_argument t σ (bound_at text name) (given_from w top given) (from text at)

-- a definition with so many arguments
abbrev pub put_after : List ℕ → List ℕ → ℕ → ℕ → ℕ → ℕ → Moving
put_after text w top name given at X bodies t σ = type_put_in X bodies t σ (bound_at text name) (values_in w top given) (from text at)

-- a name
abbrev pub named_after : List ℕ → ℕ → ℕ → Moving
named_after text name at X bodies t σ = type_named_at X bodies t σ (bound_at text name) (from text at)

-- .. without arguments: what stands behind is no bracket
abbrev pub plain_after : List ℕ → ℕ → ℕ → Moving
plain_after text name at X bodies t σ = lookup (run_at text name) t.scope.types 0 (λ i v. good (side_from t (found_in_lem v σ) (from text at))) (type_put_in X bodies t σ (bound_at text name) [] (from text at))

-- a type behind an opening parenthesis
abbrev pub inside_ask : List ℕ → ℕ → Moving
inside_ask text at X bodies t σ = good (ask_type t enclosed false t.scope σ (from text at))

-- a type that begins at an offset
abbrev pub enter_at : List ℕ → ℕ → Moving
enter_at text at X bodies t σ = type_entered X bodies t σ (peek (from text at)).token (from text at)

-- a type that a level waited for came
abbrev pub left_with : List ℕ → Wish → ℕ → ℕ → Moving
left_with text x ty at X bodies t σ = type_left X bodies t x (found_in_lem ty σ) (from text at)

-- a name that stands in the text
pub record NameAt (text : List ℕ) (name : ℕ) : Type 0 where
  pub inside : name ≤ length text
  pub long : 0 < run (drop name text)

-- types that wait
abbrev pub Given : List ℕ → ℕ → ℕ → State → Type 0
Given w top given σ = AllBelow (length σ.table) (given_from w top given)

abbrev pub Valued : List ℕ → ℕ → ℕ → State → Type 0
Valued w top given σ = AllBelow (length σ.table) (values_in w top given)

abbrev pub Anything : State → Type 0
Anything σ = Unit {0}

abbrev pub Both : (State → Type 0) → (State → Type 0) → State → Type 0
Both P Q σ = P σ × Q σ

-- behind the other side of a sign, where both are listed
abbrev pub side_done : List ℕ → ℕ → ℕ → ℕ → Moving
side_done text form ty at X bodies t σ = good (behind_side (form_by form) t (found_in_lem ty σ) (from text at))

-- ---- a definition was put in

pub record CanAskBody (text w : List ℕ) (h : Here) (p : PutAt) : Type 0 where
  pub can : CanMove text w h Anything
  pub lexed : Lexed text p.end

-- whatever scope and state its frame holds
pub record BodyAsked (text w : List ℕ) (h : Here) (p : PutAt) (r : Result code.Walking Refusal) (w' : List ℕ) : Type 0 where
  pub walked : TypesWalked (h.more + 1) h.top w w'
  pub says : (X : Text) (m₀ base : ℕ) (σ : State) (S R : Scope) (K : List TypeLevel) → AtLevel text w X m₀ base σ h S K → Walkable text w h.more p.top X R σ → h.top ≤ p.top → Lexed text p.body → Lexed text p.end → Answers text w' X m₀ base r (good (ask_type (here_with h S K) (body (from text p.end)) false R σ (from text p.body)))
