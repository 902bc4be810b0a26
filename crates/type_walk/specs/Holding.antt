-- When the memory and the numbers of the walk hold a state of the machine of types: a scope and a state for the type that is wanted, the
-- levels above it, and the words by their offset. Assumes nothing.
use Rattle.std.specs.Prelude.{ℕ, zero, suc, ◌+◌, ◌≤◌, ◌<◌, ◌≡◌, List, [], ◌∷◌, Result, Ok, Err, eqb, length}
use Rattle.answers.specs.declared.Refusal.{Refusal}
use Rattle.answers.specs.Refusals.{said_why}
use Rattle.calculus.specs.Answer.{Answer, good, refused}
use Rattle.calculus.specs.Record.{All}
use Rattle.notation_calculus.specs.Trees.{Text}
use Rattle.notation_calculus.specs.Making.{State, Scope, most_entries}
use Rattle.notation_machine.specs.TypeMachine.{Wish, enclosed, argument, body, other, TypeLevel, Typing, wanted, came, TypeHere}
use Rattle.words.specs.Lexed.{from, Lexed}
use Rattle.made_types.specs.Held.{HoldsState}
use Rattle.scopes.specs.Entries.{value_at, Places}
use Rattle.walk_levels.specs.declared.Around.{Around}
use Rattle.walk_levels.specs.Levels.{level_in, scope_in}
use Rattle.walk_levels.specs.TypeLevels.{flag_number, waiting_for, HoldsWish}
use Rattle.walks.specs.Walkable.{Walkable}
use Rattle.type_walk.specs.declared.levels.Want.{Want}
use Rattle.type_walk.specs.declared.levels.Come.{Come}
use Rattle.type_walk.specs.declared.levels.Here.{Here}
use Rattle.type_walk.specs.declared.levels.Walking as code
use Rattle.type_walk.specs.declared.levels.Walking.TheVariants as walking

-- ---- levels

-- the values of so many entries from one on, the last first
abbrev pub given_from : List ℕ → ℕ → ℕ → List ℕ
given_from w top zero = []
given_from w top (suc n) = value_at w (top + n) ∷ given_from w top n

-- types of a table of so many
abbrev pub AllBelow : ℕ → List ℕ → Type 0
AllBelow n ts = All (λ (t : ℕ). t < n) ts

-- what waits are types of a table of so many; a name stands in the text, and there is room for one argument more
abbrev pub WishKnown : List ℕ → ℕ → ℕ → Wish → Type 0
WishKnown text n top enclosed = Unit {0}
WishKnown text n top (argument x given) = (x.place ≤ length text) × ((top + length given < most_entries) × AllBelow n given)
WishKnown text n top (body us) = Unit {0}
WishKnown text n top (other f at t) = t < n

-- a level that waits, with m levels below it. Its scope is held with the state of now, whose table has only grown
pub record LevelHeld (text w : List ℕ) (X : Text) (σ : State) (m : ℕ) (l : TypeLevel) : Type 0 where
  pub flag : (level_in w (m + 1)).flag ≡ flag_number l.tight
  pub level : m < (scope_in w (m + 1)).frame
  pub walkable : Walkable text w (scope_in w (m + 1)).frame (scope_in w (m + 1)).top X l.scope σ
  pub wish : HoldsWish text w (scope_in w (m + 1)).top (level_in w (m + 1)) l.wish
  pub known : WishKnown text (length σ.table) (scope_in w (m + 1)).top l.wish
  pub places : Places text w 0 ((scope_in w (m + 1)).top + waiting_for l.wish)

-- the levels above one that has m levels below it and so many entries, up to the first, which has m₀ and `base` of them
abbrev pub LevelsHeld : List ℕ → List ℕ → Text → State → ℕ → ℕ → ℕ → ℕ → List TypeLevel → Type 0
LevelsHeld text w X σ m₀ base m top [] = (m ≡ m₀) × (base ≤ top)
LevelsHeld text w X σ m₀ base m top (l ∷ K) = LevelHeld text w X σ m l × (((scope_in w (m + 1)).top + waiting_for l.wish ≤ top) × LevelsHeld text w X σ m₀ base (m + 1) (scope_in w (m + 1)).top K)

-- ---- the level that the walk is at

abbrev pub here_with : Here → Scope → List TypeLevel → TypeHere
here_with h S K = record { more = h.more; tight = h.tight; scope = S; above = K }

-- .. by the memory, where it waits
abbrev pub here_in : List ℕ → ℕ → Here
here_in w m = record { more = m; tight = eqb (level_in w (m + 1)).flag 1; frame = (scope_in w (m + 1)).frame; top = (scope_in w (m + 1)).top }

abbrev pub around_of : Here → Around
around_of h = record { frame = h.frame; top = h.top; waiting = 0 }

pub record AtLevel (text w : List ℕ) (X : Text) (m₀ base : ℕ) (σ : State) (h : Here) (S : Scope) (K : List TypeLevel) : Type 0 where
  pub walkable : Walkable text w h.frame h.top X S σ
  pub level : h.more < h.frame
  pub levels : LevelsHeld text w X σ m₀ base (h.more + 1) h.top K

-- ---- the machine's answer

-- a type is wanted
pub record Wanting (text w : List ℕ) (X : Text) (m₀ base : ℕ) (q : Want) (p : Answer Typing) : Type 0 where
  pub scope : Scope
  pub state : State
  pub above : List TypeLevel
  pub is : p ≡ good (wanted q.more q.tight scope state (from text q.at) above)
  pub walkable : Walkable text w q.frame q.top X scope state
  pub level : q.more ≤ q.frame
  pub lexed : Lexed text q.at
  pub levels : LevelsHeld text w X state m₀ base q.more q.top above

-- a type came
pub record Coming (text w : List ℕ) (X : Text) (m₀ base : ℕ) (q : Come) (p : Answer Typing) : Type 0 where
  pub state : State
  pub above : List TypeLevel
  pub is : p ≡ good (came q.more (record { type = q.ty; state = state }) (from text q.at) above)
  pub known : q.ty < length state.table
  pub holds : HoldsState w state
  pub lexed : Lexed text q.at
  pub levels : LevelsHeld text w X state m₀ base q.more q.top above

abbrev pub Answered : List ℕ → List ℕ → Text → ℕ → ℕ → code.Walking → Answer Typing → Type 0
Answered text w X m₀ base (walking.Wanted q) p = Wanting text w X m₀ base q p
Answered text w X m₀ base (walking.Came q) p = Coming text w X m₀ base q p

-- .. or the walk is refused
abbrev pub Answers : List ℕ → List ℕ → Text → ℕ → ℕ → Result code.Walking Refusal → Answer Typing → Type 0
Answers text w X m₀ base (Ok s) p = Answered text w X m₀ base s p
Answers text w X m₀ base (Err e) p = p ≡ refused (said_why e)
