-- The levels of the machine of types as they stand in the working memory. What a scope asks of the memory is left open: `H` says that the
-- memory holds a scope by its frame and its entries. Assumes nothing.
use Rattle.std.specs.Prelude.{ℕ, suc, ◌+◌, ◌≤◌, ◌<◌, ◌≡◌, Bool, true, false, List, [], ◌∷◌, length}
use Rattle.notation_calculus.specs.Trees.{Form, product, arrow, linear}
use Rattle.notation_calculus.specs.Making.{Scope}
use Rattle.notation_machine.specs.TypeMachine.{Wish, enclosed, argument, body, other, TypeLevel}
use Rattle.words.specs.Next.{run_at}
use Rattle.words.specs.Lexed.{from, Lexed}
use Rattle.scopes.specs.Entries.{value_at}
use Rattle.walk_levels.specs.declared.Level.{Level}
use Rattle.walk_levels.specs.Levels.{level_in, scope_in}

-- ---- the forms' numbers: 0 for what stands in parentheses, 1 for a body, 2 for an argument

abbrev pub side_number : Form → ℕ
side_number product = 3
side_number arrow = 4
side_number linear = 5

abbrev pub flag_number : Bool → ℕ
flag_number true = 1
flag_number false = 0

-- ---- a level

-- arguments, the last first, are the values of the entries from one on
abbrev pub GivenIn : List ℕ → ℕ → List ℕ → Type 0
GivenIn w top [] = Unit {0}
GivenIn w top (t ∷ given) = (value_at w (top + length given) ≡ t) × GivenIn w top given

-- how many entries wait above the scope
abbrev pub waiting_for : Wish → ℕ
waiting_for enclosed = 0
waiting_for (argument x given) = length given
waiting_for (body us) = 0
waiting_for (other f at t) = 0

-- what a level waits for, by its eight numbers and the entries above its scope
abbrev pub HoldsWish : List ℕ → List ℕ → ℕ → Level → Wish → Type 0
HoldsWish text w top l enclosed = l.form ≡ 0
HoldsWish text w top l (body us) = (l.form ≡ 1) × (us ≡ from text l.next) × Lexed text l.next
HoldsWish text w top l (argument x given) = (l.form ≡ 2) × (l.place ≡ x.place) × (run_at text l.place ≡ x.name) × (l.count ≡ length given) × GivenIn w top given
HoldsWish text w top l (other f at t) = (l.form ≡ side_number f) × (l.place ≡ at) × (l.ty ≡ t)

pub record HoldsTypeLevel (H : ℕ → ℕ → Scope → Type 0) (text w : List ℕ) (m : ℕ) (l : TypeLevel) : Type 0 where
  pub room : m < 82
  pub flag : (level_in w m).flag ≡ flag_number l.tight
  pub scope : H (scope_in w m).frame (scope_in w m).top l.scope
  pub wish : HoldsWish text w (scope_in w m).top (level_in w m) l.wish

-- the levels above one that has m levels below it and so many entries in scope, the nearest first
abbrev pub HoldsTypeLevels : (ℕ → ℕ → Scope → Type 0) → List ℕ → List ℕ → ℕ → ℕ → List TypeLevel → Type 0
HoldsTypeLevels H text w m top [] = Unit {0}
HoldsTypeLevels H text w m top (l ∷ K) = HoldsTypeLevel H text w (suc m) l × ((scope_in w (suc m)).top + waiting_for l.wish ≤ top) × HoldsTypeLevels H text w (suc m) (scope_in w (suc m)).top K
