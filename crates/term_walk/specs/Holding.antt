-- When the working memory and the numbers of the walk hold a state of the machine of terms. Assumes nothing.
use Rattle.std.specs.Prelude.{ℕ, suc, ◌+◌, ◌*◌, ◌≤◌, ◌<◌, ◌≡◌, cond, List, [], ◌∷◌, Option, None, Some, eqb, length, get_or}
use Rattle.notation_calculus.specs.Words.{Word}
use Rattle.notation_calculus.specs.Trees.{Text}
use Rattle.notation_calculus.specs.Grammar.{behind}
use Rattle.notation_calculus.specs.Making.{State, Scope, Made}
use Rattle.notation_machine.specs.Lists.{head_at}
use Rattle.notation_machine.specs.TermMachine.{Function, none, some, Spine, TermWish, of_function, of_fix, value_of_name, value_of_names, under_name, under_names, element, of_definition, TermLevel, Terming, wanted_term, came_term, applying}
use Rattle.words.specs.Next.{name_in}
use Rattle.words.specs.Lexed.{from, Lexed}
use Rattle.making_memory.specs.Map.{halves_at, type_count_at}
use Rattle.made_nodes.specs.Held.{TermHeld}
use Rattle.made_nodes.specs.Forms.{NamesIn}
use Rattle.made_nodes.specs.declared.Sub.{Sub}
use Rattle.scopes.specs.Frames.{frame_in}
use Rattle.walk_levels.specs.declared.Level.{Level}
use Rattle.walk_levels.specs.Levels.{level_in, scope_in}
use Rattle.walks.specs.Walkable.{Walkable}
use Rattle.walks.specs.Walked.{TermsWalked}
use Rattle.term_parts.specs.Names.{NamesStand, listed_names}
use Rattle.term_parts.specs.Halves.{ElementsIn, TakenIn}
use Rattle.term_walk.specs.declared.Walk.{Walk}
use Rattle.term_walk.specs.declared.Phase.{Phase}
use Rattle.term_walk.specs.declared.Left.{Left}
use Rattle.term_walk.specs.Looks.{words_at, ReadableFrom}

-- ---- what one level writes: nothing that the levels above it hold

pub record LevelWrites (m top waiting : ℕ) (w w' : List ℕ) : Type 0 where
  pub walked : TermsWalked m top w w'
  pub halves : (j : ℕ) → halves_at ≤ j → j < halves_at + 4 * waiting → get_or w' j 0 ≡ get_or w j 0

-- ---- levels

-- the function so far, if there is one
abbrev pub FunctionHeld : List ℕ → Option Sub → Function → Type 0
FunctionHeld w None none = Unit {0}
FunctionHeld w None (some f) = ⊥
FunctionHeld w (Some x) none = ⊥
FunctionHeld w (Some x) (some f) = TermHeld w x f

pub record LeftHeld (w : List ℕ) (s : Left) (p : Spine) : Type 0 where
  pub place : s.place ≡ p.place
  pub function : FunctionHeld w s.function p.function

-- the term, and what stands left of an atom, in a level's numbers
abbrev pub sub_in : Level → Sub
sub_in l = record { node = l.node; ty = l.ty; deep = l.deep }

abbrev pub left_by : Level → Left
left_by l = record { place = l.place; function = cond (eqb l.flag 0) None (Some (sub_in l)) }

pub record LeftIn (w : List ℕ) (l : Level) (p : Spine) : Type 0 where
  pub flag : l.flag ≤ 1
  pub held : LeftHeld w (left_by l) p

-- entries above the level's scope that it needs, and terms that wait for it
abbrev pub entries_of : TermWish → ℕ
entries_of (of_function xs t) = length xs
entries_of (of_fix x t) = 0
entries_of (value_of_name at x) = 0
entries_of (value_of_names at xs us) = 0
entries_of (under_name x v) = 0
entries_of (under_names ps) = 0
entries_of (element s before) = 0
entries_of (of_definition s us) = 0

abbrev pub halves_for : TermWish → ℕ
halves_for (of_function xs t) = 0
halves_for (of_fix x t) = 0
halves_for (value_of_name at x) = 0
halves_for (value_of_names at xs us) = 0
halves_for (under_name x v) = 0
halves_for (under_names ps) = length ps
halves_for (element s before) = length before
halves_for (of_definition s us) = 0

-- what a level waits for, by its eight numbers, over so many entries and so many terms that wait
abbrev pub WishHeld : List ℕ → List ℕ → ℕ → ℕ → Level → TermWish → Type 0
WishHeld text w top waiting l (of_function xs t) = (l.form ≡ 1) × (l.count ≡ length xs) × (l.ty ≡ t) × (t < get_or w type_count_at 0) × NamesIn w top xs
WishHeld text w top waiting l (of_fix x t) = (l.form ≡ 2) × (l.place ≡ x.place) × (l.ty ≡ t) × (t < get_or w type_count_at 0)
WishHeld text w top waiting l (value_of_name at x) = (l.form ≡ 3) × (l.place ≡ at) × (l.next ≡ x.place) × (x.name ≡ name_in text l.next) × (l.next ≤ length text)
WishHeld text w top waiting l (value_of_names at xs us) = (l.form ≡ 4) × (l.place ≡ at) × (xs ≡ listed_names text l.next l.count) × NamesStand head_at behind text l.next l.count × (us ≡ from text l.next)
WishHeld text w top waiting l (under_name x v) = (l.form ≡ 5) × (l.place ≡ x.place) × TermHeld w (sub_in l) v
WishHeld text w top waiting l (under_names ps) = (l.form ≡ 6) × (l.count ≡ length ps) × TakenIn w waiting ps
WishHeld text w top waiting l (element s before) = (l.form ≡ 7) × (l.count ≡ length before) × LeftIn w l s × ElementsIn w waiting before
WishHeld text w top waiting l (of_definition s us) = (l.form ≡ 8) × LeftIn w l s × (us ≡ from text l.next) × Lexed text l.next

-- a scope of a level, in a frame that no level below writes; its variables begin where the frame says
pub record ScopeHeld (text w : List ℕ) (X : Text) (m frame top : ℕ) (S : Scope) (σ : State) : Type 0 where
  pub walkable : Walkable text w frame top X S σ
  pub above : m ≤ frame
  pub variables : (frame_in w frame).variables ≡ S.under

-- level m waits, above `top` entries and `waiting` terms of the level below it
pub record TermLevelHeld (text : List ℕ) (X : Text) (most : ℕ) (w : List ℕ) (σ : State) (m top waiting : ℕ) (l : TermLevel) : Type 0 where
  pub within : m ≤ most
  pub scope : ScopeHeld text w X m (scope_in w m).frame (scope_in w m).top l.scope σ
  pub wish : WishHeld text w (scope_in w m).top (scope_in w m).waiting (level_in w m) l.wish
  pub entries : (scope_in w m).top + entries_of l.wish ≤ top
  pub halves : (scope_in w m).waiting + halves_for l.wish ≤ waiting

-- the levels above one with m levels from it on, the nearest first, up to `most`; the walk began over `bottom` entries
abbrev pub TermLevelsHeld : List ℕ → Text → ℕ → ℕ → List ℕ → State → ℕ → ℕ → ℕ → List TermLevel → Type 0
TermLevelsHeld text X most bottom w σ m top waiting [] = (m ≡ most) × (bottom ≤ top)
TermLevelsHeld text X most bottom w σ m top waiting (l ∷ K) = TermLevelHeld text X most w σ (suc m) top waiting l × TermLevelsHeld text X most bottom w σ (suc m) (scope_in w (suc m)).top (scope_in w (suc m)).waiting K

-- ---- states

-- the level that the walk is at: its scope, what was made up to here, and the levels above it
pub record HereHeld (text : List ℕ) (X : Text) (most bottom : ℕ) (w : List ℕ) (n : Walk) (S : Scope) (σ : State) (K : List TermLevel) : Type 0 where
  pub scope : ScopeHeld text w X n.more n.frame n.top S σ
  pub few : n.waiting ≤ σ.nodes
  pub levels : TermLevelsHeld text X most bottom w σ n.more n.top n.waiting K
  pub nested : most ≤ 80

-- a term that came, with a node of its own
pub record TermCame (w : List ℕ) (x : Sub) (waiting : ℕ) (m : Made) : Type 0 where
  pub term : TermHeld w x m
  pub few : suc waiting ≤ m.state.nodes

-- .. and some scope of its level
pub record CameHere (text : List ℕ) (X : Text) (most bottom : ℕ) (w : List ℕ) (n : Walk) (m : Made) (K : List TermLevel) : Type 0 where
  pub S : Scope
  pub here : HereHeld text X most bottom w n S m.state K
  pub came : TermCame w n.sub n.waiting m

-- the words of a state are those from its offset on
pub record AtWords (text : List ℕ) (n : Walk) (ws : List Word) : Type 0 where
  pub is : ws ≡ words_at text n.at
  pub readable : ReadableFrom text n.at

abbrev pub HoldsTerming : List ℕ → Text → ℕ → ℕ → List ℕ → Walk → Terming → Type 0
HoldsTerming text X most bottom w n (wanted_term more S σ ws K) = (n.phase ≡ Phase.Wanted) × (n.more ≡ more) × AtWords text n ws × HereHeld text X most bottom w n S σ K
HoldsTerming text X most bottom w n (came_term more m ws K) = (n.phase ≡ Phase.Came) × (n.more ≡ more) × AtWords text n ws × CameHere text X most bottom w n m K
HoldsTerming text X most bottom w n (applying more S at f ws K) = (n.phase ≡ Phase.Applying) × (n.more ≡ suc more) × AtWords text n ws × (n.place ≡ at) × HereHeld text X most bottom w n S f.state K × TermCame w n.sub n.waiting f
