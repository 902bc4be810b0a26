-- What the stages of the call find in the working memory, answer and leave. Assumes nothing.
use Rattle.std.specs.Prelude.{ℕ, ◌≤◌, ◌≡◌, List, Result, Ok, Err, length, get_or}
use Rattle.answers.specs.declared.Refusal.{Refusal}
use Rattle.answers.specs.Refusals.{said_why}
use Rattle.calculus.specs.Answer.{Answer, good, refused}
use Rattle.notation_calculus.specs.Trees.{Text}
use Rattle.notation_calculus.specs.Making.{State}
use Rattle.notation_calculus.specs.Make.{above}
use Rattle.making_memory.specs.Map.{making_size}
use Rattle.made_types.specs.Held.{HoldsState}
use Rattle.clauses.specs.Texts.{HoldsClauses}
use Rattle.scopes.specs.Frames.{frame_in}
use Rattle.walks.specs.Walkable.{Walkable}

-- nothing is written behind what the call clears
pub record FarKept (w w' : List ℕ) : Type 0 where
  pub same : length w' ≡ length w
  pub far : (j : ℕ) → making_size ≤ j → get_or w' j 0 ≡ get_or w j 0

-- the memory holds a text's clauses, and what was made up to here
pub record TextStands (text w : List ℕ) (X : Text) (σ : State) : Type 0 where
  pub short : length text ≤ 65535
  pub room : making_size ≤ length w
  pub clauses : HoldsClauses text w X
  pub state : HoldsState w σ

-- .. and in the text's own frame the scope behind so many clauses
pub record KnowsAbove (text w : List ℕ) (X : Text) (seen : ℕ) (σ : State) : Type 0 where
  pub walkable : Walkable text w 81 0 X (above seen) σ
  pub variables : (frame_in w 81).variables ≡ 0

-- a stage passes and leaves the state, or it refuses, as the definition says
abbrev pub StageAnswers : List ℕ → List ℕ → Text → Result (Unit {0}) Refusal → Answer State → Type 0
StageAnswers text w X (Ok done) (good σ) = TextStands text w X σ
StageAnswers text w X (Ok done) (refused why) = ⊥
StageAnswers text w X (Err e) (good σ) = ⊥
StageAnswers text w X (Err e) (refused why) = why ≡ said_why e
