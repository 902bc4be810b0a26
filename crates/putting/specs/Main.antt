-- `main`, which is put in at the text's end. Assumes nothing.
use Rattle.std.specs.Prelude.{ℕ, zero, suc, ◌≤◌, ◌<◌, ◌≡◌, Bool, false, not, ◌&&◌, cond, List, [], Result, eqb, length, take}
use Rattle.answers.specs.declared.Refusal.{Refusal}
use Rattle.calculus.specs.Answer.{Answer}
use Rattle.notation_calculus.specs.Words.{Word, same_name}
use Rattle.notation_calculus.specs.Trees.{Text}
use Rattle.notation_calculus.specs.Making.{State, clause_for}
use Rattle.notation_calculus.specs.Make.{main_name}
use Rattle.notation_machine.specs.Bodies.{words_for}
use Rattle.words.specs.Next.{run_at}
use Rattle.making_memory.specs.Map.{making_size}
use Rattle.made_types.specs.Held.{HoldsState}
use Rattle.clauses.specs.declared.rows.Row.{Row}
use Rattle.clauses.specs.Rows.{row_in}
use Rattle.clauses.specs.Texts.{HoldsClauses}
use Rattle.walks.specs.Walkable.{row_bodies}
use Rattle.walks.specs.Walked.{TypesWalked}
use Rattle.putting.specs.Putting.{BodyThere, BodyAnswers, body_put}
use Rattle.putting.specs.declared.BodyAt.{BodyAt}

-- a row of a term named `main` without parameters
abbrev pub row_main : List ℕ → Row → Bool
row_main text r = not r.sort && same_name (run_at text r.name) main_name && eqb r.types 0 && eqb r.numbers 0

-- the first of so many numbers from k on that passes a test, or the number behind them
abbrev pub first_passing : (ℕ → Bool) → ℕ → ℕ → ℕ
first_passing test k zero = k
first_passing test k (suc n) =
    let later = first_passing test (suc k) n in
    cond (test k) k later

-- .. of the rows
abbrev pub first_main : List ℕ → List ℕ → ℕ → ℕ
first_main text w n = first_passing (λ (k : ℕ). row_main text (row_in w k)) 0 n

-- some text's clauses are held
pub record CanMain (text w : List ℕ) (into : ℕ) : Type 0 where
  pub short : length text ≤ 65535
  pub room : making_size ≤ length w
  pub level : into < 82
  pub X : Text
  pub clauses : HoldsClauses text w X

-- Make's sentence: `main` put in at the text's end, where all clauses are known
abbrev pub main_put : Text → List (List Word) → State → Answer BodyThere
main_put X bodies σ = body_put σ X.end (words_for bodies (take (length X.clauses) X.clauses) false main_name 0 []) (clause_for 0 X.clauses (take (length X.clauses) X.clauses) 0 false main_name [] [] X.end)

pub record MainSays (text w : List ℕ) (into place : ℕ) (r : Result BodyAt Refusal) (w' : List ℕ) : Type 0 where
  pub walked : TypesWalked (suc into) 0 w w'
  pub says : (X : Text) (σ : State) → HoldsClauses text w X → HoldsState w σ → X.end ≡ place → BodyAnswers text w' X into r (main_put X (row_bodies text w 0 (length X.clauses)) σ)
