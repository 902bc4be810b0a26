-- What judging the definitions finds, answers and leaves. Assumes nothing.
use Rattle.std.specs.Prelude.{ℕ, ◌≤◌, ◌<◌, ◌≡◌, Bool, not, ◌&&◌, List, Result, Ok, Err, eqb, length}
use Rattle.answers.specs.declared.Refusal.{Refusal}
use Rattle.answers.specs.Refusals.{said_why}
use Rattle.calculus.specs.Answer.{Answer, good, refused}
use Rattle.notation_calculus.specs.Words.{same_name}
use Rattle.notation_calculus.specs.Trees.{Body, Text}
use Rattle.notation_calculus.specs.Making.{State}
use Rattle.notation_calculus.specs.Make.{main_name, judged_body, judged_clause, judged_from}
use Rattle.words.specs.Next.{run_at}
use Rattle.words.specs.Lexed.{from, Lexed}
use Rattle.made_types.specs.States.{Beginning}
use Rattle.clauses.specs.declared.rows.Row.{Row}
use Rattle.clauses.specs.Rows.{body_at, clause_of}
use Rattle.notation_calculus.specs.Grammar.{got}
use Rattle.maker.specs.Stages.{FarKept, TextStands, KnowsAbove, StageAnswers}

-- a clause's row has no parameters, and it is not the term `main`
unfoldable pub row_judged : List ℕ → Row → Bool
row_judged text r = eqb r.types 0 && (eqb r.numbers 0 && (not (not r.sort && same_name (run_at text r.name) main_name)))

-- a body of a sort stands at an offset
pub record BodyRead (text : List ℕ) (at : ℕ) (sort : Bool) (b : Body) : Type 0 where
  pub lexed : Lexed text at
  pub rest : ℕ
  pub reads : body_at sort (from text at) ≡ got b (from text rest)

pub record CanTry (text w : List ℕ) (at : ℕ) (sort : Bool) : Type 0 where
  pub X : Text
  pub seen : ℕ
  pub σ : State
  pub body : Body
  pub knows : KnowsAbove text w X seen σ
  pub there : BodyRead text at sort body

-- a body was made behind a state: what there was is the beginning of what there is now
pub record TryMade (text w : List ℕ) (X : Text) (σ : State) (puts : ℕ) : Type 0 where
  pub next : State
  pub stands : TextStands text w X next
  pub begins : Beginning σ.table next.table
  pub nodes : σ.nodes ≤ next.nodes
  pub cost : next.puts ≡ puts

abbrev pub TryAnswers : List ℕ → List ℕ → Text → State → Result (Unit {0}) Refusal → Answer ℕ → Type 0
TryAnswers text w X σ (Ok done) (good puts) = TryMade text w X σ puts
TryAnswers text w X σ (Ok done) (refused why) = ⊥
TryAnswers text w X σ (Err e) a = a ≡ refused (said_why e)

pub record TrySays (text w : List ℕ) (at : ℕ) (sort : Bool) (r : Result (Unit {0}) Refusal) (w' : List ℕ) : Type 0 where
  pub kept : FarKept w w'
  pub says : (X : Text) (seen : ℕ) (σ : State) (b : Body) → KnowsAbove text w X seen σ → BodyRead text at sort b → TryAnswers text w' X σ r (judged_body X seen σ b)

-- .. and is forgotten
abbrev pub TriedAs : List ℕ → List ℕ → Text → State → Result (Unit {0}) Refusal → Answer ℕ → Type 0
TriedAs text w X σ (Ok done) (good puts) = TextStands text w X (record { table = σ.table; nodes = σ.nodes; puts = puts })
TriedAs text w X σ (Ok done) (refused why) = ⊥
TriedAs text w X σ (Err e) a = a ≡ refused (said_why e)

pub record TriedSays (text w : List ℕ) (at : ℕ) (sort : Bool) (r : Result (Unit {0}) Refusal) (w' : List ℕ) : Type 0 where
  pub kept : FarKept w w'
  pub says : (X : Text) (seen : ℕ) (σ : State) (b : Body) → KnowsAbove text w X seen σ → BodyRead text at sort b → TriedAs text w' X σ r (judged_body X seen σ b)

-- a text and a state are held, with clause number k
pub record HasClause (text w : List ℕ) (k : ℕ) : Type 0 where
  pub X : Text
  pub σ : State
  pub stands : TextStands text w X σ
  pub there : k < length X.clauses

pub record JudgeSays (text w : List ℕ) (k : ℕ) (r : Result (Unit {0}) Refusal) (w' : List ℕ) : Type 0 where
  pub kept : FarKept w w'
  pub says : (X : Text) (σ : State) → TextStands text w X σ → k < length X.clauses → StageAnswers text w' X r (judged_clause X k σ (clause_of X.clauses k))

-- all of them
pub record SomeText (text w : List ℕ) : Type 0 where
  pub X : Text
  pub σ : State
  pub stands : TextStands text w X σ

pub record JudgedSay (text w : List ℕ) (r : Result (Unit {0}) Refusal) (w' : List ℕ) : Type 0 where
  pub kept : FarKept w w'
  pub says : (X : Text) (σ : State) → TextStands text w X σ → StageAnswers text w' X r (judged_from X 0 σ X.clauses)
