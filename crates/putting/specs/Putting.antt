-- What the parts of putting in answer: numbers as arguments, a clause that is known, its body. In each record, whatever text, scope and state
-- the memory held, the answer is that of the definition. Assumes nothing.
use Rattle.std.specs.Prelude.{ℕ, suc, ◌+◌, ◌≤◌, ◌<◌, ◌≡◌, List, Result, Ok, Err, length, take}
use Rattle.answers.specs.declared.Refusal.{Refusal}
use Rattle.answers.specs.Refusals.{said_why}
use Rattle.calculus.specs.Answer.{Answer, good, refused, ◌>>=◌, refuse}
use Rattle.calculus.specs.Record.{All}
use Rattle.notation_calculus.specs.Words.{Word}
use Rattle.notation_calculus.specs.Trees.{Text}
use Rattle.notation_calculus.specs.Grammar.{Got, got, numbers_at}
use Rattle.notation_calculus.specs.Making.{State, Scope, entries, most_entries, numbers_in, Put, put_of, clause_for, one_put}
use Rattle.notation_machine.specs.Bodies.{words_for}
use Rattle.words.specs.Next.{run_at}
use Rattle.words.specs.Lexed.{from}
use Rattle.making_memory.specs.Map.{making_size}
use Rattle.made_types.specs.Held.{HoldsState}
use Rattle.clauses.specs.Rows.{row_in, clause_of}
use Rattle.clauses.specs.Texts.{HoldsClauses}
use Rattle.clauses.specs.declared.meant.Asked.{Asked}
use Rattle.clauses.specs.Meant.{values_in}
use Rattle.scopes.specs.Entries.{OnlyEntries}
use Rattle.scopes.specs.Frames.{frame_in, HoldsScope}
use Rattle.scopes.specs.Opened.{numbers_over, CanOpen}
use Rattle.walks.specs.Walkable.{row_bodies, Walkable}
use Rattle.walks.specs.Walked.{TypesWalked}
use Rattle.walks.specs.Says.{Offset, CanWalk}
use Rattle.putting.specs.declared.NumbersEnd.{NumbersEnd}
use Rattle.putting.specs.declared.BodyAt.{BodyAt}

-- ---- numbers as arguments, which wait as entries behind the type arguments

-- { .. } behind a name at a place, or nothing, where `i` arguments wait already
abbrev pub numbers_for : Scope → ℕ → ℕ → List Word → Answer (Got (List ℕ))
numbers_for S name i ws = do
  ks ← numbers_at ws
  ns ← numbers_in S name i ks.value
  got ns ks.rest

pub record NumbersCame (text w : List ℕ) (first n end : ℕ) (g : Got (List ℕ)) : Type 0 where
  pub numbers : values_in w first n ≡ g.value
  pub few : first + n ≤ most_entries
  pub rest : Offset text end g.rest

abbrev pub NumbersAnswer : List ℕ → List ℕ → ℕ → Result NumbersEnd Refusal → Answer (Got (List ℕ)) → Type 0
NumbersAnswer text w first (Ok n) (good g) = NumbersCame text w first n.count n.end g
NumbersAnswer text w first (Ok n) (refused why) = ⊥
NumbersAnswer text w first (Err e) (good g) = ⊥
NumbersAnswer text w first (Err e) (refused why) = why ≡ said_why e

pub record NumbersSay (text w : List ℕ) (name at types frame top : ℕ) (r : Result NumbersEnd Refusal) (w' : List ℕ) : Type 0 where
  pub only : OnlyEntries (top + types) most_entries w w'
  pub says : (S : Scope) → HoldsScope text w frame top S → NumbersAnswer text w' (top + types) r (numbers_for S name types (from text at))

-- ---- a body

-- a definition as a machine wants its body
pub record BodyThere : Type 0 where
  pub scope : Scope
  pub state : State
  pub body : List Word

-- its scope is held by a frame, over so many entries
pub record BodyCame (text w : List ℕ) (X : Text) (into start top : ℕ) (b : BodyThere) : Type 0 where
  pub walkable : Walkable text w into top X b.scope b.state
  pub variables : (frame_in w into).variables ≡ b.scope.under
  pub body : Offset text start b.body

abbrev pub BodyAnswers : List ℕ → List ℕ → Text → ℕ → Result BodyAt Refusal → Answer BodyThere → Type 0
BodyAnswers text w X into (Ok q) (good b) = BodyCame text w X into q.body q.top b
BodyAnswers text w X into (Ok q) (refused why) = ⊥
BodyAnswers text w X into (Err e) (good b) = ⊥
BodyAnswers text w X into (Err e) (refused why) = why ≡ said_why e

-- a clause that was found, or not, is put in at a place: its cost is counted
abbrev pub body_put : State → ℕ → List Word → Answer Put → Answer BodyThere
body_put σ at words m = do
  p ← m
  σ₁ ← one_put σ p.cost at
  good (record { scope = p.scope; state = σ₁; body = words })

-- clause k, if it is below `seen`, is what was found, with the arguments that wait from `top` on; or else nothing was
pub record ClauseFound (text w : List ℕ) (k seen place top : ℕ) (X : Text) (σ : State) (words : List Word) (m : Answer Put) : Type 0 where
  pub missing : seen ≤ k → m ≡ refuse 33 place
  pub found : k < seen → m ≡ good (put_of top X.clauses (clause_of X.clauses k) k (values_in w top (row_in w k).types) (values_in w (numbers_over w k top) (row_in w k).numbers))
  pub body : k < seen → words ≡ from text (row_in w k).body
  pub typed : k < seen → All (λ (t : ℕ). t < length σ.table) (values_in w top (row_in w k).types)
  pub known : seen ≤ length X.clauses

pub record CanPlace (text w : List ℕ) (k seen top into : ℕ) : Type 0 where
  pub room : making_size ≤ length w
  pub opens : k < seen → CanOpen text w k into top

pub record PlacedSays (text w : List ℕ) (k seen place top into : ℕ) (r : Result BodyAt Refusal) (w' : List ℕ) : Type 0 where
  pub walked : TypesWalked (suc into) top w w'
  pub says :
      (X : Text) (σ : State) (words : List Word) (m : Answer Put) → HoldsClauses text w X → HoldsState w σ → ClauseFound text w k seen place top X σ words m
      → BodyAnswers text w' X into r (body_put σ place words m)

-- ---- a name with its arguments

-- the arguments wait: types from `top` on, then numbers
pub record CanMean (text w : List ℕ) (q : Asked) (frame top into : ℕ) : Type 0 where
  pub walk : CanWalk text w frame top
  pub inside : q.name ≤ length text
  pub first : q.first ≡ top + q.types
  pub few : q.first + q.numbers ≤ most_entries
  pub above : into < frame

-- the clause that is meant, put in
abbrev pub meant_put : Text → List (List Word) → Scope → State → Asked → List ℕ → List ℕ → List ℕ → Answer BodyThere
meant_put X bodies S σ q name ts ns = body_put σ q.name (words_for bodies (take S.seen X.clauses) q.sort name (length ts) ns) (clause_for (entries S) X.clauses (take S.seen X.clauses) 0 q.sort name ts ns q.name)

pub record MeantSays (text w : List ℕ) (q : Asked) (frame top into : ℕ) (r : Result BodyAt Refusal) (w' : List ℕ) : Type 0 where
  pub walked : TypesWalked (suc into) top w w'
  pub says :
      (X : Text) (S : Scope) (σ : State) → Walkable text w frame top X S σ → All (λ (t : ℕ). t < length σ.table) (values_in w top q.types)
      → BodyAnswers text w' X into r (meant_put X (row_bodies text w 0 (length X.clauses)) S σ q (run_at text q.name) (values_in w top q.types) (values_in w q.first q.numbers))
