-- What the walks answer: in each record, whatever text, scope and state the memory held, the answer is that of the definition. Assumes
-- nothing.
use Rattle.std.specs.Prelude.{ℕ, suc, ◌+◌, ◌≤◌, ◌<◌, ◌≡◌, Bool, List, Result, Ok, Err, length, take}
use Rattle.calculus.specs.Answer.{Answer, good, refused, ◌>>=◌}
use Rattle.answers.specs.declared.Refusal.{Refusal}
use Rattle.answers.specs.Refusals.{said_why}
use Rattle.calculus.specs.Record.{All}
use Rattle.notation_calculus.specs.Words.{Word}
use Rattle.notation_calculus.specs.Trees.{Bound, Tree, Text}
use Rattle.notation_calculus.specs.Grammar.{most_nested, Got, numbers_at, term_at}
use Rattle.notation_calculus.specs.Making.{State, Found, Scope, entries, numbers_in, clause_for, one_put, most_entries, FoundAll, term_of}
use Rattle.notation_machine.specs.Bodies.{words_for}
use Rattle.notation_machine.specs.TypeFrom.{type_from, types_from}
use Rattle.words.specs.Next.{run_at}
use Rattle.words.specs.Lexed.{from, Lexed}
use Rattle.made_types.specs.Held.{HoldsState}
use Rattle.made_nodes.specs.declared.Sub.{Sub}
use Rattle.made_nodes.specs.Held.{MadeIn}
use Rattle.clauses.specs.Meant.{values_in}
use Rattle.scopes.specs.Frames.{frame_in}
use Rattle.walks.specs.declared.TypeEnd.{TypeEnd}
use Rattle.walks.specs.declared.TypesEnd.{TypesEnd}
use Rattle.walks.specs.declared.PutAt.{PutAt}
use Rattle.walks.specs.Walkable.{row_bodies, Walkable}
use Rattle.walks.specs.Walked.{TypesWalked, TermsWalked}

-- some text, scope and state are held by the memory
pub record CanWalk (text w : List ℕ) (frame top : ℕ) : Type 0 where
  pub X : Text
  pub S : Scope
  pub σ : State
  pub walkable : Walkable text w frame top X S σ

-- words from an offset on
pub record Offset (text : List ℕ) (end : ℕ) (ws : List Word) : Type 0 where
  pub is : ws ≡ from text end
  pub lexed : Lexed text end

-- ---- types

pub record TypeCame (text w : List ℕ) (t end : ℕ) (g : Got Found) : Type 0 where
  pub type : t ≡ g.value.type
  pub known : t < length g.value.state.table
  pub state : HoldsState w g.value.state
  pub rest : Offset text end g.rest

abbrev pub TypeAnswers : List ℕ → List ℕ → Result TypeEnd Refusal → Answer (Got Found) → Type 0
TypeAnswers text w (Ok t) (good g) = TypeCame text w t.ty t.end g
TypeAnswers text w (Ok t) (refused why) = ⊥
TypeAnswers text w (Err e) (good g) = ⊥
TypeAnswers text w (Err e) (refused why) = why ≡ said_why e

-- a type can be worked out at an offset, with so many levels
pub record CanType (text w : List ℕ) (at more frame top : ℕ) : Type 0 where
  pub walk : CanWalk text w frame top
  pub lexed : Lexed text at
  pub above : more ≤ frame
  pub levels : more ≤ most_nested

-- the type at an offset, as a walk of terms wants it
pub record TypeSays (text w : List ℕ) (at more frame top : ℕ) (r : Result TypeEnd Refusal) (w' : List ℕ) : Type 0 where
  pub walked : TypesWalked more top w w'
  pub says : (X : Text) (S : Scope) (σ : State) → Walkable text w frame top X S σ → TypeAnswers text w' r (type_from X more S σ (from text at))

-- ---- type arguments, which wait as entries from `top` on

pub record TypesCame (text w : List ℕ) (top n end : ℕ) (g : Got FoundAll) : Type 0 where
  pub types : values_in w top n ≡ g.value.types
  pub known : All (λ (t : ℕ). t < length g.value.state.table) g.value.types
  pub few : top + n ≤ most_entries
  pub state : HoldsState w g.value.state
  pub rest : Offset text end g.rest

abbrev pub TypesAnswer : List ℕ → List ℕ → ℕ → Result TypesEnd Refusal → Answer (Got FoundAll) → Type 0
TypesAnswer text w top (Ok t) (good g) = TypesCame text w top t.count t.end g
TypesAnswer text w top (Ok t) (refused why) = ⊥
TypesAnswer text w top (Err e) (good g) = ⊥
TypesAnswer text w top (Err e) (refused why) = why ≡ said_why e

-- [ type, type ] at an offset, behind a name at a place; or nothing
pub record TypesSay (text w : List ℕ) (at more frame top name : ℕ) (r : Result TypesEnd Refusal) (w' : List ℕ) : Type 0 where
  pub walked : TypesWalked more top w w'
  pub says : (X : Text) (S : Scope) (σ : State) → Walkable text w frame top X S σ → TypesAnswer text w' top r (types_from X more S name σ (from text at))

-- ---- definitions put in

-- the name that stands at a place
abbrev pub bound_at : List ℕ → ℕ → Bound
bound_at text place = record { name = run_at text place; place = place }

-- a definition as a machine wants its body: its scope, what was made, its words, and the words behind the name and its arguments
pub record PutThere : Type 0 where
  pub scope : Scope
  pub state : State
  pub body : List Word
  pub rest : List Word

-- behind the type arguments of a name: numbers, the clause, its cost
unfoldable pub put_from : Text → List (List Word) → Bool → Scope → State → Bound → List ℕ → List Word → Answer PutThere
put_from X bodies sort S σ x ts ws = do
  ks ← numbers_at ws
  ns ← numbers_in S x.place (length ts) ks.value
  p ← clause_for (entries S) X.clauses (take S.seen X.clauses) 0 sort x.name ts ns x.place
  σ₁ ← one_put σ p.cost x.place
  good (record { scope = p.scope; state = σ₁; body = words_for bodies (take S.seen X.clauses) sort x.name (length ts) ns; rest = ks.rest })

-- its scope is held by a frame, over so many entries; its variables begin where the frame says
pub record PutCame (text w : List ℕ) (X : Text) (into start end top : ℕ) (p : PutThere) : Type 0 where
  pub walkable : Walkable text w into top X p.scope p.state
  pub variables : (frame_in w into).variables ≡ p.scope.under
  pub body : Offset text start p.body
  pub rest : Offset text end p.rest

abbrev pub PutAnswers : List ℕ → List ℕ → Text → ℕ → Result PutAt Refusal → Answer PutThere → Type 0
PutAnswers text w X into (Ok q) (good p) = PutCame text w X into q.body q.end q.top p
PutAnswers text w X into (Ok q) (refused why) = ⊥
PutAnswers text w X into (Err e) (good p) = ⊥
PutAnswers text w X into (Err e) (refused why) = why ≡ said_why e

-- a definition of a sort can be put in, by a name at a place, with its numbers at an offset and so many type arguments that wait from `top` on
pub record CanPut (text w : List ℕ) (name at types frame top into : ℕ) : Type 0 where
  pub walk : CanWalk text w frame top
  pub lexed : Lexed text at
  pub inside : name ≤ length text
  pub above : into < frame
  pub few : top + types ≤ most_entries

pub record PutSays (text w : List ℕ) (sort : Bool) (name at types frame top into : ℕ) (r : Result PutAt Refusal) (w' : List ℕ) : Type 0 where
  pub walked : TypesWalked (suc into) top w w'
  pub says :
      (X : Text) (S : Scope) (σ : State) → Walkable text w frame top X S σ → All (λ (t : ℕ). t < length σ.table) (values_in w top types)
      → PutAnswers text w' X into r (put_from X (row_bodies text w 0 (length X.clauses)) sort S σ (bound_at text name) (values_in w top types) (from text at))

-- ---- terms

-- a term can be made at an offset, with so many levels: the grammar has read one there; the variables begin where the frame says
pub record CanTerm (text w : List ℕ) (at more frame top : ℕ) : Type 0 where
  pub walk : CanWalk text w frame top
  pub variables : (frame_in w frame).variables ≡ walk.S.under
  pub lexed : Lexed text at
  pub above : more ≤ frame
  pub levels : more ≤ most_nested
  pub tree : Got Tree
  pub reads : term_at most_nested (from text at) ≡ good tree

pub record TermSays (text w : List ℕ) (at more frame top : ℕ) (r : Result Sub Refusal) (w' : List ℕ) : Type 0 where
  pub walked : TermsWalked more top w w'
  pub says : (X : Text) (S : Scope) (σ : State) (g : Got Tree) → Walkable text w frame top X S σ → (frame_in w frame).variables ≡ S.under → term_at most_nested (from text at) ≡ good g → MadeIn w' r (term_of X more S σ g.value)
