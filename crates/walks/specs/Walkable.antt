-- What a walk over a text finds in the working memory: the text's clauses, what was made up to here, and a scope. Assumes nothing.
use Rattle.std.specs.Prelude.{ℕ, zero, suc, ◌≤◌, ◌<◌, List, [], ◌∷◌, length}
use Rattle.calculus.specs.Record.{All}
use Rattle.notation_calculus.specs.Words.{Word}
use Rattle.notation_calculus.specs.Trees.{Text}
use Rattle.notation_calculus.specs.Making.{State, Entry, Scope}
use Rattle.words.specs.Lexed.{from}
use Rattle.making_memory.specs.Map.{making_size}
use Rattle.made_types.specs.Held.{HoldsState}
use Rattle.clauses.specs.Rows.{row_in}
use Rattle.clauses.specs.Texts.{HoldsClauses}
use Rattle.scopes.specs.Frames.{HoldsScope}

-- the words of the bodies of so many clauses from clause k on
abbrev pub row_bodies : List ℕ → List ℕ → ℕ → ℕ → List (List Word)
row_bodies text w k zero = []
row_bodies text w k (suc n) = from text (row_in w k).body ∷ row_bodies text w (suc k) n

-- the values of entries are types of a table of so many
abbrev pub AllTyped : ℕ → List Entry → Type 0
AllTyped n Γ = All (λ (e : Entry). e.value < n) Γ

-- the memory holds a text's clauses, a state, and by a frame and so many entries a scope
pub record Walkable (text w : List ℕ) (frame top : ℕ) (X : Text) (S : Scope) (σ : State) : Type 0 where
  pub short : length text ≤ 65535
  pub room : making_size ≤ length w
  pub level : frame < 82
  pub clauses : HoldsClauses text w X
  pub state : HoldsState w σ
  pub scope : HoldsScope text w frame top S
  pub seen : S.seen ≤ length X.clauses
  pub types : AllTyped (length σ.table) S.types
  pub variables : AllTyped (length σ.table) S.variables
