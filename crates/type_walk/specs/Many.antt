-- Type arguments of a name of a term, one by one. Assumes nothing.
use Rattle.std.specs.Prelude.{ℕ, ◌≡◌, true, false, List, Result}
use Rattle.answers.specs.declared.Refusal.{Refusal}
use Rattle.calculus.specs.Answer.{good, ◌>>=◌}
use Rattle.notation_calculus.specs.Words.{endSquare}
use Rattle.notation_calculus.specs.Trees.{TypeTree, Text}
use Rattle.notation_calculus.specs.Grammar.{most_nested, Got, got, behind, is, list_from, types_of, type_at}
use Rattle.notation_calculus.specs.Making.{State, Scope, found_all, type_of}
use Rattle.words.specs.Lexed.{from}
use Rattle.walks.specs.declared.TypesEnd.{TypesEnd}
use Rattle.walks.specs.Walkable.{Walkable}
use Rattle.walks.specs.Walked.{TypesWalked}
use Rattle.walks.specs.Says.{CanType, TypesAnswer}

-- the grammar has read a list of types from an offset on, and behind it stands the closing bracket
pub record ListRead (text : List ℕ) (at rounds : ℕ) (g : Got (List TypeTree)) : Type 0 where
  pub reads : list_from (λ us. type_at most_nested false us) rounds (from text at) ≡ good g
  pub closed : is endSquare g.rest ≡ true

pub record CanTypeAll (text w : List ℕ) (at more frame top : ℕ) : Type 0 where
  pub can : CanType text w at more frame top
  pub rounds : ℕ
  pub trees : Got (List TypeTree)
  pub list : ListRead text at rounds trees

-- whatever list that was, its types wait as entries
pub record AllTypesSay (text w : List ℕ) (at more frame top name : ℕ) (r : Result TypesEnd Refusal) (w' : List ℕ) : Type 0 where
  pub walked : TypesWalked more top w w'
  pub says :
      (X : Text) (S : Scope) (σ : State) → Walkable text w frame top X S σ → (rounds : ℕ) (g : Got (List TypeTree)) → ListRead text at rounds g
      → TypesAnswer text w' top r (found_all (λ R τ t. type_of X more R τ t) S name 0 σ (types_of g.value) >>= λ xs. got xs (behind g.rest))
