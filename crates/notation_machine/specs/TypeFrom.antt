-- The type at some words, and the type arguments of a name, as the walk of terms wants them. The machine of types gives the first, word by
-- word (`machine_type_from`, proofs/TypeFrom). Assumes nothing.
use Rattle.std.specs.Prelude.{ℕ, false, List}
use Rattle.calculus.specs.Answer.{Answer, ◌>>=◌}
use Rattle.notation_calculus.specs.Words.{Word}
use Rattle.notation_calculus.specs.Trees.{Text}
use Rattle.notation_calculus.specs.Grammar.{most_nested, Got, got, arguments_at, type_at}
use Rattle.notation_calculus.specs.Making.{State, Found, Scope, FoundAll, found_all, type_of}

-- the type that these words begin with, and the words behind it
unfoldable pub type_from : Text → ℕ → Scope → State → List Word → Answer (Got Found)
type_from X more S σ ws = do
  t ← type_at most_nested false ws
  x ← type_of X more S σ t.value
  got x t.rest

-- [ type, type ] behind a name at a place, or nothing
unfoldable pub types_from : Text → ℕ → Scope → ℕ → State → List Word → Answer (Got FoundAll)
types_from X more S at σ ws = do
  ts ← arguments_at (λ us. type_at most_nested false us) ws
  xs ← found_all (λ R τ t. type_of X more R τ t) S at 0 σ ts.value
  got xs ts.rest
