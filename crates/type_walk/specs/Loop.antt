-- The loop of the walk: whether it goes on, what it answers, and what it needs. Assumes nothing.
use Rattle.std.specs.Prelude.{ℕ, ◌≡◌, Bool, true, false, List, ltb}
use Rattle.calculus.specs.Answer.{good}
use Rattle.notation_calculus.specs.Trees.{TypeTree}
use Rattle.notation_calculus.specs.Grammar.{most_nested, Got, type_at}
use Rattle.words.specs.Lexed.{from}
use Rattle.walks.specs.Says.{CanType}
use Rattle.type_walk.specs.declared.levels.Walking as code
use Rattle.type_walk.specs.declared.levels.Walking.TheVariants as walking

-- a level waits, or a type is wanted, in a walk that began with so many levels
abbrev pub going_in : code.Walking → ℕ → Bool
going_in (walking.Wanted q) more = true
going_in (walking.Came q) more = ltb q.more more

-- a type can be worked out at an offset, and the grammar reads one there
pub record CanTypeAt (text w : List ℕ) (at more frame top : ℕ) : Type 0 where
  pub can : CanType text w at more frame top
  pub tree : Got TypeTree
  pub reads : type_at most_nested false (from text at) ≡ good tree
