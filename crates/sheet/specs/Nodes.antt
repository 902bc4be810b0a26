-- A node that stands at an offset. Assumes nothing.
use Rattle.std.specs.Prelude.{ℕ, ◌<◌, List}
use Rattle.calculus.specs.Terms.{Term}
use Rattle.sheet_theorems.specs.Laid.{Stands}
use Rattle.sheet_theorems.specs.Subterms.{skip}

pub record NodeAt (s : List ℕ) (at : ℕ) : Type 0 where
  pub term : Term
  pub stands : Stands s at term

-- each of the first n records from an offset on is a node's
abbrev pub NodesFrom : List ℕ → ℕ → ℕ → Type 0
NodesFrom s start n = (k : ℕ) → k < n → NodeAt s (skip s k start)
