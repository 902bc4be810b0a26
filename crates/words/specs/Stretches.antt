-- Two stretches of so many bytes, each from its place on, that stand in a text. Assumes nothing.
use Rattle.std.specs.Prelude.{ℕ, ◌+◌, ◌≤◌, List, length}

pub record BothInside (text : List ℕ) (a b n : ℕ) : Type 0 where
  pub first : a + n ≤ length text
  pub second : b + n ≤ length text
