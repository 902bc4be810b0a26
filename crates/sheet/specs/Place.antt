-- Where a part of a slice lies: a slice stands in a block of memory from an offset on. Assumes nothing.
use Rattle.std.specs.Prelude.{ℕ, ◌+◌, ◌≡◌, List}

-- a part that is returned has these bytes, and begins so far behind the start of the slice that was lent
pub record PartOf (lent : ℕ × ℕ) (start : ℕ) (wanted : List ℕ) (returned : ℕ × ℕ) (part : List ℕ) : Type 0 where
  pub bytes : part ≡ wanted
  pub block : returned.0 ≡ lent.0
  pub offset : returned.1 ≡ lent.1 + start
