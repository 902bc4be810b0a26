-- An answer that is a value, or is refused by a number of which R holds. Assumes nothing.
use Rattle.std.specs.Prelude.{ℕ}
use Rattle.calculus.specs.Answer.{Answer, good, refused}

abbrev pub Only : {A : Type 0} → (ℕ → Type 0) → Answer A → Type 0
Only R (good a) = Unit {0}
Only R (refused why) = R why.number
