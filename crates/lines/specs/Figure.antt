-- Numbers in decimal, as names that stay shut. Assumes nothing.
use Rattle.std.specs.Prelude.{ℕ, zero, suc, ◌+◌, [], ◌∷◌, ◌++◌}
use Rattle.calculus.specs.Listing.{Text, decimal}

unfoldable pub figure : ℕ → Text
figure n = decimal n

-- k numbers from i on, each behind a space
abbrev pub figures : ℕ → ℕ → Text
figures zero i = []
figures (suc k) i = 32 ∷ figure i ++ figures k (i + 1)
