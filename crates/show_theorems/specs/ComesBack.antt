-- What `show` promises: the sheet comes back, or a limit of the notation is passed. Assumes nothing.
use Rattle.std.specs.Prelude.{◌≡◌, ℕ, List, ◌⊎◌}
use Rattle.calculus.specs.Answer.{Answer, good, refused}
use Rattle.calculus.specs.Read.{Sheet}
use Rattle.notation_calculus.specs.Make.{Placed, bytes_of}

-- the text makes this very sheet, with these bytes; or it is too long (30), or passes a limit (34)
abbrev pub ComesBack : List ℕ → Sheet → Answer Placed → Type 0
ComesBack s σ (good p) = (p.sheet ≡ σ) × (bytes_of p.sheet ≡ s)
ComesBack s σ (refused why) = (why.number ≡ 30) ⊎ (why.number ≡ 34)
