-- The table of drivers that a list of wires makes: one number for each input terminal. Assumes nothing.
use Rattle.std.specs.Prelude.{ℕ, List, [], ◌∷◌, set}
use Rattle.calculus.specs.Net.{Wire}

-- for each wire in order, the entry at its target is set to its source
abbrev pub drive_all : List Wire → List ℕ → List ℕ
drive_all [] table = table
drive_all (w ∷ ws) table = drive_all ws (set table w.to w.from)
