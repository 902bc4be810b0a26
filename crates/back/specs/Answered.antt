-- The answer of a call by its stages: 17 behind 26 behind 25 (document 02, L11). Assumes nothing.
use Rattle.std.specs.Prelude.{ℕ, List}
use Rattle.calculus.specs.Answer.{Answer, need, ◌>>=◌}
use Rattle.calculus.specs.Net.{Net}
use Rattle.translator.specs.Said.{in_room}
use Rattle.back_calculus.specs.Back.{back_sheet}
use Rattle.back_calculus.specs.Returned.{no_point, within}

unfoldable pub limit_answer : Net → ℕ → Answer (List ℕ)
limit_answer m room = do
  _ ← need (within m) 26 0
  in_room (back_sheet m) room

unfoldable pub net_answer : Net → ℕ → Answer (List ℕ)
net_answer m room = do
  _ ← no_point m.elements 0
  limit_answer m room
