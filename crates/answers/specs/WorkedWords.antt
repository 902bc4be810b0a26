-- Answers as one number of 64 bits, worked out by hand: a success, refusals, refusal 12 with its two types, and what is larger than its
-- bits hold. Assumes nothing.
use Rattle.std.specs.Prelude.{ℕ, List, [], ◌∷◌}
use Rattle.calculus.specs.Answer.{Answer, good, refused, refuse, clash}
use Rattle.answers.specs.Word.{packed}

-- an answer, and its number
pub record WordRow : Type 0 where
  pub answer : Answer ℕ
  pub word : ℕ

abbrev row : Answer ℕ → ℕ → WordRow
row a n = record { answer = a; word = n }

-- 41,344 is A180; node 417 is 1A1; found, wanted, the number 0C and the place stand from the left
abbrev pub worked_words : List WordRow
worked_words =
    row (good 0) 0
    ∷ row (good 41344) 0xA180
    ∷ row (refuse 3 0) 0x0000000300000000
    ∷ row (refuse 17 41344) 0x000000110000A180
    ∷ row (refused (clash 417 5 3)) 0x0030050C000001A1
    ∷ row (refused (clash 2047 256 255)) 0x0FF1000C000007FF
    ∷ row (good 4294967296) 0xFFFFFFFF
    ∷ row (refuse 22 4294967296) 0x00000016FFFFFFFF
    ∷ row (refused (clash 0 4096 4096)) 0xFFFFFF0C00000000
    ∷ []

abbrev pub packed_row : WordRow → WordRow
packed_row r = row r.answer (packed r.answer)
