-- The words that were worked out by hand. Assumes nothing.
use mathlib.Core.Path.{◌≡◌, refl}
use mathlib.Core.List.{map}
use Rattle.answers.specs.WorkedWords.{worked_words, packed_row}

pub worked_words_lem : map packed_row worked_words ≡ worked_words
worked_words_lem = refl
