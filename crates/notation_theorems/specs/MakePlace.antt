-- Where a refusal of `make` stands in the text; and what a call says. Assumes nothing.
use Rattle.std.specs.Prelude.{ℕ, ◌+◌, ◌<◌, ◌≤◌, ◌≡◌, false, List, length, drop}
use Rattle.calculus.specs.Answer.{Refusal, good, numbered}
use Rattle.notation_calculus.specs.Words.{gap, Read, word_at}

-- an offset at which a word is due: behind the blanks and comments that the text begins with, and behind those that follow a word that
-- was due and is one. There the next word begins, or the text ends, or what stands there is no word
pub data Due (text : List ℕ) : ℕ → Type 0 where
  first : Due text (gap false text)
  next : (at : ℕ) (w : Read) → Due text at → word_at (drop at text) at ≡ good w → Due text (at + w.long + gap false (drop (at + w.long) text))

-- 30 at 0, of a text that is too long; 31 to 36 where a word is due, of a text that is not; 31 at a byte. None names types
pub record MakePlace (text : List ℕ) (why : Refusal) : Type 0 where
  pub from : 30 ≤ why.number
  pub to : why.number ≤ 36
  pub low : why.place ≤ length text
  pub long : why.number ≡ 30 → (why.place ≡ 0) × (65535 < length text)
  pub short : 31 ≤ why.number → length text ≤ 65535
  pub due : 31 ≤ why.number → Due text why.place
  pub byte : why.number ≡ 31 → why.place < length text
  pub plain : (why.wanted ≡ 0) × (why.found ≡ 0)

-- a refusal of a call that is lent so many bytes of output and so many places: 1 at 0, those of the text, 17 with the length of the sheet,
-- and 37 with the number of its nodes
pub data MakeCallPlace (text : List ℕ) (room roomPlaces : ℕ) : Refusal → Type 0 where
  no_memory : MakeCallPlace text room roomPlaces (numbered 1 0)
  in_text : {why : Refusal} → MakePlace text why → MakeCallPlace text room roomPlaces why
  no_room : {n : ℕ} → room < n → n ≤ 6913 → MakeCallPlace text room roomPlaces (numbered 17 n)
  no_places : {n : ℕ} → roomPlaces < n → n ≤ 2048 → MakeCallPlace text room roomPlaces (numbered 37 n)

-- the bytes that a call writes
abbrev pub MakeCount : ℕ → ℕ → Type 0
MakeCount room n = (n ≤ 6913) × (n ≤ room)
