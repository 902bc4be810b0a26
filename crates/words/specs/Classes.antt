-- What a byte begins, by a number. Assumes nothing.
use Rattle.std.specs.Prelude.{ℕ, ◌<◌, ◌≡◌, true, false, List, ◌∷◌, ◌++◌, eqb}
use Rattle.notation_calculus.specs.Words.{blank, digit, letter, reserved, signs}
use Rattle.words.specs.Tables.{row_of, two_signs, three_signs}

-- no gap begins with the byte, whatever stands behind it
abbrev pub BeginsWord : ℕ → Type 0
BeginsWord c = (blank c ≡ false) × (eqb c 45 ≡ false)

-- a byte that is a sign by itself, whatever stands behind it
abbrev pub SingleSign : ℕ → ℕ → Type 0
SingleSign c code = (s : List ℕ) → row_of false 0 (c ∷ s) signs ≡ record { code = code; value = 0; long = 1 }

-- a letter that begins no reserved word
abbrev pub PlainLetter : ℕ → Type 0
PlainLetter c = (letter c ≡ true) × ((long : ℕ) (s : List ℕ) → row_of true long (c ∷ s) reserved ≡ record { code = 0; value = 0; long = 0 })

-- a byte that is no sign by itself
abbrev pub NoSingle : ℕ → Type 0
NoSingle c = (s : List ℕ) → row_of false 0 (c ∷ s) signs ≡ row_of false 0 (c ∷ s) (two_signs ++ three_signs)

pub data ClassIs (c : ℕ) : ℕ → Type 0 where
  gapped : blank c ≡ true → ClassIs c 1
  signed : {k : ℕ} → 1 < k → k < 64 → BeginsWord c → digit c ≡ false → letter c ≡ false → SingleSign c k → ClassIs c k
  numbered : BeginsWord c → digit c ≡ true → ClassIs c 64
  plain : BeginsWord c → digit c ≡ false → PlainLetter c → ClassIs c 65
  lettered : BeginsWord c → digit c ≡ false → letter c ≡ true → ClassIs c 66
  others : blank c ≡ false → digit c ≡ false → letter c ≡ false → NoSingle c → ClassIs c 0

-- the class of a byte that is a sign by itself, or 0
pub record SignCode (c k : ℕ) : Type 0 where
  pub class : ¬ (k ≡ 0) → ClassIs c k
  pub word : ¬ (k ≡ 0) → 1 < k
  pub sign : k < 64

-- no letter that begins a reserved word: a e f i l o r t x z; and no sign by itself
pub record NotListed (c : ℕ) : Type 0 where
  pub letter97 : ¬ (c ≡ 97)
  pub letter101 : ¬ (c ≡ 101)
  pub letter102 : ¬ (c ≡ 102)
  pub letter105 : ¬ (c ≡ 105)
  pub letter108 : ¬ (c ≡ 108)
  pub letter111 : ¬ (c ≡ 111)
  pub letter114 : ¬ (c ≡ 114)
  pub letter116 : ¬ (c ≡ 116)
  pub letter120 : ¬ (c ≡ 120)
  pub letter122 : ¬ (c ≡ 122)
  pub single : NoSingle c
