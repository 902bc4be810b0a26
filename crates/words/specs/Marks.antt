-- What is told of the next word to who asks only for the signs that may stand behind a name or a number. Assumes nothing.
use Rattle.std.specs.Prelude.{ℕ, ◌<◌, ◌≡◌, List}
use Rattle.notation_calculus.specs.Grammar.{peek}
use Rattle.words.specs.Tables.{token_code}
use Rattle.words.specs.Classes.{ClassIs}
use Rattle.words.specs.Next.{Said}
use Rattle.words.specs.Lexed.{from, Stands}

-- a code that is not told is not the first word's
abbrev pub Untold : List ℕ → ℕ → Said → ℕ → Type 0
Untold text at w k = ¬ (w.code ≡ k) → ¬ (token_code (peek (from text at)).token ≡ k)

-- none of the signs' codes
abbrev pub NoMark : ℕ → Type 0
NoMark k = (¬ (k ≡ 8)) × (¬ (k ≡ 9)) × (¬ (k ≡ 10)) × (¬ (k ≡ 13)) × (¬ (k ≡ 17)) × (¬ (k ≡ 19)) × (¬ (k ≡ 21)) × (¬ (k ≡ 25))

-- a byte that begins a word, and none of the signs
pub record Unread (c : ℕ) : Type 0 where
  pub class : ℕ
  pub is : ClassIs c class
  pub word : 1 < class
  pub silent : NoMark class

-- a name may be told where any word stands that is none of the signs; anything else is the first word
pub record Marks (text : List ℕ) (at : ℕ) (w : Said) : Type 0 where
  pub stands : ¬ (w.code ≡ 24) → Stands text at w
  pub arrow : Untold text at w 8
  pub linear : Untold text at w 9
  pub times : Untold text at w 10
  pub equals : Untold text at w 13
  pub square : Untold text at w 17
  pub curly : Untold text at w 19
  pub plus : Untold text at w 21
  pub power : Untold text at w 25

-- the code of what is told
pub record Marked (text : List ℕ) (at k : ℕ) : Type 0 where
  pub word : Said
  pub code : k ≡ word.code
  pub marks : Marks text at word
