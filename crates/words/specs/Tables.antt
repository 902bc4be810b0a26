-- Rows of spellings: a token's code and value, and the spelling's length. Assumes nothing.
use Rattle.std.specs.Prelude.{ℕ, Bool, not, ◌&&◌, ◌||◌, cond, List, [], ◌∷◌, eqb, length}
use Rattle.notation_calculus.specs.Words.{arrow, linear, times, fun, sign_code, Token, sign, part, number, name, Spelled, begins_with}
use Rattle.words.specs.declared.spelling.Row.{Row}

-- a token's code: a sign's own, or that of a part, a number or a name
abbrev pub token_code : Token → ℕ
token_code (sign t) = sign_code t
token_code (part p) = 22
token_code (number n) = 23
token_code (name n) = 24

-- .. and the number that it holds
abbrev pub token_value : Token → ℕ
token_value (sign t) = 0
token_value (part p) = p
token_value (number n) = n
token_value (name n) = 0

-- the bytes begin with a spelling, which is as long as the word if it has to be the whole of it
abbrev pub row_fits : Bool → ℕ → List ℕ → List ℕ → Bool
row_fits whole long s spelling = (not whole || eqb (length spelling) long) && begins_with spelling s

pub record RowSaid : Type 0 where
  pub code : ℕ
  pub value : ℕ
  pub long : ℕ

abbrev pub said_row : Row → RowSaid
said_row r = record { code = r.kind; value = r.value; long = r.long }

-- the first row that row_fits; one of no length where none does
unfoldable pub row_of : Bool → ℕ → List ℕ → List Spelled → RowSaid
row_of whole long s [] = record { code = 0; value = 0; long = 0 }
row_of whole long s (r ∷ rs) = cond (row_fits whole long s r.spelling) (record { code = token_code r.token; value = token_value r.token; long = length r.spelling }) (row_of whole long s rs)

-- signs that are not one byte
unfoldable pub two_signs : List Spelled
two_signs =
    record { spelling = 45 ∷ 62 ∷ []; token = sign arrow }
    ∷ record { spelling = 45 ∷ 111 ∷ []; token = sign linear }
    ∷ record { spelling = 0xCE ∷ 0xBB ∷ []; token = sign fun }
    ∷ record { spelling = 0xC3 ∷ 0x97 ∷ []; token = sign times }
    ∷ []

unfoldable pub three_signs : List Spelled
three_signs = record { spelling = 0xE2 ∷ 0x86 ∷ 0x92 ∷ []; token = sign arrow } ∷ record { spelling = 0xE2 ∷ 0x8A ∷ 0xB8 ∷ []; token = sign linear } ∷ []
