-- Bytes, written so that a person can check them by eye: as characters, or as a hex text. Assumes nothing.
use Rattle.std.specs.Prelude.{ℕ, ◌+◌, ◌-◌, ◌*◌, Bool, true, cond, ◌&&◌, List, [], ◌∷◌, eqb, leb, ltb}
use Prim.Native.Char.{code}
use Prim.Native.String.{String, [] as end, ◌∷◌ as ◌then◌}

-- a text's character codes
abbrev pub ascii : String → List ℕ
ascii end = []
ascii (◌then◌ c s) = code c ∷ ascii s

-- more than any byte
abbrev pub no_byte : ℕ
no_byte = 256

-- 0 to 9 and A to F; of any other character, what is no digit and makes no byte
abbrev digit_of : ℕ → ℕ
digit_of c = cond (leb 48 c && leb c 57) (c - 48) (cond (leb 65 c && leb c 70) (c - 55) no_byte)

-- two digits a byte, with spaces between bytes: hex "01 03 00 00". A text that is none gives no shorter list, but an entry that is no byte:
-- for two characters of which one is no digit, and for a digit that stands alone at the end
abbrev pub hex : String → List ℕ
hex end = []
hex (◌then◌ a end) = cond (eqb (code a) 32) [] (no_byte ∷ [])
hex (◌then◌ a (◌then◌ b s)) = cond (eqb (code a) 32) (hex (◌then◌ b s)) ((16 * digit_of (code a) + digit_of (code b)) ∷ hex s)

-- every entry is a byte
abbrev pub all_bytes : List ℕ → Bool
all_bytes [] = true
all_bytes (b ∷ s) = ltb b no_byte && all_bytes s
