-- The words of a text (docs/NOTATION.md), each with its place, an offset in the text; refusals 31 and 34. Assumes nothing.
-- A text is bytes. Names, numbers and reserved words are runs of letters, digits, `_` and `'`; all else is a sign or stands between words.
use Rattle.std.specs.Prelude.{ℕ, zero, suc, ◌+◌, ◌*◌, ◌-◌, Bool, true, false, not, ◌&&◌, ◌||◌, cond, List, [], ◌∷◌, eqb, leb, length, get_or, take, drop}
use Prim.Native.Char.{code}
use Prim.Native.String.{String, [] as end, ◌∷◌ as ◌then◌}
use Rattle.calculus.specs.Answer.{Answer, good, ◌>>=◌, refuse, need}

-- a text's character codes
abbrev pub ascii : String → List ℕ
ascii end = []
ascii (◌then◌ c s) = code c ∷ ascii s

abbrev pub Name : Type 0
Name = List ℕ

abbrev pub same_name : Name → Name → Bool
same_name [] [] = true
same_name [] (b ∷ bs) = false
same_name (a ∷ xs) [] = false
same_name (a ∷ xs) (b ∷ bs) = eqb a b && same_name xs bs

-- ---- signs and reserved words

pub data Sign : Type 0 where
  ends fun fix lets within type edition table : Sign
  arrow linear times round endRound equals comma colon dot square endSquare curly endCurly plus power : Sign

-- the number that stands for a sign where it is compared; 22 to 24 are left to parts, numbers and names
abbrev pub sign_code : Sign → ℕ
sign_code ends = 0
sign_code fun = 1
sign_code fix = 2
sign_code lets = 3
sign_code within = 4
sign_code type = 5
sign_code edition = 6
sign_code table = 7
sign_code arrow = 8
sign_code linear = 9
sign_code times = 10
sign_code round = 11
sign_code endRound = 12
sign_code equals = 13
sign_code comma = 14
sign_code colon = 15
sign_code dot = 16
sign_code square = 17
sign_code endSquare = 18
sign_code curly = 19
sign_code endCurly = 20
sign_code plus = 21
sign_code power = 25

pub data Token : Type 0 where
  sign : Sign → Token
  part : ℕ → Token
  number : ℕ → Token
  name : Name → Token

pub record Word : Type 0 where
  pub token : Token
  pub place : ℕ

pub record Spelled : Type 0 where
  pub spelling : List ℕ
  pub token : Token

abbrev spelled : String → Token → Spelled
spelled s t = record { spelling = ascii s; token = t }

-- reserved words, which no name is
unfoldable pub reserved : List Spelled
reserved =
    spelled "fun" (sign fun)
    ∷ spelled "fix" (sign fix)
    ∷ spelled "let" (sign lets)
    ∷ spelled "in" (sign within)
    ∷ spelled "type" (sign type)
    ∷ spelled "edition" (sign edition)
    ∷ spelled "table" (sign table)
    ∷ spelled "zero" (part 0)
    ∷ spelled "reg" (part 1)
    ∷ spelled "and" (part 2)
    ∷ spelled "or" (part 3)
    ∷ spelled "xor" (part 4)
    ∷ spelled "inv" (part 5)
    ∷ spelled "one" (part 6)
    ∷ []

-- signs; the last four are λ, ×, → and ⊸ in UTF-8
unfoldable pub signs : List Spelled
signs =
    spelled "->" (sign arrow)
    ∷ spelled "-o" (sign linear)
    ∷ spelled "*" (sign times)
    ∷ spelled "(" (sign round)
    ∷ spelled ")" (sign endRound)
    ∷ spelled "=" (sign equals)
    ∷ spelled "," (sign comma)
    ∷ spelled ":" (sign colon)
    ∷ spelled "." (sign dot)
    ∷ spelled "[" (sign square)
    ∷ spelled "]" (sign endSquare)
    ∷ spelled "{" (sign curly)
    ∷ spelled "}" (sign endCurly)
    ∷ spelled "+" (sign plus)
    ∷ spelled "^" (sign power)
    ∷ record { spelling = 0xCE ∷ 0xBB ∷ []; token = sign fun }
    ∷ record { spelling = 0xC3 ∷ 0x97 ∷ []; token = sign times }
    ∷ record { spelling = 0xE2 ∷ 0x86 ∷ 0x92 ∷ []; token = sign arrow }
    ∷ record { spelling = 0xE2 ∷ 0x8A ∷ 0xB8 ∷ []; token = sign linear }
    ∷ []

-- ---- bytes

abbrev pub between : ℕ → ℕ → ℕ → Bool
between a b c = leb a c && leb c b

-- tab, line feed, vertical tab, form feed, carriage return, space
abbrev pub blank : ℕ → Bool
blank c = between 9 13 c || eqb c 32

abbrev pub ends_line : ℕ → Bool
ends_line c = eqb c 10 || eqb c 13

abbrev pub digit : ℕ → Bool
digit c = between 48 57 c

abbrev pub letter : ℕ → Bool
letter c = between 65 90 c || between 97 122 c || eqb c 95

-- what a name goes on with
abbrev pub in_name : ℕ → Bool
in_name c = letter c || digit c || eqb c 39

abbrev pub first : List ℕ → ℕ
first s = get_or s 0 0

-- how many bytes stand before the next word: blanks, and comments from `--` to the line's end; yes means in a comment
abbrev pub gap : Bool → List ℕ → ℕ
gap true [] = 0
gap true (c ∷ s) = suc (gap (not (ends_line c)) s)
gap false [] = 0
gap false (c ∷ s) =
    let blanks = gap false s in
    let comment = gap true s in
    cond (blank c) (suc blanks) (cond (eqb c 45 && eqb (first s) 45) (suc comment) 0)

-- how many bytes a run of letters and digits has
abbrev pub run : List ℕ → ℕ
run [] = 0
run (c ∷ s) =
    let others = run s in
    cond (in_name c) (suc others) 0

abbrev pub all_digits : List ℕ → Bool
all_digits [] = true
all_digits (c ∷ s) = digit c && all_digits s

-- numbers are at most 255, and a larger one counts as 256
abbrev pub capped : ℕ → ℕ
capped n = cond (leb n 255) n 256

abbrev pub value_from : ℕ → List ℕ → ℕ
value_from n [] = n
value_from n (c ∷ s) = value_from (capped (10 * n + (c - 48))) s

-- ---- a word

-- a word, and how many bytes it has
pub record Read : Type 0 where
  pub token : Token
  pub long : ℕ

abbrev pub named : Name → List Spelled → Token
named n [] = name n
named n (r ∷ rs) = cond (same_name n r.spelling) r.token (named n rs)

abbrev pub begins_with : List ℕ → List ℕ → Bool
begins_with [] s = true
begins_with (c ∷ cs) [] = false
begins_with (c ∷ cs) (d ∷ s) = eqb c d && begins_with cs s

-- the first sign that the bytes begin with
abbrev pub sign_at : List Spelled → List ℕ → ℕ → Answer Read
sign_at [] s at = refuse 31 at
sign_at (r ∷ rs) s at = cond (begins_with r.spelling s) (good (record { token = r.token; long = length r.spelling })) (sign_at rs s at)

abbrev pub number_word : List ℕ → ℕ → Answer Read
number_word digits at = do
  _ ← need (all_digits digits) 31 at
  _ ← need (leb (value_from 0 digits) 255) 34 at
  good (record { token = number (value_from 0 digits); long = length digits })

-- the word that the bytes begin with
unfoldable pub word_at : List ℕ → ℕ → Answer Read
word_at s at =
    let run' = take (run s) s in
    cond (digit (first s)) (number_word run' at) (cond (letter (first s)) (good (record { token = named run' reserved; long = length run' })) (sign_at signs s at))

-- all words of the bytes from an offset on; the last is the end. More rounds than bytes are never needed
abbrev pub words_from : ℕ → List ℕ → ℕ → Answer (List Word)
words_from zero s at = good (record { token = sign ends; place = at } ∷ [])
words_from (suc rounds) s at =
    let n = gap false s in
    let r = drop n s in
    cond (eqb (length r) 0) (good (record { token = sign ends; place = at + n } ∷ [])) (do
      w ← word_at r (at + n)
      ws ← words_from rounds (drop w.long r) (at + n + w.long)
      good (record { token = w.token; place = at + n } ∷ ws))

unfoldable pub words : List ℕ → Answer (List Word)
words s = words_from (suc (length s)) s 0
