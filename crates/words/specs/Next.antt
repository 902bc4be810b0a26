-- The word that stands next from an offset on, with its place and the offset behind it. Assumes nothing.
use Rattle.std.specs.Prelude.{ℕ, ◌+◌, Bool, false, cond, List, [], ◌∷◌, eqb, length, get_or, take, drop}
use Rattle.calculus.specs.Answer.{Answer, good, refused}
use Rattle.notation_calculus.specs.Words.{Name, ends, Token, sign, in_name, reserved, gap, run, Read, named, word_at}
use Rattle.words.specs.Tables.{token_code, token_value}
use Rattle.words.specs.declared.Word.{Word}

pub record FoundWord : Type 0 where
  pub token : Token
  pub place : ℕ
  pub end : ℕ

-- a word that was read at an offset
abbrev pub found_at : ℕ → Answer Read → Answer FoundWord
found_at from (good w) = good (record { token = w.token; place = from; end = from + w.long })
found_at from (refused why) = refused why

-- the first byte goes on a name
abbrev pub goes_on_lem : List ℕ → Bool
goes_on_lem [] = false
goes_on_lem (c ∷ s) = in_name c

-- the letters and digits from an offset on
abbrev pub run_at : List ℕ → ℕ → List ℕ
run_at text from = take (run (drop from text)) (drop from text)

-- the name that a variable has whose entry stands for this place: at a parenthesis one that no text can have (`nameless`)
abbrev pub name_in : List ℕ → ℕ → Name
name_in text at = cond (eqb (get_or text at 0) 40) ((256 + at) ∷ []) (run_at text at)

abbrev pub named_at : List ℕ → ℕ → Answer Read
named_at text from = good (record { token = named (run_at text from) reserved; long = length (run_at text from) })

unfoldable pub next_of : List ℕ → ℕ → Answer FoundWord
next_of text at =
    let from = at + gap false (drop at text) in
    cond (eqb (length (drop from text)) 0) (good (record { token = sign ends; place = from; end = from })) (found_at from (word_at (drop from text) from))

-- ---- what the code says of it: the code of a refusal is its number

pub record Said : Type 0 where
  pub code : ℕ
  pub value : ℕ
  pub place : ℕ
  pub end : ℕ

abbrev pub said_word : Word → Said
said_word w = record { code = w.kind; value = w.value; place = w.start; end = w.end }

abbrev pub told : Answer FoundWord → Said
told (good f) = record { code = token_code f.token; value = token_value f.token; place = f.place; end = f.end }
told (refused why) = record { code = why.number; value = 0; place = why.place; end = why.place }
