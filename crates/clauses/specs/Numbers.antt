-- k, n or n + k at an offset, and lists of them compared. Assumes nothing.
use Rattle.std.specs.Prelude.{ℕ, ◌≤◌, ◌<◌, ◌≡◌, true, false, List, [], length, drop}
use Rattle.notation_calculus.specs.Words.{Word, run}
use Rattle.notation_calculus.specs.Trees.{Number}
use Rattle.notation_calculus.specs.Grammar.{got, behind, number_at}
use Rattle.words.specs.Next.{run_at}
use Rattle.words.specs.Lexed.{from, Lexed, Onward}
use Rattle.clauses.specs.declared.numbers.Num.{Num}
use Rattle.clauses.specs.Groups.{value_in, rest_in_lem, list_in, Readable}

abbrev pub no_number : Number
no_number = record { is_open = false; name = []; plus = 0; place = 0 }

-- a number is read from these words
abbrev pub NumberThere : List Word → Type 0
NumberThere us = number_at us ≡ got (value_in no_number (number_at us)) (rest_in_lem (number_at us))

-- what the code says of it: if it has a name, the name's place or the number's, k, and the offset behind it
pub record NumberRead (text : List ℕ) (us : List Word) (r : Num) : Type 0 where
  pub number : Number
  pub is : number_at us ≡ got number (from text r.end)
  pub lexed : Lexed text r.end
  pub is_open : number.is_open ≡ r.named
  pub plus : number.plus ≡ r.plus
  pub small : r.plus ≤ 255
  pub place : number.place ≡ r.place
  pub name : r.named ≡ true → number.name ≡ run_at text r.place
  pub inside : r.named ≡ true → r.place < length text
  pub some : r.named ≡ true → 0 < run (drop r.place text)

-- .. with the offset behind the word that follows it: behind that word stands another number, or the offset does not matter
pub record NumberPast (text : List ℕ) (us : List Word) (r : Num) : Type 0 where
  pub stop : ℕ
  pub read : NumberRead text us (record { named = r.named; place = r.place; plus = r.plus; end = stop })
  pub past : NumberThere (behind (from text stop)) → Onward text stop r.end

-- .. but its name
abbrev pub plain_number : Num → Number
plain_number r = record { is_open = r.named; name = []; plus = r.plus; place = r.place }

-- so many numbers behind brackets at an offset
abbrev pub numbers_from : List ℕ → ℕ → ℕ → List Number
numbers_from text at n = list_in no_number number_at n (from text at)

pub record NumbersThere (text : List ℕ) (at n : ℕ) : Type 0 where
  pub lexed : Lexed text at
  pub readable : Readable no_number number_at n (from text at)
