-- Numbers given as arguments: Making's `number_of` and `numbers_in` over entries of the memory. Assumes nothing.
use Rattle.std.specs.Prelude.{Result, Ok, Err, ℕ, ◌+◌, ◌-◌, ◌≤◌, ◌≡◌, List}
use Rattle.calculus.specs.Answer.{good, refused}
use Rattle.answers.specs.declared.Refusal.{Refusal as Why}
use Rattle.answers.specs.Refusals.{said_why}
use Rattle.notation_calculus.specs.Words.{Word}
use Rattle.notation_calculus.specs.Trees.{Number}
use Rattle.notation_calculus.specs.Grammar.{got, number_at}
use Rattle.notation_calculus.specs.Making.{Entry, Scope, entries, number_of, numbers_in, most_entries}
use Rattle.words.specs.Lexed.{from, Lexed}
use Rattle.clauses.specs.Numbers.{numbers_from, NumbersThere}
use Rattle.clauses.specs.Meant.{values_in}
use Rattle.scopes.specs.declared.arguments.Value.{Value}
use Rattle.scopes.specs.declared.frames.Frame.{Frame}
use Rattle.scopes.specs.Entries.{named_from, Places, OnlyEntries}

-- the number parameters of a definition
abbrev pub numbers_known : List ℕ → List ℕ → Frame → List Entry
numbers_known text work f = named_from text work f.numbers (f.variables - f.numbers)

-- .. that can be looked up
pub record NumbersKnown (text work : List ℕ) (f : Frame) : Type 0 where
  pub places : Places text work f.numbers f.variables
  pub ordered : f.numbers ≤ f.variables

-- a number is worked out: a value, or a refusal
abbrev pub ValueIs : List ℕ → List ℕ → Frame → Number → Result ℕ Why → Type 0
ValueIs text work f read (Ok n) = (number_of (numbers_known text work f) read ≡ good n) × (n ≤ 255)
ValueIs text work f read (Err why) = number_of (numbers_known text work f) read ≡ refused (said_why why)

-- k, n or n + k was read from these words and worked out: a value or a refusal, and the offset behind the number in both cases
pub record ValueRead (text work : List ℕ) (f : Frame) (us : List Word) (r : Value) : Type 0 where
  pub read : Number
  pub is : number_at us ≡ got read (from text r.end)
  pub lexed : Lexed text r.end
  pub says : ValueIs text work f read r.value

-- so many numbers from an offset on were worked out and stand in the scope as arguments that wait, from entry `top` on; or a refusal. In any
-- scope that has these number parameters, and whose entries end at `top` with the arguments that wait already
abbrev pub GivesNumbers : List ℕ → List ℕ → Frame → ℕ → ℕ → ℕ → ℕ → List ℕ → Result (Unit {0}) Why → Type 0
GivesNumbers text w f start n name top w' (Ok done) = (top + n ≤ most_entries) × ((S : Scope) (i : ℕ) → S.numbers ≡ numbers_known text w f → entries S + i ≡ top → numbers_in S name i (numbers_from text start n) ≡ good (values_in w' top n))
GivesNumbers text w f start n name top w' (Err why) = (S : Scope) (i : ℕ) → S.numbers ≡ numbers_known text w f → entries S + i ≡ top → numbers_in S name i (numbers_from text start n) ≡ refused (said_why why)

pub record NumbersGiven (text w : List ℕ) (f : Frame) (start n name top : ℕ) (w' : List ℕ) (r : Result (Unit {0}) Why) : Type 0 where
  pub only : OnlyEntries top most_entries w w'
  pub says : GivesNumbers text w f start n name top w' r

-- what can be given: numbers that are read, number parameters below `top`
pub record CanGive (text w : List ℕ) (f : Frame) (start n top : ℕ) : Type 0 where
  pub there : NumbersThere text start n
  pub known : NumbersKnown text w f
  pub below : f.variables ≤ top
  pub few : top ≤ most_entries
