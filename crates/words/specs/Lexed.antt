-- The words of a text from an offset on: what later contracts speak of. Assumes nothing.
use Rattle.std.specs.Prelude.{ℕ, suc, ◌+◌, ◌-◌, ◌≤◌, ◌<◌, ◌≡◌, cond, eqb, Result, Ok, Err, List, [], length, take, drop}
use Rattle.calculus.specs.Answer.{Answer, good, refused}
use Rattle.answers.specs.declared.Reason.{Reason}
use Rattle.answers.specs.declared.Reason.TheVariants.{NoWord, TextLimit}
use Rattle.answers.specs.declared.Refusal.{Refusal as Why}
use Rattle.answers.specs.Refusals.{said_why}
use Rattle.notation_calculus.specs.Words.{name, Word, run, words, words_from}
use Rattle.notation_calculus.specs.Grammar.{peek, behind}
use Rattle.words.specs.Tables.{token_code, token_value}
use Rattle.words.specs.Next.{Said}

unfoldable pub lexed : List ℕ → ℕ → Answer (List Word)
lexed text at = words_from (suc (length text)) (drop at text) at

abbrev pub valued : Answer (List Word) → List Word
valued (good ws) = ws
valued (refused why) = []

-- the words from an offset on
unfoldable pub from : List ℕ → ℕ → List Word
from text at = valued (lexed text at)

-- an offset of the text, from which on all words are good
pub record Lexed (text : List ℕ) (at : ℕ) : Type 0 where
  pub within : at ≤ length text
  pub words : lexed text at ≡ good (from text at)

-- the words behind the first one
pub record Onward (text : List ℕ) (at next : ℕ) : Type 0 where
  pub rest : behind (from text at) ≡ from text next
  pub fewer : length (from text next) < length (from text at)
  pub past : at < next
  pub lexed : Lexed text next

-- the first of the words from an offset on; the end is never passed
pub record Stands (text : List ℕ) (at : ℕ) (w : Said) : Type 0 where
  pub code : w.code ≡ token_code (peek (from text at)).token
  pub value : w.value ≡ token_value (peek (from text at)).token
  pub place : w.place ≡ (peek (from text at)).place
  pub onward : ¬ (w.code ≡ 0) → Onward text at w.end
  pub last : w.code ≡ 0 → behind (from text at) ≡ []
  pub named : w.code ≡ 24 → (peek (from text at)).token ≡ name (take (w.end - w.place) (drop w.place text))
  pub whole : w.code ≡ 24 → w.end ≡ w.place + run (drop w.place text)
  pub long : w.code ≡ 24 → w.place < w.end
  pub begins : from text w.place ≡ from text at

-- why a word is refused, by its code
abbrev pub reason_of : ℕ → Reason
reason_of kind = cond (eqb kind 34) TextLimit NoWord

-- what the pass over all words says: they are good, or a refusal
abbrev pub Passed : List ℕ → Result (Unit {0}) Why → Type 0
Passed text (Ok done) = Lexed text 0
Passed text (Err why) = words text ≡ refused (said_why why)
