-- What a call answers and leaves, in the terms of the definitions. Assumes nothing.
use Rattle.std.specs.Prelude.{ℕ, ◌≡◌, Result, Ok, Err, List, leb, length}
use Rattle.calculus.specs.Answer.{Answer, good, refused, ◌>>=◌, need}
use Rattle.answers.specs.Refusals.{said_why}
use Rattle.calculus.specs.Translate.{said_of, out_of, Call}
use Rattle.answers.specs.declared.Refusal.{Refusal}

-- a refusal, or the number of bytes written
abbrev pub said_answer : Result ℕ Refusal → Answer ℕ
said_answer (Ok n) = good n
said_answer (Err why) = refused (said_why why)

-- bytes for an output of so many, or 17
unfoldable pub in_room : List ℕ → ℕ → Answer (List ℕ)
in_room bytes room = do
  _ ← need (leb (length bytes) room) 17 (length bytes)
  good bytes

-- an answer and what it leaves of the output are those of `a`
pub record AnswerSays (r : Result ℕ Refusal) (before after : List ℕ) (a : Answer (List ℕ)) : Type 0 where
  pub said : said_answer r ≡ said_of a
  pub wrote : after ≡ out_of a before

-- what a call leaves
abbrev pub called : Result ℕ Refusal → List ℕ → List ℕ → Call
called r out work = record { said = said_answer r; out = out; work = work }
