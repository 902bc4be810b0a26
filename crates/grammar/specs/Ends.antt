-- Where a part of the text ends: an offset behind it, or a refusal, as the grammar gives it. Assumes nothing.
use Rattle.std.specs.Prelude.{ℕ, ◌<◌, ◌≡◌, Bool, Result, Ok, Err, List, length}
use Rattle.calculus.specs.Answer.{Answer, good, refused}
use Rattle.answers.specs.declared.Refusal.{Refusal as Why}
use Rattle.answers.specs.Refusals.{said_why}
use Rattle.notation_calculus.specs.Words.{Word}
use Rattle.notation_calculus.specs.Grammar.{Got, type_at, term_at}
use Rattle.words.specs.Next.{Said}
use Rattle.words.specs.Lexed.{from, Lexed, Stands}
use Rattle.grammar.specs.Skips.{expect_code}

-- the words behind what was read
abbrev pub rest_of : {A : Type 0} → Answer (Got A) → Answer (List Word)
rest_of (good g) = good g.rest
rest_of (refused why) = refused why

-- a type, a term, with so many levels in one another
abbrev pub type_step : ℕ → Bool → List Word → Answer (List Word)
type_step more tight ws = rest_of (type_at more tight ws)

abbrev pub term_step : ℕ → List Word → Answer (List Word)
term_step more ws = rest_of (term_at more ws)

-- the first of the words from an offset on, by its code, its place and where it ends
pub record WordThere (text : List ℕ) (at code place end : ℕ) : Type 0 where
  pub value : ℕ
  pub stands : Stands text at (record { code = code; value = value; place = place; end = end })

-- the words behind are those from an offset on, and fewer than b
pub record Reaches (text : List ℕ) (b : ℕ) (m : Answer (List Word)) (end : ℕ) : Type 0 where
  pub is : m ≡ good (from text end)
  pub fewer : length (from text end) < b
  pub lexed : Lexed text end

-- an offset behind what was read, or a refusal
abbrev pub End : Type 0
End = Result ℕ Why

-- .. is what a step gives
abbrev pub Ends : List ℕ → ℕ → Answer (List Word) → End → Type 0
Ends text b m (Ok end) = Reaches text b m end
Ends text b m (Err why) = m ≡ refused (said_why why)

-- .. of a loop, in any number of rounds that is above the number of words
abbrev pub EndsIn : List ℕ → ℕ → (ℕ → List Word → Answer (List Word)) → End → Type 0
EndsIn text at go r = (n : ℕ) → length (from text at) < n → Ends text (length (from text at)) (go n (from text at)) r

-- the sign of a code, by the word that stands first: wherever it does
abbrev pub Expected : Said → ℕ → End → Type 0
Expected w code r = (text : List ℕ) (at : ℕ) → Stands text at w → 0 < code → Ends text (length (from text at)) (expect_code code (from text at)) r
