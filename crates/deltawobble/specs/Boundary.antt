-- What the functions for C answer: one number that holds two or four. Assumes nothing.
use Rattle.std.specs.Prelude.{ℕ, ◌≡◌, List}
use Rattle.calculus.specs.Answer.{Answer, good, refused}
use Rattle.calculus.specs.Stretch.{Stretch}
use Rattle.calculus.specs.Translate.{Call}
use Rattle.answers.specs.Word.{upper_lower, packed}
use Rattle.batch_calculus.specs.Batch.{Batch}
use Rattle.foreign_calculus.specs.Foreign.{Checked}
use Rattle.trace_calculus.specs.Lanes.{LanesCall}
use Rattle.never_calculus.specs.Search.{NeverCall}
use Rattle.notation_calculus.specs.Make.{MakeCall}

-- where a stretch begins, and its length
abbrev pub packed_stretch : Stretch → ℕ
packed_stretch p = upper_lower p.start p.size

-- a number, and what is left of the output and of the working memory, are those of a call
pub record Packs (r : ℕ) (out work : List ℕ) (c : Call) : Type 0 where
  pub said : r ≡ packed c.said
  pub wrote : out ≡ c.out
  pub kept : work ≡ c.work

-- .. and the results, those of a call over sheets laid end to end
pub record PacksBatch (r : ℕ) (out results work : List ℕ) (b : Batch) : Type 0 where
  pub said : r ≡ packed b.said
  pub wrote : out ≡ b.out
  pub stored : results ≡ b.results
  pub kept : work ≡ b.work

-- .. and the state, those of a run of sixteen traces
pub record PacksLanes (r : ℕ) (out state work : List ℕ) (c : LanesCall) : Type 0 where
  pub said : r ≡ packed c.said
  pub wrote : out ≡ c.out
  pub left : state ≡ c.state
  pub kept : work ≡ c.work

-- .. and the numbers lent for each state, those of a search
pub record PacksNever (r : ℕ) (out work trail queue : List ℕ) (c : NeverCall) : Type 0 where
  pub packs : Packs r out work c.call
  pub left_trail : trail ≡ c.trail
  pub left_queue : queue ≡ c.queue

-- .. and the places, those of a call that makes a sheet of a text
pub record PacksMake (r : ℕ) (out places work : List ℕ) (c : MakeCall) : Type 0 where
  pub said : r ≡ packed c.said
  pub wrote : out ≡ c.out
  pub told : places ≡ c.places
  pub kept : work ≡ c.work

-- accepted is the value 0
abbrev pub checked_value : Answer (Unit {0}) → Answer ℕ
checked_value (good u) = good 0
checked_value (refused why) = refused why

-- a number, and what is left of the working memory, are those of a check
pub record PacksCheck (r : ℕ) (work : List ℕ) (c : Checked) : Type 0 where
  pub said : r ≡ packed (checked_value c.said)
  pub kept : work ≡ c.work
