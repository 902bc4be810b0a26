-- What the functions over sheets laid end to end leave, in the terms of the definitions. Assumes nothing.
use Rattle.std.specs.Prelude.{ℕ, ◌≡◌, Result, List, set}
use Rattle.calculus.specs.Translate.{Call}
use Rattle.translator.specs.Said.{said_answer}
use Rattle.answers.specs.Word.{packed}
use Rattle.answers.specs.declared.Refusal.{Refusal}
use Rattle.batch_calculus.specs.Batch.{used_by, Batch}

-- after one sheet: its call's output and working memory, its result at place k, and the bytes used
pub record OneLeft (r k : ℕ) (out results results' work : List ℕ) (c : Call) : Type 0 where
  pub used : r ≡ used_by c.said
  pub wrote : out ≡ c.out
  pub result : results' ≡ set results k (packed c.said)
  pub kept : work ≡ c.work

-- after all of them
abbrev pub left : Result ℕ Refusal → List ℕ → List ℕ → List ℕ → Batch
left r out results work = record { said = said_answer r; out = out; results = results; work = work }
