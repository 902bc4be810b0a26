-- Two results that the contract of `batch` allows for one call are equal: the answer, the output, the results and the working memory.
-- Assumes nothing.
use Prim.Native.Nat.{ℕ}
use mathlib.Core.Path.{◌≡◌, sym, ap, ◌∙◌}
use mathlib.Core.List.{List}
use contract.Lifetimes.{Lfts}
use denote.Triple.Clauses.{AtExit}
use borrow.Fn.Kinds.{Dens, res_t, ended_of}
use Rattle.translator.proofs.SaidLaws.{SameResult, same-call}
use Rattle.std.specs.declared.result.Result.{Result}
use Rattle.answers.specs.declared.Refusal.{Refusal}
use Rattle.batch_calculus.specs.Batch.{Batch}
use Rattle.batch.specs.Left.{left}
use Rattle.batch.proofs.batch.Kinds as batch
use Rattle.batch.proofs.batch.Reads as batch-reads

same_left : (r q : Result ℕ Refusal) (o o' p p' w w' : List ℕ) → left r o p w ≡ left q o' p' w' → SameResult r q o o' w w' × (p ≡ p')
same_left r q o o' p p' w w' e =
    (same-call r q o o' w w' (ap (λ (b : Batch). record { said = b.said; out = b.out; work = b.work }) e), ap (λ (b : Batch). b.results) e)

pub determined_batch : (κs : Lfts 5) (a : Dens κs batch.ps) (x y : (res_t batch.r κs).Denot) (s t : AtExit (ended_of 5 batch.ps batch.r) κs)
    → batch-reads.Post κs a x s → batch-reads.Post κs a y t
    → SameResult x y s.1.1.0.now t.1.1.0.now s.1.1.1.1.0.now t.1.1.1.1.0.now × (s.1.1.1.0.now ≡ t.1.1.1.0.now)
determined_batch κs a x y s t f g = same_left x y _ _ _ _ _ _ (f ∙ sym g)
