-- Two results that the contract of `translate` allows for one call are equal: the answer, the output and the working memory.
-- Assumes nothing.
use mathlib.Core.Path.{sym, ◌∙◌}
use contract.Lifetimes.{Lfts}
use denote.Triple.Clauses.{AtExit}
use borrow.Fn.Kinds.{Dens, res_t, ended_of}
use Rattle.translator.proofs.SaidLaws.{SameResult, same-call}
use Rattle.translation.proofs.translate.Kinds as translate
use Rattle.translation.proofs.translate.Reads as translate-reads

pub determined_translate : (κs : Lfts 3) (a : Dens κs translate.ps) (x y : (res_t translate.r κs).Denot) (s t : AtExit (ended_of 3 translate.ps translate.r) κs)
    → translate-reads.Post κs a x s → translate-reads.Post κs a y t → SameResult x y s.1.0.now t.1.0.now s.1.1.0.now t.1.1.0.now
determined_translate κs a x y s t f g = same-call x y _ _ _ _ (f ∙ sym g)
