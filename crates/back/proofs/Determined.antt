-- Two results that the contract of the call allows are equal: the answer, the output and the working memory. Assumes nothing.
use mathlib.Core.Path.{sym, ◌∙◌}
use contract.Lifetimes.{Lfts}
use denote.Triple.Clauses.{AtExit}
use borrow.Fn.Kinds.{Dens, res_t, ended_of}
use Rattle.translator.proofs.SaidLaws.{SameResult, same-call}
use Rattle.back.proofs.back.Kinds as back
use Rattle.back.proofs.back.Reads as back-reads

pub determined-back : (κs : Lfts 3) (a : Dens κs back.ps) (x y : (res_t back.r κs).Denot) (s t : AtExit (ended_of 3 back.ps back.r) κs)
    → back-reads.Post κs a x s → back-reads.Post κs a y t → SameResult x y s.1.0.now t.1.0.now s.1.1.0.now t.1.1.0.now
determined-back κs a x y s t f g = same-call x y _ _ _ _ (f ∙ sym g)
