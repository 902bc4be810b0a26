-- Two results that the contract of `verilog` allows for one call are equal: the answer, the output and the working memory.
-- Assumes nothing.
use mathlib.Core.Path.{sym, ◌∙◌}
use contract.Lifetimes.{Lfts}
use denote.Triple.Clauses.{AtExit}
use borrow.Fn.Kinds.{Dens, res_t, ended_of}
use Rattle.translator.proofs.SaidLaws.{SameResult, same-call}
use Rattle.verilog.proofs.verilog.Kinds as kinds
use Rattle.verilog.proofs.verilog.Reads as reads

pub determined_verilog : (κs : Lfts 3) (a : Dens κs kinds.ps) (x y : (res_t kinds.r κs).Denot) (s t : AtExit (ended_of 3 kinds.ps kinds.r) κs)
    → reads.Post κs a x s → reads.Post κs a y t → SameResult x y s.1.0.now t.1.0.now s.1.1.0.now t.1.1.0.now
determined_verilog κs a x y s t f g = same-call x y _ _ _ _ (f ∙ sym g)
