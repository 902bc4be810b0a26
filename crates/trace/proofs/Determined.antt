-- Two results that the contract of `run`, or of `lanes`, allows for one call are equal: the answer, the output, the state and the working memory.
-- Assumes nothing.
use mathlib.Core.Path.{◌≡◌, sym, ap, ◌∙◌}
use contract.Lifetimes.{Lfts}
use denote.Triple.Clauses.{AtExit}
use borrow.Fn.Kinds.{Dens, res_t, ended_of}
use Rattle.translator.proofs.SaidLaws.{SameResult, same-call}
use Rattle.trace_calculus.specs.Lanes.{LanesCall}
use Rattle.trace.proofs.run.Kinds as run
use Rattle.trace.proofs.run.Reads as run-reads
use Rattle.trace.proofs.lanes.Kinds as lanes
use Rattle.trace.proofs.lanes.Reads as lanes-reads

pub determined-run : (κs : Lfts 5) (a : Dens κs run.ps) (x y : (res_t run.r κs).Denot) (s t : AtExit (ended_of 5 run.ps run.r) κs)
    → run-reads.Post κs a x s → run-reads.Post κs a y t → SameResult x y s.1.1.1.0.now t.1.1.1.0.now s.1.1.1.1.0.now t.1.1.1.1.0.now
determined-run κs a x y s t f g = same-call x y _ _ _ _ (f ∙ sym g)

pub determined_lanes : (κs : Lfts 5) (a : Dens κs lanes.ps) (x y : (res_t lanes.r κs).Denot) (s t : AtExit (ended_of 5 lanes.ps lanes.r) κs)
    → lanes-reads.Post κs a x s → lanes-reads.Post κs a y t
    → SameResult x y s.1.1.1.0.now t.1.1.1.0.now s.1.1.1.1.0.now t.1.1.1.1.0.now × (s.1.1.0.now ≡ t.1.1.0.now)
determined_lanes κs a x y s t f g = (same-call x y _ _ _ _ (ap (λ (c : LanesCall). record { said = c.said; out = c.out; work = c.work }) (f ∙ sym g)), ap (λ (c : LanesCall). c.state) (f ∙ sym g))
