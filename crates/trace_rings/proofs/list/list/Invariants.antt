-- The invariant: those from x on are listed. Assumes nothing.
use Rattle.trace_rings.proofs.ListLaws.{Choosing}
use Rattle.trace_rings.proofs.list.list.Given as goal

abbrev pub invariant-loop-x : goal.invariant-loop-x
invariant-loop-x l = Choosing l.initial.work l.end l.x l.work l.n
