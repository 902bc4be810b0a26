-- The invariant: the registers among the first x terminals are listed. Assumes nothing.
use Rattle.trace_steps.proofs.RegisterLaws.{Listing}
use Rattle.trace_steps.proofs.ticks.registers.Given as goal

abbrev pub invariant-loop-x : goal.invariant-loop-x
invariant-loop-x l = Listing l.initial.work l.x l.work l.n
