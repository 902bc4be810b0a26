-- The invariant: j of those left are looked at. Assumes nothing.
use Rattle.trace_steps.specs.Sweeps.{Sweeping}
use Rattle.trace_steps.proofs.order.sweep.Given as goal

abbrev pub invariant-loop-j : goal.invariant-loop-j
invariant-loop-j l = Sweeping l.initial.work l.total l.left l.j l.work l.kept l.done
