-- The invariant: the sweeps that are still to come settle what all of them would. Assumes nothing.
use Rattle.trace_steps.specs.Sweeps.{Settling}
use Rattle.trace_steps.proofs.order.settle.Given as goal

abbrev pub invariant-loop-left : goal.invariant-loop-left
invariant-loop-left l = Settling l.initial.work l.total l.work l.left

abbrev pub decreases-loop-left : goal.decreases-loop-left
decreases-loop-left l = l.left
