-- The invariant: the first k pins are written. Assumes nothing.
use Rattle.trace_steps.specs.Pins.{Storing}
use Rattle.trace_steps.specs.Words.{lane_zero}
use Rattle.trace_steps.proofs.pins.store.Given as goal

abbrev pub invariant-loop-k : goal.invariant-loop-k
invariant-loop-k l = Storing lane_zero l.work l.initial.out l.from l.k l.out l.at
