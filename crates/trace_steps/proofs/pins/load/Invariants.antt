-- The invariant: the first k pins are loaded. Assumes nothing.
use Rattle.trace_steps.specs.Pins.{Loading}
use Rattle.trace_steps.proofs.pins.load.Given as goal

abbrev pub invariant-loop-k : goal.invariant-loop-k
invariant-loop-k l = Loading l.inputs l.initial.work l.from l.k l.work l.at
