-- The invariant: the first k pins are copied. Assumes nothing.
use Rattle.trace_steps.specs.Copied.{PinsCopied}
use Rattle.trace_steps.proofs.copy.copy_pins.Given as goal

abbrev pub invariant-loop-k : goal.invariant-loop-k
invariant-loop-k l = PinsCopied l.initial.work l.k l.work
