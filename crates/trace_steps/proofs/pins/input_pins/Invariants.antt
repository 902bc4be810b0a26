-- The invariant: n of the first k pins are inputs. Assumes nothing.
use mathlib.Core.Path.{◌≡◌}
use Rattle.trace_steps.specs.Pins.{in_pin_count}
use Rattle.trace_steps.proofs.pins.input_pins.Given as goal

abbrev pub invariant-loop-k : goal.invariant-loop-k
invariant-loop-k l = l.n ≡ in_pin_count l.work l.k
