-- The invariant: the rest decides. Assumes nothing.
use mathlib.Core.Path.{◌≡◌}
use lib.ListN.{drop}
use Rattle.trace_calculus.specs.Trace.{all_bits}
use Rattle.trace_steps.proofs.pins.all_bits.Given as goal

abbrev pub invariant-loop-b : goal.invariant-loop-b
invariant-loop-b l = all_bits l.bytes ≡ all_bits (drop l.b-index l.bytes)
