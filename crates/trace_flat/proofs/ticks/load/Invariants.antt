-- The invariant: the first k input pins are loaded. Assumes nothing.
use mathlib.Core.List.{map}
use Rattle.trace_flat.specs.FlatTicks.{Celled, flat_load}
use Rattle.trace_flat.proofs.ticks.load.Given as goal

abbrev pub invariant-loop-k : goal.invariant-loop-k
invariant-loop-k g l = Celled (flat_load (map g.T.Sample.lanes l.inputs) l.from) l.k l.initial.work l.work
