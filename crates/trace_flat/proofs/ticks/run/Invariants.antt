-- The invariant: so many ticks are run. Assumes nothing.
use mathlib.Core.List.{map}
use Rattle.trace_flat.specs.FlatTicks.{counts, FlatRan}
use Rattle.trace_flat.proofs.ticks.run.Given as goal

abbrev pub invariant-loop-t : goal.invariant-loop-t
invariant-loop-t g l = FlatRan g.T.Sample.shows (counts l.sizes.settled l.sizes.regs l.sizes.ins l.sizes.outs) (map g.T.Sample.lanes l.inputs) l.t l.initial.work (map g.T.Sample.lanes l.initial.out) l.work (map g.T.Sample.lanes l.out)
