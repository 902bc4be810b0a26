-- The invariant: the first k output pins are written. Assumes nothing.
use mathlib.Core.List.{map}
use Rattle.trace_flat.specs.FlatTicks.{WrittenBy, flat_store}
use Rattle.trace_flat.proofs.ticks.store.Given as goal

abbrev pub invariant-loop-k : goal.invariant-loop-k
invariant-loop-k g l = WrittenBy (flat_store g.T.Sample.shows l.work l.to) l.k (map g.T.Sample.lanes l.initial.out) (map g.T.Sample.lanes l.out)
