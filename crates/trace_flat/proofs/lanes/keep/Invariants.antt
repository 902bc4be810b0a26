-- The invariant: what the first j registers show is kept. Assumes nothing.
use Rattle.trace_flat.specs.FlatTicks.{WrittenBy, flat_keep}
use Rattle.trace_flat.proofs.lanes.keep.Given as goal

abbrev pub invariant-loop-j : goal.invariant-loop-j
invariant-loop-j l = WrittenBy (flat_keep l.work) l.j l.initial.state l.state
