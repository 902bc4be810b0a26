-- The invariant: the first j registers are laid out. Assumes nothing.
use Rattle.trace_flat.specs.Flat.{SourcesLaid}
use Rattle.trace_flat.proofs.layout.lay_registers.Given as goal

abbrev pub invariant-loop-j : goal.invariant-loop-j
invariant-loop-j l = SourcesLaid l.initial.work l.j l.work
