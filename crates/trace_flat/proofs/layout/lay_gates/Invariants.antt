-- The invariant: the first j gates are laid out. Assumes nothing.
use Rattle.trace_flat.specs.Flat.{GatesLaid}
use Rattle.trace_flat.proofs.layout.lay_gates.Given as goal

abbrev pub invariant-loop-j : goal.invariant-loop-j
invariant-loop-j l = GatesLaid l.initial.work l.j l.work
