-- The invariant: the first k pins are laid out. Assumes nothing.
use Rattle.trace_flat.proofs.Laws.{Pinning}
use Rattle.trace_flat.proofs.layout.lay_pins.Given as goal

abbrev pub invariant-loop-k : goal.invariant-loop-k
invariant-loop-k l = Pinning l.initial.work l.k l.work l.i l.o
