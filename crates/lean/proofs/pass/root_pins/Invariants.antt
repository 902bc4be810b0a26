-- The invariant: the first j pins are rooted. Assumes nothing.
use Rattle.lean.specs.Layout.{Pinned}
use Rattle.lean.proofs.pass.root_pins.Given as goal

abbrev pub invariant-loop-j : goal.invariant-loop-j
invariant-loop-j l = Pinned l.initial.work l.j l.work
