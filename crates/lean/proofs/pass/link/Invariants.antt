-- The invariant: the first x inputs are linked. Assumes nothing.
use Rattle.lean.specs.Layout.{Linked}
use Rattle.lean.proofs.pass.link.Given as goal

abbrev pub invariant-loop-x : goal.invariant-loop-x
invariant-loop-x l = Linked l.initial.work l.x l.work
