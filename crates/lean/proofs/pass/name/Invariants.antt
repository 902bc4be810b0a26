-- The invariant: what is named and the elements that are still to come make the whole. Assumes nothing.
use Rattle.lean.proofs.PassLaws.{Naming}
use Rattle.lean.proofs.pass.name.Given as goal

abbrev pub invariant-loop-i : goal.invariant-loop-i
invariant-loop-i l = Naming l.initial.work l.elements l.work l.n l.i
