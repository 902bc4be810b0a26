-- The invariant: what is written and the elements that are still to come make the table as it starts. Assumes nothing.
use Rattle.lean.proofs.TableLaws.{Starting}
use Rattle.lean.proofs.table.start.Given as goal

abbrev pub invariant-loop-i : goal.invariant-loop-i
invariant-loop-i l = Starting l.initial.work l.elements l.work l.n l.i
