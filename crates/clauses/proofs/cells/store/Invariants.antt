-- `clauses::store` meets its contract. The invariant: the cells of the numbers that were read stand there, and the others are left. Assumes nothing.
use Rattle.clauses.proofs.CellLaws.{Keeping}
use Rattle.clauses.proofs.cells.store.Given as goal

abbrev pub invariant-loop-i : goal.invariant-loop-i
invariant-loop-i l = Keeping l.text l.initial.work l.k l.at l.n l.work l.i l.p
