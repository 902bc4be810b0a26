-- `clauses::cells_fit` meets its contract. The invariant: the cells that are left decide. Assumes nothing.
use Rattle.clauses.proofs.CellLaws.{CellsLeft}
use Rattle.clauses.proofs.cells.cells_fit.Given as goal

abbrev pub invariant-loop-j : goal.invariant-loop-j
invariant-loop-j l = CellsLeft l.work l.k l.n l.first l.j
