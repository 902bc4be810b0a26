-- `clauses::cell_of` meets its contract. Assumes nothing.
use mathlib.Core.Path.{refl}
use Rattle.clauses.proofs.CellLaws.{cell_open, cell_one}
use Rattle.clauses.proofs.cells.cell_of.Goals as goal

pub returns-then-k : goal.returns-then-k
returns-then-k c = cell_open c.args.k c.args.k.plus c.if-k.true refl

pub returns : goal.returns
returns c = cell_one c.args.k c.args.k.plus c.if-k.false refl
