-- `made_types::row` meets its contract. The invariant: of the row that the definition makes, so many bits are still to come. Assumes nothing.
use Rattle.made_types.proofs.RowLaws.{RowTo}
use Rattle.made_types.proofs.row.Given as goal

abbrev pub invariant-loop : goal.invariant-loop
invariant-loop l = RowTo l.initial.work l.more l.place l.work l.t l.counter
