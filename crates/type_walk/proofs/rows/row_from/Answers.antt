-- `type_walk::rows::row_from` meets its contract: what the table answers of the row. Assumes nothing.
use Rattle.answers.proofs.Passed.{passed}
use Rattle.type_walk.proofs.RowLaws.{can_row, row-can, row-found, row-refused}
use Rattle.type_walk.proofs.rows.row_from.Goals as goal

pub row-requires : goal.row-requires
row-requires c = can_row _ _ _ c.requires.0

pub side_from-requires : goal.side_from-requires
side_from-requires c = (row-can _ _ _ _ _ _ c.args.end c.requires.0 _ c.row.ensures _ c.in_ok-t.was, c.requires.1.0)

pub returns : goal.returns
returns c = row-found _ _ _ _ _ _ _ c.requires.0 _ c.row.ensures _ c.in_ok-t.was _ _ c.side_from.ensures

pub returns-in_err-t : goal.returns-in_err-t
returns-in_err-t c = rw (passed c.from_residual.result c.from_residual.ensures.1) (row-refused _ _ _ _ _ _ _ c.requires.0 _ c.row.ensures _ c.in_err-t.was)
