-- `made_types::row` meets its contract. The invariant: of the row that the definition makes, so many bits are still to come. Assumes nothing.
use mathlib.Core.Path.{◌∙◌}
use Rattle.answers.proofs.Passed.{passed}
use Rattle.made_types.proofs.RowLaws.{row_first, row-can, row_done, row_next, row-refused}
use Rattle.made_types.proofs.row.Goals as goal

pub loop-init : goal.loop-init
loop-init c = row_first _ _ _

pub listed-requires : goal.listed-requires
listed-requires c = row-can _ _ _ _ _ _ c.loop.invariant c.requires.0 c.requires.1

pub shape_of-work-in_err-t : goal.shape_of-work-in_err-t
shape_of-work-in_err-t c = c.listed.ensures.only.same ∙ c.loop.invariant.only.same

pub returns-in_err-t : goal.returns-in_err-t
returns-in_err-t c = rw (passed c.from_residual.result c.from_residual.ensures.1) (row-refused _ _ _ _ _ _ c.loop.invariant c.loop-test.true _ _ c.listed.ensures _ c.in_err-t.was)

pub loop-preserved : goal.loop-preserved
loop-preserved c = row_next _ _ _ _ _ _ c.loop.invariant c.loop-test.true _ _ c.listed.ensures _ c.in_ok-t.was

pub shape_of-work : goal.shape_of-work
shape_of-work c = c.loop.invariant.only.same

pub returns : goal.returns
returns c = row_done _ _ _ _ _ _ c.loop.invariant c.loop-test.false
