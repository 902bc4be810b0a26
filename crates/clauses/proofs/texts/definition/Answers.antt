-- `clauses::definition` meets its contract: the grammar's refusals, then the table's. Assumes nothing.
use Rattle.clauses.proofs.ItemLaws.{passed, definition_bad, definition-ends, definition-row, definition-refused, definition-grown}
use Rattle.clauses.proofs.texts.definition.Goals as goal

pub returns-in_err-e : goal.returns-in_err-e
returns-in_err-e c = let same = passed c.from_residual.result c.from_residual.ensures.1 in rw same (definition_bad c.args.text.now c.args.at c.args.sort c.args.work.now c.requires.0 c.requires.1 c.in_err-e.field-0.0 c.in_err-e.ensures)

pub row_of-d-requires : goal.row_of-d-requires
row_of-d-requires c = definition-ends c.args.text.now c.args.at c.args.sort c.args.work.now c.requires.0 c.requires.1 c.in_ok-e.e c.in_ok-e.ensures

pub with_row-requires : goal.with_row-requires
with_row-requires c = definition-row c.args.text.now c.args.at c.args.sort c.args.work.now c.requires.0 c.requires.1 c.in_ok-e.e c.in_ok-e.ensures c.row_of-d.result c.row_of-d.ensures

pub returns-in-Err : goal.returns-in-Err
returns-in-Err c = rw c.at.ensures (definition-refused c.args.text.now c.args.at c.args.sort c.args.work.now c.requires.0 c.requires.1 c.in_ok-e.e c.in_ok-e.ensures c.row_of-d.result c.row_of-d.ensures _ c.in-Err.reason c.in-Err.ensures)

pub returns : goal.returns
returns c = definition-grown c.args.text.now c.args.at c.args.sort c.args.work.now c.requires.0 c.requires.1 c.in_ok-e.e c.in_ok-e.ensures c.row_of-d.result c.row_of-d.ensures _ c.in_default.ensures
