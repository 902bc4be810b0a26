-- A clause that is judged is counted, and tried in the scope of the clauses above it. Assumes nothing.
use borrow.Author.Tests.{not-true, not-false}
use Rattle.maker.proofs.TriedLaws.{judge-row, judge-skipped, judge-full, judge-can, judge-says}
use Rattle.maker.proofs.judged.judge.Goals as goal

pub is_judged-requires : goal.is_judged-requires
is_judged-requires c =
    (judge-row c.args.text.now c.args.work.now c.args.k c.requires c.row_at-r.result c.row_at-r.ensures).name_inside

pub returns-then-not-is_judged : goal.returns-then-not-is_judged
returns-then-not-is_judged c =
    judge-skipped c.args.text.now c.args.work.now c.args.k c.requires c.row_at-r.result c.row_at-r.ensures c.is_judged.result c.is_judged.ensures (not-true _ c.if-not-is_judged.true-raw)

pub cost_of-cost-requires : goal.cost_of-cost-requires
cost_of-cost-requires c =
    (judge-row c.args.text.now c.args.work.now c.args.k c.requires c.row_at-r.result c.row_at-r.ensures).end_lexed

pub returns-then-not-count_put : goal.returns-then-not-count_put
returns-then-not-count_put c =
    rw c.at.ensures (judge-full c.args.text.now c.args.work.now c.args.k c.requires c.row_at-r.result c.row_at-r.ensures c.is_judged.result c.is_judged.ensures (not-false _ c.if-not-is_judged.false-raw) c.cost_of-cost.result c.cost_of-cost.ensures _ c.count_put.result c.count_put.ensures (not-true _ c.if-not-count_put.true-raw))

pub tried-requires : goal.tried-requires
tried-requires c =
    judge-can c.args.text.now c.args.work.now c.args.k c.requires c.row_at-r.result c.row_at-r.ensures c.is_judged.result c.is_judged.ensures (not-false _ c.if-not-is_judged.false-raw) c.cost_of-cost.result c.cost_of-cost.ensures _ c.count_put.result c.count_put.ensures (not-false _ c.if-not-count_put.false-raw) _ c.know.ensures

pub returns : goal.returns
returns c =
    judge-says c.args.text.now c.args.work.now c.args.k c.requires c.row_at-r.result c.row_at-r.ensures c.is_judged.result c.is_judged.ensures (not-false _ c.if-not-is_judged.false-raw) c.cost_of-cost.result c.cost_of-cost.ensures _ c.count_put.result c.count_put.ensures (not-false _ c.if-not-count_put.false-raw) _ c.know.ensures c.tried.result _ c.tried.ensures
