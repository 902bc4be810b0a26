-- `putting::placed` meets its contract: a clause below `seen` is the one that is meant; its cost is counted before it is opened. Assumes
-- nothing.
use native.Mathlib.Omega.{arith}
use borrow.Author.Tests.{not-true, not-false}
use Rattle.putting.proofs.PlaceLaws.{placed_missing, placed_row, placed_end, placed-few, placed-full, placed-open, placed-there}
use Rattle.putting.proofs.placed.Goals as goal

pub returns-then-seen-k : goal.returns-then-seen-k
returns-then-seen-k c = rw c.at.ensures (placed_missing c.args.text.now c.args.work.now c.args.k c.args.seen c.args.place c.args.top c.args.into c.if-seen-k.true)

pub row_at-c-requires : goal.row_at-c-requires
row_at-c-requires c = (placed_row c.args.text.now c.args.work.now c.args.k c.args.seen c.args.place c.args.top c.args.into c.if-seen-k.false c.requires, c.requires.room)

pub cost_of-cost-requires : goal.cost_of-cost-requires
cost_of-cost-requires c = placed_end c.args.text.now c.args.work.now c.args.k c.args.seen c.args.place c.args.top c.args.into c.if-seen-k.false c.requires c.row_at-c.result c.row_at-c.ensures

pub returns-then-not-count_put : goal.returns-then-not-count_put
returns-then-not-count_put c = rw c.at-then-not-count_put.ensures (placed-full c.args.text.now c.args.work.now c.args.k c.args.seen c.args.place c.args.top c.args.into c.if-seen-k.false c.requires c.row_at-c.result c.row_at-c.ensures c.cost_of-cost.result c.cost_of-cost.ensures c.count_put.new.work c.count_put.result c.count_put.ensures (not-true _ c.if-not-count_put.true-raw))

pub open-requires : goal.open-requires
open-requires c = placed-open c.args.text.now c.args.work.now c.args.k c.args.seen c.args.place c.args.top c.args.into c.if-seen-k.false c.requires c.row_at-c.result c.row_at-c.ensures c.cost_of-cost.result c.cost_of-cost.ensures c.count_put.new.work c.count_put.result c.count_put.ensures (not-false _ c.if-not-count_put.false-raw)

pub overflow_add-result : goal.overflow_add-result
overflow_add-result c = omega (arith, placed-few c.args.text.now c.args.work.now c.args.k c.args.seen c.args.place c.args.top c.args.into c.if-seen-k.false c.requires c.row_at-c.result c.row_at-c.ensures)

pub overflow_add-result-2 : goal.overflow_add-result-2
overflow_add-result-2 c = omega (arith, placed-few c.args.text.now c.args.work.now c.args.k c.args.seen c.args.place c.args.top c.args.into c.if-seen-k.false c.requires c.row_at-c.result c.row_at-c.ensures)

pub returns : goal.returns
returns c = placed-there c.args.text.now c.args.work.now c.args.k c.args.seen c.args.place c.args.top c.args.into c.if-seen-k.false c.requires c.row_at-c.result c.row_at-c.ensures c.cost_of-cost.result c.cost_of-cost.ensures c.count_put.new.work c.count_put.result c.count_put.ensures (not-false _ c.if-not-count_put.false-raw) c.«open».new.work c.«open».ensures
