-- The invariant: the lines that are left make of the state what all lines make of the first one. The measure is the words that are left.
-- Assumes nothing.
use Rattle.answers.proofs.Passed.{passed}
use Rattle.maker.proofs.ItemSteps.{items_first, items_can, items_kept, items_more, items-less, items_end, items_refused}
use Rattle.maker.proofs.lines.lines.Goals as goal

pub loop-past-init : goal.loop-past-init
loop-past-init c =
    let a = c.args in
    items_first a.text.now a.work.now a.start a.above

pub item-requires : goal.item-requires
item-requires c =
    let o = c.loop-past in
    items_can c.args.text.now c.args.work.now c.args.start c.args.above c.requires o.work o.here.at o.here.seen o.invariant

pub loop-past-smaller : goal.loop-past-smaller
loop-past-smaller c =
    let o = c.loop-past in
    items-less c.args.text.now c.args.work.now c.args.start c.args.above c.requires o.work o.here.at o.here.seen o.invariant _ _ c.in_ok-past.ensures _ c.in-Some.is

pub loop-past-preserved : goal.loop-past-preserved
loop-past-preserved c =
    let o = c.loop-past in
    items_more c.args.text.now c.args.work.now c.args.start c.args.above c.requires o.work o.here.at o.here.seen o.invariant _ _ c.in_ok-past.ensures _ c.in-Some.is

pub returns-in_err-past : goal.returns-in_err-past
returns-in_err-past c =
    let o = c.loop-past in
    rw (passed c.from_residual.result c.from_residual.ensures.1) (items_refused c.args.text.now c.args.work.now c.args.start c.args.above c.requires o.work o.here.at o.here.seen o.invariant _ _ c.in_err-past.ensures)

pub shape_of-work : goal.shape_of-work
shape_of-work c =
    let o = c.loop-past in
    (items_kept c.args.text.now c.args.work.now c.args.start c.args.above c.requires o.work o.here.at o.here.seen o.invariant _ _ c.in_ok-past.ensures).same

pub returns : goal.returns
returns c =
    let o = c.loop-past in
    items_end c.args.text.now c.args.work.now c.args.start c.args.above c.requires o.work o.here.at o.here.seen o.invariant _ _ c.in_ok-past.ensures c.in_default.is
