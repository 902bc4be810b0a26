-- The invariant: the types that are left of the line make of the state what the whole line makes of the first one. The measure is the words
-- that are left. Assumes nothing.
use Rattle.answers.proofs.Passed.{passed}
use Rattle.maker.proofs.LineLaws.{line_first, line_can, line_kept, line-more, line-less, line-last, line_refused}
use Rattle.maker.proofs.lines.types.Goals as goal

pub loop-next-init : goal.loop-next-init
loop-next-init c =
    let a = c.args in
    line_first a.text.now a.work.now a.start a.seen

pub one_type-requires : goal.one_type-requires
one_type-requires c =
    let o = c.loop-next in
    line_can c.args.text.now c.args.work.now c.args.start c.args.seen c.requires o.work o.at o.invariant

pub loop-next-smaller : goal.loop-next-smaller
loop-next-smaller c =
    let o = c.loop-next in
    line-less c.args.text.now c.args.work.now c.args.start c.args.seen c.requires o.work o.at o.invariant _ _ c.in_ok-next.ensures _ c.in-More.is

pub loop-next-preserved : goal.loop-next-preserved
loop-next-preserved c =
    let o = c.loop-next in
    line-more c.args.text.now c.args.work.now c.args.start c.args.seen c.requires o.work o.at o.invariant _ _ c.in_ok-next.ensures _ c.in-More.is

pub shape_of-work-in-Last : goal.shape_of-work-in-Last
shape_of-work-in-Last c =
    let o = c.loop-next in
    (line_kept c.args.text.now c.args.work.now c.args.start c.args.seen c.requires o.work o.at o.invariant _ _ c.in_ok-next.ensures).same

pub returns-in-Last : goal.returns-in-Last
returns-in-Last c =
    let o = c.loop-next in
    line-last c.args.text.now c.args.work.now c.args.start c.args.seen c.requires o.work o.at o.invariant _ _ c.in_ok-next.ensures _ c.in-Last.is

pub returns-in_err-next : goal.returns-in_err-next
returns-in_err-next c =
    let o = c.loop-next in
    rw (passed c.from_residual.result c.from_residual.ensures.1) (line_refused c.args.text.now c.args.work.now c.args.start c.args.seen c.requires o.work o.at o.invariant _ _ c.in_err-next.ensures)
