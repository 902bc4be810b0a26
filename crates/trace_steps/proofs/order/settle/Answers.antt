-- The invariant: the sweeps that are still to come settle what all of them would. Assumes nothing.
use Rattle.trace_steps.proofs.SweepLaws.{settle-more}
use Rattle.trace_steps.proofs.order.settle.Goals as goal

pub loop-left-preserved : goal.loop-left-preserved
loop-left-preserved c =
    let l = c.loop-left in
    let w = c.sweep-kept in
    settle-more c.args.work.now c.args.total l.work l.left l.invariant w.new.work w.result w.ensures c.if-kept-left.false
