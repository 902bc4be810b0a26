-- The invariant: j of those left are looked at. Assumes nothing.
use native.Mathlib.Omega.{arith}
use mathlib.Core.Path.{sym, ◌∙◌}
use Prim.Native.Nat.{◌+◌}
use Rattle.trace_steps.proofs.SweepLaws.{sweep_looks, sweep_yes, sweep_no, swap}
use Rattle.trace_steps.proofs.order.sweep.Goals as goal
use Rattle.trace_steps.proofs.order.sweep.Goals.{then-ready, else-ready}

pub ready-requires : goal.ready-requires
ready-requires c =
    let l = c.loop-j in
    let h = c.loop-j-test.true in
    let a = c.at-o in
    let v = l.invariant in
    let few = c.requires.few in
    let some = c.requires.some in
    let size = c.requires.size in
    let same = v.size in
    let sum = v.sum in
    let low = v.few in
    sweep_looks c.args.work.now c.args.total c.args.left l.j l.work l.kept l.done a.result c.requires h v a.ensures

pub settle_one-requires : goal.settle_one-requires
settle_one-requires c =
    let l = c.loop-j in
    let h = c.loop-j-test.true in
    let a = c.at-o in
    let v = l.invariant in
    let few = c.requires.few in
    let some = c.requires.some in
    let size = c.requires.size in
    let same = v.size in
    let sum = v.sum in
    let low = v.few in
    (omega arith, ((sweep_looks c.args.work.now c.args.total c.args.left l.j l.work l.kept l.done a.result c.requires h v a.ensures).low, omega arith))

pub keep_one-requires : goal.keep_one-requires
keep_one-requires c =
    let l = c.loop-j in
    let h = c.loop-j-test.true in
    let a = c.at-o in
    let v = l.invariant in
    let few = c.requires.few in
    let some = c.requires.some in
    let size = c.requires.size in
    let same = v.size in
    let sum = v.sum in
    let low = v.few in
    (omega arith, ((sweep_looks c.args.work.now c.args.total c.args.left l.j l.work l.kept l.done a.result c.requires h v a.ensures).low, omega arith))

pub loop-j-preserved : goal.loop-j-preserved
loop-j-preserved c =
    let l = c.loop-j in
    let h = c.loop-j-test.true in
    let a = c.at-o in
    let v = l.invariant in
    let few = c.requires.few in
    let some = c.requires.some in
    let size = c.requires.size in
    let same = v.size in
    let sum = v.sum in
    let low = v.few in
    let r = c.ready in
    let u = c.args.work.now in
    let n = c.args.total in
    let m = c.args.left in
    elim c.if-ready.branch [ then-ready x ↦ swap u n m (l.j + 1) (x.work-is ∙ x.settle_one.ensures) x.kept-is x.done-is (sweep_yes c.args.work.now c.args.total c.args.left l.j l.work l.kept l.done a.result c.requires h v a.ensures (sym r.ensures ∙ x.if-ready.true)) | else-ready x ↦ swap u n m (l.j + 1) (x.work-is ∙ x.keep_one.ensures) x.kept-is x.done-is (sweep_no c.args.work.now c.args.total c.args.left l.j l.work l.kept l.done a.result c.requires h v a.ensures (sym r.ensures ∙ x.if-ready.false)) ]
