-- The invariants: four times as many gates as turns, and then j gates, have their bits. Assumes nothing.
use native.Mathlib.Omega.{arith}
use mathlib.Core.Path.{refl}
use Prim.Native.Nat.{◌+◌, ◌*◌, ◌<◌}
use Rattle.trace_flat.proofs.Laws.{passing_next}
use Rattle.trace_flat.proofs.steps.pass.Goals as goal

pub loop-t-preserved : goal.loop-t-preserved
loop-t-preserved c =
    let l = c.loop-t in
    let u = c.args.work.now in
    let n = c.args.settled in
    let t = c.loop-t-test.true in
    let j = 4 * l.t in
    let h : j < n = omega arith in
    let p1 = passing_next u l.work c.step.new.work n j (j + 1) c.requires h refl l.invariant c.step.ensures in
    let h1 : j + 1 < n = omega arith in
    let p2 = passing_next u c.step.new.work c.step-in-loop-t.new.work n (j + 1) (j + 2) c.requires h1 (omega arith) p1 c.step-in-loop-t.ensures in
    let h2 : j + 2 < n = omega arith in
    let p3 = passing_next u c.step-in-loop-t.new.work c.step-in-loop-t-2.new.work n (j + 2) (j + 3) c.requires h2 (omega arith) p2 c.step-in-loop-t-2.ensures in
    let h3 : j + 3 < n = omega arith in
    passing_next u c.step-in-loop-t-2.new.work c.step-in-loop-t-3.new.work n (j + 3) (4 * (l.t + 1)) c.requires h3 (omega arith) p3 c.step-in-loop-t-3.ensures

pub loop-j-preserved : goal.loop-j-preserved
loop-j-preserved c =
    let l = c.loop-j in
    passing_next c.args.work.now l.work c.step-in-loop-j.new.work c.args.settled l.j (l.j + 1) c.requires c.loop-j-test.true refl l.invariant c.step-in-loop-j.ensures
