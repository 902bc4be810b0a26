-- The invariant: what the first h that are met look at is covered. What is met is one of those left, once. Assumes nothing.
use native.Mathlib.Omega.{arith}
use Rattle.trace_rings.proofs.SearchLaws.{Began, began, going_start, going_few, going_size, going_looks, going_next, going_end}
use Rattle.trace_rings.proofs.ring.search.Goals as goal

pub loop-h-init : goal.loop-h-init
loop-h-init c = going_start _ _ _ _ _

pub overflow_add-h : goal.overflow_add-h
overflow_add-h c =
    let l = c.loop-h in
    let b : Began c.args.work.now c.args.left c.args.x c.args.stamp c.meet-n.new.work c.meet-n.result = began c.args.work.now c.args.left c.args.x c.args.stamp c.at-first.result c.meet-n.new.work c.meet-n.result c.requires.0 c.requires.1.0 c.requires.1.1 c.at-first.ensures c.meet-n.ensures in
    let h = c.loop-h-test.true in
    omega (arith, going_few c.args.work.now c.args.left c.args.x c.args.stamp c.meet-n.new.work c.meet-n.result b l.work l.n l.h l.invariant)

pub at-o-requires : goal.at-o-requires
at-o-requires c =
    let l = c.loop-h in
    let b : Began c.args.work.now c.args.left c.args.x c.args.stamp c.meet-n.new.work c.meet-n.result = began c.args.work.now c.args.left c.args.x c.args.stamp c.at-first.result c.meet-n.new.work c.meet-n.result c.requires.0 c.requires.1.0 c.requires.1.1 c.at-first.ensures c.meet-n.ensures in
    let h = c.loop-h-test.true in
    let size = c.requires.0.size in
    omega (arith, going_few c.args.work.now c.args.left c.args.x c.args.stamp c.meet-n.new.work c.meet-n.result b l.work l.n l.h l.invariant, going_size c.args.work.now c.args.left c.args.x c.args.stamp c.meet-n.new.work c.meet-n.result b l.work l.n l.h l.invariant)

pub look-n-requires : goal.look-n-requires
look-n-requires c =
    let l = c.loop-h in
    let b : Began c.args.work.now c.args.left c.args.x c.args.stamp c.meet-n.new.work c.meet-n.result = began c.args.work.now c.args.left c.args.x c.args.stamp c.at-first.result c.meet-n.new.work c.meet-n.result c.requires.0 c.requires.1.0 c.requires.1.1 c.at-first.ensures c.meet-n.ensures in
    let h = c.loop-h-test.true in
    let o = c.at-o in (
      going_looks c.args.work.now c.args.left c.args.x c.args.stamp c.meet-n.new.work c.meet-n.result b l.work l.n l.h l.invariant o.result o.ensures h,
      omega (arith, going_few c.args.work.now c.args.left c.args.x c.args.stamp c.meet-n.new.work c.meet-n.result b l.work l.n l.h l.invariant),
    )

pub loop-h-smaller : goal.loop-h-smaller
loop-h-smaller c =
    let l = c.loop-h in
    let b : Began c.args.work.now c.args.left c.args.x c.args.stamp c.meet-n.new.work c.meet-n.result = began c.args.work.now c.args.left c.args.x c.args.stamp c.at-first.result c.meet-n.new.work c.meet-n.result c.requires.0 c.requires.1.0 c.requires.1.1 c.at-first.ensures c.meet-n.ensures in
    let h = c.loop-h-test.true in
    omega (arith, going_few c.args.work.now c.args.left c.args.x c.args.stamp c.meet-n.new.work c.meet-n.result b l.work l.n l.h l.invariant)

pub loop-h-preserved : goal.loop-h-preserved
loop-h-preserved c =
    let l = c.loop-h in
    let h = c.loop-h-test.true in
    let o = c.at-o in
    going_next _ _ _ _ _ l.work l.n l.h l.invariant h o.result c.look-n.new.work c.look-n.result o.ensures c.look-n.ensures

pub returns : goal.returns
returns c =
    let l = c.loop-h in
    let b : Began c.args.work.now c.args.left c.args.x c.args.stamp c.meet-n.new.work c.meet-n.result = began c.args.work.now c.args.left c.args.x c.args.stamp c.at-first.result c.meet-n.new.work c.meet-n.result c.requires.0 c.requires.1.0 c.requires.1.1 c.at-first.ensures c.meet-n.ensures in
    going_end c.args.work.now c.args.left c.args.x c.args.stamp c.meet-n.new.work c.meet-n.result b l.work l.n l.h c.loop-h-test.false l.invariant
