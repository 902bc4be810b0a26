-- The invariant: no ring point's output stands before terminal x. A block without one is passed. Assumes nothing.
use native.Mathlib.Omega.{arith}
use mathlib.Core.Path.{sym, ◌∙◌}
use Rattle.card.proofs.RingLaws.{lowest-block}
use Rattle.card.proofs.rings.lowest.Goals as goal

pub loop-x-preserved : goal.loop-x-preserved
loop-x-preserved c =
    let l = c.loop-x in
    let a = c.args in
    let e = c.block_end-to.ensures in
    let h = e.0 in
    (e.1, sym (lowest-block a.work.now a.end l.x c.block_end-to.result (omega arith) e.1 (c.rings_in.ensures c.if-rings_in-ne0.false)) ∙ l.invariant.1)
