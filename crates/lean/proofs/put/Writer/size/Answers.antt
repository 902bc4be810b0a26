-- The invariant: the sum and the sizes that are still to come make the whole. Assumes nothing.
use native.Mathlib.Omega.{arith}
use Rattle.lean.proofs.PutLaws.{sizes-start, sizes-first, sizes-end}
use Rattle.lean.proofs.put.Writer.size.Goals as goal

pub loop-x-init : goal.loop-x-init
loop-x-init c = let a = c.args in (omega arith, omega (arith, sizes-start a.self.plain a.self.work.now a.self.end))

pub loop-x-preserved : goal.loop-x-preserved
loop-x-preserved c =
    let a = c.args in
    let l = c.loop-x in
    let e = c.size_of-sum.ensures in
    (omega (arith, e.1, l.invariant.0), omega (arith, e.0, l.invariant.1, sizes-first a.self.plain a.self.work.now a.self.end l.x c.loop-x-test.true))

pub returns : goal.returns
returns c =
    let a = c.args in
    let l = c.loop-x in
    (omega (arith, l.invariant.1, sizes-end a.self.plain a.self.work.now a.self.end l.x c.loop-x-test.false), omega (arith, l.invariant.0))
