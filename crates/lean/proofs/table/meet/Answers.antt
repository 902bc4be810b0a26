-- The invariant: the mark is one step less than the span back from o. An output that is met again comes round, and so does what is 8,192 steps back
-- or more. Assumes nothing.
use native.Mathlib.Omega.{arith}
use Prim.Native.Nat.{◌<◌}
use Rattle.lean.proofs.DriverLaws.{output-below}
use Rattle.lean.proofs.RoundLaws.{meeting_start, meeting-step, met-settled, met-mark, met-end}
use Rattle.lean.proofs.table.meet.Goals as goal

pub loop-span-init : goal.loop-span-init
loop-span-init c =
    let a = c.args in
    (omega arith, meeting_start a.work.now a.full.elements a.full.wires a.full.pins c.requires.0 a.o.0 c.requires.1)

pub bounds-work-x : goal.bounds-work-x
bounds-work-x c =
    let a = c.args in
    let z = c.requires.0.ready.size in
    let l : c.walk-x.result.0 < 8192 = output-below a.work.now a.full.elements a.full.wires a.full.pins c.requires.0.ready c.walk-x.result.0 c.walk-x.ensures.output in
    omega arith

pub returns-then-work-x : goal.returns-then-work-x
returns-then-work-x c =
    let l = c.loop-span in
    let a = c.args in
    met-settled a.work.now a.full.elements a.full.wires a.full.pins c.requires.0 a.o.0 l.mark.0 l.span c.walk-x.result.0 l.invariant.1 c.walk-x.ensures c.if-work-x.true

pub returns-then-x-mark : goal.returns-then-x-mark
returns-then-x-mark c =
    let l = c.loop-span in
    let a = c.args in
    met-mark a.work.now a.full.elements a.full.wires a.full.pins c.requires.0 a.o.0 l.mark.0 l.span c.walk-x.result.0 l.invariant.1 c.walk-x.ensures c.loop-span-test.true c.if-x-mark.true

pub loop-span-preserved : goal.loop-span-preserved
loop-span-preserved c =
    let l = c.loop-span in
    let a = c.args in
    let h = c.loop-span-test.true in
    (omega arith, meeting-step a.work.now a.full.elements a.full.wires a.full.pins c.requires.0 a.o.0 l.mark.0 l.span c.walk-x.result.0 l.invariant.1 c.walk-x.ensures c.if-x-mark.false c.if-work-x.false)

pub returns : goal.returns
returns c =
    let l = c.loop-span in
    let a = c.args in
    met-end a.work.now a.full.elements a.full.wires a.full.pins c.requires.0 a.o.0 l.mark.0 l.span l.invariant.1 c.loop-span-test.false
