-- The invariant: the table is partly done, and what stands before o is settled. No output is past the end. Assumes nothing.
use native.Mathlib.Omega.{arith}
use borrow.Author.Count.{below_more}
use Rattle.lean.proofs.TableLaws.{within_none, within_then}
use Rattle.lean.proofs.StartLaws.{kinds-low, Begun, begun}
use Rattle.lean.proofs.SettleLaws.{rooted}
use Rattle.lean.proofs.roots.Goals as goal
use Rattle.lean.proofs.roots.Goals.{After-start-end}

started : (c : After-start-end) → let a = c.args in
    Begun a.work.now c.start-end.new.work a.elements a.wires a.pins c.start-end.result
started c =
    let a = c.args in
    begun a.work.now c.blank.new.work a.elements a.wires a.pins c.requires c.blank.ensures c.start-end.new.work c.start-end.result c.start-end.ensures

pub start-end-requires : goal.start-end-requires
start-end-requires c =
    let a = c.args in
    let l = c.requires.size in
    let z = c.blank.ensures.within.size in
    (omega arith, (c.requires.few_elements, kinds-low a.work.now c.blank.new.work a.elements a.wires a.pins c.requires c.blank.ensures))

pub loop-n-init : goal.loop-n-init
loop-n-init c =
    let s = started (goal.at.loop-n-init c).After-start-end in
    (s.low, (within_none _, (s.partly, λ x h. absurd (omega arith))))

pub loop-n-preserved : goal.loop-n-preserved
loop-n-preserved c =
    let l = c.loop-n in
    let e = c.root_one.ensures in
    (l.invariant.0, (within_then l.invariant.1.0 e.within, (e.partly, below_more _ _ (λ x h. e.still x (l.invariant.1.1.1 x h)) e.done)))

pub shape_of-work : goal.shape_of-work
shape_of-work c = (within_then (started (goal.at.shape_of-work c).After-start-end).within c.loop-n.invariant.1.0).size

pub returns : goal.returns
returns c =
    let l = c.loop-n in
    let b = started (goal.at.returns c).After-start-end in
    let a = c.args in (
      b.ends,
      rooted a.work.now l.work a.elements a.wires a.pins c.requires (within_then b.within l.invariant.1.0) l.invariant.1.1.0
          (λ x t. l.invariant.1.1.1 x (omega (arith, b.before x t))),
    )
