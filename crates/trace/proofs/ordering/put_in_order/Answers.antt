-- `trace::ordering::put_in_order` meets its contract: one stage after the other. Assumes nothing.
use native.Mathlib.Omega.{arith}
use Rattle.calculus.specs.Lean.{lean}
use Rattle.memory.specs.Map.{net_in}
use Rattle.trace.proofs.StageLaws.{choosable, settle_ready, lowest-ready, ring-ordered, free-ordered}
use Rattle.trace.proofs.ordering.put_in_order.Goals as goal

pub list-settled-requires : goal.list-settled-requires
list-settled-requires c =
    let a = c.args in
    let m = c.make-end in
    choosable m.new.work (lean (net_in a.work.now a.elements a.wires a.pins)) m.result a.pins m.ensures.tabled

pub settle-left-requires : goal.settle-left-requires
settle-left-requires c =
    let a = c.args in
    let m = c.make-end in
    let l = c.list-settled in
    let f = c.mark_free in
    settle_ready a.work.now a.elements a.wires a.pins m.new.work m.result m.ensures l.new.work l.result l.ensures f.new.work f.ensures

pub lowest-place-requires : goal.lowest-place-requires
lowest-place-requires c =
    let a = c.args in
    let m = c.make-end in
    let l = c.list-settled in
    let f = c.mark_free in
    let t = c.settle-left in
    lowest-ready a.work.now a.elements a.wires a.pins m.new.work m.result m.ensures l.new.work l.result l.ensures f.new.work f.ensures t.new.work t.result t.ensures c.if-left-gt0.true

pub returns-then-left-gt0 : goal.returns-then-left-gt0
returns-then-left-gt0 c =
    let a = c.args in
    let m = c.make-end in
    let l = c.list-settled in
    let f = c.mark_free in
    let t = c.settle-left in
    let r = c.lowest-place in
    rw c.at.ensures (ring-ordered a.work.now a.elements a.wires a.pins m.new.work m.result m.ensures l.new.work l.result l.ensures f.new.work f.ensures t.new.work t.result t.ensures c.if-left-gt0.true r.new.work r.result r.ensures)

pub returns : goal.returns
returns c =
    let a = c.args in
    let m = c.make-end in
    let l = c.list-settled in
    let f = c.mark_free in
    let t = c.settle-left in
    let h = c.if-left-gt0.false in
    free-ordered a.work.now a.elements a.wires a.pins m.new.work m.result m.ensures l.new.work l.result l.ensures f.new.work f.ensures t.new.work t.result t.ensures (omega arith)
