-- `trace::net::run_net` meets its contract: what is in order is run, and a ring is refused. Assumes nothing.
use mathlib.Core.Path.{subst}
use Rattle.memory.specs.Map.{net_in}
use Rattle.trace.specs.Ordering.{PutInOrder}
use Rattle.trace.proofs.PartBounds.{roomy}
use Rattle.answers.proofs.Passed.{passed}
use Rattle.trace.proofs.StageLaws.{ring_ran, free_ran}
use Rattle.trace.proofs.net.run_net.Goals as goal

pub run-requires : goal.run-requires
run-requires c =
    let a = c.args in
    let p = c.put_in_order in
    let o = subst (PutInOrder a.work.now a.counts.elements a.counts.wires a.counts.pins p.new.work) c.in_ok-order.was p.ensures in
    (o.says.2 a.ticks c.requires.2, roomy (net_in a.work.now a.counts.elements a.counts.wires a.counts.pins) p.new.work _ _ c.in_ok-order.order.pins c.requires.3 o.says.1)

pub returns-in_err-order : goal.returns-in_err-order
returns-in_err-order c =
    let a = c.args in
    let p = c.put_in_order in
    let o = subst (PutInOrder a.work.now a.counts.elements a.counts.wires a.counts.pins p.new.work) c.in_err-order.was p.ensures in
    rw (passed _ c.from_residual.ensures.1) (ring_ran a.work.now a.counts.elements a.counts.wires a.counts.pins c.requires.0.size a.ticks a.inputs.now a.starts.now a.out.now p.new.work _ o)

pub returns : goal.returns
returns c =
    let a = c.args in
    let p = c.put_in_order in
    let o = subst (PutInOrder a.work.now a.counts.elements a.counts.wires a.counts.pins p.new.work) c.in_ok-order.was p.ensures in
    let r = c.run in
    free_ran a.work.now a.counts.elements a.counts.wires a.counts.pins c.requires.0.size a.ticks a.inputs.now a.starts.now a.out.now p.new.work _ o r.new.work r.new.out r.result r.ensures
