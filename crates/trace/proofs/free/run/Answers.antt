-- The tests, and then one stage after the other. Assumes nothing.
use native.Mathlib.Omega.{arith}
use mathlib.Core.Path.{sym, ◌∙◌}
use Prim.Native.Nat.{◌*◌}
use Rattle.trace.proofs.FreeLaws.{mul_few, lent-counts, ins_few₁, freed_20, freed_17}
use Rattle.trace.proofs.FlatLaws.{layable, flat-wake-ready, flat-run-ready, flat-written}
use Rattle.trace.proofs.free.run.Goals as goal

pub overflow_sub-outs : goal.overflow_sub-outs
overflow_sub-outs c =
    let a = c.args in
    let g = c.registers-regs in
    let i = c.input_pins-ins in
    ins_few₁ a.work.now a.order.end a.order.settled a.order.pins a.ticks a.inputs.now a.starts.now a.out.now c.requires.0 g.new.work g.result g.ensures i.result i.ensures

pub overflow_mul-reads : goal.overflow_mul-reads
overflow_mul-reads c =
    let a = c.args in
    let g = c.registers-regs in
    let i = c.input_pins-ins in
    let f = c.requires.0.pins_low.few in
    let h = ins_few₁ a.work.now a.order.end a.order.settled a.order.pins a.ticks a.inputs.now a.starts.now a.out.now c.requires.0 g.new.work g.result g.ensures i.result i.ensures in
    omega (arith, mul_few a.ticks i.result c.requires.0.short (omega arith))

pub returns-then-not-lent : goal.returns-then-not-lent
returns-then-not-lent c =
    let a = c.args in
    let g = c.registers-regs in
    let i = c.input_pins-ins in
    let t = c.lent in
    rw c.at.ensures (freed_20 a.work.now a.order.end a.order.settled a.order.pins a.ticks a.inputs.now a.starts.now a.out.now c.requires.0 g.new.work g.result g.ensures i.result i.ensures (sym t.ensures ∙ c.if-not-lent.true))

pub returns-then-out-writes : goal.returns-then-out-writes
returns-then-out-writes c =
    let a = c.args in
    let g = c.registers-regs in
    let i = c.input_pins-ins in
    let t = c.lent in
    let e = sym t.ensures ∙ c.if-not-lent.false in
    rw c.at-then-out-writes.ensures (freed_17 a.work.now a.order.end a.order.settled a.order.pins a.ticks a.inputs.now a.starts.now a.out.now c.requires.0 g.new.work g.result g.ensures i.result i.ensures e c.if-out-writes.true)

pub lay-requires : goal.lay-requires
lay-requires c =
    let a = c.args in
    let g = c.registers-regs in
    let i = c.input_pins-ins in
    let t = c.lent in
    let e = sym t.ensures ∙ c.if-not-lent.false in
    layable a.work.now a.order.end a.order.settled a.order.pins a.ticks a.inputs.now a.starts.now a.out.now c.requires.0 g.new.work g.result g.ensures i.result i.ensures (c.requires.1.gates, c.requires.1.registers g.new.work g.result g.ensures)

pub wake-requires : goal.wake-requires
wake-requires c =
    let a = c.args in
    let g = c.registers-regs in
    let i = c.input_pins-ins in
    let t = c.lent in
    let e = sym t.ensures ∙ c.if-not-lent.false in
    let d = c.lay in
    flat-wake-ready a.work.now a.order.end a.order.settled a.order.pins a.ticks a.inputs.now a.starts.now a.out.now c.requires.0 g.new.work g.result g.ensures i.result i.ensures (c.requires.1.gates, c.requires.1.registers g.new.work g.result g.ensures) d.new.work d.ensures (lent-counts a.inputs.now a.starts.now (a.ticks * i.result) g.result e).1

pub run-requires : goal.run-requires
run-requires c =
    let a = c.args in
    let g = c.registers-regs in
    let i = c.input_pins-ins in
    let t = c.lent in
    let e = sym t.ensures ∙ c.if-not-lent.false in
    let d = c.lay in
    let k = c.wake in
    flat-run-ready a.work.now a.order.end a.order.settled a.order.pins a.ticks a.inputs.now a.starts.now a.out.now c.requires.0 g.new.work g.result g.ensures i.result i.ensures (c.requires.1.gates, c.requires.1.registers g.new.work g.result g.ensures) d.new.work d.ensures k.new.work k.ensures (lent-counts a.inputs.now a.starts.now (a.ticks * i.result) g.result e).0 c.if-out-writes.false

pub returns : goal.returns
returns c =
    let a = c.args in
    let g = c.registers-regs in
    let i = c.input_pins-ins in
    let t = c.lent in
    let e = sym t.ensures ∙ c.if-not-lent.false in
    let d = c.lay in
    let k = c.wake in
    let r = c.run in
    let bits = c.shared_slice_known-1 in
    let shown = c.slice_known-5-1 in
    flat-written a.work.now a.order.end a.order.settled a.order.pins a.ticks a.inputs.now a.starts.now a.out.now c.requires.0 g.new.work g.result g.ensures i.result i.ensures (c.requires.1.gates, c.requires.1.registers g.new.work g.result g.ensures) d.new.work d.ensures k.new.work k.ensures e c.if-out-writes.false r.new.work r.new.out r.ensures (λ j. omega (arith, (bits.given j).fits)) (λ j. (shown.given j).fits)
