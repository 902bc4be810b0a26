-- Each step where the one before left off. Assumes nothing.
use native.Mathlib.Omega.{arith}
use Rattle.lean.proofs.TableLaws.{within_then}
use Rattle.trace_steps.specs.Words.{lane_zero}
use Rattle.trace_steps.proofs.TickLaws.{pins_within, outs-within, tick_is}
use Rattle.trace_steps.proofs.ticks.tick.Goals as goal

pub store-written-requires : goal.store-written-requires
store-written-requires c =
    let i = within_then c.load-read.ensures.within c.pass.ensures.within in
    let q = c.requires.1.1 in
    (pins_within i c.requires.0.pins, omega (arith, outs-within _ _ i c.args.counts.pins c.requires.0.pins.few))

pub returns : goal.returns
returns c =
    let a = c.args in
    tick_is lane_zero a.counts.settled a.counts.regs a.counts.pins a.inputs.now a.from a.to a.work.now a.out.now _ _ _ _ _ _ _
    c.load-read.ensures c.pass.ensures c.store-written.ensures c.clock.ensures c.clock-2.ensures
