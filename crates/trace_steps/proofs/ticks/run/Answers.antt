-- The invariant: so many ticks are run. Assumes nothing.
use native.Mathlib.Omega.{arith}
use Rattle.trace_steps.specs.Words.{lane_zero}
use Rattle.trace_steps.specs.Ticks.{sizes}
use Rattle.trace_steps.proofs.TickLaws.{runs-within, ins-within, outs-within, ran-next, fits_next}
use Rattle.trace_steps.proofs.ticks.run.Goals as goal

pub tick-requires : goal.tick-requires
tick-requires c =
    let l = c.loop-t in
    let h = c.loop-t-test.true in
    let i = l.invariant.within in
    let f = c.requires.1 in
    let g = f.reads in
    let k = f.writes in
    let z = l.invariant.size in
    let n = c.requires.0.pins.few in (
      runs-within i c.requires.0,
      (
        omega (arith, ins-within _ _ i c.args.counts.pins n, fits_next l.t c.args.ticks c.args.reads _ h f.lent),
        omega (arith, outs-within _ _ i c.args.counts.pins n, fits_next l.t c.args.ticks c.args.writes _ h f.room),
      ),
    )

pub loop-t-preserved : goal.loop-t-preserved
loop-t-preserved c =
    let l = c.loop-t in
    ran-next lane_zero (sizes c.args.counts.settled c.args.counts.regs c.args.counts.pins) c.args.inputs.now c.args.reads c.args.writes l.t _ _ _ _ _ _ l.invariant c.tick.ensures
