-- The invariant: so many ticks are run. Assumes nothing.
use mathlib.Core.List.{map}
use Rattle.trace_flat.specs.FlatTicks.{counts}
use Rattle.trace_flat.proofs.CellLaws.{flat-ran_next}
use Rattle.trace_flat.proofs.ticks.run.Goals as goal

pub loop-t-preserved : goal.loop-t-preserved
loop-t-preserved g c =
    let l = c.loop-t in
    flat-ran_next g.T.Sample.shows (counts c.args.sizes.settled c.args.sizes.regs c.args.sizes.ins c.args.sizes.outs) (map g.T.Sample.lanes c.args.inputs.now) l.t _ _ _ _ _ _ l.invariant c.tick.ensures
