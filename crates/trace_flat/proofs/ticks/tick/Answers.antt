-- Step by step. What a step asks stays, since only places change. Assumes nothing.
use mathlib.Core.List.{map}
use Rattle.trace_flat.proofs.CellLaws.{flat_tick_is}
use Rattle.trace_flat.proofs.ticks.tick.Goals as goal

pub returns : goal.returns
returns g c =
    let a = c.args in
    flat_tick_is g.T.Sample.shows a.sizes.settled a.sizes.regs a.sizes.ins a.sizes.outs (map g.T.Sample.lanes a.inputs.now) a.from a.to a.work.now (map g.T.Sample.lanes a.out.now) _ _ _ _ _ c.load.ensures c.pass.ensures c.store.ensures c.hold.ensures c.turn.ensures
