-- The invariant: the first j registers show what they start with. Assumes nothing.
use mathlib.Core.List.{map}
use native.Mathlib.Omega.{arith}
use mathlib.Core.Path.{ap}
use lib.ListN.{set}
use Rattle.trace_flat.proofs.CellLaws.{item_at}
use Prim.Native.Nat.{◌+◌}
use Rattle.trace_flat.specs.Flat.{shown_at}
use Rattle.trace_flat.specs.FlatTicks.{flat_wake}
use Rattle.trace_flat.proofs.Laws.{between-set, stretch-step}
use Rattle.trace_steps.specs.Map.{order_at}
use Rattle.trace_flat.proofs.ticks.wake.Goals as goal

pub loop-j-preserved : goal.loop-j-preserved
loop-j-preserved g c =
    let l = c.loop-j in
    let z = l.invariant.0.size in
    let few = c.requires.1.0 in
    let f = flat_wake (map g.T.Sample.lanes c.args.starts.now) in
    let x = c.index-starts-j in
    let e = item_at g.T.Sample.lanes c.args.starts.now l.j x.result c.lanes.result (let p = c.requires.1.1 in omega arith) x.is c.lanes.ensures in
    stretch-step shown_at order_at f c.args.work.now l.work _ l.j l.invariant.0 l.invariant.1
    (ap (set l.work (shown_at + l.j)) e) (between-set shown_at order_at l.work (shown_at + l.j) _ (omega arith) (omega arith))
