-- The invariant: the first k input pins are loaded. Assumes nothing.
use mathlib.Core.List.{map}
use native.Mathlib.Omega.{arith}
use mathlib.Core.Path.{◌∙◌, ap}
use Prim.Native.Nat.{◌+◌}
use lib.ListN.{get_or, set}
use Rattle.trace_flat.specs.Flat.{ins_at}
use Rattle.trace_flat.proofs.CellLaws.{item_at, load_next}
use Rattle.trace_flat.proofs.ticks.load.Goals as goal

pub loop-k-preserved : goal.loop-k-preserved
loop-k-preserved g c =
    let l = c.loop-k in
    let h = c.loop-k-test.true in
    let rm = c.requires.1.1.1 in
    let x = c.index-inputs-from in
    let e = item_at g.T.Sample.lanes c.args.inputs.now (c.args.from + l.k) x.result c.lanes.result (omega arith) x.is c.lanes.ensures in
    load_next (map g.T.Sample.lanes c.args.inputs.now) c.args.from c.args.ins c.args.work.now l.work c.put.new.work l.k c.requires.1.1.0 h l.invariant
    (c.put.ensures ∙ ap (set l.work (get_or l.work (ins_at + l.k) 0)) e)
