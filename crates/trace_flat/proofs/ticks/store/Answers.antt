-- The invariant: the first k output pins are written. Assumes nothing.
use mathlib.Core.List.{map}
use mathlib.Core.Path.{◌∙◌, sym, ap}
use Prim.Native.Nat.{◌+◌}
use lib.ListN.{set, length-set}
use Rattle.std.proofs.lemmas.List.{length-map}
use Rattle.trace_flat.specs.FlatTicks.{flat_store}
use Rattle.trace_flat.proofs.CellLaws.{item_set, written_next}
use Rattle.trace_flat.proofs.ticks.store.Goals as goal

pub loop-k-preserved : goal.loop-k-preserved
loop-k-preserved g c =
    let l = c.loop-k in
    let f = g.T.Sample.lanes in
    let v = c.show.result in
    written_next (flat_store g.T.Sample.shows c.args.work.now c.args.to) l.k (map f c.args.out.now) (map f l.out) _ l.invariant
    (length-map (set l.out (c.args.to + l.k) v) f ∙ length-set l.out (c.args.to + l.k) v ∙ sym (length-map l.out f))
    (item_set f l.out (c.args.to + l.k) v _ (c.show.ensures ∙ ap g.T.Sample.shows c.there.ensures))
