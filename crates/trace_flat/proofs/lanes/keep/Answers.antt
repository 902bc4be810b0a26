-- The invariant: what the first j registers show is kept. Assumes nothing.
use mathlib.Core.Path.{refl}
use lib.ListN.{length-set}
use Rattle.trace_flat.specs.FlatTicks.{flat_keep}
use Rattle.trace_flat.proofs.CellLaws.{written_next}
use Rattle.trace_flat.proofs.lanes.keep.Goals as goal

pub loop-j-preserved : goal.loop-j-preserved
loop-j-preserved c =
    let l = c.loop-j in
    let h = c.loop-j-test.true in
    let few = c.requires.1.0 in
    let z = l.invariant.size in
    let q = c.requires.0 in
    let rm = c.requires.1.1 in
    written_next (flat_keep c.args.work.now) l.j c.args.state.now l.state _ l.invariant (length-set l.state l.j _) refl
