-- What is written is a part of the output. Assumes nothing.
use mathlib.Core.Path.{sym}
use lib.Seq.{length-take-le}
use Rattle.translation.proofs.Written.{written-within}
use Rattle.listing.proofs.translated.Goals as goal

pub slice_bounds-netlist-end : goal.slice_bounds-netlist-end
slice_bounds-netlist-end c =
    let r = c.translate in
    written-within r.result _ _ _ _ _ _ _ _ r.ensures c.in-Ok.is

pub slice_bounds-netlist-end-in-Ok : goal.slice_bounds-netlist-end-in-Ok
slice_bounds-netlist-end-in-Ok c =
    let r = c.translate in
    sym (length-take-le _ _ (written-within r.result _ _ _ _ _ _ _ _ r.ensures c.in-Ok.is))
