-- `corpus::call` meets its contract: what is written is a part of the output. Assumes nothing.
use mathlib.Core.Path.{sym}
use lib.Seq.{length-take-le}
use Rattle.translation.proofs.Written.{written-within}
use Rattle.corpus.proofs.call.Goals as goal

pub slice_bounds-fill-end : goal.slice_bounds-fill-end
slice_bounds-fill-end c =
    let r = c.translate in
    written-within r.result _ _ _ _ _ _ _ _ r.ensures c.in-Ok.is

pub slice_bounds-fill-end-in-Ok : goal.slice_bounds-fill-end-in-Ok
slice_bounds-fill-end-in-Ok c =
    let r = c.translate in
    sym (length-take-le _ _ (written-within r.result _ _ _ _ _ _ _ _ r.ensures c.in-Ok.is))
