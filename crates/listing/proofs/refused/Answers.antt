-- The line has room in the buffer, so that all of it is printed. Assumes nothing.
use native.Mathlib.Omega.{arith}
use mathlib.Core.Path.{sym}
use lib.Seq.{length-take-le}
use Rattle.listing.proofs.Room.{refused_short}
use Rattle.listing.proofs.refused.Goals as goal

pub slice_bounds-text-end : goal.slice_bounds-text-end
slice_bounds-text-end c =
    let line = c.refused_line-n in
    omega (arith, line.ensures.offset, line.auto.text, c.buffer-text.ensures, refused_short c.number.result c.args.why.place)

pub slice_bounds-write_all-end : goal.slice_bounds-write_all-end
slice_bounds-write_all-end c =
    let line = c.refused_line-n in
    sym (length-take-le _ _ (omega (arith, line.ensures.offset, line.auto.text, c.buffer-text.ensures, refused_short c.number.result c.args.why.place)))
