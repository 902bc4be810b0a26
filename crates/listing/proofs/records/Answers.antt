-- `listing::records` meets its contract. The invariant: the text keeps its length, which has room for a line, and what is used is a part
-- of it. The measure is what is left of the netlist. Assumes nothing.
use mathlib.Core.Path.{sym, ◌∙◌}
use Prim.Native.Nat.{◌-◌}
use native.Mathlib.Omega.{arith}
use borrow.Rule.Slice.PartMut.{same_len_mid}
use lib.ListN.{length}
use lib.Seq.{length-take-le}
use Rattle.listing.proofs.Room.{within, short}
use Rattle.listing.proofs.records.Goals as goal

pub overflow_add-used : goal.overflow_add-used
overflow_add-used c =
    let l = c.loop-at in
    let a = c.args in
    omega (arith, short a.net.now l.at, c.line_of-used.ensures.offset, c.room_for_a_line-used.ensures)

pub overflow_add-at : goal.overflow_add-at
overflow_add-at c =
    let l = c.loop-at in
    let a = c.args in
    let size = c.size_at-size.ensures in
    let w = within a.net.now l.at (λ e. c.if-size-eq0.false (size ∙ e)) in
    omega (arith, size)

pub loop-at-preserved : goal.loop-at-preserved
loop-at-preserved c =
    let l = c.loop-at in
    let a = c.args in
    let line = c.line_of-used in
    let room = c.room_for_a_line-used in
    let same = same_len_mid room.result (length l.text - room.result) l.text line.new.text line.auto.text in
    (omega arith, omega (arith, short a.net.now l.at, line.ensures.offset, room.ensures), omega arith)

pub slice_bounds-write_all-end-2 : goal.slice_bounds-write_all-end-2
slice_bounds-write_all-end-2 c = let i = c.loop-at.invariant in sym (length-take-le _ _ (omega arith))
