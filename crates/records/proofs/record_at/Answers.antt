-- `records::record_at` meets its contract: by the tests of the offset, the kind and the body that the code makes in this order. Assumes nothing.
use Prim.Native.Nat.{◌+◌}
use borrow.Author.Tests.{le-leb, lt-leb}
use mathlib.Core.Path.{◌∙◌, sym}
use Rattle.records.specs.Record.{record_at}
use Rattle.records.proofs.Laws.{part_byte}
use Rattle.records.proofs.record_at.Goals as goal

pub returns-then-s-at : goal.returns-then-s-at
unfolding record_at
returns-then-s-at c = rw (le-leb _ _ c.if-s-at.true, c.at.ensures)

pub returns-in_default : goal.returns-in_default
unfolding record_at
returns-in_default c = rw (lt-leb _ _ c.if-s-at.false, sym c.shape_of.ensures ∙ c.in_default.is, c.at-in_default.ensures)

pub returns-then-term : goal.returns-then-term
unfolding record_at
returns-then-term c = rw (lt-leb _ _ c.if-s-at.false, sym c.shape_of.ensures ∙ c.in-Some.is, c.in-Type.is, c.if-term.true, c.at-then-term.ensures)

pub returns-then-s-from : goal.returns-then-s-from
unfolding record_at
returns-then-s-from c = rw (lt-leb _ _ c.if-s-at.false, sym c.shape_of.ensures ∙ c.in-Some.is, c.in-Type.is, c.if-term.false, lt-leb _ _ c.if-s-from.true, c.at-then-s-from.ensures)

pub returns-then-s-from-2 : goal.returns-then-s-from-2
unfolding record_at
returns-then-s-from-2 c = rw (lt-leb _ _ c.if-s-at.false, sym c.shape_of.ensures ∙ c.in-Some.is, c.in-Node.is, lt-leb _ _ c.if-s-from-2.true, c.at-then-s-from-2.ensures)

pub returns-else-s-from : goal.returns-else-s-from
unfolding record_at
returns-else-s-from c =
    let s = c.args.s.now in
    let from = c.args.at + 1 in
    rw (lt-leb _ _ c.if-s-at.false, sym c.shape_of.ensures ∙ c.in-Some.is, c.in-Type.is, c.if-term.false, le-leb _ _ c.if-s-from.false, c.form_of-form.ensures, ← (c.byte_of.ensures ∙ part_byte s from c.in-Type.n 0), ← (c.byte_of-in-Type.ensures ∙ part_byte s from c.in-Type.n 1))

pub returns-else-s-from-2 : goal.returns-else-s-from-2
unfolding record_at
returns-else-s-from-2 c =
    let s = c.args.s.now in
    let from = c.args.at + 1 in
    rw (lt-leb _ _ c.if-s-at.false, sym c.shape_of.ensures ∙ c.in-Some.is, c.in-Node.is, le-leb _ _ c.if-s-from-2.false, ← (c.byte_of-in-Node.ensures ∙ part_byte s from c.in-Node.n 0), ← (c.byte_of-in-Node-2.ensures ∙ part_byte s from c.in-Node.n 1))
