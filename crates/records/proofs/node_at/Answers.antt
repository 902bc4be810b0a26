-- `records::node_at` meets its contract: by the tests of the offset, the kind and the body that the code makes in this order. Assumes nothing.
use Prim.Native.Nat.{◌+◌}
use borrow.Author.Tests.{le-leb, lt-leb}
use mathlib.Core.Path.{sym, ◌∙◌}
use Rattle.records.specs.Record.{record_at, node_at}
use Rattle.records.proofs.Laws.{part_byte}
use Rattle.records.proofs.node_at.Goals as goal

pub returns-then-s-at : goal.returns-then-s-at
unfolding node_at record_at
returns-then-s-at c = rw (c.no_node.ensures, le-leb _ _ c.if-s-at.true)

pub returns-in_default : goal.returns-in_default
unfolding node_at record_at
returns-in_default c = rw (c.no_node-in_default.ensures, lt-leb _ _ c.if-s-at.false, sym c.shape_of.ensures ∙ c.in_default.is)

pub returns-in_default-shape : goal.returns-in_default-shape
unfolding node_at record_at
returns-in_default-shape c = rw (c.no_node-in_default-shape.ensures, lt-leb _ _ c.if-s-at.false, sym c.shape_of.ensures ∙ c.in-Some.is, c.in_default-shape.is)

pub returns-then-s-from : goal.returns-then-s-from
unfolding node_at record_at
returns-then-s-from c =
    rw (c.no_node-then-s-from.ensures, lt-leb _ _ c.if-s-at.false, sym c.shape_of.ensures ∙ c.in-Some.is, c.in-Node.is, lt-leb _ _ c.if-s-from.true)

pub returns : goal.returns
unfolding node_at record_at
returns c =
    let s = c.args.s.now in
    let from = c.args.at + 1 in
    rw (lt-leb _ _ c.if-s-at.false, sym c.shape_of.ensures ∙ c.in-Some.is, c.in-Node.is, le-leb _ _ c.if-s-from.false, ← (c.byte_of.ensures ∙ part_byte s from c.in-Node.n 0), ← (c.byte_of-2.ensures ∙ part_byte s from c.in-Node.n 1))
