-- `sheet::is_record` meets its contract: by the record's length, then its sides, then its kind. Assumes nothing.
use borrow.Author.Tests.{eq-eqb, ne_eqb}
use Rattle.sheet.proofs.RepeatLaws.{record_short, record_whole}
use Rattle.sheet.proofs.types.is_record.Goals as goal

pub returns-then-s-at : goal.returns-then-s-at
returns-then-s-at c =
    record_short c.args.s.now c.args.t c.requires.0 c.args.kind c.args.left c.args.right c.requires.2 c.requires.3 c.if-s-at.true

pub returns-then-s-at-2 : goal.returns-then-s-at-2
returns-then-s-at-2 c =
    rw (record_whole c.args.s.now c.args.t c.requires.0 c.args.kind c.args.left c.args.right c.requires.2 c.requires.3 c.if-s-at.false, ne_eqb _ _ c.if-s-at-2.true)

pub returns-then-s-at-3 : goal.returns-then-s-at-3
returns-then-s-at-3 c =
    rw (record_whole c.args.s.now c.args.t c.requires.0 c.args.kind c.args.left c.args.right c.requires.2 c.requires.3 c.if-s-at.false, eq-eqb _ _ c.if-s-at-2.false, ne_eqb _ _ c.if-s-at-3.true)

pub returns : goal.returns
returns c =
    rw (record_whole c.args.s.now c.args.t c.requires.0 c.args.kind c.args.left c.args.right c.requires.2 c.requires.3 c.if-s-at.false, eq-eqb _ _ c.if-s-at-2.false, eq-eqb _ _ c.if-s-at-3.false)
