-- `clauses::seen_by` meets its contract. Assumes nothing.
use mathlib.Core.Path.{sym, subst}
use Rattle.clauses.specs.Follows.{RowThere}
use Rattle.clauses.proofs.MeantLaws.{seen_above, seen_upto}
use Rattle.clauses.proofs.meant.seen_by.Goals as goal

pub returns-then-c-eq0 : goal.returns-then-c-eq0
returns-then-c-eq0 c = seen_above c.args.text.now c.args.work.now c.args.k c.row_at-c.result c.row_at-c.ensures c.if-c-eq0.true

pub up_to-requires : goal.up_to-requires
up_to-requires c =
    let there : RowThere c.args.text.now c.row_at-c.result = subst (RowThere c.args.text.now) (sym c.row_at-c.ensures) (c.requires.0.each c.args.k c.requires.1) in
    (c.requires.0, (there.inside, there.key))

pub returns : goal.returns
returns c = seen_upto c.args.text.now c.args.work.now c.args.k c.row_at-c.result c.row_at-c.ensures c.if-c-eq0.false c.up_to.result c.up_to.ensures
