-- If a level is left the variable is what `lookup` finds. Assumes nothing.
use Rattle.term_walk.proofs.ListLaws.{body-none, look_can, body-nowhere, body-here, body-can}
use Rattle.term_walk.proofs.lists.list_in.Goals as goal

pub returns-then-n-eq0 : goal.returns-then-n-eq0
returns-then-n-eq0 c = rw c.at.ensures (body-none c.args.text.now c.args.work.now c.args.n c.args.items.round c.args.items.from c.args.items.count c.args.at c.if-n-eq0.true)

pub list_at-requires : goal.list_at-requires
list_at-requires c = look_can c.args.text.now c.args.work.now c.args.n c.args.items.round c.args.items.from c.args.items.count c.args.at c.requires.0

pub list_made-requires : goal.list_made-requires
list_made-requires c = (body-can c.args.text.now c.args.work.now c.args.n c.args.items.round c.args.items.from c.args.items.count c.args.at c.if-n-eq0.false c.requires.1.1.opens c.list_at.result c.list_at.ensures _ _ c.in-Some.is c.requires.0 c.requires.1.0, c.requires.1.1)

pub returns-in_default : goal.returns-in_default
returns-in_default c = rw c.at-in_default.ensures (body-nowhere c.args.text.now c.args.work.now c.args.n c.args.items.round c.args.items.from c.args.items.count c.args.at c.if-n-eq0.false c.requires.1.1.opens c.list_at.result c.list_at.ensures c.in_default.is)

pub returns : goal.returns
returns c = body-here c.args.text.now c.args.work.now c.args.n c.args.items.round c.args.items.from c.args.items.count c.args.at c.if-n-eq0.false c.requires.1.1.opens c.list_at.result c.list_at.ensures _ _ c.in-Some.is _ _ c.list_made.ensures
