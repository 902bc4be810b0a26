-- `binders::use_linear` meets its contract: by the count, the sort and the mark of the binder. Assumes nothing.
use borrow.Author.Tests.{le-leb, lt-leb}
use Rattle.binders.specs.Stacks.{linear_use}
use Rattle.binders.proofs.Laws.{sharable, linear_of, marked}
use Rattle.binders.proofs.use_linear.Goals as goal

pub returns-then-count-i : goal.returns-then-count-i
unfolding linear_use
returns-then-count-i c = rw (le-leb _ _ c.if-count-i.true)

pub returns-then-sort-eq0 : goal.returns-then-sort-eq0
unfolding linear_use
returns-then-sort-eq0 c = rw (lt-leb _ _ c.if-count-i.false, sharable _ _ _ c.if-sort-eq0.true)

pub returns-then-mark-ne0 : goal.returns-then-mark-ne0
unfolding linear_use
returns-then-mark-ne0 c = rw (lt-leb _ _ c.if-count-i.false, linear_of _ _ _ c.if-sort-eq0.false, marked _ c.if-mark-ne0.true)

pub returns : goal.returns
unfolding linear_use
returns c = rw (lt-leb _ _ c.if-count-i.false, linear_of _ _ _ c.if-sort-eq0.false, c.if-mark-ne0.false)
