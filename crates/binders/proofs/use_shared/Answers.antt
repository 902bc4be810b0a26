-- `binders::use_shared` meets its contract: by the count and the sort of the binder. Assumes nothing.
use borrow.Author.Tests.{le-leb, lt-leb}
use Rattle.binders.specs.Stacks.{shared_use}
use Rattle.binders.proofs.Laws.{sharable, linear_of}
use Rattle.binders.proofs.use_shared.Goals as goal

pub returns-then-count-i : goal.returns-then-count-i
unfolding shared_use
returns-then-count-i c = rw (le-leb _ _ c.if-count-i.true)

pub returns-then-sort-ne0 : goal.returns-then-sort-ne0
unfolding shared_use
returns-then-sort-ne0 c = rw (lt-leb _ _ c.if-count-i.false, linear_of _ _ _ c.if-sort-ne0.true)

pub returns : goal.returns
unfolding shared_use
returns c = rw (lt-leb _ _ c.if-count-i.false, sharable _ _ _ c.if-sort-ne0.false)
