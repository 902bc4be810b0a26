-- `binders::slot` meets its contract. Assumes nothing.
use borrow.Author.Tests.{lt-ltb, le-ltb}
use Rattle.binders.specs.Stacks.{slot_of}
use Rattle.binders.proofs.slot.Goals as goal

pub returns-then-i-count : goal.returns-then-i-count
unfolding slot_of
returns-then-i-count c = rw (lt-ltb _ _ c.if-i-count.true)

pub returns-else-i-count : goal.returns-else-i-count
unfolding slot_of
returns-else-i-count c = rw (le-ltb _ _ c.if-i-count.false)
