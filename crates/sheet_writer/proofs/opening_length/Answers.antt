-- By the edition. Assumes nothing.
use borrow.Author.Tests.{eq-eqb, ne_eqb}
use lib.ListN.{get_or}
use Rattle.making_memory.specs.Map.{second_at_lem}
use Rattle.sheet_writer.proofs.opening_length.Goals as goal

pub returns-then-work-eq1 : goal.returns-then-work-eq1
returns-then-work-eq1 c = rw (eq-eqb (get_or c.args.work.now second_at_lem 0) 1 c.if-work-eq1.true)

pub returns : goal.returns
returns c = rw (ne_eqb (get_or c.args.work.now second_at_lem 0) 1 c.if-work-eq1.false)
