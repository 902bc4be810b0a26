-- By the edition. Assumes nothing.
use native.Mathlib.Omega.{arith}
use borrow.Author.Tests.{eq-eqb, ne_eqb}
use mathlib.Core.Path.{refl}
use Rattle.sheet_writer.proofs.SheetLaws.{opening_one}
use lib.ListN.{get_or}
use Rattle.making_memory.specs.Map.{second_at_lem}
use Rattle.sheet_writer.proofs.write_opening.Goals as goal

pub bounds-out-0 : goal.bounds-out-0
bounds-out-0 c = let p = c.requires.1 in omega (arith, opening_one c.args.work.now c.if-work-eq1.true)

pub returns-then-work-eq1 : goal.returns-then-work-eq1
returns-then-work-eq1 c = rw (eq-eqb (get_or c.args.work.now second_at_lem 0) 1 c.if-work-eq1.true) (refl, refl)

pub returns : goal.returns
returns c = rw (ne_eqb (get_or c.args.work.now second_at_lem 0) 1 c.if-work-eq1.false) (refl, refl)
