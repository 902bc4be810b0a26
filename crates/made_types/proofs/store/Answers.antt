-- The stores are one run, and the count.  Assumes nothing.
use native.Mathlib.Omega.{arith}
use native.Mathlib.Numerals.{add-one, add-two, add-three}
use lib.ListN.{length-set}
use Rattle.made_types.proofs.store.Goals as goal

pub bounds-work-at-2 : goal.bounds-work-at-2
bounds-work-at-2 c = simp length-set (omega arith)

pub bounds-work-at-3 : goal.bounds-work-at-3
bounds-work-at-3 c = simp length-set (omega arith)

pub bounds-work-at-4 : goal.bounds-work-at-4
bounds-work-at-4 c = simp length-set (omega arith)

pub bounds-work-31232 : goal.bounds-work-31232
bounds-work-31232 c = simp length-set (omega arith)

pub returns : goal.returns
returns c = rw (c.number.ensures, add-one, add-two, add-three)
