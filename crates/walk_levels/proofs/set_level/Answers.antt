-- The stores are one run. Assumes nothing.
use native.Mathlib.Omega.{arith}
use native.Mathlib.Numerals.{add-one, add-two, add-three, add-four, add_five, add_six, add_seven}
use lib.ListN.{length-set}
use Rattle.walk_levels.proofs.set_level.Goals as goal

pub bounds-work-at-2 : goal.bounds-work-at-2
bounds-work-at-2 c = simp length-set (omega arith)

pub bounds-work-at-3 : goal.bounds-work-at-3
bounds-work-at-3 c = simp length-set (omega arith)

pub bounds-work-at-4 : goal.bounds-work-at-4
bounds-work-at-4 c = simp length-set (omega arith)

pub bounds-work-at-5 : goal.bounds-work-at-5
bounds-work-at-5 c = simp length-set (omega arith)

pub bounds-work-at-6 : goal.bounds-work-at-6
bounds-work-at-6 c = simp length-set (omega arith)

pub bounds-work-at-7 : goal.bounds-work-at-7
bounds-work-at-7 c = simp length-set (omega arith)

pub bounds-work-at-8 : goal.bounds-work-at-8
bounds-work-at-8 c = simp length-set (omega arith)

pub returns : goal.returns
returns c = rw (add-one, add-two, add-three, add-four, add_five, add_six, add_seven)
