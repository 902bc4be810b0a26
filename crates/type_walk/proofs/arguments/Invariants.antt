-- `type_walk::arguments` meets its contract. The types that wait are the first of those that `found_all` finds, and the words from the offset on are those of the others. Assumes nothing.
use Rattle.type_walk.specs.Many.{CanTypeAll}
use Rattle.type_walk.proofs.ManyLaws.{Keeps}
use Rattle.type_walk.proofs.arguments.Given as goal

abbrev pub invariant-loop-i : goal.invariant-loop-i
invariant-loop-i l = (C : CanTypeAll l.text l.initial.work l.at l.more l.frame l.top) → Keeps l.text l.initial.work l.at l.more l.frame l.top l.name C l.work l.i l.p
