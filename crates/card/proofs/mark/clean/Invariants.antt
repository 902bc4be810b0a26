-- The invariant: the first x terminals are clean, and the lowest so far is known. Assumes nothing.
use Rattle.card.proofs.MarkLaws.{Cleaning}
use Rattle.card.proofs.mark.clean.Given as goal

abbrev pub invariant-loop-x : goal.invariant-loop-x
invariant-loop-x l = Cleaning l.initial.work l.end l.x l.lowest l.work
