-- The invariant: no input of the outputs from j on is on a ring, and no mark is as high as the stamp. Assumes nothing.
use Rattle.trace_rings.proofs.SearchLaws.{SeekingRing}
use Rattle.trace_rings.proofs.ring.lowest.Given as goal

abbrev pub invariant-loop-j : goal.invariant-loop-j
invariant-loop-j l = SeekingRing l.initial.work l.left l.work l.j l.stamp
