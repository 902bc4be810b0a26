-- The invariant: what the first h that are met look at is covered. What is met is one of those left, once. Assumes nothing.
use Prim.Native.Nat.{◌-◌}
use Rattle.trace_rings.proofs.SearchLaws.{SearchGoing}
use Rattle.trace_rings.proofs.ring.search.Given as goal

abbrev pub invariant-loop-h : goal.invariant-loop-h
invariant-loop-h l = SearchGoing l.left l.x l.stamp l.initial.work l.initial.n l.work l.n l.h

abbrev pub decreases-loop-h : goal.decreases-loop-h
decreases-loop-h l = 4096 - l.h
