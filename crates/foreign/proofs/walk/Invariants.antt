-- The invariant: what is left to read says the same as the whole. Assumes nothing.
use Prim.Native.Nat.{◌-◌}
use lib.ListN.{length}
use Rattle.foreign.specs.Take.{stage_of}
use Rattle.foreign.proofs.WalkLaws.{WalkGoing}
use Rattle.foreign.proofs.walk.Given as goal

abbrev pub invariant-loop-step : goal.invariant-loop-step
invariant-loop-step l = WalkGoing l.lean l.net l.initial.work l.work (stage_of l.st.stage) l.st.next l.at

abbrev pub decreases-loop-step : goal.decreases-loop-step
decreases-loop-step l = length l.net - l.at
