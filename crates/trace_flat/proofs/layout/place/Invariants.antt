-- The invariant: the first x terminals have their own places. Assumes nothing.
use mathlib.Core.Path.{◌≡◌}
use Rattle.trace_steps.specs.Turns.{take_turns}
use Rattle.lean.specs.Table.{Within}
use Rattle.trace_flat.specs.Flat.{place_one}
use Rattle.trace_flat.proofs.layout.place.Given as goal

abbrev pub invariant-loop-x : goal.invariant-loop-x
invariant-loop-x l = Within l.initial.work l.work × (l.work ≡ take_turns place_one l.x 0 l.initial.work)
