-- The invariant: the first j registers have their start bits. Assumes nothing.
use mathlib.Core.Path.{◌≡◌}
use Rattle.lean.specs.Table.{Within}
use Rattle.trace_steps.specs.Turns.{take_turns}
use Rattle.trace_steps.specs.Steps.{wake_one}
use Rattle.trace_steps.proofs.ticks.wake.Given as goal

abbrev pub invariant-loop-j : goal.invariant-loop-j
invariant-loop-j l = Within l.initial.work l.work × (l.work ≡ take_turns (wake_one l.starts) l.j 0 l.initial.work)
