-- The invariant: the first j registers hold their inputs, or have turned. Assumes nothing.
use mathlib.Core.Path.{◌≡◌}
use Rattle.lean.specs.Table.{Within}
use Rattle.trace_steps.specs.Turns.{take_turns}
use Rattle.trace_steps.specs.Steps.{clock_one}
use Rattle.trace_steps.proofs.ticks.clock.Given as goal

abbrev pub invariant-loop-j : goal.invariant-loop-j
invariant-loop-j l = Within l.initial.work l.work × (l.work ≡ take_turns (clock_one l.turning) l.j 0 l.initial.work)
