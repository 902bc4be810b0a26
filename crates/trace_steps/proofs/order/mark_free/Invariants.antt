-- The invariant: the first x marks are made. Assumes nothing.
use mathlib.Core.Path.{◌≡◌}
use Rattle.lean.specs.Table.{Within}
use Rattle.trace_steps.specs.Turns.{take_turns}
use Rattle.trace_steps.specs.Steps.{mark_one}
use Rattle.trace_steps.proofs.order.mark_free.Given as goal

abbrev pub invariant-loop-x : goal.invariant-loop-x
invariant-loop-x l = Within l.initial.work l.work × (l.work ≡ take_turns mark_one l.x 0 l.initial.work)
