-- The invariant: the first x bits are as they begin. Assumes nothing.
use mathlib.Core.Path.{◌≡◌}
use Rattle.lean.specs.Table.{Within}
use Rattle.trace_steps.specs.Turns.{take_turns}
use Rattle.trace_steps.specs.Words.{word_begin}
use Rattle.trace_steps.proofs.ticks.begin.Given as goal

abbrev pub invariant-loop-x : goal.invariant-loop-x
invariant-loop-x l = Within l.initial.work l.work × (l.work ≡ take_turns word_begin l.x 0 l.initial.work)
