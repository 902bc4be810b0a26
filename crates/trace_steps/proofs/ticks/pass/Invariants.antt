-- The invariant: the first j outputs of the order have their bits. Assumes nothing.
use mathlib.Core.Path.{◌≡◌}
use Rattle.lean.specs.Table.{Within}
use Rattle.trace_steps.specs.Turns.{take_turns}
use Rattle.trace_steps.specs.Words.{word_pass}
use Rattle.trace_steps.proofs.ticks.pass.Given as goal

abbrev pub invariant-loop-j : goal.invariant-loop-j
invariant-loop-j l = Within l.initial.work l.work × (l.work ≡ take_turns word_pass l.j 0 l.initial.work)
