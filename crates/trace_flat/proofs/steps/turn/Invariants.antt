-- The invariant: the first j registers have gone on. Assumes nothing.
use mathlib.Core.Path.{◌≡◌}
use Rattle.trace_steps.specs.Turns.{take_turns}
use Rattle.trace_flat.specs.Flat.{OnlyBetween, flat_turn, shown_at}
use Rattle.trace_steps.specs.Map.{order_at}
use Rattle.trace_flat.proofs.steps.turn.Given as goal

abbrev pub invariant-loop-j : goal.invariant-loop-j
invariant-loop-j l = OnlyBetween shown_at order_at l.initial.work l.work × (l.work ≡ take_turns flat_turn l.j 0 l.initial.work)
