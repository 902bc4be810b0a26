-- The invariant: what the first j registers show next is found. Assumes nothing.
use mathlib.Core.Path.{◌≡◌}
use Rattle.trace_steps.specs.Turns.{take_turns}
use Rattle.trace_flat.specs.Flat.{OnlyBetween, flat_hold, next_at, shown_at}
use Rattle.trace_flat.proofs.steps.hold.Given as goal

abbrev pub invariant-loop-j : goal.invariant-loop-j
invariant-loop-j l = OnlyBetween next_at shown_at l.initial.work l.work × (l.work ≡ take_turns flat_hold l.j 0 l.initial.work)
