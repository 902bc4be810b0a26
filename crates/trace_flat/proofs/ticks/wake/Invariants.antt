-- The invariant: the first j registers show what they start with. Assumes nothing.
use mathlib.Core.List.{map}
use mathlib.Core.Path.{◌≡◌}
use Rattle.trace_steps.specs.Turns.{take_turns}
use Rattle.trace_flat.specs.Flat.{OnlyBetween, shown_at}
use Rattle.trace_flat.specs.FlatTicks.{flat_wake}
use Rattle.trace_steps.specs.Map.{order_at}
use Rattle.trace_flat.proofs.ticks.wake.Given as goal

abbrev pub invariant-loop-j : goal.invariant-loop-j
invariant-loop-j g l = OnlyBetween shown_at order_at l.initial.work l.work × (l.work ≡ take_turns (flat_wake (map g.T.Sample.lanes l.starts)) l.j 0 l.initial.work)
