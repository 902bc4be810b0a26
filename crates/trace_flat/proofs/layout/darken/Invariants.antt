-- The invariant: the first j gates show 0. Assumes nothing.
use mathlib.Core.Path.{◌≡◌}
use Rattle.trace_steps.specs.Turns.{take_turns}
use Rattle.trace_flat.specs.Flat.{OnlyBetween, dark_one, gates_at, ins_at}
use Rattle.trace_flat.proofs.layout.darken.Given as goal

abbrev pub invariant-loop-j : goal.invariant-loop-j
invariant-loop-j l = OnlyBetween gates_at ins_at l.initial.work l.work × (l.work ≡ take_turns dark_one l.j 0 l.initial.work)
