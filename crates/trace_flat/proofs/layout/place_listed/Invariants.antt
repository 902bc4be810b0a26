-- The invariant: the first j terminals have their places. Assumes nothing.
use mathlib.Core.Path.{◌≡◌}
use Rattle.trace_steps.specs.Turns.{take_turns}
use Rattle.lean.specs.Table.{Within}
use Rattle.trace_flat.specs.Flat.{place_next}
use Rattle.trace_flat.proofs.layout.place_listed.Given as goal

abbrev pub invariant-loop-j : goal.invariant-loop-j
invariant-loop-j l = Within l.initial.work l.work × (l.work ≡ take_turns (place_next l.list l.first) l.j 0 l.initial.work)
