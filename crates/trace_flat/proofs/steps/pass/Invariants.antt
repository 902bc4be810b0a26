-- The invariants: four times as many gates as turns, and then j gates, have their bits. Assumes nothing.
use Prim.Native.Nat.{◌*◌}
use Rattle.trace_flat.proofs.Laws.{Passing}
use Rattle.trace_flat.proofs.steps.pass.Given as goal

abbrev pub invariant-loop-t : goal.invariant-loop-t
invariant-loop-t l = Passing l.initial.work (4 * l.t) l.work

abbrev pub invariant-loop-j : goal.invariant-loop-j
invariant-loop-j l = Passing l.fn.work l.j l.work
