-- The invariant: the first j registers have gone on. Assumes nothing.
use native.Mathlib.Omega.{arith}
use mathlib.Core.Path.{refl}
use Prim.Native.Nat.{◌+◌}
use Rattle.trace_flat.specs.Flat.{flat_turn, shown_at}
use Rattle.trace_flat.proofs.Laws.{between-set, stretch-step}
use Rattle.trace_steps.specs.Map.{order_at}
use Rattle.trace_flat.proofs.steps.turn.Goals as goal

pub loop-j-preserved : goal.loop-j-preserved
loop-j-preserved c =
    let l = c.loop-j in
    let z = l.invariant.0.size in
    let few = c.requires.1 in
    stretch-step shown_at order_at flat_turn c.args.work.now l.work _ l.j l.invariant.0 l.invariant.1 (refl) (between-set shown_at order_at l.work (shown_at + l.j) _ (omega arith) (omega arith))
