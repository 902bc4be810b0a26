-- The invariant: what the first j registers show next is found. Assumes nothing.
use native.Mathlib.Omega.{arith}
use mathlib.Core.Path.{ap}
use Prim.Native.Nat.{ℕ, ◌+◌}
use lib.ListN.{set}
use Rattle.trace_flat.specs.Flat.{flat_hold, next_at, shown_at}
use Rattle.trace_flat.proofs.Laws.{between-set, stretch-step}
use Rattle.trace_flat.proofs.steps.hold.Goals as goal

pub loop-j-preserved : goal.loop-j-preserved
loop-j-preserved c =
    let l = c.loop-j in
    let z = l.invariant.0.size in
    let few = c.requires.few in
    stretch-step next_at shown_at flat_hold c.args.work.now l.work _ l.j l.invariant.0 l.invariant.1 (ap (λ (x : ℕ). set l.work (next_at + l.j) x) c.there.ensures) (between-set next_at shown_at l.work (next_at + l.j) _ (omega arith) (omega arith))
