-- The invariant: the first j gates show 0. Assumes nothing.
use native.Mathlib.Omega.{arith}
use mathlib.Core.Path.{refl}
use Prim.Native.Nat.{◌+◌}
use Rattle.trace_flat.specs.Flat.{dark_one, gates_at, ins_at}
use Rattle.trace_flat.proofs.Laws.{between-set, stretch-step}
use Rattle.trace_flat.proofs.layout.darken.Goals as goal

pub loop-j-preserved : goal.loop-j-preserved
loop-j-preserved c =
    let l = c.loop-j in
    let z = l.invariant.0.size in
    let few = c.requires.1 in
    stretch-step gates_at ins_at dark_one c.args.work.now l.work _ l.j l.invariant.0 l.invariant.1 (refl) (between-set gates_at ins_at l.work (gates_at + l.j) _ (omega arith) (omega arith))
