-- The invariant: the first j registers have their start bits. Assumes nothing.
use mathlib.Core.Path.{ap}
use Prim.Native.Nat.{ℕ, ◌+◌}
use lib.ListN.{get_or, set}
use Rattle.trace_steps.specs.Map.{bits_at}
use Rattle.trace_steps.specs.Steps.{wake_one}
use Rattle.trace_steps.proofs.Laws.{loop_step, wake_within, register_at_lem}
use Rattle.trace_steps.proofs.ticks.wake.Goals as goal

pub loop-j-preserved : goal.loop-j-preserved
loop-j-preserved c =
    let l = c.loop-j in
    let h = c.loop-j-test.true in
    let v = get_or c.args.starts.now l.j 0 in
    loop_step (wake_one c.args.starts.now) c.args.work.now l.work (set l.work (bits_at + c.at-o.result) v) l.j l.invariant.0 l.invariant.1
    (ap (λ (k : ℕ). set l.work (bits_at + k) v) c.at-o.ensures) (wake_within c.args.starts.now l.work l.j (register_at_lem l.invariant.0 c.requires.0 l.j h))
