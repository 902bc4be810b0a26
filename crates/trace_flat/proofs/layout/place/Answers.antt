-- The invariant: the first x terminals have their own places. Assumes nothing.
use native.Mathlib.Omega.{arith}
use mathlib.Core.Path.{refl}
use Rattle.trace_steps.proofs.Laws.{loop_step}
use Rattle.lean.proofs.TableLaws.{within-set}
use Rattle.trace_flat.specs.Flat.{place_one}
use Rattle.trace_flat.proofs.layout.place.Goals as goal

pub loop-x-preserved : goal.loop-x-preserved
loop-x-preserved c =
    let l = c.loop-x in
    let few = c.requires.1 in
    let h = c.loop-x-test.true in
    loop_step place_one c.args.work.now l.work _ l.x l.invariant.0 l.invariant.1 refl (within-set l.work l.x _ (omega arith))
