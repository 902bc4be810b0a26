-- The invariant: the first x bits are as they begin. Assumes nothing.
use native.Mathlib.Omega.{arith}
use mathlib.Core.Path.{ap, ◌∙◌}
use Prim.Native.Nat.{ℕ, ◌+◌}
use lib.ListN.{set}
use Rattle.lean.proofs.TableLaws.{within_then, within-set}
use Rattle.trace_steps.specs.Map.{bits_at}
use Rattle.trace_steps.specs.Words.{word_begin}
use Rattle.trace_steps.proofs.Laws.{turns_next}
use Rattle.trace_steps.proofs.ticks.begin.Goals as goal

pub loop-x-preserved : goal.loop-x-preserved
loop-x-preserved c =
    let l = c.loop-x in
    let a = c.args in
    let z = l.invariant.0.size in (
      within_then l.invariant.0 (within-set l.work l.x c.all.result (omega arith)),
      ap (λ (v : ℕ). set l.work (bits_at + l.x) v) c.all.ensures ∙ turns_next word_begin l.x a.work.now l.work l.invariant.1,
    )
