-- The invariant: the first x marks are made. Assumes nothing.
use native.Mathlib.Omega.{arith}
use mathlib.Core.Path.{ap, ◌∙◌}
use Prim.Native.Nat.{ℕ, ◌+◌}
use lib.ListN.{set}
use Rattle.lean.proofs.TableLaws.{within_then, within-set}
use Rattle.trace_calculus.specs.Trace.{bit_byte_lem}
use Rattle.trace_steps.specs.Map.{bits_at}
use Rattle.trace_steps.specs.Steps.{mark_one}
use Rattle.trace_steps.proofs.Laws.{turns_next}
use Rattle.trace_steps.proofs.order.mark_free.Goals as goal

pub loop-x-preserved : goal.loop-x-preserved
loop-x-preserved c =
    let l = c.loop-x in
    let a = c.args in
    let z = l.invariant.0.size in (
      within_then l.invariant.0 (within-set l.work l.x c.byte.result (omega arith)),
      ap (λ (v : ℕ). set l.work (bits_at + l.x) v) (c.byte.ensures ∙ ap bit_byte_lem c.free-f.ensures) ∙ turns_next mark_one l.x a.work.now l.work l.invariant.1,
    )
