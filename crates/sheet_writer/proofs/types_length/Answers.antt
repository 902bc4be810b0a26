-- The invariant: the bytes of the types up to here. Assumes nothing.
use native.Mathlib.Omega.{arith}
use mathlib.Core.Path.{◌≡◌, refl, ap, ◌∙◌}
use Prim.Native.Nat.{ℕ}
use lib.ListN.{length}
use Rattle.sheet_writer.specs.Bytes.{types_bytes}
use Rattle.sheet_writer.proofs.TypeRecords.{bit_length, other_length, longer_by}
use Rattle.sheet_writer.proofs.types_length.Goals as goal
use Rattle.sheet_writer.proofs.types_length.Goals.{then-work-t-eq1, else-work-t-eq1}

pub loop-t-init : goal.loop-t-init
loop-t-init c = (refl, omega arith)

pub overflow_mul-t : goal.overflow_mul-t
overflow_mul-t c = let p = c.requires in omega arith

pub overflow_add-t : goal.overflow_add-t
overflow_add-t c = let p = c.requires in omega arith

pub offset_bounds-work-t : goal.offset_bounds-work-t
offset_bounds-work-t c = let p = c.requires in omega arith

pub bounds-work-t : goal.bounds-work-t
bounds-work-t c = let p = c.requires in omega arith

pub overflow_add-total : goal.overflow_add-total
overflow_add-total c = let p = c.requires in omega arith

pub overflow_add-total-else-work-t-eq1 : goal.overflow_add-total-else-work-t-eq1
overflow_add-total-else-work-t-eq1 c = let p = c.requires in omega arith

pub loop-t-preserved : goal.loop-t-preserved
loop-t-preserved c =
    elim c.if-work-t-eq1.branch [
      | then-work-t-eq1 w ↦ rw w.total-is (longer_by c.args.work.now c.loop-t.t c.loop-t.total 1 c.loop-t.invariant.0 (bit_length c.args.work.now c.loop-t.t w.if-work-t-eq1.true), omega arith)
      | else-work-t-eq1 w ↦ rw w.total-is (longer_by c.args.work.now c.loop-t.t c.loop-t.total 3 c.loop-t.invariant.0 (other_length c.args.work.now c.loop-t.t w.if-work-t-eq1.false), omega arith)
    ]

pub returns : goal.returns
returns c = let e : c.loop-t.t ≡ c.args.n = omega arith in c.loop-t.invariant.0 ∙ ap (λ (t : ℕ). length (types_bytes c.args.work.now t)) e
