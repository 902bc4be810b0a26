-- The invariant: the types up to here are written. Assumes nothing.
use native.Mathlib.Omega.{arith}
use mathlib.Core.Path.{◌≡◌, refl, ap, ◌∙◌}
use Prim.Native.Nat.{ℕ, ◌+◌}
use lib.ListN.{length}
use lib.Seq.{sets}
use Rattle.sheet_writer.specs.Bytes.{types_bytes}
use Rattle.sheet_writer.proofs.TypeRecords.{type_fits, one_more}
use Rattle.sheet_writer.proofs.write_types.Goals as goal

pub loop-t-init : goal.loop-t-init
loop-t-init c = (omega arith, (refl, refl))

pub write_type-at-requires : goal.write_type-at-requires
write_type-at-requires c = let p = c.requires in let f = p.few in (p.size, (omega arith, (p.low c.loop-t.t c.loop-t-test.true, let l = c.loop-t.invariant.1.1 in rw l (type_fits c.args.work.now c.args.n c.args.from _ c.loop-t.t c.loop-t.at p c.loop-t-test.true c.loop-t.invariant.0))))

pub loop-t-preserved : goal.loop-t-preserved
loop-t-preserved c = let m = one_more c.args.work.now c.args.out.now c.loop-t.out _ c.args.from c.loop-t.t c.loop-t.at _ c.loop-t.invariant.0 c.loop-t.invariant.1.0 c.write_type-at.ensures.0 c.write_type-at.ensures.1 in (m.0, (m.1, c.write_type-at.auto.out ∙ c.loop-t.invariant.1.1))

pub shape_of-out : goal.shape_of-out
shape_of-out c = c.loop-t.invariant.1.1

pub returns : goal.returns
returns c = let e : c.loop-t.t ≡ c.args.n = omega arith in (c.loop-t.invariant.0 ∙ ap (λ (t : ℕ). c.args.from + length (types_bytes c.args.work.now t)) e, c.loop-t.invariant.1.0 ∙ ap (λ (t : ℕ). sets c.args.out.now c.args.from (types_bytes c.args.work.now t)) e)
