-- The single bit has no sides. Assumes nothing.
use native.Mathlib.Omega.{arith}
use native.Mathlib.Numerals.{add-one, add-two}
use lib.ListN.{length-set}
use Rattle.sheet_writer.proofs.TypeRecords.{bit-bytes, other-bytes, bit_length, other_length, some-length}
use Rattle.sheet_writer.proofs.write_type.Goals as goal

pub bounds-out-at : goal.bounds-out-at
bounds-out-at c = let p = c.requires.1.1.1 in omega (arith, some-length c.args.work.now c.args.t)

pub returns-then-kind-eq1 : goal.returns-then-kind-eq1
returns-then-kind-eq1 c = (omega (arith, bit_length c.args.work.now c.args.t c.if-kind-eq1.true), rw (bit-bytes c.args.work.now c.args.t c.if-kind-eq1.true))

pub bounds-out-at-2 : goal.bounds-out-at-2
bounds-out-at-2 c = let p = c.requires.1.1.1 in simp length-set (omega (arith, other_length c.args.work.now c.args.t c.if-kind-eq1.false))

pub bounds-out-at-3 : goal.bounds-out-at-3
bounds-out-at-3 c = let p = c.requires.1.1.1 in simp length-set (omega (arith, other_length c.args.work.now c.args.t c.if-kind-eq1.false))

pub returns : goal.returns
returns c = (omega (arith, other_length c.args.work.now c.args.t c.if-kind-eq1.false), rw (other-bytes c.args.work.now c.args.t c.if-kind-eq1.false) (rw (add-one, add-two)))
