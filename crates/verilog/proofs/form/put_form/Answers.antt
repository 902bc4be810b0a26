-- The invariant: the form's first i characters are written. Assumes nothing.
use native.Mathlib.Omega.{arith}
use mathlib.Core.Path.{refl}
use lib.ListN.{get_or}
use lib.Seq.{take_all}
use Rattle.lines.proofs.Stores.{wrote-two, wrote-length}
use Rattle.verilog.proofs.Filling.{letter-few, filled_more}
use Rattle.verilog.proofs.form.put_form.Goals as goal

pub loop-c-init : goal.loop-c-init
loop-c-init c = (omega arith, record { offset = omega arith; bytes = refl })

pub put_letter-at-requires : goal.put_letter-at-requires
put_letter-at-requires c = let l = c.loop-c.invariant.0 in omega (arith, c.requires)

pub loop-c-preserved : goal.loop-c-preserved
loop-c-preserved c =
    let a = c.args in
    let l = c.loop-c in
    let put = c.put_letter-at.ensures in
    let o = put.offset in
    let few = letter-few a.x a.y a.z (get_or a.form.now l.c-index 0) in
    (omega arith, rw (filled_more a.x a.y a.z a.form.now l.c-index c.loop-c-test.true) (wrote-two l.invariant.1 put))

pub shape_of-out : goal.shape_of-out
shape_of-out c = wrote-length c.loop-c.invariant.1

pub returns : goal.returns
returns c =
    let a = c.args in
    let l = c.loop-c in
    rw (take_all l.c-index a.form.now (omega arith)) at l.invariant.1
