-- The invariant: the first i numbers are written. Assumes nothing.
use native.Mathlib.Omega.{arith}
use mathlib.Core.Path.{◌≡◌, refl, ◌∙◌}
use Prim.Native.Nat.{◌+◌}
use Rattle.lines.proofs.Decimal.{figure-few, figures-more}
use Rattle.lines.proofs.Stores.{wrote-two}
use Rattle.lines.proofs.put_fields.Goals as goal

pub loop-i-init : goal.loop-i-init
loop-i-init c = (omega arith, (refl, record { offset = omega arith; bytes = refl }))

pub loop-i-preserved : goal.loop-i-preserved
loop-i-preserved c =
    let a = c.args in
    let l = c.loop-i in
    let put = c.put_field-at in
    let o = put.ensures.offset in
    let few = figure-few (a.first + l.i) in
    (omega arith, (put.auto.text ∙ l.invariant.1.0, rw (figures-more l.i a.first) (wrote-two l.invariant.1.1 put.ensures)))

pub returns : goal.returns
returns c =
    let l = c.loop-i in
    let n : l.i ≡ c.args.count = omega arith in
    rw (← n) l.invariant.1.1
