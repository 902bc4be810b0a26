-- Each row behind the one before. Assumes nothing.
use native.Mathlib.Omega.{arith}
use Prim.Native.Nat.{◌-◌}
use Rattle.back_theorems.proofs.Typing.{tuple-low}
use Rattle.back.proofs.SheetLaws.{sheet-sum, sheet-written}
use Rattle.back.proofs.write.sheet.Goals as goal

pub put_types-functions-requires : goal.put_types-functions-requires
put_types-functions-requires c =
    let a = c.args in
    let l = c.requires.limited in
    let f = c.requires.fits in
    let u = sheet-sum a.layout.net.now a.layout.parts.count a.layout.undriven l in
    (l.some, l.most, l.few, omega arith)

pub put_functions-requires : goal.put_functions-requires
put_functions-requires c =
    let a = c.args in
    let l = c.requires.limited in
    let m = l.most in
    let k = l.few in
    let f = c.requires.fits in
    let u = sheet-sum a.layout.net.now a.layout.parts.count a.layout.undriven l in
    let t = c.put_types-functions in
    let e = t.ensures.0 in
    let z = t.auto.out in
    (omega arith, omega (arith, c.tuple-whole.ensures, tuple-low (a.layout.parts.count - 1)), omega arith)

pub overflow_add-at : goal.overflow_add-at
overflow_add-at c =
    let a = c.args in
    let f = c.requires.fits in
    omega (arith, c.put_types-functions.ensures.0, sheet-sum a.layout.net.now a.layout.parts.count a.layout.undriven c.requires.limited)

pub put-requires : goal.put-requires
put-requires c =
    let a = c.args in
    let f = c.requires.fits in
    let u = sheet-sum a.layout.net.now a.layout.parts.count a.layout.undriven c.requires.limited in
    let t = c.put_types-functions in
    let e = t.ensures.0 in
    let z = t.auto.out in
    let y = c.put_functions.auto.out in
    omega arith

pub overflow_add-at-2 : goal.overflow_add-at-2
overflow_add-at-2 c =
    let a = c.args in
    let f = c.requires.fits in
    omega (arith, c.put_types-functions.ensures.0, sheet-sum a.layout.net.now a.layout.parts.count a.layout.undriven c.requires.limited)

pub put_projections-requires : goal.put_projections-requires
put_projections-requires c =
    let a = c.args in
    let f = c.requires.fits in
    let u = sheet-sum a.layout.net.now a.layout.parts.count a.layout.undriven c.requires.limited in
    let t = c.put_types-functions in
    let e = t.ensures.0 in
    let z = t.auto.out in
    let y = c.put_functions.auto.out in
    let v = c.put.auto.out in
    omega arith

pub overflow_add-at-3 : goal.overflow_add-at-3
overflow_add-at-3 c =
    let a = c.args in
    let f = c.requires.fits in
    omega (arith, c.put_types-functions.ensures.0, sheet-sum a.layout.net.now a.layout.parts.count a.layout.undriven c.requires.limited)

pub overflow_add-at-4 : goal.overflow_add-at-4
overflow_add-at-4 c =
    let a = c.args in
    let f = c.requires.fits in
    omega (arith, c.put_types-functions.ensures.0, sheet-sum a.layout.net.now a.layout.parts.count a.layout.undriven c.requires.limited)

pub put_parts-requires : goal.put_parts-requires
put_parts-requires c =
    let a = c.args in
    let f = c.requires.fits in
    let u = sheet-sum a.layout.net.now a.layout.parts.count a.layout.undriven c.requires.limited in
    let t = c.put_types-functions in
    let e = t.ensures.0 in
    let z = t.auto.out in
    let y = c.put_functions.auto.out in
    let v = c.put.auto.out in
    let p = c.put_projections.auto.out in
    record { limited = c.requires.limited; behind = c.requires.behind; fits = omega arith }

pub returns : goal.returns
returns c =
    let a = c.args in
    let t = c.put_types-functions in
    sheet-written a.layout.net.now a.layout.parts.count a.layout.undriven c.requires.limited a.out.now _ _ _ _ _ t.result c.tuple-whole.result t.ensures.0 c.tuple-whole.ensures t.ensures.1
    c.put_functions.ensures c.put.ensures c.put_projections.ensures c.put_parts.ensures
