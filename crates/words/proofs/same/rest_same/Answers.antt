-- `words::rest_same` meets its contract: three parts, one after the other. Assumes nothing.
use Prim.Native.Nat.{◌*◌, ◌/◌}
use mathlib.Core.Path.{◌∙◌}
use native.Mathlib.Omega.{arith}
use Rattle.words.proofs.NameLaws.{Told, told_on, told_off, three_on, three_off}
use Rattle.words.proofs.same.rest_same.Goals as goal
use Rattle.words.proofs.same.rest_same.Goals.{then-part_same, else-part_same}

pub returns-then-part_same-2 : goal.returns-then-part_same-2
returns-then-part_same-2 c =
    let a = c.args in
    let told : Told a.text.now a.a a.b a.n (a.n / 4 * 4) (a.n / 2 * 2) (omega arith) (omega arith) c.part_same.result c.if-part_same.value c.part_same.ensures = elim c.if-part_same.branch [ then-part_same w ↦ told_on a.text.now a.a a.b a.n (a.n / 4 * 4) (a.n / 2 * 2) (omega arith) (omega arith) _ _ c.part_same.ensures w.if-part_same.true (w.value-is ∙ w.part_same-then-part_same.ensures) | else-part_same w ↦ told_off a.text.now a.a a.b a.n (a.n / 4 * 4) (a.n / 2 * 2) (omega arith) (omega arith) _ _ c.part_same.ensures w.if-part_same.false w.value-is ] in
    c.part_same-then-part_same-2.ensures ∙ three_on a.text.now a.a a.b a.n (a.n / 4 * 4) (a.n / 2 * 2) (omega arith) (omega arith) _ _ c.part_same.ensures told c.if-part_same-2.true

pub returns-else-part_same-2 : goal.returns-else-part_same-2
returns-else-part_same-2 c =
    let a = c.args in
    let told : Told a.text.now a.a a.b a.n (a.n / 4 * 4) (a.n / 2 * 2) (omega arith) (omega arith) c.part_same.result c.if-part_same.value c.part_same.ensures = elim c.if-part_same.branch [ then-part_same w ↦ told_on a.text.now a.a a.b a.n (a.n / 4 * 4) (a.n / 2 * 2) (omega arith) (omega arith) _ _ c.part_same.ensures w.if-part_same.true (w.value-is ∙ w.part_same-then-part_same.ensures) | else-part_same w ↦ told_off a.text.now a.a a.b a.n (a.n / 4 * 4) (a.n / 2 * 2) (omega arith) (omega arith) _ _ c.part_same.ensures w.if-part_same.false w.value-is ] in
    three_off a.text.now a.a a.b a.n (a.n / 4 * 4) (a.n / 2 * 2) (omega arith) (omega arith) _ _ c.part_same.ensures told c.if-part_same-2.false
