-- `deltawobble::deltawobble_stretch` meets its contract: a stretch lies within 16,384 bytes, and the part has its length. Assumes nothing.
use Prim.Native.Nat.{◌+◌, ◌≤◌}
use mathlib.Core.Path.{sym, ap, ap₂, subst, ◌∙◌}
use native.Mathlib.Omega.{arith}
use lib.ListN.{length}
use Rattle.calculus.specs.Stretch.{Stretch}
use Rattle.answers.specs.Word.{upper_lower}
use Rattle.deltawobble.proofs.BoundaryLaws.{stretch-fits, part_length}
use Rattle.deltawobble.proofs.deltawobble_stretch.Goals as goal

pub overflow_mul-result : goal.overflow_mul-result
overflow_mul-result c =
    let a = c.args in
    omega (arith, subst (λ (p : Stretch). p.start + p.size ≤ 16384) (sym c.stretch_bounds-b.ensures) (stretch-fits a.sheet.now a.node))

pub overflow_add-result : goal.overflow_add-result
overflow_add-result c =
    let a = c.args in
    omega (arith, subst (λ (p : Stretch). p.start + p.size ≤ 16384) (sym c.stretch_bounds-b.ensures) (stretch-fits a.sheet.now a.node), ap length c.stretch-part.ensures.bytes ∙ part_length a.sheet.now a.node)

pub returns : goal.returns
returns c =
    let a = c.args in
    ap₂ upper_lower (ap (λ (p : Stretch). p.start) c.stretch_bounds-b.ensures) (ap length c.stretch-part.ensures.bytes ∙ part_length a.sheet.now a.node)
