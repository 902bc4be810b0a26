-- The invariant: the first j rows stand. Assumes nothing.
use native.Mathlib.Omega.{arith}
use mathlib.Core.Path.{refl, ◌∙◌}
use Rattle.back.specs.Rows.{product_row}
use Rattle.back_theorems.proofs.Typing.{tuple-low}
use Rattle.back.proofs.RowLaws.{rows_more}
use Rattle.back.proofs.write.put_products.Goals as goal

pub overflow_cast-tuple : goal.overflow_cast-tuple
overflow_cast-tuple c = omega (arith, c.tuple.ensures, tuple-low c.loop-j.j)

pub loop-j-preserved : goal.loop-j-preserved
loop-j-preserved c =
    let l = c.loop-j in
    let a = c.args in
    c.put.ensures ∙ rw (c.tuple.ensures, l.invariant) (rows_more product_row 3 (λ j. refl) a.out.now a.from _ l.j refl)
