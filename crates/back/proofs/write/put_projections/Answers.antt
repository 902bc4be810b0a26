-- The invariant: the first j rows stand. Assumes nothing.
use mathlib.Core.Path.{refl, ◌∙◌}
use Rattle.back.specs.Rows.{projection_row}
use Rattle.back.proofs.RowLaws.{rows_more}
use Rattle.back.proofs.write.put_projections.Goals as goal

pub loop-j-preserved : goal.loop-j-preserved
loop-j-preserved c =
    let l = c.loop-j in
    let a = c.args in
    c.put.ensures ∙ rw l.invariant (rows_more projection_row 3 (λ j. refl) a.out.now a.from _ l.j refl)
