-- `clauses::cells_fit` meets its contract. The invariant: the cells that are left decide. Assumes nothing.
use Prim.Native.Nat.{ℕ}
use mathlib.Core.Path.{ap, ◌∙◌}
use lib.ListN.{get_or}
use Rattle.words.proofs.WordLaws.{not_yes, not_no}
use Rattle.clauses.specs.Cells.{cell_at, cell_fits}
use Rattle.clauses.proofs.CellLaws.{cells-no, cells-more}
use Rattle.clauses.proofs.cells.cells_fit.Goals as goal

pub returns-then-not-fits : goal.returns-then-not-fits
returns-then-not-fits c =
    let a = c.args in
    let l = c.loop-j in
    let v = c.value_of-v in
    let x = c.cell_at in
    cells-no a.work.now a.k a.n a.first l.j l.invariant c.loop-j-test.true c.fits.result (c.fits.ensures ∙ ap (λ (y : ℕ). cell_fits y v.result) x.ensures ∙ ap (cell_fits (get_or a.work.now (cell_at a.k l.j) 0)) v.ensures) (not_yes _ c.if-not-fits.true-raw)

pub loop-j-preserved : goal.loop-j-preserved
loop-j-preserved c =
    let a = c.args in
    let l = c.loop-j in
    let v = c.value_of-v in
    let x = c.cell_at in
    cells-more a.work.now a.k a.n a.first l.j l.invariant c.loop-j-test.true c.fits.result (c.fits.ensures ∙ ap (λ (y : ℕ). cell_fits y v.result) x.ensures ∙ ap (cell_fits (get_or a.work.now (cell_at a.k l.j) 0)) v.ensures) (not_no _ c.if-not-fits.false-raw)
