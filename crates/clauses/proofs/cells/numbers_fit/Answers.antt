-- `clauses::numbers_fit` meets its contract: by the cells, and by the text where there are more numbers than cells. Assumes nothing.
use Prim.Native.Nat.{ℕ, ◌+◌, ◌-◌}
use mathlib.Core.Path.{◌≡◌, sym, subst, ◌∙◌}
use native.Mathlib.Omega.{arith}
use Rattle.words.proofs.WordLaws.{not_yes, not_no}
use Rattle.notation_calculus.specs.Making.{fit_all}
use Rattle.clauses.specs.Numbers.{numbers_from, NumbersThere}
use Rattle.clauses.specs.Meant.{values_in}
use Rattle.clauses.proofs.CellLaws.{numbers-no, numbers-yes, numbers-later}
use Rattle.clauses.proofs.cells.numbers_fit.Goals as goal

pub returns-then-not-cells_fit : goal.returns-then-not-cells_fit
returns-then-not-cells_fit c =
    let m = c.cells_in-c in
    let x = c.cells_fit in
    numbers-no c.args.text.now c.args.work.now c.args.k c.args.at c.args.n c.args.first c.requires.0 m.result m.ensures x.result x.ensures (not_yes _ c.if-not-cells_fit.true-raw)

pub returns-then-n-le-MOST_CELLS : goal.returns-then-n-le-MOST_CELLS
returns-then-n-le-MOST_CELLS c =
    let m = c.cells_in-c in
    let x = c.cells_fit in
    numbers-yes c.args.text.now c.args.work.now c.args.k c.args.at c.args.n c.args.first c.requires.0 m.result m.ensures x.result x.ensures (not_no _ c.if-not-cells_fit.false-raw) c.if-n-le-MOST_CELLS.true

pub fit_all-requires : goal.fit_all-requires
fit_all-requires c =
    let n = c.args.n in
    (subst (λ (q : ℕ). NumbersThere c.args.text.now q (n - 27)) (sym (c.from-later.ensures ∙ c.cell_at.ensures)) (c.requires.0.there (omega (arith, c.if-n-le-MOST_CELLS.false))), (omega (arith, c.requires.1.1.0, c.if-n-le-MOST_CELLS.false), c.requires.1.1.1))

pub returns : goal.returns
returns c =
    let m = c.cells_in-c in
    let x = c.cells_fit in
    numbers-later c.args.text.now c.args.work.now c.args.k c.args.at c.args.n c.args.first c.requires.0 m.result m.ensures x.result x.ensures (not_no _ c.if-not-cells_fit.false-raw) c.if-n-le-MOST_CELLS.false c.fit_all.result (subst (λ (q : ℕ). c.fit_all.result ≡ fit_all (numbers_from c.args.text.now q (c.args.n - 27)) (values_in c.args.work.now (c.args.first + 27) (c.args.n - 27))) (c.from-later.ensures ∙ c.cell_at.ensures) c.fit_all.ensures)
