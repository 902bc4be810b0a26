-- The numbers, and the line feed behind them. Assumes nothing.
use native.Mathlib.Omega.{arith}
use mathlib.Core.Path.{refl}
use mathlib.Core.List.{[], ◌∷◌}
use Rattle.lines.proofs.Decimal.{figures-few}
use Rattle.lines.proofs.Stores.{wrote-two}
use Rattle.lines.proofs.end_line.Goals as goal

pub bounds-text-end : goal.bounds-text-end
bounds-text-end c =
    let a = c.args in
    let put = c.put_fields-end in
    omega (arith, put.auto.text, put.ensures.offset, figures-few a.count a.first)

pub overflow_add-result : goal.overflow_add-result
overflow_add-result c =
    let a = c.args in
    omega (arith, c.put_fields-end.ensures.offset, figures-few a.count a.first)

pub returns : goal.returns
returns c =
    wrote-two {ys = 10 ∷ []} c.put_fields-end.ensures record { offset = refl; bytes = refl }
