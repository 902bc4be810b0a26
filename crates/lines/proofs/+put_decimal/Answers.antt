-- Below 10 one digit; otherwise those of a tenth, then the last. The falling number is the number itself. Assumes nothing.
use native.Mathlib.Omega.{arith}
use mathlib.Core.Path.{refl}
use mathlib.Core.List.{[], ◌∷◌}
use lib.ListN.{length-append}
use Rattle.lines.specs.Figure.{figure}
use Rattle.lines.proofs.Decimal.{figure_one, figure-more, figure_fewer}
use Rattle.lines.proofs.Stores.{store_more}
use Prim.Native.Nat.{◌+◌, ◌/◌, ◌%◌}
use Rattle.lines.proofs.+put_decimal.Goals as goal

pub returns-then-n-lt10 : goal.returns-then-n-lt10
returns-then-n-lt10 t c =
    let f = figure_one c.args.n (omega arith) in
    rw (← f) record { offset = refl; bytes = refl }

pub bounds-text-end : goal.bounds-text-end
bounds-text-end t c =
    omega (arith, c.put_decimal-end.auto.text, c.put_decimal-end.ensures.offset, figure_fewer c.args.n (omega arith))

pub overflow_add-result-2 : goal.overflow_add-result-2
overflow_add-result-2 t c =
    omega (arith, c.put_decimal-end.ensures.offset, figure_fewer c.args.n (omega arith))

pub returns : goal.returns
returns t c =
    let a = c.args in
    let e = c.put_decimal-end.ensures in
    let f = figure-more a.n (omega arith) (omega arith) in
    let l = length-append (figure (a.n / 10)) ((48 + a.n % 10) ∷ []) in
    let o = e.offset in
    rw (← f) record { offset = omega arith; bytes = rw e.bytes (store_more a.text.now (figure (a.n / 10)) a.at _ (48 + a.n % 10) e.offset) }
