-- Piece by piece. Assumes nothing.
use native.Mathlib.Omega.{arith}
use mathlib.Core.Path.{refl}
use mathlib.Core.List.{[], ◌∷◌}
use Rattle.lines.proofs.Decimal.{figure-few}
use Rattle.lines.proofs.Stores.{wrote-two}
use Rattle.lines.proofs.Texts.{refused_text_lem}
use Rattle.lines.proofs.refused_line.Goals as goal

pub put_field-end-requires : goal.put_field-end-requires
put_field-end-requires c =
    let word = c.put_word-first in
    let number = c.put_field-second in
    omega (arith, word.auto.text, number.auto.text, word.ensures.offset, number.ensures.offset, figure-few c.args.number)

pub bounds-text-end : goal.bounds-text-end
bounds-text-end c =
    let a = c.args in
    let word = c.put_word-first in
    let number = c.put_field-second in
    let place = c.put_field-end in
    omega (arith, word.auto.text, number.auto.text, place.auto.text, word.ensures.offset, number.ensures.offset, place.ensures.offset, figure-few a.number, figure-few a.place)

pub overflow_add-result : goal.overflow_add-result
overflow_add-result c =
    let a = c.args in
    let word = c.put_word-first in
    let number = c.put_field-second in
    let place = c.put_field-end in
    record { fits = omega (arith, word.ensures.offset, number.ensures.offset, place.ensures.offset, figure-few a.number, figure-few a.place) }

pub returns : goal.returns
returns c =
    let a = c.args in
    let last = wrote-two {ys = 10 ∷ []} c.put_field-end.ensures record { offset = refl; bytes = refl } in
    rw (← refused_text_lem a.number a.place) (wrote-two c.put_word-first.ensures (wrote-two c.put_field-second.ensures last))
