-- Piece by piece. Assumes nothing.
use native.Mathlib.Omega.{arith}
use Rattle.lines.proofs.Decimal.{figure-few}
use Rattle.lines.proofs.Stores.{wrote-two}
use Rattle.lines.proofs.Texts.{wire-text}
use Rattle.lines.proofs.wire_line.Goals as goal

pub end_line-requires : goal.end_line-requires
end_line-requires c =
    let first = c.put_word-mid in
    let second = c.put_field-end in
    let few = figure-few c.args.from in
    (omega (arith, first.auto.text, second.auto.text, first.ensures.offset, second.ensures.offset), omega arith)

pub returns : goal.returns
returns c =
    let a = c.args in
    let word = c.put_word-mid.ensures in
    let from = c.put_field-end.ensures in
    let rest = c.end_line.ensures in
    rw (← wire-text a.from a.to) (wrote-two word (wrote-two from rest))
