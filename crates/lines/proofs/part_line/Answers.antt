-- Piece by piece. Assumes nothing.
use Rattle.parts.proofs.PartInputs.{table-inputs, table-outputs}
use Rattle.lines.proofs.Stores.{wrote-two}
use Rattle.lines.proofs.Texts.{part-text}
use Rattle.lines.proofs.part_line.Goals as goal

pub returns : goal.returns
returns c =
    let rest = c.end_line.ensures in
    let q = c.part_of-part in
    let name = c.put_name-end.ensures in
    let word = c.put_word-mid.ensures in
    let a = c.args in
    rw (← part-text a.p a.first, ← table-inputs q.result a.p q.ensures, ← table-outputs q.result a.p q.ensures) (wrote-two word (wrote-two name rest))
