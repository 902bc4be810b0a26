-- Piece by piece. Assumes nothing.
use Rattle.lines.proofs.Stores.{wrote-two}
use Rattle.lines.proofs.Texts.{point_text}
use Rattle.lines.proofs.point_line.Goals as goal

pub returns : goal.returns
returns c =
    let word = c.put_word-end.ensures in
    let rest = c.end_line.ensures in
    rw (← point_text c.args.input) (wrote-two word rest)
