-- Piece by piece. Assumes nothing.
use Rattle.lines.proofs.Stores.{wrote-two}
use Rattle.lines.proofs.Texts.{pin_text}
use Rattle.lines.proofs.pin_line.Goals as goal

pub returns : goal.returns
returns c =
    let word = c.put_word-end.ensures in
    let rest = c.end_line.ensures in
    rw (← pin_text c.args.terminal) (wrote-two word rest)
