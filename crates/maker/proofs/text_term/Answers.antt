-- The table begins with **1**; the lines; what stands behind them. Assumes nothing.
use Rattle.answers.proofs.Passed.{passed}
use Rattle.maker.proofs.MainLaws.{text_items, text_refused, text-can, text-made}
use Rattle.maker.proofs.text_term.Goals as goal

pub lines-requires : goal.lines-requires
lines-requires c =
    text_items c.args.text.now c.args.work.now c.args.items c.args.seen c.args.end _ c.begin.ensures c.requires

pub returns-in_err-lines : goal.returns-in_err-lines
returns-in_err-lines c =
    rw (passed c.from_residual.result c.from_residual.ensures.1) (text_refused c.args.text.now c.args.work.now c.args.items c.args.seen c.args.end _ c.begin.ensures _ _ c.in_err-lines.ensures)

pub behind_lines-requires : goal.behind_lines-requires
behind_lines-requires c =
    text-can c.args.text.now c.args.work.now c.args.items c.args.seen c.args.end _ c.begin.ensures _ c.in_ok-lines.ensures c.requires

pub returns : goal.returns
returns c =
    text-made c.args.text.now c.args.work.now c.args.items c.args.seen c.args.end _ c.begin.ensures _ c.in_ok-lines.ensures c.behind_lines.result _ c.behind_lines.ensures
