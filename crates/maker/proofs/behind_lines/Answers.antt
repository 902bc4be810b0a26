-- The definitions are judged, then `main` is made. Assumes nothing.
use Rattle.answers.proofs.Passed.{passed}
use Rattle.maker.proofs.MainLaws.{behind-some, behind_refused, behind_can, behind-made}
use Rattle.maker.proofs.behind_lines.Goals as goal

pub judged-requires : goal.judged-requires
judged-requires c =
    behind-some c.args.text.now c.args.work.now c.args.end c.requires

pub returns-in_err-judged : goal.returns-in_err-judged
returns-in_err-judged c =
    rw (passed c.from_residual.result c.from_residual.ensures.1) (behind_refused c.args.text.now c.args.work.now c.args.end _ _ c.in_err-judged.ensures)

pub main_term-requires : goal.main_term-requires
main_term-requires c =
    behind_can c.args.text.now c.args.work.now c.args.end _ c.in_ok-judged.ensures c.requires

pub returns : goal.returns
returns c =
    behind-made c.args.text.now c.args.work.now c.args.end _ c.in_ok-judged.ensures c.main_term.result _ c.main_term.ensures
