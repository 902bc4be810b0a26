-- `main` is put in, and its body is made in its scope. Assumes nothing.
use Rattle.answers.proofs.Passed.{passed}
use Rattle.maker.proofs.MainLaws.{main_can, main_refused, main-term-can, main-made}
use Rattle.maker.proofs.main_term.Goals as goal

pub put_main-requires : goal.put_main-requires
put_main-requires c =
    main_can c.args.text.now c.args.work.now c.args.end c.requires

pub returns-in_err-b : goal.returns-in_err-b
returns-in_err-b c =
    rw (passed c.from_residual.result c.from_residual.ensures.1) (main_refused c.args.text.now c.args.work.now c.args.end _ _ c.in_err-b.ensures)

pub term_from-requires : goal.term_from-requires
term_from-requires c =
    main-term-can c.args.text.now c.args.work.now c.args.end _ _ c.in_ok-b.ensures c.requires

pub returns : goal.returns
returns c =
    main-made c.args.text.now c.args.work.now c.args.end _ _ c.in_ok-b.ensures c.term_from.result _ c.term_from.ensures
