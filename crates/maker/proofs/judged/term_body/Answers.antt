-- The walk over terms answers as the definition does. Assumes nothing.
use Rattle.answers.proofs.Passed.{passed}
use Rattle.maker.proofs.JudgedLaws.{own_term, tries_term, tries_term_refused}
use Rattle.maker.proofs.judged.term_body.Goals as goal

pub term_from-requires : goal.term_from-requires
term_from-requires c =
    own_term c.args.text.now c.args.work.now c.args.at c.requires

pub returns-in_err-term_from : goal.returns-in_err-term_from
returns-in_err-term_from c =
    rw (passed c.from_residual.result c.from_residual.ensures.1) (tries_term_refused c.args.text.now c.args.work.now c.args.at _ _ c.in_err-term_from.ensures)

pub returns : goal.returns
returns c =
    tries_term c.args.text.now c.args.work.now c.args.at _ _ c.in_ok-term_from.ensures
