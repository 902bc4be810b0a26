-- What was made is forgotten; the counts of before are those of the state.  Assumes nothing.
use Rattle.answers.proofs.Passed.{passed}
use Rattle.maker.proofs.TriedLaws.{tried_refused, tried_passed}
use Rattle.maker.proofs.judged.tried.Goals as goal

pub returns-in_err-body : goal.returns-in_err-body
returns-in_err-body c =
    rw (passed c.from_residual.result c.from_residual.ensures.1) (tried_refused c.args.text.now c.args.work.now c.args.at c.args.sort _ _ c.in_err-body.ensures)

pub returns : goal.returns
returns c =
    tried_passed c.args.text.now c.args.work.now c.args.at c.args.sort _ c.in_ok-body.ensures _ c.forget.ensures
