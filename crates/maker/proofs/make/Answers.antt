-- What the call leaves of the working memory is cleared. Assumes nothing.
use Rattle.maker.proofs.MadeLaws.{call-is}
use Rattle.maker.proofs.make.Goals as goal

pub returns : goal.returns
returns c =
    call-is c.args.text.now c.args.out.now c.args.places.now c.args.work.now c.run-r.result _ _ _ _ c.run-r.ensures c.clear.ensures
