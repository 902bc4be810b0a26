-- The answer of the writer, as a call gives it. Assumes nothing.
use Rattle.maker.proofs.MadeLaws.{wrote-left}
use Rattle.maker.proofs.written.Goals as goal

pub returns : goal.returns
returns c =
    wrote-left c.args.work.now c.args.root c.args.out.now c.args.places.now c.write.result _ _ c.write.ensures
