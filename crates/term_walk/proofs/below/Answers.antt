-- The level is stored with its scope, and the walk is made of the numbers given. Assumes nothing.
use Rattle.term_walk.proofs.StepLaws.{below_by}
use Rattle.term_walk.proofs.below.Goals as goal

pub returns : goal.returns
returns c = below_by c.args.work.now c.args.h c.args.l c.args.frame c.args.top c.args.waiting c.args.at _ _ c.push.ensures c.nothing.ensures
