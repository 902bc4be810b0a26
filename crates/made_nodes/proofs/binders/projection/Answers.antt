-- The node over two terms. Assumes nothing.
use Rattle.made_nodes.proofs.FormLaws.{projection_says}
use Rattle.made_nodes.proofs.binders.projection.Goals as goal

pub returns : goal.returns
returns c = projection_says c.args.work.now c.args.place c.args.v c.args.e _ _ c.requires.1 c.over.ensures
