-- The node over one term. Assumes nothing.
use Rattle.made_nodes.proofs.FormLaws.{fix_says}
use Rattle.made_nodes.proofs.binders.fixed_point.Goals as goal

pub returns : goal.returns
returns c = fix_says c.args.work.now c.args.place c.args.t c.args.e _ _ c.requires.1 c.under.ensures
