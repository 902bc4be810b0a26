-- The node over one term. Assumes nothing.
use Rattle.made_nodes.proofs.AddLaws.{under_of}
use Rattle.made_nodes.proofs.under.Goals as goal

pub returns : goal.returns
returns c = under_of c.args.work.now c.args.kind c.args.body c.args.place c.args.ty c.args.e _ _ c.add.ensures
