-- The node over two terms. Assumes nothing.
use Rattle.made_nodes.proofs.AddLaws.{over_of}
use Rattle.made_nodes.proofs.over.Goals as goal

pub returns : goal.returns
returns c = over_of c.args.work.now c.args.kind c.args.body c.args.place c.args.ty c.args.a c.args.b c.max-below.result _ _ c.max-below.ensures c.add.ensures
