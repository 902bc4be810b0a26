-- The kind is by the sort. Assumes nothing.
use Rattle.made_nodes.proofs.FormLaws.{variable_says}
use Rattle.made_nodes.proofs.leaves.variable.Goals as goal

pub returns : goal.returns
returns c = variable_says c.args.work.now c.by_sort-kind.result c.args.number c.args.ty c.args.place _ _ c.requires.1 c.by_sort-kind.ensures c.add.ensures
