-- The kind is by the sort. Assumes nothing.
use lib.Dec.{leb}
use Rattle.made_types.specs.Held.{kind_in}
use Rattle.made_nodes.proofs.TypeLaws.{listable, arrow-form, arrow_says}
use Rattle.made_nodes.proofs.binders.arrow.Goals as goal

pub listed-requires : goal.listed-requires
listed-requires c = listable c.args.work.now _ _ _ c.requires.0 (arrow-form (leb (kind_in c.args.work.now c.args.t) 2) _ c.by_sort-kind.ensures) c.requires.1.0 c.requires.1.1

pub returns : goal.returns
returns c = arrow_says c.args.work.now c.args.t c.args.to c.args.place _ _ _ c.by_sort-kind.ensures c.listed.ensures
