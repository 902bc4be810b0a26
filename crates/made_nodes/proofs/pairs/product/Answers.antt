-- A half that is an arrow counts as the single bit. Assumes nothing.
use native.Mathlib.Omega.{arith}
use lib.Dec.{leb}
use Rattle.made_types.specs.Held.{kind_in}
use Rattle.made_types.specs.declared.Kind.{Kind}
use Rattle.made_nodes.proofs.TypeLaws.{listable, half_small, product_says}
use Rattle.made_nodes.proofs.pairs.product.Goals as goal

pub listed-requires : goal.listed-requires
listed-requires c = listable c.args.work.now Kind.Product _ _ c.requires.0 (omega arith) (half_small (leb (kind_in c.args.work.now c.args.a) 2) _ _ c.by_sort-left.ensures c.requires.1.0) (half_small (leb (kind_in c.args.work.now c.args.b) 2) _ _ c.by_sort-right.ensures c.requires.1.1)

pub returns : goal.returns
returns c = product_says c.args.work.now c.args.a c.args.b c.args.place _ _ _ _ c.by_sort-left.ensures c.by_sort-right.ensures c.listed.ensures
