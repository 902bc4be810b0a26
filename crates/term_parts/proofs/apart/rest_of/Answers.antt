-- A node for variable 0. Assumes nothing.
use Rattle.term_parts.proofs.ApartLaws.{rest_says}
use Rattle.term_parts.proofs.apart.rest_of.Goals as goal

pub returns : goal.returns
returns c = rest_says c.args.work.now c.args.place c.args.v c.right_half-right.result c.right_half-right.ensures _ _ c.add.ensures
