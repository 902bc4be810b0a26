-- Two names bound, and a half put. Assumes nothing.
use Rattle.term_parts.proofs.ApartLaws.{took}
use Rattle.term_parts.proofs.apart.take.Goals as goal

pub returns : goal.returns
returns c = took c.args.work.now c.args.entry c.args.half c.args.place c.args.other c.args.v c.requires c.left_half-left.result c.right_half-right.result c.left_half-left.ensures c.right_half-right.ensures _ c.bind_name.ensures _ c.bind_name-2.ensures _ c.put_half.ensures
