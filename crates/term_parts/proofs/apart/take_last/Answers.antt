-- The pair is taken apart for the two names. Assumes nothing.
use Rattle.term_parts.proofs.ApartLaws.{took-last}
use Rattle.term_parts.proofs.apart.take_last.Goals as goal

pub returns : goal.returns
returns c = took-last c.args.text.now c.args.work.now c.args.at c.args.entry c.args.half c.args.v c.requires c.two_names-t.result c.two_names-t.ensures _ c.take.ensures
