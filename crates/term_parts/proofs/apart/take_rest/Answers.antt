-- The pair is taken apart for a name and no name, and the rest is a node. Assumes nothing.
use Rattle.std.proofs.lemmas.Result.{err_from_is_err_and}
use Rattle.term_parts.proofs.ApartLaws.{took-rest, took-none}
use Rattle.term_parts.proofs.apart.take_rest.Goals as goal

pub returns-in_err-sub : goal.returns-in_err-sub
returns-in_err-sub c = let p = err_from_is_err_and c.from_residual.result c.from_residual.ensures.1 in rw (p.1, p.2) (took-none c.args.text.now c.args.work.now c.args.at c.args.entry c.args.half c.args.v c.requires c.two_names-t.result c.two_names-t.ensures _ c.take.ensures _ _ c.rest_of.ensures _ c.in_err-sub.was)

pub returns : goal.returns
returns c = took-rest c.args.text.now c.args.work.now c.args.at c.args.entry c.args.half c.args.v c.requires c.two_names-t.result c.two_names-t.ensures _ c.take.ensures _ _ c.rest_of.ensures _ c.in_ok-sub.was
