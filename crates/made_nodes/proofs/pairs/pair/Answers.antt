-- The product first. Assumes nothing.
use Rattle.answers.proofs.Passed.{passed}
use Rattle.made_nodes.proofs.FormLaws.{pair_refused, pair_made}
use Rattle.made_nodes.proofs.pairs.pair.Goals as goal

pub returns-in_err-t : goal.returns-in_err-t
returns-in_err-t c = rw (passed c.from_residual.result c.from_residual.ensures.1) (pair_refused c.args.work.now c.args.place c.args.a c.args.b _ _ _ c.in_err-t.was c.product.ensures)

pub returns : goal.returns
returns c = pair_made c.args.work.now c.args.place c.args.a c.args.b _ _ _ _ _ c.in_ok-t.was c.product.ensures c.over.ensures
