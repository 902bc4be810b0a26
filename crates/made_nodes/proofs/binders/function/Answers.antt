-- The arrow first. Assumes nothing.
use Rattle.answers.proofs.Passed.{passed}
use Rattle.made_nodes.proofs.FormLaws.{function_refused, function_made}
use Rattle.made_nodes.proofs.binders.function.Goals as goal

pub returns-in_err-w : goal.returns-in_err-w
returns-in_err-w c = rw (passed c.from_residual.result c.from_residual.ensures.1) (function_refused c.args.work.now c.args.place c.args.t c.args.e _ _ _ c.in_err-w.was c.arrow.ensures)

pub returns : goal.returns
returns c = function_made c.args.work.now c.args.place c.args.t _ c.args.e _ _ _ _ _ c.by_sort-kind.ensures c.in_ok-w.was c.arrow.ensures c.under.ensures
