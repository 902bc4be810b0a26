-- The function first. Assumes nothing.
use Rattle.answers.proofs.Passed.{passed}
use Rattle.made_nodes.proofs.FormLaws.{name_refused, name-made}
use Rattle.made_nodes.proofs.binders.name_applied.Goals as goal

pub returns-in_err-f : goal.returns-in_err-f
returns-in_err-f c = rw (passed c.from_residual.result c.from_residual.ensures.1) (name_refused c.args.work.now c.args.place c.args.v c.args.e _ _ _ c.in_err-f.was c.function.ensures)

pub returns : goal.returns
returns c = name-made c.args.work.now c.args.place _ c.args.v c.args.e _ _ _ _ _ c.requires.1.1 c.by_sort-kind.ensures c.in_ok-f.was c.function.ensures c.over.ensures
