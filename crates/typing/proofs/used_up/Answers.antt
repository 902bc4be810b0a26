-- `typing::used_up` meets its contract: by the rule of the node, then the sort and the mark of the binder. Assumes nothing.
use mathlib.Core.Path.{◌∙◌}
use Rattle.records.proofs.RuleLaws.{not_linear_function}
use Rattle.binders.proofs.Laws.{sharable, linear_of, mark-test}
use Rattle.typing.proofs.StepLaws.{used_linear, used_other}
use borrow.Enum.Refused.{opened}
use Rattle.typing.proofs.used_up.Goals as goal

pub returns-in_default : goal.returns-in_default
returns-in_default c = λ t st. used_other _ _ (not_linear_function c.args.rule (opened c.in_default.in_default-own.keys2))

pub returns-then-sort-eq0 : goal.returns-then-sort-eq0
returns-then-sort-eq0 c = λ t st. rw (sharable t _ _ c.if-sort-eq0.true) (used_linear _ _ c.in-LinearFunction.is)

pub returns : goal.returns
returns c = λ t st. rw (linear_of t _ _ c.if-sort-eq0.false) (mark-test c.args.mark ∙ used_linear _ _ c.in-LinearFunction.is)
