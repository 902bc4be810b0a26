-- `typing::rules::enters` meets its contract, by the rule. Assumes nothing.
use Rattle.typing.proofs.StepLaws.{enters-product, enters-sharable, enters_any}
use borrow.Enum.Refused.{opened}
use Rattle.typing.proofs.rules.enters.Goals as goal

pub returns-in-Projection : goal.returns-in-Projection
returns-in-Projection c = enters-product _ c.sides_of.ensures _ c.in-Projection.is

pub returns-in-Naming : goal.returns-in-Naming
returns-in-Naming c = enters-sharable _ c.sides_of-in-Naming.ensures _ c.in-Naming.is

pub returns-in_default : goal.returns-in_default
returns-in_default c = enters_any c.args.rule _ (opened c.in_default.in_default-own.keys3)
