-- `typing::rules::wanted` meets its contract: by the rule of the node. Assumes nothing.
use Rattle.records.proofs.RuleLaws.{not_fixed_point}
use Rattle.typing.proofs.StepLaws.{wanted_fix, wanted-right}
use borrow.Enum.Refused.{opened}
use Rattle.typing.proofs.rules.wanted.Goals as goal

pub returns-in-FixedPoint : goal.returns-in-FixedPoint
returns-in-FixedPoint c = wanted_fix _ _ _ c.in-FixedPoint.is

pub returns-in_default : goal.returns-in_default
returns-in_default c = wanted-right _ c.sides_of.ensures _ _ (not_fixed_point c.args.rule (opened c.in_default.in_default-own.keys2))
