-- `typing::rules::halves_of` meets its contract, by the rule. Assumes nothing.
use Rattle.records.proofs.RuleLaws.{not_projection}
use Rattle.typing.proofs.StepLaws.{halves_one, halves-two}
use borrow.Enum.Refused.{opened}
use Rattle.typing.proofs.rules.halves_of.Goals as goal

pub returns-in_default : goal.returns-in_default
returns-in_default c = halves_one c.args.rule _ _ (not_projection c.args.rule (opened c.in_default.in_default-own.keys2))

pub returns : goal.returns
returns c = halves-two _ c.sides_of-q.ensures _ _ c.in-Projection.is
