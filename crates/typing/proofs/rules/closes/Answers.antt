-- `typing::rules::closes` meets its contract, by the rule. Assumes nothing.
use Rattle.typing.proofs.StepLaws.{closes_two, closes_one, closes_none}
use borrow.Enum.Refused.{opened}
use Rattle.typing.proofs.rules.closes.Goals as goal

pub returns-in-Projection : goal.returns-in-Projection
returns-in-Projection c = closes_two _ c.in-Projection.is

pub returns-in-Naming : goal.returns-in-Naming
returns-in-Naming c = closes_one _ c.in-Naming.is

pub returns-in_default : goal.returns-in_default
returns-in_default c = closes_none c.args.rule (opened c.in_default.in_default-own.keys3)
