-- `wiring::leaf` meets its contract: by the rule. Assumes nothing.
use Rattle.records.proofs.RuleLaws.{not_constant}
use borrow.Enum.Refused.{opened}
use Rattle.wiring.proofs.walk.leaf.Goals as goal

pub variable-requires : goal.variable-requires
variable-requires c = (c.requires.0, c.requires.1, not_constant c.args.node.rule (opened c.in_default.in_default-own.keys2))
