-- `records::bound_by` meets its contract: by the rule. Assumes nothing.
use mathlib.Core.Path.{ap}
use Rattle.records.specs.TypeNumbers.{sided_of}
use Rattle.records.specs.declared.Sided.{Sided}
use Rattle.records.proofs.RuleLaws.{not_fixed_point}
use borrow.Enum.Refused.{opened}
use Rattle.records.proofs.bound_by.Goals as goal

pub returns-in_default : goal.returns-in_default
unfolding sided_of
returns-in_default c = rw (not_fixed_point c.args.node.rule (opened c.in_default.in_default-own.keys2)) (ap (λ (x : Sided). x.left) c.sides_of.ensures)
