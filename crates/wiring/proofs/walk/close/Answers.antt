-- `wiring::close` meets its contract: by the rule. Assumes nothing.
use mathlib.Core.Path.{ap}
use Rattle.records.specs.Rules.{is_fixed_point}
use Rattle.records.proofs.RuleLaws.{not_fixed_point}
use Rattle.wiring.specs.Asks.{closed, closed_in}
use borrow.Enum.Refused.{opened}
use Rattle.wiring.proofs.walk.close.Goals as goal

pub returns-in-FixedPoint : goal.returns-in-FixedPoint
unfolding closed closed_in
returns-in-FixedPoint c =
    let e = ap is_fixed_point c.in-FixedPoint.is in
    (rw e, rw e c.close_loop.ensures)

pub returns-in_default : goal.returns-in_default
unfolding closed closed_in
returns-in_default c =
    let e = not_fixed_point c.args.node.rule (opened c.in_default.in_default-own.keys2) in
    (rw e, rw e)
