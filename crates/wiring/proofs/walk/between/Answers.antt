-- `wiring::between` meets its contract: by the rule. Assumes nothing.
use mathlib.Core.Path.{ap}
use Rattle.records.specs.Rules.{is_projection, is_naming}
use Rattle.wiring.specs.Asks.{middle, between_in}
use Rattle.wiring.proofs.FinishLaws.{binds_none}
use borrow.Enum.Refused.{opened}
use Rattle.wiring.proofs.walk.between.Goals as goal

pub returns-in-Projection : goal.returns-in-Projection
unfolding middle between_in
returns-in-Projection c =
    let e = ap is_projection c.in-Projection.is in
    (rw e, rw e c.bind_halves.ensures)

pub returns-in-Naming : goal.returns-in-Naming
unfolding middle between_in
returns-in-Naming c =
    let e = ap is_projection c.in-Naming.is in
    let g = ap is_naming c.in-Naming.is in
    (rw (e, g), rw (e, g) c.bind.ensures)

pub returns-in_default : goal.returns-in_default
unfolding middle between_in
returns-in_default c =
    let (e, g) = binds_none c.args.node.rule (opened c.in_default.in_default-own.keys3) in
    (rw (e, g), rw (e, g))
