-- `wiring::finish` meets its contract: by the rule. Assumes nothing.
use native.Mathlib.Omega.{arith}
use mathlib.Core.Path.{ap}
use Rattle.records.specs.Rules.{is_pair}
use Rattle.records.specs.TypeNumbers.{sided_of}
use Rattle.records.specs.declared.Sided.{Sided}
use Rattle.wiring.specs.Asks.{of_body, finished, finished_in}
use Rattle.wiring.proofs.FinishLaws.{body_of, application}
use borrow.Enum.Refused.{opened}
use Rattle.wiring.proofs.walk.finish.Goals as goal

pub apply-requires : goal.apply-requires
apply-requires c =
    let (e, g) = application c.args.node.rule (opened c.in_default.in_default-own.keys3) in
    let h = c.requires.apart e g in
    (h.0, omega (arith, c.requires.height, c.requires.memory), h.1)

pub overflow_sub-result : goal.overflow_sub-result
overflow_sub-result c =
    let (e, g) = application c.args.node.rule (opened c.in_default.in_default-own.keys3) in
    (c.requires.apart e g).0

pub returns-in-Projection : goal.returns-in-Projection
unfolding finished finished_in
returns-in-Projection c =
    let e = body_of c.args.node.rule c.in-Projection.in-Projection-own.keys1 in
    (rw e, rw e c.copy.ensures)

pub returns-in-Pair : goal.returns-in-Pair
unfolding finished finished_in
returns-in-Pair c =
    let e = ap of_body c.in-Pair.is in
    let g = ap is_pair c.in-Pair.is in
    (rw (e, g), rw (e, g))

pub returns-in_default : goal.returns-in_default
unfolding finished finished_in sided_of
returns-in_default c =
    let (e, g) = application c.args.node.rule (opened c.in_default.in_default-own.keys3) in
    (rw (e, g, ap (λ (x : Sided). x.right) c.sides_of.ensures), rw (e, g) c.apply.ensures)
