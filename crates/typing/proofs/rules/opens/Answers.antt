-- `typing::rules::opens` meets its contract: by the rule of the node and the kind of the type. Assumes nothing.
use Rattle.typing.proofs.StepLaws.{open-fun, open-fun-not, open-lfun, open-lfun-not, open-pair, open-pair-not, open-fix, open-fix-not, open_none}
use borrow.Enum.Refused.{opened}
use Rattle.typing.proofs.rules.opens.Goals as goal

pub returns-then-q-eq3 : goal.returns-then-q-eq3
returns-then-q-eq3 c = open-fun _ c.sides_of-q.ensures _ _ c.in-Function.is c.if-q-eq3.true

pub returns-else-q-eq3 : goal.returns-else-q-eq3
returns-else-q-eq3 c = open-fun-not _ c.sides_of-q.ensures _ _ c.in-Function.is c.if-q-eq3.false

pub returns-then-q-eq4 : goal.returns-then-q-eq4
returns-then-q-eq4 c = open-lfun _ c.sides_of-q.ensures _ _ c.in-LinearFunction.is c.if-q-eq4.true

pub returns-else-q-eq4 : goal.returns-else-q-eq4
returns-else-q-eq4 c = open-lfun-not _ c.sides_of-q.ensures _ _ c.in-LinearFunction.is c.if-q-eq4.false

pub returns-then-q-eq2 : goal.returns-then-q-eq2
returns-then-q-eq2 c = open-pair _ c.sides_of-q.ensures _ _ c.in-Pair.is c.if-q-eq2.true

pub returns-else-q-eq2 : goal.returns-else-q-eq2
returns-else-q-eq2 c = open-pair-not _ c.sides_of-q.ensures _ _ c.in-Pair.is c.if-q-eq2.false

pub returns-then-q-le2 : goal.returns-then-q-le2
returns-then-q-le2 c = open-fix _ c.sides_of-q.ensures _ _ c.in-FixedPoint.is c.if-q-le2.true

pub returns-else-q-le2 : goal.returns-else-q-le2
returns-else-q-le2 c = open-fix-not _ c.sides_of-q.ensures _ _ c.in-FixedPoint.is c.if-q-le2.false

pub returns-in_default : goal.returns-in_default
returns-in_default c = open_none c.args.rule _ _ (opened c.in_default.in_default-own.keys5)
