-- `grammar::depth` meets its contract, by what the word opens and closes. Assumes nothing.
use native.Mathlib.Omega.{arith}
use Rattle.grammar.proofs.HeadLaws.{depth-opens, depth-closes, depth-closed, depth_same}
use Rattle.grammar.proofs.heads.depth.Goals as goal

pub overflow_add-result : goal.overflow_add-result
overflow_add-result c = record { fits = omega (arith, c.requires, c.well_formed, c.ranges) }

pub returns-then-opens : goal.returns-then-opens
returns-then-opens c = depth-opens c.args.kind c.args.deep c.opens.result c.opens.ensures c.if-opens.true

pub returns-then-deep-eq0 : goal.returns-then-deep-eq0
returns-then-deep-eq0 c = depth-closed c.args.kind c.args.deep c.opens.result c.opens.ensures c.if-opens.false c.closes.result c.closes.ensures c.if-closes.true c.if-deep-eq0.true

pub overflow_sub-result : goal.overflow_sub-result
overflow_sub-result c = omega (arith, c.if-deep-eq0.false)

pub returns-then-closes : goal.returns-then-closes
returns-then-closes c = depth-closes c.args.kind c.args.deep c.opens.result c.opens.ensures c.if-opens.false c.closes.result c.closes.ensures c.if-closes.true

pub returns : goal.returns
returns c = depth_same c.args.kind c.args.deep c.opens.result c.opens.ensures c.if-opens.false c.closes.result c.closes.ensures c.if-closes.false
