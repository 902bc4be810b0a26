-- `grammar::stops` meets its contract, by the code and the depth. Assumes nothing.
use Rattle.grammar.proofs.HeadLaws.{stops_end, stops-none, stops-inside}
use Rattle.grammar.proofs.heads.stops.Goals as goal

pub returns-then-kind-eq0 : goal.returns-then-kind-eq0
returns-then-kind-eq0 c = stops_end c.args.kind c.args.deep c.if-kind-eq0.true

pub returns-then-deep-eq0 : goal.returns-then-deep-eq0
returns-then-deep-eq0 c = stops-none c.args.kind c.args.deep c.if-kind-eq0.false c.if-deep-eq0.true c.opens.result c.opens.ensures

pub returns : goal.returns
returns c = stops-inside c.args.kind c.args.deep c.if-kind-eq0.false c.if-deep-eq0.false
