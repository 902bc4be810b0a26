-- By the code of the word. Assumes nothing.
use Rattle.term_parts.proofs.ListLaws.{deeper_open, deeper_close, deeper-same}
use Rattle.term_parts.proofs.names.deeper.Goals as goal

pub returns-then-kind-eq-ROUND : goal.returns-then-kind-eq-ROUND
returns-then-kind-eq-ROUND c = deeper_open c.args.kind c.args.deep c.if-kind-eq-ROUND.true

pub returns-then-kind-eq-END_ROUND : goal.returns-then-kind-eq-END_ROUND
returns-then-kind-eq-END_ROUND c = deeper_close c.args.kind c.args.deep c.if-kind-eq-ROUND.false c.if-kind-eq-END_ROUND.true

pub returns : goal.returns
returns c = deeper-same c.args.kind c.args.deep c.if-kind-eq-ROUND.false c.if-kind-eq-END_ROUND.false
