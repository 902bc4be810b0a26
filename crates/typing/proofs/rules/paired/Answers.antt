-- `typing::rules::paired` meets its contract: by the two sides. Assumes nothing.
use Rattle.typing.proofs.StepLaws.{paired-left, paired-right, paired-fits}
use Rattle.typing.proofs.rules.paired.Goals as goal

pub returns-then-a-q : goal.returns-then-a-q
returns-then-a-q c = paired-left _ c.sides_of-q.ensures _ _ _ c.from.ensures c.if-a-q.true

pub returns-then-b-q : goal.returns-then-b-q
returns-then-b-q c = paired-right _ c.sides_of-q.ensures _ _ _ c.from-then-b-q.ensures c.if-a-q.false c.if-b-q.true

pub returns : goal.returns
returns c = paired-fits _ c.sides_of-q.ensures _ _ _ c.if-a-q.false c.if-b-q.false
