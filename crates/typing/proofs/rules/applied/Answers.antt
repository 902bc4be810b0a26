-- `typing::rules::applied` meets its contract: by the kind and the left side. Assumes nothing.
use Rattle.typing.proofs.StepLaws.{applied-kind, applied-left, applied-fits}
use Rattle.typing.proofs.rules.applied.Goals as goal

pub returns-then-q-k : goal.returns-then-q-k
returns-then-q-k c = applied-kind _ c.sides_of-q.ensures _ _ _ c.if-q-k.true

pub returns-then-a-q : goal.returns-then-a-q
returns-then-a-q c = applied-left _ c.sides_of-q.ensures _ _ _ c.from.ensures c.if-q-k.false c.if-a-q.true

pub returns : goal.returns
returns c = applied-fits _ c.sides_of-q.ensures _ _ _ c.if-q-k.false c.if-a-q.false
