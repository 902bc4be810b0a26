-- By whether the output is its own root. Assumes nothing.
use Rattle.lean.proofs.PassLaws.{name-kept, name-left}
use Rattle.lean.proofs.pass.name_point.Goals as goal

pub returns-then-work-o : goal.returns-then-work-o
returns-then-work-o c = let a = c.args in name-kept a.work.now a.n c.if-work-o.true

pub returns-else-work-o : goal.returns-else-work-o
returns-else-work-o c = let a = c.args in name-left a.work.now a.n c.if-work-o.false
