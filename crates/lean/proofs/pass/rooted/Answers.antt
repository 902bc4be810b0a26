-- By the direction. Assumes nothing.
use Rattle.lean.proofs.PassLaws.{rooted_in_lem, rooted_out}
use Rattle.lean.proofs.pass.rooted.Goals as goal

pub returns-then-code-eq0 : goal.returns-then-code-eq0
returns-then-code-eq0 c = let a = c.args in rooted_in_lem a.work.now a.code c.if-code-eq0.true

pub returns : goal.returns
returns c = let a = c.args in rooted_out a.work.now a.code c.if-code-eq0.false
