-- By the rule of the table, or zero's row past its end. Assumes nothing.
use Rattle.parts.proofs.Rule.{right, right-past}
use Rattle.parts.proofs.part_of.Goals as goal

pub returns-then-i-lt7 : goal.returns-then-i-lt7
returns-then-i-lt7 c = right c.args.p c.if-i-lt7.true

pub returns : goal.returns
returns c = right-past c.args.p c.if-i-lt7.false
