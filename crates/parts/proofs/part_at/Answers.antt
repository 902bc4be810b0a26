-- `parts::part_at` meets its contract: by the rule of the table, or past its end. Assumes nothing.
use Rattle.parts.proofs.Rule.{named-part, named_none}
use Rattle.parts.proofs.part_at.Goals as goal

pub returns-then-i-lt7 : goal.returns-then-i-lt7
returns-then-i-lt7 c = named-part c.args.p c.if-i-lt7.true

pub returns-else-i-lt7 : goal.returns-else-i-lt7
returns-else-i-lt7 c = named_none c.args.p c.if-i-lt7.false
