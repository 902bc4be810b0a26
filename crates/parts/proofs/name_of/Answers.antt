-- By the rule of the table of names, or past its end. Assumes nothing.
use mathlib.Core.Path.{refl}
use Rattle.parts.proofs.Rule.{name-right, name-none}
use Rattle.parts.proofs.name_of.Goals as goal

pub returns-then-i-lt7 : goal.returns-then-i-lt7
returns-then-i-lt7 c = name-right c.args.p c.if-i-lt7.true

pub returns : goal.returns
returns c = rw (name-none c.args.p c.if-i-lt7.false) (refl, refl)
