-- `clauses::defines` meets its contract. Assumes nothing.
use Rattle.clauses.proofs.ItemLaws.{defines_end, defines_other}
use Rattle.clauses.proofs.texts.defines.Goals as goal

pub returns-then-kind-eq0 : goal.returns-then-kind-eq0
returns-then-kind-eq0 c = defines_end c.args.kind c.if-kind-eq0.true

pub returns : goal.returns
returns c = defines_other c.args.kind c.if-kind-eq0.false
