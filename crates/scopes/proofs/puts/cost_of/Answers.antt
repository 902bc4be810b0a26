-- `scopes::cost_of` meets its contract. Assumes nothing.
use Rattle.scopes.proofs.PutLaws.{cost_none, cost_some}
use Rattle.scopes.proofs.puts.cost_of.Goals as goal

pub returns-then-start-r : goal.returns-then-start-r
returns-then-start-r c = let x = c.args in cost_none x.text.now x.r c.start_of-start.result c.start_of-start.ensures.2 c.if-start-r.true

pub returns : goal.returns
returns c = let x = c.args in cost_some x.text.now x.r c.start_of-start.result c.start_of-start.ensures.2
