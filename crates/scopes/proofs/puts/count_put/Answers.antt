-- `scopes::count_put` meets its contract. Assumes nothing.
use native.Mathlib.Omega.{arith}
use Rattle.scopes.proofs.PutLaws.{put-counted}
use Rattle.scopes.proofs.puts.count_put.Goals as goal

pub returns : goal.returns
returns c = put-counted c.args.work.now c.args.cost c.from-n.result c.from-n.ensures (omega (arith, c.if-cost-gt32767.false, c.if-cost-n.false))
