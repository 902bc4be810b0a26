-- `wiring::apply` meets its contract: wires, then a copy. Assumes nothing.
use Rattle.wiring.specs.Asks.{applied_in}
use Rattle.wiring.proofs.walk.apply.Goals as goal

pub returns : goal.returns
unfolding applied_in
returns c =
    rw c.connect.ensures at c.copy.ensures
