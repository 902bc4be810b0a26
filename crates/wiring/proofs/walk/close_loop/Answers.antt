-- `wiring::close_loop` meets its contract: wires, then a copy. Assumes nothing.
use Rattle.wiring.specs.Asks.{looped}
use Rattle.wiring.proofs.walk.close_loop.Goals as goal

pub returns : goal.returns
unfolding looped
returns c =
    rw c.connect.ensures at c.copy.ensures
