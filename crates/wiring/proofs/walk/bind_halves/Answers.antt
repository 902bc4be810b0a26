-- `wiring::bind_halves` meets its contract. Assumes nothing.
use Rattle.records.specs.TypeNumbers.{sided_of}
use Rattle.wiring.specs.Asks.{halved}
use Rattle.wiring.proofs.walk.bind_halves.Goals as goal

pub returns : goal.returns
unfolding halved sided_of
returns c =
    rw (c.bind.ensures, c.size_of-l.ensures, c.sides_of-x.ensures) at c.bind-2.ensures
