-- `wiring::faces::size_of` meets its contract: the table has 256 entries. Assumes nothing.
use Rattle.wiring.proofs.faces.size_of.Goals as goal

pub returns : goal.returns
returns c =
    rw c.wide.ensures at c.wide-2.ensures
