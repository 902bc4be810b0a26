-- `wiring::faces::end_of` meets its contract. Assumes nothing.
use Rattle.wiring.proofs.faces.end_of.Goals as goal

pub returns-then-input : goal.returns-then-input
returns-then-input c =
    rw c.if-input.true c.code_of.ensures

pub returns-else-input : goal.returns-else-input
returns-else-input c =
    rw c.if-input.false c.code_of-else-input.ensures
