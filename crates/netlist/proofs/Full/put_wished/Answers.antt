-- The wish decides. Assumes nothing.
use Rattle.netlist.proofs.Full.put_wished.Goals as goal

pub returns-then-self : goal.returns-then-self
returns-then-self c = rw c.if-self.true c.put_elements.ensures

pub returns-else-self : goal.returns-else-self
returns-else-self c = rw c.if-self.false c.put_elements-else-self.ensures
