-- `records::sides_of` meets its contract: by the form of the record. Assumes nothing.
use Rattle.records.specs.TypeNumbers.{sided_of}
use Rattle.records.proofs.sides_of.Goals as goal

pub returns-in-Bit : goal.returns-in-Bit
unfolding sided_of
returns-in-Bit c = rw (← c.type_at.ensures, c.in-Bit.is)

pub returns-in-Product : goal.returns-in-Product
unfolding sided_of
returns-in-Product c = rw (← c.type_at.ensures, c.in-Product.is)

pub returns-in-Arrow : goal.returns-in-Arrow
unfolding sided_of
returns-in-Arrow c = rw (← c.type_at.ensures, c.in-Arrow.is)

pub returns-in-Linear : goal.returns-in-Linear
unfolding sided_of
returns-in-Linear c = rw (← c.type_at.ensures, c.in-Linear.is)
