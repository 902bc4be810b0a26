-- `records::form_of` meets its contract: by the rule. Assumes nothing.
use Rattle.records.proofs.form_of.Goals as goal

pub returns-in-Product : goal.returns-in-Product
returns-in-Product c = rw c.in-Product.is

pub returns-in-Arrow : goal.returns-in-Arrow
returns-in-Arrow c = rw c.in-Arrow.is

pub returns-in-Linear : goal.returns-in-Linear
returns-in-Linear c = rw c.in-Linear.is
