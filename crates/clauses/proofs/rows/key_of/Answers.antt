-- `clauses::key_of` meets its contract. Assumes nothing.
use mathlib.Core.Path.{refl}
use Rattle.clauses.proofs.RowLaws.{key_type, key_term}
use Rattle.clauses.proofs.rows.key_of.Goals as goal

pub returns-then-sort : goal.returns-then-sort
returns-then-sort c = key_type _ _ c.name_key-h.result _ c.if-sort.true c.name_key-h.ensures.0 refl

pub returns : goal.returns
returns c = key_term _ _ c.name_key-h.result c.if-sort.false c.name_key-h.ensures.0
