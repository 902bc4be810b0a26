-- `clauses::row_at` meets its contract: number by number. Assumes nothing.
use mathlib.Core.Path.{refl}
use Rattle.clauses.specs.Rows.{row_in}
use Rattle.clauses.proofs.RowLaws.{row-parts}
use Rattle.clauses.proofs.rows.row_at.Goals as goal

pub returns : goal.returns
returns c = row-parts (row_in c.args.work.now c.args.k) _ _ _ _ _ _ _ _ _ c.from.ensures c.from-2.ensures c.from-3.ensures c.from-4.ensures c.from-5.ensures refl c.from-6.ensures c.from-7.ensures c.from-8.ensures
