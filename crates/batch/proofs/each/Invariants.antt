-- `batch::each` meets its contract. The invariant: the first k sheets are done, and what is left of the row makes the whole (`RowsGoing`).
-- Assumes nothing.
use mathlib.Core.Path.{◌≡◌}
use lib.ListN.{length}
use Rattle.translation.specs.Wished.{all_wish}
use Rattle.batch.proofs.RowLaws.{RowsGoing}
use Rattle.batch.proofs.each.Given as goal

abbrev pub invariant-loop-k : goal.invariant-loop-k
invariant-loop-k l =
    (RowsGoing (all_wish l.wish) l.sheets l.lengths l.initial.out l.initial.results l.initial.work l.out l.results l.work l.at l.used l.k) × (length l.out ≡ length l.initial.out) × (length l.results ≡ length l.initial.results) × (length l.work ≡ length l.initial.work)
