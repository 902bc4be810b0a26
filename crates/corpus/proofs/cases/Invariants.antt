-- The invariant: the three rooms keep their lengths. Assumes nothing.
use mathlib.Core.Path.{◌≡◌}
use lib.ListN.{length}
use Rattle.corpus.proofs.cases.Given as goal

abbrev pub invariant-loop : goal.invariant-loop
invariant-loop l = (length l.sheet ≡ length l.initial.sheet) × (length l.out ≡ length l.initial.out) × (length l.work ≡ length l.initial.work)
