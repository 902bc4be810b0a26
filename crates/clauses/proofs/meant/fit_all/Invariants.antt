-- `clauses::fit_all` meets its contract. The invariant: what is left of the numbers and the values decides.
-- Assumes nothing.
use Rattle.clauses.proofs.MeantLaws.{FittingOn}
use Rattle.clauses.proofs.meant.fit_all.Given as goal

abbrev pub invariant-loop-i : goal.invariant-loop-i
invariant-loop-i l = FittingOn l.text l.work l.at l.n l.first l.i l.p
