-- `clauses::cover_all` meets its contract. The invariant: what is left of the two lists decides.
-- Assumes nothing.
use Rattle.clauses.proofs.NumberLaws.{Covering}
use Rattle.clauses.proofs.numbers.cover_all.Given as goal

abbrev pub invariant-loop : goal.invariant-loop
invariant-loop l = Covering l.text l.a l.b l.n l.counter l.p l.q
