-- `scopes::name_numbers` meets its contract. The invariant: the entries that were named and the numbers that are left are the scope's numbers. Assumes nothing.
use Rattle.scopes.proofs.NamedLaws.{NamingNumbers}
use Rattle.scopes.proofs.named.name_numbers.Given as goal

abbrev pub invariant-loop-i : goal.invariant-loop-i
invariant-loop-i l = NamingNumbers l.text l.initial.work l.at l.n l.first l.work l.i l.p
