-- `scopes::name_types` meets its contract. The invariant: the entries that were named and the names that are left are the scope's types. Assumes nothing.
use Rattle.scopes.proofs.NamedLaws.{NamingTypes}
use Rattle.scopes.proofs.named.name_types.Given as goal

abbrev pub invariant-loop-i : goal.invariant-loop-i
invariant-loop-i l = NamingTypes l.text l.initial.work l.at l.n l.first l.work l.i l.p
