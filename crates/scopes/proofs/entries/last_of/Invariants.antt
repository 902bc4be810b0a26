-- `scopes::last_of` meets its contract. The invariant: the entries that are left decide. Assumes nothing.
use Rattle.scopes.proofs.EntryLaws.{LastLeft}
use Rattle.scopes.proofs.entries.last_of.Given as goal

abbrev pub invariant-loop-e : goal.invariant-loop-e
invariant-loop-e l = LastLeft l.text l.work l.name l.from l.to l.e
