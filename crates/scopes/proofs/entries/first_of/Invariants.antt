-- `scopes::first_of` meets its contract. The invariant: the entries that are left decide. Assumes nothing.
use Rattle.scopes.proofs.EntryLaws.{FirstLeft}
use Rattle.scopes.proofs.entries.first_of.Given as goal

abbrev pub invariant-loop-e : goal.invariant-loop-e
invariant-loop-e l = FirstLeft l.text l.work l.name l.from l.to l.e
