-- `scopes::last_at` meets its contract. The invariant: the entries that are left decide. Assumes nothing.
use Rattle.scopes.proofs.EntryLaws.{PlacedLeft}
use Rattle.scopes.proofs.entries.last_at.Given as goal

abbrev pub invariant-loop-e : goal.invariant-loop-e
invariant-loop-e l = PlacedLeft l.work l.place l.from l.to l.e
