-- `scopes::numbers_given` meets its contract. The invariant: the values that were given stand in the scope, and the numbers that are left go
-- on from them. Assumes nothing.
use Rattle.scopes.proofs.GivenLaws.{Giving}
use Rattle.scopes.proofs.arguments.numbers_given.Given as goal

abbrev pub invariant-loop-i : goal.invariant-loop-i
invariant-loop-i l = Giving l.text l.initial.work l.f l.start l.n l.name l.top l.work l.i l.p
