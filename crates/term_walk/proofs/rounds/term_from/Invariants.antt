-- The invariant: the memory holds a state of the machine, from which it runs to what the definition says. The steps that
-- are left are above what the machine may still take. Assumes nothing.
use Rattle.term_walk.proofs.RoundLaws.{Rounds}
use Prim.Native.Nat.{◌-◌}
use Rattle.term_walk.proofs.rounds.term_from.Given as goal

abbrev pub invariant-loop : goal.invariant-loop
invariant-loop l = Rounds l.text l.initial.work l.at l.more l.frame l.top l.work l.n (6442549247 - l.counter)
