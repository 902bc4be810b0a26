-- The invariant: the clauses that are left make of the state what all clauses make of the first one. Assumes nothing.
use Rattle.maker.proofs.TriedLaws.{JudgedGoing}
use Rattle.maker.proofs.judged.judged.Given as goal

abbrev pub invariant-loop-k : goal.invariant-loop-k
invariant-loop-k l = JudgedGoing l.text l.initial.work l.work l.k
