-- The invariant: i pairs were taken apart, and what comes of the names that are left is the answer. Assumes nothing.
use Rattle.term_parts.proofs.RestsLaws.{RestsGoing}
use Rattle.term_parts.proofs.apart.take_rests.Given as goal

abbrev pub invariant-loop-i : goal.invariant-loop-i
invariant-loop-i l = RestsGoing l.text l.initial.work l.at l.count l.top l.waiting l.initial.s l.work l.p l.i l.s
