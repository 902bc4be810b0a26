-- The invariant: so many names are bound, and those from p on are left. Assumes nothing.
use Rattle.term_parts.proofs.BindLaws.{Binding}
use Rattle.term_parts.proofs.bound.bind_names.Given as goal

abbrev pub invariant-loop-i : goal.invariant-loop-i
invariant-loop-i l = Binding l.text l.initial.work l.at l.count l.top l.ty l.work l.i l.p
