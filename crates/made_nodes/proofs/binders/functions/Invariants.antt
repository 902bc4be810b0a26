-- The invariant: the functions of the names from `left` on are made. Assumes nothing.
use Rattle.made_nodes.proofs.FunctionLaws.{FunctionsGoing}
use Rattle.made_nodes.proofs.binders.functions.Given as goal

abbrev pub invariant-loop-left : goal.invariant-loop-left
invariant-loop-left l = FunctionsGoing l.initial.work l.from l.count l.t l.initial.f l.work l.f l.left
