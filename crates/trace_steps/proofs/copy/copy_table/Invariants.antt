-- The invariant: the first x entries are copied. Assumes nothing.
use Rattle.trace_steps.specs.Copied.{TableCopied}
use Rattle.trace_steps.proofs.copy.copy_table.Given as goal

abbrev pub invariant-loop-x : goal.invariant-loop-x
invariant-loop-x l = TableCopied l.initial.work l.x l.work
