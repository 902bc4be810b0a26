-- The invariant: so many ticks are run. Assumes nothing.
use Rattle.trace_steps.specs.Words.{lane_zero}
use Rattle.trace_steps.specs.Ticks.{sizes, Ran}
use Rattle.trace_steps.proofs.ticks.run.Given as goal

abbrev pub invariant-loop-t : goal.invariant-loop-t
invariant-loop-t l =
    Ran lane_zero (sizes l.counts.settled l.counts.regs l.counts.pins) l.inputs l.reads l.writes l.t l.initial.work l.initial.out l.work l.out
