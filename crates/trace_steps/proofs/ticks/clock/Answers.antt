-- The invariant: the first j registers hold their inputs, or have turned. Assumes nothing.
use mathlib.Core.Path.{◌∙◌}
use Rattle.trace_steps.specs.Steps.{clock_one}
use Rattle.trace_steps.proofs.Laws.{loop_step, clock_within, clock_is, register_at_lem}
use Rattle.trace_steps.proofs.ticks.clock.Goals as goal

pub loop-j-preserved : goal.loop-j-preserved
loop-j-preserved c =
    let l = c.loop-j in
    let r = register_at_lem l.invariant.0 c.requires l.j c.loop-j-test.true in
    loop_step (clock_one c.args.turning) c.args.work.now l.work c.clock_one.new.work l.j l.invariant.0 l.invariant.1
    (c.clock_one.ensures ∙ clock_is c.args.turning l.work l.j _ c.at-o.ensures) (clock_within c.args.turning l.work l.j r)
