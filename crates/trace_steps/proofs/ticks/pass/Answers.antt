-- The invariant: the first j outputs of the order have their bits. Assumes nothing.
use mathlib.Core.Path.{ap, ◌∙◌}
use Rattle.trace_steps.specs.Words.{word_pass, word_step}
use Rattle.trace_steps.proofs.Laws.{loop_step, pass_within, ordered_at}
use Rattle.trace_steps.proofs.ticks.pass.Goals as goal

pub loop-j-preserved : goal.loop-j-preserved
loop-j-preserved c =
    let l = c.loop-j in
    let h = c.loop-j-test.true in
    loop_step word_pass c.args.work.now l.work c.step.new.work l.j l.invariant.0 l.invariant.1
    (c.step.ensures ∙ ap (word_step l.work) c.at-o.ensures) (pass_within l.work l.j (ordered_at l.invariant.0 c.requires l.j h))
