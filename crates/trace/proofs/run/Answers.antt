-- `trace::run` meets its contract: after the stages the working memory is cleared. Assumes nothing.
use mathlib.Core.Path.{◌∙◌, ap}
use Rattle.translator.specs.Said.{called}
use Rattle.trace_calculus.specs.Trace.{run_call}
use Rattle.translator.proofs.CallLaws.{call-run}
use Rattle.trace.proofs.run.Goals as goal

pub returns : goal.returns
unfolding run_call
returns c =
    ap (called c.run_sheet-r.result c.run_sheet-r.new.out) c.clear.ensures
    ∙ call-run _ _ c.run_sheet-r.ensures.0 c.run_sheet-r.ensures.1
