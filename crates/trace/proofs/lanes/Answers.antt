-- `trace::lanes` meets its contract: after the stages the working memory is cleared. Assumes nothing.
use mathlib.Core.Path.{◌∙◌, ap}
use Rattle.trace.specs.Said.{lanes_called}
use Rattle.trace.proofs.CallLaws.{call_lanes}
use Rattle.trace.proofs.lanes.Goals as goal

pub returns : goal.returns
returns c =
    let a = c.args in
    let k = c.clear in
    let r = c.lanes_sheet-r in
    ap (lanes_called r.result r.new.out r.new.state) k.ensures
    ∙ call_lanes a.sheet.now a.inputs.now a.state.now a.out.now a.work.now a.ticks r.result r.new.out r.new.state _ r.ensures.0 r.ensures.1
