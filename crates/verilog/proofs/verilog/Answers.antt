-- `verilog::verilog` meets its contract: after the stages the working memory is cleared. Assumes nothing.
use mathlib.Core.Path.{◌∙◌, ap}
use Rattle.translator.specs.Said.{called}
use Rattle.export_calculus.specs.Verilog.{verilog_call}
use Rattle.translator.proofs.CallLaws.{call-run}
use Rattle.verilog.proofs.verilog.Goals as goal

pub returns : goal.returns
unfolding verilog_call
returns c =
    ap (called c.export_sheet-r.result c.export_sheet-r.new.out) c.clear.ensures
    ∙ call-run _ _ c.export_sheet-r.ensures.0 c.export_sheet-r.ensures.1
