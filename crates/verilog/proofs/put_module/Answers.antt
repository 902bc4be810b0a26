-- The opening, the body and the end, one behind the other. Assumes nothing.
use native.Mathlib.Omega.{arith}
use Rattle.export_calculus.specs.Verilog.{module_end}
use Rattle.verilog.proofs.ModuleLaws.{opening-low, body-low, module_wrote}
use Rattle.verilog.proofs.put_module.Goals as goal

pub put_body-last-requires : goal.put_body-last-requires
put_body-last-requires c =
    (c.requires, opening-low c.args.net.work.now c.args.net.end c.args.net.pins c.requires c.put_opening-first.ensures)

pub put_form-requires : goal.put_form-requires
put_form-requires c =
    let a = c.args in
    let h = opening-low a.net.work.now a.net.end a.net.pins c.requires c.put_opening-first.ensures in
    let k = body-low a.net.work.now a.net.end a.net.pins c.requires h c.put_body-last.ensures in
    (omega arith, omega arith)

pub returns : goal.returns
unfolding module_end
returns c =
    module_wrote c.args.net.work.now c.args.net.end c.args.net.pins c.requires c.put_opening-first.ensures c.put_body-last.ensures c.put_form.ensures
