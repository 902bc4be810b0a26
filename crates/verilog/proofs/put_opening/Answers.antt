-- The header, the ports and what closes them, one behind the other. Assumes nothing.
use native.Mathlib.Omega.{arith}
use Rattle.export_calculus.specs.Verilog.{header, ports_end}
use Rattle.verilog.specs.declared.walk.Group.TheVariants as group
use Rattle.verilog.proofs.ModuleLaws.{header-low, group_low, opening-wrote}
use Rattle.verilog.proofs.put_opening.Goals as goal

pub put_group-closing-requires : goal.put_group-closing-requires
unfolding header
put_group-closing-requires c =
    (c.requires, omega (arith, header-low c.args.net.work.now c.args.net.end c.args.net.pins c.requires c.put_form-ports.ensures))

pub put_form-requires : goal.put_form-requires
unfolding header
put_form-requires c =
    let a = c.args in
    let l = header-low a.net.work.now a.net.end a.net.pins c.requires c.put_form-ports.ensures in
    let k = group_low a.net.work.now a.net.end a.net.pins c.requires group.Ports c.put_group-closing.ensures in
    (omega arith, omega arith)

pub returns : goal.returns
unfolding header ports_end
returns c =
    opening-wrote c.args.net.work.now c.args.net.end c.args.net.pins c.requires c.put_form-ports.ensures c.put_group-closing.ensures c.put_form.ensures
