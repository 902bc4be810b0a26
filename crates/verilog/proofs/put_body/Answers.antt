-- The three groups, one behind the other. Assumes nothing.
use native.Mathlib.Omega.{arith}
use Rattle.lines.proofs.Stores.{wrote-two}
use Rattle.verilog.specs.declared.walk.Group.TheVariants as group
use Rattle.verilog.proofs.ModuleLaws.{group_low}
use Rattle.verilog.proofs.put_body.Goals as goal

pub put_group-third-requires : goal.put_group-third-requires
put_group-third-requires c =
    let a = c.args in
    (c.requires.0, omega (arith, c.requires.1, group_low a.net.work.now a.net.end a.net.pins c.requires.0 group.Elements c.put_group-second.ensures))

pub put_group-requires : goal.put_group-requires
put_group-requires c =
    let a = c.args in
    let h = group_low a.net.work.now a.net.end a.net.pins c.requires.0 group.Elements c.put_group-second.ensures in
    (c.requires.0, omega (arith, c.requires.1, h, group_low a.net.work.now a.net.end a.net.pins c.requires.0 group.Wires c.put_group-third.ensures))

pub returns : goal.returns
returns c =
    wrote-two c.put_group-second.ensures (wrote-two c.put_group-third.ensures c.put_group.ensures)
