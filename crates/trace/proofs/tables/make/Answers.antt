-- The lean netlist, its table and its pins. Assumes nothing.
use Rattle.trace.proofs.LeanTables.{made}
use Rattle.trace.proofs.tables.make.Goals as goal

pub returns : goal.returns
returns c =
    let a = c.args in
    made a.work.now a.elements a.wires a.pins c.requires.0 c.make_lean-end.new.work c.make_lean-end.result c.make_lean-end.ensures c.copy_table.new.work c.copy_table.ensures c.copy_pins.new.work c.copy_pins.ensures
