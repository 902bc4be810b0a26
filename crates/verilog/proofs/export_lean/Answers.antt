-- `verilog::export_lean` meets its contract: the ring, then the length, then the text. Assumes nothing.
use native.Mathlib.Omega.{arith}
use Rattle.verilog.proofs.ExportLaws.{ring_says, short-says, module-says}
use Rattle.verilog.proofs.export_lean.Goals as goal

pub returns-in-Some : goal.returns-in-Some
returns-in-Some c =
    let a = c.args in
    rw c.at.ensures (ring_says a.net.work.now a.net.end a.net.pins c.requires _ c.lowest.ensures a.out.now _ c.in-Some.is)

pub returns-then-out-n : goal.returns-then-out-n
returns-then-out-n c =
    let a = c.args in
    rw c.at-then-out-n.ensures
    (short-says a.net.work.now a.net.end a.net.pins c.requires _ c.lowest.ensures a.out.now c.in_default.is _ c.put_module-n.ensures.offset c.if-out-n.true)

pub returns : goal.returns
returns c =
    let a = c.args in
    let n = c.put_module-n.ensures.offset in
    let z = c.if-out-n.false in
    module-says a.net.work.now a.net.end a.net.pins c.requires _ c.lowest.ensures a.out.now c.in_default.is (omega arith) c.put_module.ensures
