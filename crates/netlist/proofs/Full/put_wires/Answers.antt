-- The invariant: the output holds the records of the first i wires. Assumes nothing.
use native.Mathlib.Omega.{arith}
use mathlib.Core.Path.{◌∙◌}
use native.Mathlib.Nat.{zero-add}
use Rattle.calculus.specs.Net.{wire_bytes}
use Rattle.memory.specs.Map.{targets_at, region, wires_from}
use Rattle.netlist.proofs.Records.{record_more}
use Rattle.netlist.proofs.InMemory.{wires_more, wires_first}
use Rattle.netlist.proofs.Full.put_wires.Goals as goal

pub loop-i-preserved : goal.loop-i-preserved
loop-i-preserved c =
    let a = c.args in
    let l = c.loop-i in
    let put = c.put_wire-at in
    let w = a.self.work.now in
    let n = wires_first w targets_at l.i (omega arith) in
    let more = record_more a.out.now (wire_bytes (wires_from w (region w targets_at l.i))) _ _ a.from l.at (omega arith) (wires_more w targets_at l.i (omega arith)) in (
      omega (arith, put.ensures.0),
      (
        put.auto.out ∙ l.invariant.1.0,
        put.ensures.1 ∙ rw (l.invariant.1.1, zero-add) more,
      ),
    )
