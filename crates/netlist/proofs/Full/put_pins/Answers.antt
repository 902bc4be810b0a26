-- The invariant: the output holds the records of the first i pins. Assumes nothing.
use native.Mathlib.Omega.{arith}
use mathlib.Core.Path.{◌∙◌}
use mathlib.Core.List.{map}
use Rattle.calculus.specs.Net.{pin_bytes}
use Rattle.memory.specs.Map.{stack_at, region, terminal_of}
use Rattle.netlist.proofs.Records.{record_more}
use Rattle.netlist.proofs.InMemory.{pins_more, pins_first}
use Rattle.netlist.proofs.Full.put_pins.Goals as goal

pub loop-i-preserved : goal.loop-i-preserved
loop-i-preserved c =
    let a = c.args in
    let l = c.loop-i in
    let put = c.put_pin-at in
    let w = a.self.work.now in
    let n = pins_first w stack_at l.i (omega arith) in
    let more = record_more a.out.now (pin_bytes (map terminal_of (region w stack_at l.i))) _ _ a.from l.at (omega arith) (pins_more w stack_at l.i (omega arith)) in (
      omega (arith, put.ensures.0),
      (
        put.auto.out ∙ l.invariant.1.0,
        put.ensures.1 ∙ rw (l.invariant.1.1, c.terminal_of.ensures) more,
      ),
    )
