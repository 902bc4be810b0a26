-- Elements, wires and pins, one after the other. Assumes nothing.
use native.Mathlib.Omega.{arith}
use mathlib.Core.Path.{◌∙◌}
use lib.ListN.{length, drop}
use Rattle.memory.specs.Map.{makers_at}
use Rattle.lean.proofs.PutLaws.{fits, three}
use Rattle.lean.proofs.write_lean.Goals as goal

pub put_elements-first-requires : goal.put_elements-first-requires
put_elements-first-requires c =
    let a = c.args in
    (c.requires.0, omega (arith, fits a.plain a.work.now a.end a.pins c.requires.0 (drop makers_at a.work.now) (length a.out.now) c.requires.1))

pub put_wires-second-requires : goal.put_wires-second-requires
put_wires-second-requires c =
    let a = c.args in
    (c.requires.0, rw c.put_elements-first.auto.out (omega (arith, fits a.plain a.work.now a.end a.pins c.requires.0 (drop makers_at a.work.now) (length a.out.now) c.requires.1, c.put_elements-first.ensures.0)))

pub put_pins-requires : goal.put_pins-requires
put_pins-requires c =
    let a = c.args in (
      c.requires.0,
      rw (c.put_wires-second.auto.out ∙ c.put_elements-first.auto.out)
          (omega (arith, fits a.plain a.work.now a.end a.pins c.requires.0 (drop makers_at a.work.now) (length a.out.now) c.requires.1, c.put_elements-first.ensures.0, c.put_wires-second.ensures.0)),
    )

pub returns : goal.returns
returns c =
    let a = c.args in
    three a.plain a.work.now a.end a.pins c.requires.0 (drop makers_at a.work.now) a.out.now _ _ _ _ _ _ c.put_elements-first.ensures.0 c.put_elements-first.ensures.1 c.put_wires-second.ensures.0 c.put_wires-second.ensures.1 c.put_pins.ensures.0 c.put_pins.ensures.1
