-- Three rows, one behind the other. Assumes nothing.
use native.Mathlib.Omega.{arith}
use Rattle.netlist.proofs.Whole.{elements_fit, wires_fit, pins_fit, rows}
use Rattle.netlist.proofs.write_full.Goals as goal

pub put_wished-first-requires : goal.put_wished-first-requires
put_wished-first-requires c =
    let a = c.args in
    let ok = c.requires in
    elements_fit a.plain a.work.now a.elements a.wires a.pins _ ok

pub put_wires-second-requires : goal.put_wires-second-requires
put_wires-second-requires c =
    let a = c.args in
    let ok = c.requires in
    let put = c.put_wished-first in
    rw put.auto.out (wires_fit a.plain a.work.now a.elements a.wires a.pins _ ok put.result put.ensures.0)

pub put_pins-requires : goal.put_pins-requires
put_pins-requires c =
    let a = c.args in
    let ok = c.requires in
    let first = c.put_wished-first in
    let second = c.put_wires-second in
    rw (second.auto.out, first.auto.out) (pins_fit a.plain a.work.now a.elements a.wires a.pins _ ok second.result (omega (arith, first.ensures.0, second.ensures.0)))

pub returns : goal.returns
returns c =
    let a = c.args in
    let ok = c.requires in
    let first = c.put_wished-first in
    let second = c.put_wires-second in
    let third = c.put_pins in
    rows a.plain a.work.now a.elements a.wires a.pins _ ok a.out.now _ _ _ _ _ _ first.ensures.0 first.ensures.1 second.ensures.0 second.ensures.1 third.ensures.0 third.ensures.1
