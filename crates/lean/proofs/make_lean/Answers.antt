-- The roots, then the pins, the inputs and the outputs. Assumes nothing.
use Rattle.lean.proofs.LeantLaws.{pins_asked, links-asked, names-asked, made}
use Rattle.lean.proofs.make_lean.Goals as goal

pub root_pins-requires : goal.root_pins-requires
root_pins-requires c =
    let a = c.args in
    pins_asked a.work.now c.roots-end.new.work a.elements a.wires a.pins c.roots-end.result c.requires.0 c.requires.1 c.roots-end.ensures.0 c.roots-end.ensures.1

pub link-requires : goal.link-requires
link-requires c =
    let a = c.args in
    links-asked a.work.now c.roots-end.new.work a.elements a.wires a.pins c.roots-end.result c.requires.0 c.requires.1 c.roots-end.ensures.0 c.roots-end.ensures.1 c.root_pins.new.work c.root_pins.ensures

pub name-requires : goal.name-requires
name-requires c =
    let a = c.args in
    names-asked a.work.now c.roots-end.new.work a.elements a.wires a.pins c.roots-end.result c.requires.0 c.requires.1 c.roots-end.ensures.0 c.roots-end.ensures.1 c.root_pins.new.work c.root_pins.ensures c.link.new.work c.link.ensures

pub returns : goal.returns
returns c =
    let a = c.args in
    made a.work.now c.roots-end.new.work a.elements a.wires a.pins c.roots-end.result c.requires.0 c.requires.1 c.roots-end.ensures.0 c.roots-end.ensures.1 c.root_pins.new.work c.root_pins.ensures c.link.new.work c.link.ensures c.name.new.work c.name.ensures
