-- An output that is not settled is by one step back, or by what is met. Assumes nothing.
use Rattle.lean.proofs.SettleLaws.{loose_out, settled_near}
use Rattle.lean.proofs.table.root_one.Goals as goal

pub near-requires : goal.near-requires
near-requires c =
    let a = c.args in
    let z = c.if-work-n.true in
    (c.requires.0, (loose_out a.work.now a.full.elements a.full.wires a.full.pins c.requires.0 a.n c.requires.1 z, z))

pub root_far-requires : goal.root_far-requires
root_far-requires c =
    let a = c.args in
    (c.requires.0, loose_out a.work.now a.full.elements a.full.wires a.full.pins c.requires.0 a.n c.requires.1 c.if-work-n.true)

pub returns-in-Some : goal.returns-in-Some
returns-in-Some c =
    let a = c.args in
    let z = c.if-work-n.true in
    settled_near a.work.now a.full.elements a.full.wires a.full.pins a.n c.requires.0 (loose_out a.work.now a.full.elements a.full.wires a.full.pins c.requires.0 a.n c.requires.1 z) z
    c.in-Some.r.0 c.in-Some.ensures
