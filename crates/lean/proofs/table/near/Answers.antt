-- An output has the root of the output one step back, and is its own root where that is itself. Assumes nothing.
use native.Mathlib.Omega.{arith}
use mathlib.Core.Path.{sym, ◌∙◌}
use Prim.Native.Nat.{◌≤◌, ◌<◌}
use lib.ListN.{length}
use Rattle.memory.specs.Map.{memory_size}
use Rattle.lean.proofs.SettleLaws.{near_itself, near_settled, near_out}
use Rattle.lean.proofs.table.near.Goals as goal

pub returns-then-d-o : goal.returns-then-d-o
returns-then-d-o c =
    let a = c.args in
    near_itself a.work.now a.full.elements a.full.wires a.full.pins a.o.0 c.requires.0 c.requires.1.0 c.requires.1.1 (sym c.back_of-d.ensures ∙ c.if-d-o.true)

pub bounds-work-d : goal.bounds-work-d
bounds-work-d c =
    let a = c.args in
    let z : memory_size ≤ length a.work.now = c.requires.0.ready.size in
    let l : c.back_of-d.result.0 < 8192 = near_out a.work.now a.full.elements a.full.wires a.full.pins a.o.0 c.requires.0 c.requires.1.0 c.requires.1.1 c.back_of-d.result.0 c.back_of-d.ensures in
    omega arith

pub returns-else-r : goal.returns-else-r
returns-else-r c =
    let a = c.args in
    near_settled a.work.now a.full.elements a.full.wires a.full.pins a.o.0 c.requires.0 c.requires.1.0 c.requires.1.1 c.back_of-d.result.0 c.back_of-d.ensures c.if-r.false
