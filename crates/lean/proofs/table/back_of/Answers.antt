-- An output that is not settled is at least 1, and its step back is an output. Assumes nothing.
use native.Mathlib.Omega.{arith}
use Prim.Native.Nat.{◌<◌, ◌≤◌}
use lib.ListN.{length}
use Rattle.memory.specs.Map.{memory_size}
use Rattle.lean.proofs.DriverLaws.{output-below}
use Rattle.lean.proofs.table.back_of.Goals as goal

-- x is at least 1 and below 8,192
pub offset_bounds-work-x : goal.offset_bounds-work-x
offset_bounds-work-x c =
    let a = c.args in
    let l : a.x.0 < 8192 = output-below a.work.now a.full.elements a.full.wires a.full.pins c.requires.0.ready a.x.0 c.requires.1.0 in
    omega arith

pub bounds-work-x : goal.bounds-work-x
bounds-work-x c =
    let a = c.args in
    let z : memory_size ≤ length a.work.now = c.requires.0.ready.size in
    let l : a.x.0 < 8192 = output-below a.work.now a.full.elements a.full.wires a.full.pins c.requires.0.ready a.x.0 c.requires.1.0 in
    omega arith
