-- The invariant: x has the same root as o, and o is settled, but at the start. Assumes nothing.
use Prim.Native.Nat.{◌<◌, ◌≤◌}
use lib.ListN.{length}
use Rattle.memory.specs.Map.{memory_size}
use Rattle.lean.proofs.SettleLaws.{SettlingOne}
use Rattle.lean.proofs.table.settle.Given as goal

abbrev pub invariant-loop : goal.invariant-loop
invariant-loop l =
    ((l.x.0 < 8192) × (memory_size ≤ length l.work)) × SettlingOne l.initial.work l.work l.full.elements l.full.wires l.full.pins l.initial.x.0 l.r.0 l.x.0 l.counter
