-- The invariant: x is so many steps back from o, and low is the lowest up to x. Assumes nothing.
use Prim.Native.Nat.{◌<◌}
use Rattle.memory.specs.Map.{net_in}
use Rattle.lean.proofs.RoundLaws.{Rounding}
use Rattle.lean.proofs.table.round.Given as goal

abbrev pub invariant-loop : goal.invariant-loop
invariant-loop l =
    (l.x.0 < 8192) × ((l.low.0 < 8192) × Rounding l.work (net_in l.work l.full.elements l.full.wires l.full.pins) l.o.0 l.x.0 l.low.0 l.counter)
