-- The invariant: x is the steps that are made back from the mark. Assumes nothing.
use Prim.Native.Nat.{◌<◌}
use Rattle.memory.specs.Map.{net_in}
use Rattle.lean.proofs.RoundLaws.{Walking}
use Rattle.lean.proofs.table.walk.Given as goal

abbrev pub invariant-loop : goal.invariant-loop
invariant-loop l = (l.x.0 < 8192) × Walking (net_in l.work l.full.elements l.full.wires l.full.pins) l.mark.0 l.x.0 l.steps l.counter
