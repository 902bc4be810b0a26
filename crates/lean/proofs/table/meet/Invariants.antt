-- The invariant: the mark is one step less than the span back from o. An output that is met again comes round, and so does what is 8,192 steps back
-- or more. Assumes nothing.
use Prim.Native.Nat.{◌≤◌, ◌-◌}
use Rattle.memory.specs.Map.{net_in}
use Rattle.lean.proofs.RoundLaws.{Meeting}
use Rattle.lean.proofs.table.meet.Given as goal

abbrev pub invariant-loop-span : goal.invariant-loop-span
invariant-loop-span l = (l.span ≤ 16384) × Meeting (net_in l.work l.full.elements l.full.wires l.full.pins) l.initial.mark.0 l.mark.0 l.span

abbrev pub decreases-loop-span : goal.decreases-loop-span
decreases-loop-span l = 16384 - l.span
