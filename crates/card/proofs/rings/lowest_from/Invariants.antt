-- The invariant: no ring point's output stands from the start on and before terminal x. Assumes nothing.
use mathlib.Core.Path.{◌≡◌}
use Prim.Native.Nat.{◌-◌}
use Rattle.card.specs.Rings.{lowest_from}
use Rattle.card.proofs.rings.lowest_from.Given as goal

abbrev pub invariant-loop-x : goal.invariant-loop-x
invariant-loop-x l = lowest_from l.work (l.end - l.x) l.x ≡ lowest_from l.work (l.end - l.from) l.from
