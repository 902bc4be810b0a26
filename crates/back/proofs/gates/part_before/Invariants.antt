-- The invariant: the part is not among the first r. Assumes nothing.
use mathlib.Core.Path.{◌≡◌}
use Prim.Native.Nat.{◌+◌, ◌*◌}
use lib.ListN.{drop}
use Rattle.back_calculus.specs.Back.{part_before}
use Rattle.back.specs.Gates.{net_here}
use Rattle.back.proofs.gates.part_before.Given as goal

abbrev pub invariant-loop-r : goal.invariant-loop-r
invariant-loop-r l = (l.r + part_before (drop l.r (net_here l.net).elements) l.o ≡ part_before (net_here l.net).elements l.o) × (l.at ≡ 4 * l.r)
