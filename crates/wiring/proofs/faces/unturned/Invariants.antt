-- `wiring::faces::unturned` meets its contract: what is still to be stored, stored over what stands, is the whole. Assumes nothing.
use Prim.Native.Nat.{◌+◌}
use mathlib.Core.Path.{◌≡◌}
use mathlib.Core.Bool.{false}
use lib.ListN.{length, drop, replicate}
use lib.Seq.{sets}
use Rattle.wiring.specs.Sides.{face}
use Rattle.wiring.proofs.faces.unturned.Given as goal

abbrev pub invariant-loop-j : goal.invariant-loop-j
invariant-loop-j l = (length l.work ≡ length l.initial.work)
    × (sets l.work (l.to + l.j) (drop l.j (face l.output (replicate l.l false) l.n)) ≡ sets l.initial.work l.to (face l.output (replicate l.l false) l.n))
