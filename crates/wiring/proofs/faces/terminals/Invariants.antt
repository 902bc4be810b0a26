-- `wiring::faces::terminals` meets its contract: what is still to be stored, stored over what stands, is the whole. Assumes nothing.
use Prim.Native.Nat.{◌+◌}
use mathlib.Core.Path.{◌≡◌}
use mathlib.Core.List.{map}
use lib.ListN.{length, drop}
use lib.Seq.{sets}
use Rattle.calculus.specs.Net.{part_side}
use Rattle.memory.specs.Map.{code}
use Rattle.wiring.proofs.faces.terminals.Given as goal

abbrev pub invariant-loop-i : goal.invariant-loop-i
invariant-loop-i l = (length l.work ≡ length l.initial.work) × (sets l.work (l.to + l.i) (drop l.i (map code (part_side l.k l.n))) ≡ sets l.initial.work l.to (map code (part_side l.k l.n)))
