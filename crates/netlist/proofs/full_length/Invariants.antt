-- The invariant: the wires, the pins and the first i elements are counted. Assumes nothing.
use mathlib.Core.Path.{◌≡◌}
use Prim.Native.Nat.{◌≤◌, ◌+◌, ◌*◌}
use lib.ListN.{length, drop}
use Rattle.memory.specs.Map.{elements_at}
use Rattle.netlist.proofs.Elements.{first_bytes}
use Rattle.netlist.proofs.full_length.Given as goal

abbrev pub invariant-loop-i : goal.invariant-loop-i
invariant-loop-i l =
    (l.sum ≡ 5 * l.wires + 3 * l.pins + length (first_bytes (drop elements_at l.work) l.i)) × (l.sum ≤ 5 * l.wires + 3 * l.pins + 4 * l.i)
