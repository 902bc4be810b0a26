-- The invariant: the output holds the records of the first i elements, and n is the next free terminal. Assumes nothing.
use mathlib.Core.Path.{◌≡◌}
use Prim.Native.Nat.{◌+◌}
use lib.ListN.{length, drop}
use lib.Seq.{sets}
use Rattle.memory.specs.Map.{elements_at, makers_at}
use Rattle.netlist.proofs.Elements.{first_records, first_after}
use Rattle.netlist.proofs.Full.put_elements.Given as goal

abbrev pub invariant-loop-i : goal.invariant-loop-i
invariant-loop-i l =
    (l.at ≡ l.from + length (first_records l.self.plain (drop elements_at l.self.work.now) (drop makers_at l.self.work.now) l.i))
    × ((l.n ≡ first_after (drop elements_at l.self.work.now) l.i) × ((length l.out ≡ length l.initial.out) × (l.out ≡ sets l.initial.out l.from (first_records l.self.plain (drop elements_at l.self.work.now) (drop makers_at l.self.work.now) l.i))))
