-- The invariant: the output holds the records of the first i pins. Assumes nothing.
use mathlib.Core.Path.{◌≡◌}
use Prim.Native.Nat.{◌+◌, ◌*◌}
use mathlib.Core.List.{map}
use lib.ListN.{length}
use lib.Seq.{sets}
use Rattle.calculus.specs.Net.{pin_bytes}
use Rattle.memory.specs.Map.{stack_at, region, terminal_of}
use Rattle.netlist.proofs.Full.put_pins.Given as goal

abbrev pub invariant-loop-i : goal.invariant-loop-i
invariant-loop-i l =
    (l.at ≡ l.from + 3 * l.i)
    × ((length l.out ≡ length l.initial.out) × (l.out ≡ sets l.initial.out l.from (pin_bytes (map terminal_of (region l.self.work.now stack_at l.i)))))
