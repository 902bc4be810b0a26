-- The invariant: the output holds the records of the first i wires. Assumes nothing.
use mathlib.Core.Path.{◌≡◌}
use Prim.Native.Nat.{◌+◌, ◌*◌}
use lib.ListN.{length}
use lib.Seq.{sets}
use Rattle.calculus.specs.Net.{wire_bytes}
use Rattle.memory.specs.Map.{targets_at, region, wires_from}
use Rattle.netlist.proofs.Full.put_wires.Given as goal

abbrev pub invariant-loop-i : goal.invariant-loop-i
invariant-loop-i l =
    (l.at ≡ l.from + 5 * l.i)
    × ((length l.out ≡ length l.initial.out) × (l.out ≡ sets l.initial.out l.from (wire_bytes (wires_from l.self.work.now (region l.self.work.now targets_at l.i)))))
