-- The invariant: the wires from the reader's place on say the same as all. Assumes nothing.
use Prim.Native.Nat.{◌-◌}
use lib.ListN.{length}
use Rattle.back.proofs.GateLaws.{WiresLeft}
use Rattle.back.proofs.gates.driver.Given as goal

abbrev pub invariant-loop-from : goal.invariant-loop-from
invariant-loop-from l = WiresLeft l.net l.at l.i

abbrev pub decreases-loop-from : goal.decreases-loop-from
decreases-loop-from l = length l.net - l.at
