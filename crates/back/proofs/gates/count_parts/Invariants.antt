-- The invariant: so many parts stand first, the reader stands after them, and what is left says the same as the whole. Assumes nothing.
use mathlib.Core.Path.{◌≡◌}
use Prim.Native.Nat.{◌-◌, ◌*◌}
use lib.ListN.{length}
use Rattle.back.proofs.GateLaws.{PartsLeft}
use Rattle.back.proofs.gates.count_parts.Given as goal

abbrev pub invariant-loop-step : goal.invariant-loop-step
invariant-loop-step l = PartsLeft l.net l.count × (l.at ≡ 4 * l.count)

abbrev pub decreases-loop-step : goal.decreases-loop-step
decreases-loop-step l = length l.net - l.at
