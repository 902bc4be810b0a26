-- `listing::records` meets its contract. The invariant: the text keeps its length, which has room for a line, and what is used is a part
-- of it. The measure is what is left of the netlist. Assumes nothing.
use mathlib.Core.Path.{◌≡◌}
use Prim.Native.Nat.{◌≤◌, ◌-◌}
use lib.ListN.{length}
use Rattle.listing.proofs.records.Given as goal

abbrev pub invariant-loop-at : goal.invariant-loop-at
invariant-loop-at l = (length l.text ≡ length l.initial.text) × (l.used ≤ length l.text) × (80 ≤ length l.text)

abbrev pub decreases-loop-at : goal.decreases-loop-at
decreases-loop-at l = length l.net - l.at
