-- The invariant: no type from behind the right side up to here has these numbers. Assumes nothing.
use mathlib.Core.Path.{◌≡◌}
use mathlib.Core.Bool.{false}
use Prim.Native.Nat.{ℕ, ◌<◌}
use Rattle.made_types.specs.Listing.{same_in_lem}
use Rattle.made_types.proofs.number_in.Given as goal

abbrev pub invariant-loop-k : goal.invariant-loop-k
invariant-loop-k l = (j : ℕ) → l.r.right < j → j < l.k → same_in_lem l.work j l.r ≡ false
