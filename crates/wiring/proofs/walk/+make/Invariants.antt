-- `wiring::make` meets its contract: by its first record, and for its subterms by the walk itself, whose bytes left fall.
-- Assumes nothing.
use Prim.Native.Nat.{◌-◌}
use lib.ListN.{length}
use Rattle.wiring.proofs.walk.+make.Given as goal

abbrev pub decreases-make : goal.decreases-make
decreases-make l = length l.s.now - l.at
