-- `wiring::bind` meets its contract: two stores in a row. Assumes nothing.
use native.Mathlib.Numerals.{add-one}
use Rattle.wiring.proofs.walk.bind.Goals as goal

pub returns : goal.returns
returns c =
    rw add-one
