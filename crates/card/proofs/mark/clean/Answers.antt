-- The invariant: the first x terminals are clean, and the lowest so far is known. Assumes nothing.
use native.Mathlib.Omega.{arith}
use Rattle.card.proofs.MarkLaws.{cleaning_next}
use Rattle.card.proofs.mark.clean.Goals as goal

pub loop-x-preserved : goal.loop-x-preserved
loop-x-preserved c =
    cleaning_next c.place_of.result c.lower-lowest.result c.without_mark.result (omega (arith, c.requires.0)) c.loop-x-test.true c.requires.1 c.loop-x.invariant c.place_of.ensures c.lower-lowest.ensures c.without_mark.ensures
