-- `deltawobble::deltawobble_make` meets its contract: the call's answer, packed. Assumes nothing.
use Rattle.deltawobble.proofs.BoundaryLaws.{make_packs}
use Rattle.deltawobble.proofs.deltawobble_make.Goals as goal

pub returns : goal.returns
returns c =
    rw c.word.ensures (make_packs c.make-answer.result _ _ _ _ c.make-answer.ensures)
