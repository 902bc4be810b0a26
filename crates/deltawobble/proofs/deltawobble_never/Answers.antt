-- `deltawobble::deltawobble_never` meets its contract: the call's answer, packed. Assumes nothing.
use Rattle.deltawobble.proofs.BoundaryLaws.{never_packs}
use Rattle.deltawobble.proofs.deltawobble_never.Goals as goal

pub returns : goal.returns
returns c =
    rw c.word.ensures (never_packs c.never-answer.result _ _ _ _ _ c.never-answer.ensures)
