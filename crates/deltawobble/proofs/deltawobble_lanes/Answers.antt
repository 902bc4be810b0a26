-- `deltawobble::deltawobble_lanes` meets its contract: the call's answer, packed. Assumes nothing.
use Rattle.deltawobble.proofs.BoundaryLaws.{lanes_packs}
use Rattle.deltawobble.proofs.deltawobble_lanes.Goals as goal

pub returns : goal.returns
returns c =
    rw c.word.ensures (lanes_packs c.lanes-answer.result _ _ _ _ c.lanes-answer.ensures)
