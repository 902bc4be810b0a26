-- `deltawobble::deltawobble_run` meets its contract: the call's answer, packed. Assumes nothing.
use Rattle.deltawobble.proofs.BoundaryLaws.{answer_packs}
use Rattle.deltawobble.proofs.deltawobble_run.Goals as goal

pub returns : goal.returns
returns c =
    rw c.word.ensures (answer_packs c.run-answer.result _ _ _ c.run-answer.ensures)
