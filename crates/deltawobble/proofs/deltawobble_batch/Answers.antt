-- `deltawobble::deltawobble_batch` meets its contract: the call's answer, packed. Assumes nothing.
use Rattle.deltawobble.proofs.BoundaryLaws.{batch_packs}
use Rattle.deltawobble.proofs.deltawobble_batch.Goals as goal

pub returns : goal.returns
returns c =
    rw c.word.ensures (batch_packs c.batch-answer.result _ _ _ _ c.batch-answer.ensures)
