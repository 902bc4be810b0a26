-- `deltawobble::deltawobble_translate` meets its contract: the call's answer, packed. Assumes nothing.
use Rattle.deltawobble.proofs.BoundaryLaws.{answer_packs}
use Rattle.deltawobble.proofs.deltawobble_translate.Goals as goal

pub returns : goal.returns
returns c =
    rw c.word.ensures (answer_packs c.translate-answer.result _ _ _ c.translate-answer.ensures)
