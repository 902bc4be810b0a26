-- `deltawobble::deltawobble_check` meets its contract: the verdict, as an answer, packed. Assumes nothing.
use mathlib.Core.Path.{ap}
use Rattle.deltawobble.proofs.BoundaryLaws.{verdict_answer, check_packs}
use Rattle.deltawobble.proofs.deltawobble_check.Goals as goal

pub returns-in-Ok : goal.returns-in-Ok
returns-in-Ok c =
    rw c.word.ensures (check_packs c.check.result _ _ _ c.check.ensures (ap verdict_answer c.in-Ok.is))

pub returns-in-Err : goal.returns-in-Err
returns-in-Err c =
    rw c.word-in-Err.ensures (check_packs c.check.result _ _ _ c.check.ensures (ap verdict_answer c.in-Err.is))
