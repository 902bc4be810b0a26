-- `deltawobble::deltawobble_verilog` meets its contract: the call's answer, packed. Assumes nothing.
use Rattle.deltawobble.proofs.BoundaryLaws.{answer_packs}
use Rattle.deltawobble.proofs.deltawobble_verilog.Goals as goal

pub returns : goal.returns
returns c =
    rw c.word.ensures (answer_packs c.verilog-answer.result _ _ _ c.verilog-answer.ensures)
