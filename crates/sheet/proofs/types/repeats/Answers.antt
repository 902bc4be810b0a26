-- `sheet::repeats` meets its contract, by the form. Assumes nothing.
use Rattle.sheet.proofs.RepeatLaws.{bit-repeats}
use Rattle.sheet.proofs.types.repeats.Goals as goal

pub returns-in-Bit : goal.returns-in-Bit
returns-in-Bit c =
    let a = c.args in
    rw c.in-Bit.is (bit-repeats a.s.now a.count)
