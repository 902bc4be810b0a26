-- `binders::with_bit` meets its contract: the low word or the high one. Assumes nothing.
use Rattle.binders.proofs.Bits.{with-low, with-high}
use Rattle.binders.proofs.with_bit.Goals as goal

pub returns-then-k-lt64 : goal.returns-then-k-lt64
returns-then-k-lt64 c = rw c.with_digit.ensures (with-low _ _ _ c.if-k-lt64.true)

pub returns-else-k-lt64 : goal.returns-else-k-lt64
returns-else-k-lt64 c = rw c.with_digit-else-k-lt64.ensures (with-high _ _ _ c.if-k-lt64.false)
