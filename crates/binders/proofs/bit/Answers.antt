-- `binders::bit` meets its contract: the low word or the high one. Assumes nothing.
use mathlib.Core.Path.{◌∙◌}
use Rattle.binders.proofs.Bits.{bit-low, bit_high}
use Rattle.binders.proofs.bit.Goals as goal

pub returns-then-k-lt64 : goal.returns-then-k-lt64
returns-then-k-lt64 c = c.digit.ensures ∙ bit-low _ _ c.if-k-lt64.true

pub returns-else-k-lt64 : goal.returns-else-k-lt64
returns-else-k-lt64 c = c.digit-else-k-lt64.ensures ∙ bit_high _ _ c.if-k-lt64.false
