-- The contracts of the public functions determine what they answer: two results that one allows for a call are equal. Assumes nothing.
use mathlib.Core.Path.{sym, ◌∙◌}
use Rattle.laws.proofs.OneResult.{Result}
use Rattle.binders.proofs.none.Kinds as none
use Rattle.binders.proofs.none.Reads as none_reads
use Rattle.binders.proofs.slot.Kinds as slot
use Rattle.binders.proofs.slot.Reads as slot-reads
use Rattle.binders.proofs.use_shared.Kinds as use_shared_lem
use Rattle.binders.proofs.use_shared.Reads as use-shared-reads
use Rattle.binders.proofs.use_linear.Kinds as use_linear_lem
use Rattle.binders.proofs.use_linear.Reads as use-linear-reads
use Rattle.binders.proofs.bit.Kinds as bit
use Rattle.binders.proofs.bit.Reads as bit-reads
use Rattle.binders.proofs.with_bit.Kinds as with-bit
use Rattle.binders.proofs.with_bit.Reads as with-bit-reads

pub none-determined : Result none.ps none.r none_reads.Post
none-determined κs a x y s t f g = f ∙ sym g

pub slot-determined : Result slot.ps slot.r slot-reads.Post
slot-determined κs a x y s t f g = f ∙ sym g

pub use_shared-determined : Result use_shared_lem.ps use_shared_lem.r use-shared-reads.Post
use_shared-determined κs a x y s t f g = f ∙ sym g

pub use_linear-determined : Result use_linear_lem.ps use_linear_lem.r use-linear-reads.Post
use_linear-determined κs a x y s t f g = f ∙ sym g

pub bit-determined : Result bit.ps bit.r bit-reads.Post
bit-determined κs a x y s t f g = f ∙ sym g

pub with-bit_determined : Result with-bit.ps with-bit.r with-bit-reads.Post
with-bit_determined κs a x y s t f g = f ∙ sym g
