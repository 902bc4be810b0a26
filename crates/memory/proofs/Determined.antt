-- The contract of `clear` determines the memory that it leaves: two that it allows for one call are equal. Assumes nothing.
use mathlib.Core.Path.{sym, ◌∙◌}
use Rattle.laws.proofs.OneResult.{Left}
use Rattle.memory.proofs.clear.Kinds as clear
use Rattle.memory.proofs.clear.Reads as clear_reads

pub clear_determined : Left clear.ps clear.r clear_reads.Post (λ κs s. s.0.now)
clear_determined κs a x y s t f g = f ∙ sym g
