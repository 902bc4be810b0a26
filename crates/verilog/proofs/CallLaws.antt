-- The call's answer is that of the netlist, once there is a full one. Assumes nothing.
use Prim.Native.Nat.{ℕ}
use mathlib.Core.Path.{◌≡◌}
use mathlib.Core.List.{List}
use lib.Dec.{leb}
use Rattle.calculus.specs.Answer.{◌>>=◌}
use Rattle.calculus.specs.Translate.{full}
use Rattle.export_calculus.specs.Verilog.{exported, export}
use Rattle.translator.specs.Made.{lent}
use Rattle.translator.proofs.Lent.{need-first}

pub export-lent : (memory : ℕ) (s : List ℕ) (room : ℕ) → export memory s room ≡ (lent memory s >>= λ m. exported m room)
unfolding export lent
export-lent memory s room = need-first (leb 32768 memory) (full s) (λ m. exported m room)
