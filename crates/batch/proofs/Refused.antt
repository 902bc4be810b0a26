-- The refusals of a sheet in a batch (document 02, L10) are those of its own call, and so the sentences' (refusal_theorems). Assumes nothing.
use Prim.Native.Nat.{ℕ}
use mathlib.Core.Path.{◌≡◌}
use mathlib.Core.Logic.{◌↔◌}
use mathlib.Core.List.{List}
use lib.ListN.{length, drop}
use Rattle.calculus.specs.Answer.{Refusal, refused}
use Rattle.export_calculus.specs.CardCall.{Wished}
use Rattle.refusal_theorems.specs.CardRefusedBy.{CardRefusedBy}
use Rattle.refusal_theorems.proofs.CardExact.{card_refused_by_exact}
use Rattle.batch_calculus.specs.Promise.{sheet_at, call_at}

-- sheet i, where `used` bytes of the output are used before it
pub batch_refused_by : (w : Wished) (s lengths out work : List ℕ) (used i : ℕ) (why : Refusal)
    → ((call_at w s lengths out work used i).said ≡ refused why) ↔ CardRefusedBy w.card (length work) w.wish (sheet_at s lengths i) (length (drop used out)) why
batch_refused_by w s lengths out work used i why = card_refused_by_exact w.card w.wish (sheet_at s lengths i) (drop used out) work why
