-- Each public function's contract determines its result: two that it allows for one call are equal. Assumes nothing.
use Prim.Native.Nat.{ℕ}
use mathlib.Core.Path.{◌≡◌, sym, ap, ap₂, ◌∙◌}
use mathlib.Core.List.{List}
use denote.Ref.{Bor}
use Rattle.std.specs.Prelude.{Option, Result}
use Rattle.calculus.specs.NetRead.{item_at}
use Rattle.answers.specs.declared.Refusal.{Refusal}
use Rattle.net_reader.specs.Said.{said_step, stepped}
use Rattle.net_reader.specs.declared.Step.{Step}
use Rattle.net_reader.specs.declared.Reader.{Reader}
use Rattle.net_reader.proofs.Steps.{step_of, step_told}

-- `next` and `read`
pub determined-step : (s : List ℕ) (at : ℕ) (x y : Result (Option Step) Refusal) → said_step x ≡ stepped (item_at s at) at → said_step y ≡ stepped (item_at s at) at → x ≡ y
determined-step s at x y f g = sym (step_told x) ∙ ap step_of (f ∙ sym g) ∙ step_told y

-- `new`
pub determined_reader : (s : Bor (List ℕ)) (n : ℕ) (r q : Reader) → (r.bytes ≡ s) × (r.at ≡ n) → (q.bytes ≡ s) × (q.at ≡ n) → r ≡ q
determined_reader s n r q f g = ap₂ (λ (b : Bor (List ℕ)) (k : ℕ). record { bytes = b; at = k }) (f.0 ∙ sym g.0) (f.1 ∙ sym g.1)
