-- A loop over rising numbers keeps what each turn keeps. Assumes nothing.
use Prim.Native.Nat.{ℕ, zero, suc, ◌+◌, ◌<◌}
use mathlib.Core.Path.{◌≡◌, refl, ap, ◌∙◌, subst}
use native.Mathlib.Omega.{arith}
use Rattle.trace_steps.specs.Turns.{take_turns}
use Rattle.trace_steps.proofs.Laws.{turns_next}

pub turns-keep : {S : Type 0} (f : ℕ → S → S) (P : ℕ → S → Type 0) (s : S) → P 0 s → (n : ℕ) → ((j : ℕ) (t : S) → j < n → P j t → P (suc j) (f j t)) → P n (take_turns f n 0 s)
turns-keep f P s p zero step = p
turns-keep f P s p (suc n) step =
    let e : n + 1 ≡ suc n = omega arith in
    subst (P (suc n)) (turns_next f n s (take_turns f n 0 s) refl ∙ ap (λ (k : ℕ). take_turns f k 0 s) e)
    (step n (take_turns f n 0 s) (omega arith) (turns-keep f P s p n (λ j t l q. step j t (omega arith) q)))
