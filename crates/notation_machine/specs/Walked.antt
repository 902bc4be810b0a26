-- A machine: a state, and one step to the next state or a refusal. Assumes nothing.
use Rattle.std.specs.Prelude.{ℕ, zero, suc, ◌≡◌}
use Rattle.calculus.specs.Answer.{Answer, good, ◌>>=◌}

-- where so many steps lead
abbrev pub walked : {M : Type 0} → (M → Answer M) → ℕ → M → Answer M
walked step zero s = good s
walked step (suc n) s = do
  t ← step s
  walked step n t

-- n steps from s lead to the answer a. A loop that does one step a round has n as its measure: `runs_on` (proofs/Running) gives the rest of the run
abbrev pub Runs : {M : Type 0} → (M → Answer M) → ℕ → M → Answer M → Type 0
Runs step n s a = walked step n s ≡ a
