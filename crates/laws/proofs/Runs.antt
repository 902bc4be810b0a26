-- Laws on a table that is a list. Assumes nothing.
use mathlib.Core.Path.{◌≡◌, ap, sym, ◌∙◌}
use mathlib.Core.List.{List}
use Prim.Native.Nat.{ℕ, ◌+◌, ◌-◌, ◌≤◌, ◌<◌}
use native.Mathlib.Omega.{arith}
use lib.ListN.{take, drop, get_or, replicate, get_or-replicate}
use lib.Seq.{get_or-drop, get_or-take}

-- a run of one value in a table: every entry of it is that value
pub run_at : {A : Type 0} (l : List A) (lo n : ℕ) (a d : A) → take n (drop lo l) ≡ replicate n a
    → (k : ℕ) → lo ≤ k → k < lo + n → get_or l k d ≡ a
run_at l lo n a d e k h₁ h₂ =
    let i : ℕ = k - lo in
    let lt : i < n = omega arith in
    let back : lo + i ≡ k = omega arith in
    ap (λ (j : ℕ). get_or l j d) (sym back) ∙ sym (get_or-drop lo l i d) ∙ sym (get_or-take n (drop lo l) i d lt) ∙ ap (λ (x : List _). get_or x i d) e ∙ get_or-replicate n i a d lt

-- one number less to be: a chain of these stands where omega would meet more than six `≢`
pub past : {n k : ℕ} → n ≤ k → (k ≡ n → ⊥) → n + 1 ≤ k
past h ne = omega arith
