-- A rule for all numbers below a numeral, by one computed test. Assumes nothing.
use mathlib.Core.Path.{◌≡◌, sym, subst}
use mathlib.Core.Logic.{⊎_elim}
use mathlib.Core.Bool.{Bool, true, ◌&&◌}
use Prim.Native.Nat.{ℕ, zero, suc, ◌<◌}
use native.Mathlib.Nat.{not-suc-le-zero, le_of_suc-le-suc, eq-or-lt_of_le}
use lib.Dec.{T}
use Rattle.laws.proofs.Tests.{and_both}

abbrev pub all : ℕ → (ℕ → Bool) → Bool
all zero f = true
all (suc n) f = f n && all n f

pub below : (n : ℕ) (f : ℕ → Bool) → T (all n f) → (k : ℕ) → k < n → T (f k)
below zero f t k h = absurd (not-suc-le-zero h)
below (suc n) f t k h =
    ⊎_elim (λ (e : k ≡ n). subst (λ (x : ℕ). T (f x)) (sym e) (and_both (f n) (all n f) t).0) (λ l. below n f (and_both (f n) (all n f) t).1 k l)
    (eq-or-lt_of_le (le_of_suc-le-suc h))
