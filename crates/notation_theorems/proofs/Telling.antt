-- A refusal from 32 to 36 at a place of which P holds, step by step. Assumes nothing.
use Prim.Native.Nat.{ℕ, ◌≤◌}
use mathlib.Core.Path.{◌≡◌, refl}
use mathlib.Core.Bool.{Bool, true, false, not, cond}
use native.Mathlib.Omega.{arith}
use lib.Dec.{T}
use Rattle.calculus.specs.Answer.{Refusal, Answer, numbered}
use Rattle.sheet_theorems.proofs.Judging.{Judged}

pub record RefusedOn (P : ℕ → Type 0) (why : Refusal) : Type 0 where
  pub from : 32 ≤ why.number
  pub to : why.number ≤ 36
  pub there : P why.place
  pub plain : (why.wanted ≡ 0) × (why.found ≡ 0)

module _ {P : ℕ → Type 0} where
  pub misread : (at : ℕ) → P at → RefusedOn P (numbered 32 at)
  misread at h = record { from = omega arith; to = omega arith; there = h; plain = (refl, refl) }

  pub unknown : (at : ℕ) → P at → RefusedOn P (numbered 33 at)
  unknown at h = record { from = omega arith; to = omega arith; there = h; plain = (refl, refl) }

  pub beyond : (at : ℕ) → P at → RefusedOn P (numbered 34 at)
  beyond at h = record { from = omega arith; to = omega arith; there = h; plain = (refl, refl) }

  pub unformed : (at : ℕ) → P at → RefusedOn P (numbered 35 at)
  unformed at h = record { from = omega arith; to = omega arith; there = h; plain = (refl, refl) }

  pub again : (at : ℕ) → P at → RefusedOn P (numbered 36 at)
  again at h = record { from = omega arith; to = omega arith; there = h; plain = (refl, refl) }

-- what the test tells
pub of_tests : {R : Refusal → Type 0} {B : Type 0} {Q : B → Type 0} (t : Bool) (a b : Answer B) → (T t → Judged R Q a) → (T (not t) → Judged R Q b) → Judged R Q (cond t a b)
of_tests true a b h k = h tt
of_tests false a b h k = k tt

pub of_either : {R : Refusal → Type 0} {B : Type 0} {Q : B → Type 0} (t : Bool) (a b : Answer B) → Judged R Q a → Judged R Q b → Judged R Q (cond t a b)
of_either true a b h k = h
of_either false a b h k = k
