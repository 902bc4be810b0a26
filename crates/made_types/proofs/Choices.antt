-- What a chain of tests answers, way by way. Assumes nothing.
use Prim.Native.Nat.{ℕ, ◌+◌, ◌<◌}
use native.Mathlib.Omega.{arith}
use native.Mathlib.Decide.{ℕ_discrete}
use mathlib.Core.Path.{◌≡◌, refl}
use mathlib.Core.Bool.{Bool, true, false, ◌&&◌, cond}
use lib.Dec.{eqb}
use borrow.Author.Tests.{eq-eqb, ne_eqb}

-- a choice by a test of equal numbers
pub chosen {ℓ} : {A : Type ℓ} (a b : ℕ) (x y r : A) → a ≡ b → r ≡ x → r ≡ cond (eqb a b) x y
chosen a b x y r e h = rw (eq-eqb a b e) h

pub passed_by {ℓ} : {A : Type ℓ} (a b : ℕ) (x y r : A) → (a ≡ b → ⊥) → r ≡ y → r ≡ cond (eqb a b) x y
passed_by a b x y r d h = rw (ne_eqb a b d) h

-- a test of equal numbers, and another one
pub both_first : (a b : ℕ) (x : Bool) → (a ≡ b → ⊥) → false ≡ (eqb a b && x)
both_first a b x d = rw (ne_eqb a b d) refl

pub both_later : (a b : ℕ) (x r : Bool) → a ≡ b → r ≡ x → r ≡ (eqb a b && x)
both_later a b x r e h = rw (eq-eqb a b e) h

pub both_no : (x y : Bool) → x ≡ false → false ≡ (x && y)
both_no x y e = rw e refl

pub both_yes : (x y r : Bool) → x ≡ true → r ≡ y → r ≡ (x && y)
both_yes x y r e h = rw e h

-- a test that fails from behind a up to k, and at k
pub more_false : (f : ℕ → Bool) (a k : ℕ) → ((j : ℕ) → a < j → j < k → f j ≡ false) → f k ≡ false → (j : ℕ) → a < j → j < k + 1 → f j ≡ false
more_false f a k below here j l h = elim (ℕ_discrete j k) [ yes e ↦ rw e here | no d ↦ below j l (omega arith) ]
