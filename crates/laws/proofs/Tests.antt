-- Tests: what holds where a test, or two of them, come out true. Assumes nothing.
use Prim.Native.Nat.{ℕ}
use mathlib.Core.Path.{◌≡◌, refl, subst, subst⁻¹}
use mathlib.Core.Logic.{◌⊎◌, inl, inr, ⊎_elim}
use mathlib.Core.Bool.{Bool, true, false, not, ◌&&◌, ◌||◌, cond}
use native.Mathlib.Decide.{ℕ_discrete}
use lib.Dec.{T, eqb}
use borrow.Author.Tests.{ne_eqb, eq-eqb}

pub and_both : (a b : Bool) → T (a && b) → T a × T b
and_both true b t = (tt, t)
and_both false b t = absurd t

pub and_of : (a b : Bool) → T a → T b → T (a && b)
and_of true b p q = q
and_of false b p q = p

pub or_cases : (a b : Bool) → T (a || b) → T a ⊎ T b
or_cases true b t = inl tt
or_cases false b t = inr t

pub or_elim : {X : Type 0} (a b : Bool) → T (a || b) → (T a → X) → (T b → X) → X
or_elim a b t f g = ⊎_elim f g (or_cases a b t)

pub or_left : (a b : Bool) → T a → T (a || b)
or_left true b t = tt
or_left false b t = absurd t

pub or_right : (a b : Bool) → T b → T (a || b)
or_right true b t = tt
or_right false b t = t

pub T-is : (b : Bool) → T b → b ≡ true
T-is true t = refl
T-is false t = absurd t

pub is_false : (b : Bool) → (T b → ⊥) → b ≡ false
is_false true f = absurd (f tt)
is_false false f = refl

pub false_not_T : (b : Bool) → b ≡ false → T b → ⊥
false_not_T true e t = subst (λ (x : Bool). T x) e t
false_not_T false e t = t

pub not_true : (b : Bool) → T (not b) → b ≡ false
not_true true t = absurd t
not_true false t = refl

pub false_not : (b : Bool) → b ≡ false → T (not b)
false_not b e = rw e tt

-- by cases of a test of equal numbers, with the fact at hand
pub by_eqb : (F : Bool → Type 0) (a b : ℕ) → (a ≡ b → F true) → (¬ (a ≡ b) → F false) → F (eqb a b)
by_eqb F a b f g = elim (ℕ_discrete a b) [ yes e ↦ subst⁻¹ F (eq-eqb a b e) (f e) | no d ↦ subst⁻¹ F (ne_eqb a b d) (g d) ]

-- a choice by a test: what holds on both sides
pub on_cond {ℓ} : {A : Type ℓ} (P : A → Type 0) (b : Bool) (x y : A) → (T b → P x) → P y → P (cond b x y)
on_cond P true x y f g = f tt
on_cond P false x y f g = g
