-- What an accepted run went through: each step was good, and each test passed. Assumes nothing.
use Prim.Native.Nat.{ℕ}
use mathlib.Core.Path.{◌≡◌, refl}
use mathlib.Core.Bool.{Bool, true, false}
use native.Mathlib.Omega.{arith}
use lib.Dec.{T}
use Rattle.calculus.specs.Answer.{Refusal, Answer, good, refused, ◌>>=◌, numbered, require, need}

pub refused≢good : {A : Type 0} {why : Refusal} {a : A} → ◌≡◌ {A = Answer A} (refused why) (good a) → ⊥
refused≢good e = let z : ◌≡◌ {A = ℕ} 0 1 = cc in omega arith

pub good-inj : {A : Type 0} {a b : A} → ◌≡◌ {A = Answer A} (good a) (good b) → a ≡ b
good-inj e = cc

pub refused-inj : {A : Type 0} {why why' : Refusal} → ◌≡◌ {A = Answer A} (refused why) (refused why') → why ≡ why'
refused-inj e = cc

-- in the form that a proof takes apart step by step: on-bind m _ b e λ a h k. ..
pub on-bind : {A B C : Type 0} (m : Answer A) (f : A → Answer B) (b : B) → (m >>= f) ≡ good b → ((a : A) → m ≡ good a → f a ≡ good b → C) → C
on-bind (good a) f b e k = k a refl e
on-bind (refused why) f b e k = absurd (refused≢good e)

pub on-require : {B C : Type 0} (t : Bool) (why : Refusal) (f : Unit {0} → Answer B) (b : B) → (require t why >>= f) ≡ good b → (T t → f tt ≡ good b → C) → C
on-require true why f b e k = k tt e
on-require false why f b e k = absurd (refused≢good e)

pub on-need : {B C : Type 0} (t : Bool) (n p : ℕ) (f : Unit {0} → Answer B) (b : B) → (need t n p >>= f) ≡ good b → (T t → f tt ≡ good b → C) → C
on-need t n p f b e k = on-require t (numbered n p) f b e k
