-- Answers go on where each test passes and each step is good. Assumes nothing.
use Prim.Native.Nat.{ℕ}
use mathlib.Core.Path.{◌≡◌, refl}
use mathlib.Core.Bool.{Bool, true, false}
use lib.Dec.{T}
use Rattle.calculus.specs.Answer.{Answer, good, refused, ◌>>=◌, need}
use Rattle.calculus.proofs.Answers.{refused≢good}

pub needed : (t : Bool) (n p : ℕ) → T t → need t n p ≡ good tt
needed true n p h = refl
needed false n p h = absurd h

pub passes : {B : Type 0} {b : Answer B} (t : Bool) (n p : ℕ) (f : Unit {0} → Answer B) → T t → f tt ≡ b → (need t n p >>= f) ≡ b
passes true n p f h e = e
passes false n p f h e = absurd h

pub goes : {A B : Type 0} {b : Answer B} (m : Answer A) (a : A) (f : A → Answer B) → m ≡ good a → f a ≡ b → (m >>= f) ≡ b
goes (good x) a f h e = let z : x ≡ a = cc in rw z e
goes (refused why) a f h e = absurd (refused≢good h)
