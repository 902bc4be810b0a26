-- What holds of an answer's value, if it has one, is carried step by step. Assumes nothing.
use Prim.Native.Nat.{ℕ}
use mathlib.Core.Path.{◌≡◌, refl, subst}
use mathlib.Core.Bool.{Bool, true, false, not, cond}
use lib.Dec.{T}
use Rattle.calculus.specs.Answer.{Answer, good, refused, ◌>>=◌, need}

abbrev pub On : {A : Type 0} → (A → Type 0) → Answer A → Type 0
On P (good a) = P a
On P (refused why) = Unit {0}

pub on_step : {A B : Type 0} (P : A → Type 0) (Q : B → Type 0) (m : Answer A) (f : A → Answer B) → On P m → ((a : A) → P a → On Q (f a)) → On Q (m >>= f)
on_step P Q (good a) f h k = k a h
on_step P Q (refused why) f h k = tt

-- nothing is known of the first value
pub on_any : {A B : Type 0} (Q : B → Type 0) (m : Answer A) (f : A → Answer B) → ((a : A) → On Q (f a)) → On Q (m >>= f)
on_any Q (good a) f k = k a
on_any Q (refused why) f k = tt

pub on_test : {B : Type 0} (Q : B → Type 0) (t : Bool) (n p : ℕ) (f : Unit {0} → Answer B) → (T t → On Q (f tt)) → On Q (need t n p >>= f)
on_test Q true n p f k = k tt
on_test Q false n p f k = tt

pub on_either : {B : Type 0} (Q : B → Type 0) (t : Bool) (a b : Answer B) → On Q a → On Q b → On Q (cond t a b)
on_either Q true a b h k = h
on_either Q false a b h k = k

pub on_good : {A : Type 0} (P : A → Type 0) (m : Answer A) (a : A) → On P m → m ≡ good a → P a
on_good {A = A} P m a h e = subst (λ (x : Answer A). On P x) e h

-- .. with what the test tells
pub on_tests : {B : Type 0} (Q : B → Type 0) (t : Bool) (a b : Answer B) → (T t → On Q a) → (T (not t) → On Q b) → On Q (cond t a b)
on_tests Q true a b h k = h tt
on_tests Q false a b h k = k tt

pub on_map : {A : Type 0} (P Q : A → Type 0) (m : Answer A) → On P m → ((a : A) → P a → Q a) → On Q m
on_map P Q (good a) h k = k a h
on_map P Q (refused why) h k = tt

-- .. or just what it is
pub on_is : {A B : Type 0} (Q : B → Type 0) (m : Answer A) (f : A → Answer B) → ((a : A) → m ≡ good a → On Q (f a)) → On Q (m >>= f)
on_is Q (good a) f k = k a refl
on_is Q (refused why) f k = tt
