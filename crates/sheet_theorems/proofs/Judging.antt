-- What holds of every refusal of a run, step by step. Assumes nothing.
use mathlib.Core.Path.{◌≡◌, refl, sym, subst}
use mathlib.Core.Bool.{Bool, true, false}
use lib.Dec.{T}
use Rattle.calculus.specs.Answer.{Refusal, Answer, good, refused, ◌>>=◌, require}
use Rattle.calculus.proofs.Answers.{refused≢good, refused-inj}

-- a value has Q; a refusal has P
pub data Judged (P : Refusal → Type 0) {A : Type 0} (Q : A → Type 0) : Answer A → Type 0 where
  value : {a : A} → Q a → Judged P Q (good a)
  refusal : {why : Refusal} → P why → Judged P Q (refused why)

abbrev pub Any : {A : Type 0} → A → Type 0
Any a = Unit {0}

module _ {P : Refusal → Type 0} where
  pub of_bind : {A B : Type 0} {Q : A → Type 0} {R : B → Type 0} (m : Answer A) (f : A → Answer B) → Judged P Q m → ((a : A) → m ≡ good a → Q a → Judged P R (f a)) → Judged P R (m >>= f)
  of_bind (good a) f (value h) k = k a refl h
  of_bind (refused why) f (refusal h) k = refusal h

  -- where the test fails, its refusal has P
  pub of_require : {B : Type 0} {R : B → Type 0} (t : Bool) (why : Refusal) (f : Unit {0} → Answer B) → (t ≡ false → P why) → (T t → Judged P R (f tt)) → Judged P R (require t why >>= f)
  of_require true why f a h = h tt
  of_require false why f a h = refusal (a refl)

  pub of_last : (t : Bool) (why : Refusal) → P why → Judged P Any (require t why)
  of_last true why a = value tt
  of_last false why a = refusal a

pub weaker : {P P' : Refusal → Type 0} {A : Type 0} {Q : A → Type 0} {a : Answer A} → ((why : Refusal) → P why → P' why) → Judged P Q a → Judged P' Q a
weaker k (value h) = value h
weaker k (refusal {why} h) = refusal (k why h)

pub of_refused : {P : Refusal → Type 0} {A : Type 0} {Q : A → Type 0} (a : Answer A) (why : Refusal) → Judged P Q a → a ≡ refused why → P why
of_refused (good x) why (value h) e = absurd (refused≢good (sym e))
of_refused {P} (refused x) why (refusal h) e = subst P (refused-inj e) h
