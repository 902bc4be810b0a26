-- Laws of runs. A run follows an answer m if it gets to f x where m is the value x, and refuses where m refuses. Assumes nothing.
use Prim.Native.Nat.{ℕ, zero, suc}
use mathlib.Core.Path.{◌≡◌, refl, sym, ap, subst, ◌∙◌}
use Rattle.calculus.specs.Answer.{Answer, good, refused, ◌>>=◌}
use Rattle.notation_theorems.proofs.Answering.{On}
use Rattle.notation_machine.specs.Walked.{walked, Runs}

pub good_right : {A : Type 0} (m : Answer A) → (m >>= λ a. good a) ≡ m
good_right (good a) = refl
good_right (refused why) = refl

pub bind-bind : {A B C : Type 0} (m : Answer A) (f : A → Answer B) (g : B → Answer C) → ((m >>= f) >>= g) ≡ (m >>= λ a. f a >>= g)
bind-bind (good a) f g = refl
bind-bind (refused why) f g = refl

-- first so many steps, then so many
abbrev sum : ℕ → ℕ → ℕ
sum zero n = n
sum (suc m) n = suc (sum m n)

-- from p on, some steps get to what the answer m tells
pub record Follows {M A : Type 0} (step : M → Answer M) (p : Answer M) (m : Answer A) (f : A → Answer M) : Type 0 where
  pub steps : ℕ
  pub lead : (p >>= λ s. walked step steps s) ≡ (m >>= f)

module _ {M : Type 0} (step : M → Answer M) where
  bind-on : (m n : ℕ) (p : Answer M) → ((s : M) → walked step (sum m n) s ≡ (walked step m s >>= λ t. walked step n t)) → (p >>= λ s. walked step (sum m n) s) ≡ ((p >>= λ s. walked step m s) >>= λ t. walked step n t)
  bind-on m n (good s) h = h s
  bind-on m n (refused why) h = refl

  walked_on : (m n : ℕ) (s : M) → walked step (sum m n) s ≡ (walked step m s >>= λ t. walked step n t)
  walked_on zero n s = refl
  walked_on (suc m) n s = bind-on m n (step s) (walked_on m n)

  -- ---- how runs are put together

  pub follows_now : {A : Type 0} {p : Answer M} {a : A} {f : A → Answer M} → p ≡ f a → Follows step p (good a) f
  follows_now {p = p} e = record { steps = 0; lead = good_right p ∙ e }

  -- the same answers, written otherwise
  pub follows_as : {A : Type 0} {p q : Answer M} {m : Answer A} {f : A → Answer M} → p ≡ q → Follows step q m f → Follows step p m f
  follows_as {m = m} {f} e r = subst (λ (o : Answer M). Follows step o m f) (sym e) r

  pub follows_for : {A : Type 0} {p : Answer M} {m o : Answer A} {f : A → Answer M} → m ≡ o → Follows step p o f → Follows step p m f
  follows_for {A} {p = p} {f = f} e r = subst (λ (q : Answer A). Follows step p q f) (sym e) r

  pub follows_step : {A : Type 0} {s : M} {m : Answer A} {f : A → Answer M} → Follows step (step s) m f → Follows step (good s) m f
  follows_step r = record { steps = suc r.steps; lead = r.lead }

  pub follows_then : {A B : Type 0} {p : Answer M} (m : Answer A) {f : A → Answer M} (k : A → Answer B) {g : B → Answer M} → Follows step p m f → ((a : A) → Follows step (f a) (k a) g) → Follows step p (m >>= k) g
  follows_then {p = p} (good a) {f} k {g} r h =
      let q = h a in
      record { steps = sum r.steps q.steps; lead = bind-on r.steps q.steps p (walked_on r.steps q.steps) ∙ ap (λ (o : Answer M). o >>= λ t. walked step q.steps t) r.lead ∙ q.lead }
  follows_then (refused why) k r h = record { steps = r.steps; lead = r.lead }

  -- .. where the second part adds nothing
  pub follows_to : {A : Type 0} {p : Answer M} (m : Answer A) {f g : A → Answer M} → Follows step p m f → ((a : A) → Follows step (f a) (good a) g) → Follows step p m g
  follows_to (good a) r k = follows_then (good a) (λ x. good x) r k
  follows_to (refused why) r k = record { steps = r.steps; lead = r.lead }

  -- the machine does what the definition does, and of the value P is known
  pub follows_both : {A B : Type 0} (P : A → Type 0) (m : Answer A) {p : A → Answer M} {k : A → Answer B} {g : B → Answer M} → On P m → ((a : A) → P a → Follows step (p a) (k a) g) → Follows step (m >>= p) (m >>= k) g
  follows_both P (good a) h f = f a h
  follows_both P (refused why) h f = record { steps = 0; lead = refl }

  -- .. or nothing
  pub follows_same : {A B : Type 0} (m : Answer A) {p : A → Answer M} {k : A → Answer B} {g : B → Answer M} → ((a : A) → Follows step (p a) (k a) g) → Follows step (m >>= p) (m >>= k) g
  follows_same (good a) f = f a
  follows_same (refused why) f = record { steps = 0; lead = refl }

  -- .. and it is all that the definition does
  pub follows_all : {A : Type 0} (m : Answer A) {f : A → Answer M} → Follows step (m >>= f) m f
  follows_all (good a) = follows_now refl
  follows_all (refused why) = record { steps = 0; lead = refl }

  -- ---- what a loop needs

  -- a run goes on behind its first step
  pub runs_on : (n : ℕ) (s t : M) (a : Answer M) → step s ≡ good t → Runs step (suc n) s a → Runs step n t a
  runs_on n s t a e r = sym (ap (λ (q : Answer M). q >>= λ u. walked step n u) e) ∙ r

  -- .. or is a refusal there
  pub runs_refused : (n : ℕ) (s : M) (a q : Answer M) → step s ≡ q → Runs step (suc n) s a → (q >>= λ u. walked step n u) ≡ a
  runs_refused n s a q e r = sym (ap (λ (p : Answer M). p >>= λ u. walked step n u) e) ∙ r

  -- a state that stays is where the run ends
  pub runs-stay : (n : ℕ) (s : M) (a : Answer M) → step s ≡ good s → Runs step n s a → a ≡ good s
  runs-stay zero s a e r = sym r
  runs-stay (suc n) s a e r = runs-stay n s a e (runs_on n s s a e r)
