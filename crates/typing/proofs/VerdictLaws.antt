-- Laws of verdicts: what a step says that is fine, that refuses, or that passes a refusal on. Assumes nothing.
use Prim.Native.Nat.{ℕ, ◌+◌, ◌-◌}
use mathlib.Core.Path.{◌≡◌, refl, sym, ap, ◌∙◌, subst⁻¹}
use mathlib.Core.List.{List}
use native.Mathlib.Omega.{arith}
use lib.ListN.{drop}
use Rattle.calculus.specs.Answer.{Answer, refused, ◌>>=◌}
use Rattle.calculus.specs.Walk.{Stack, Found, found}
use Rattle.binders.specs.Stacks.{Use, bits_of, stack_from, stack_of, said_use}
use Rattle.binders.proofs.Laws.{left}
use Rattle.binders.specs.declared.Binders.{Binders}
use Rattle.std.specs.declared.result.Result.TheVariants.{Ok, Err}
use Rattle.typing.specs.Verdicts.{Verdict, fine_at}
use Rattle.answers.specs.declared.Refusal.{Refusal}
use Rattle.typing.specs.declared.Checked.{Checked}
use Rattle.answers.specs.Refusals.{said_why}
use Rattle.typing.specs.Verdicts.{said_verdict, checked, Held, reached, with_marks, held, at_count, said, settled_of, EndsAt, HeldSays, FollowsOn, FollowsHeld}
use Rattle.typing.specs.Walkable.{CountsOf, CountsIn}

-- a type and a stack
abbrev pub found_at : ℕ → Stack → Found
found_at t st = record { type = t; stack = st }

-- ---- one step

module _ (b : Binders) {a : Answer Found} (next count : ℕ) where
  pub says_fine : (t : ℕ) → found t (stack_of b) ≡ a → HeldSays (reached (fine_at t next count) b) a next count
  unfolding said
  says_fine t h = record { answer = h; ends = (refl, refl) }

  pub says_refused : {v : Verdict} (why : Refusal) → v ≡ Err why → refused (said_why why) ≡ a → HeldSays (reached v b) a next count
  unfolding said
  says_refused why e h = subst⁻¹ (λ (v : Verdict). HeldSays (reached v b) a next count) e (record { answer = h; ends = tt })

-- a leaf, by what its use gives
pub says_settled : (u : Use) (b : Binders) {a : Answer Found} (next node : ℕ) {v : Verdict} → v ≡ settled_of u next node → said_use u (stack_of b) node ≡ a → HeldSays (reached v b) a next (node + 1)
says_settled (Ok t) b {a} next node e h = subst⁻¹ (λ (v : Verdict). HeldSays (reached v b) a next (node + 1)) e (says_fine b next (node + 1) t h)
says_settled (Err why) b next node e h = says_refused b next (node + 1) _ e h

-- a verdict on its own, with the binders as they are
pub says_told : (v : Verdict) (b : Binders) {a : Answer Found} (next count : ℕ) → said_verdict v (stack_of b) ≡ a → EndsAt v next count → HeldSays (reached v b) a next count
unfolding said
says_told v b next count h k = record { answer = h; ends = k }

-- ---- what a verdict says

module _ (c : Held) where
  pub said_fine : {t x y : ℕ} → c.verdict ≡ fine_at t x y → said c ≡ found t (stack_of c.binders)
  unfolding said
  said_fine e = rw e

  pub said_refused : {r : Refusal} → c.verdict ≡ Err r → said c ≡ refused (said_why r)
  unfolding said
  said_refused e = rw e

  -- a refusal is passed on
  pub stops : {r : Refusal} {a : Answer Found} (f : Found → Answer Found) → c.verdict ≡ Err r → said c ≡ a → said c ≡ (a >>= f)
  stops f e h = rw (← h, said_refused e)

  pub refused_ends : {r : Refusal} (next count : ℕ) → c.verdict ≡ Err r → EndsAt c.verdict next count
  refused_ends next count e = rw e tt

-- ---- under other binders

-- the same stack
pub says_under : (b b' : Binders) (c : Checked) {a : Answer Found} {next count : ℕ}
    → stack_from b.types (bits_of b.sorts) (bits_of c.used) b.count ≡ stack_from b'.types (bits_of b'.sorts) (bits_of c.used) b'.count
    → HeldSays (held b c) a next count → HeldSays (held b' c) a next count
unfolding said
says_under b b' c e S = record { answer = ap (said_verdict c.verdict) (sym e) ∙ S.answer; ends = S.ends }

-- the code's answer by its verdict and marks
pub says_as : (b : Binders) {c : Checked} {v : Verdict} {marks : List ℕ} {a : Answer Found} {next count : ℕ} → c ≡ checked v marks → HeldSays (reached v (with_marks b marks)) a next count → HeldSays (held b c) a next count
says_as b {a = a} {next = next} {count = count} e S = subst⁻¹ (λ (x : Checked). HeldSays (held b x) a next count) e S

-- a refusal has no stack
pub says_anyhow : (b b' : Binders) {v : Verdict} {r : Refusal} {a : Answer Found} {next count : ℕ} → v ≡ Err r → HeldSays (reached v b) a next count → HeldSays (reached v b') a next count
unfolding said
says_anyhow b b' e S = record { answer = rw e (rw e at S.answer); ends = S.ends }

-- ---- a step after another

module _ (v : Verdict) (st out : Stack) (f : Found → Answer Found) where
  pub on_refused : {r : Refusal} {w : Verdict} → v ≡ Err r → w ≡ Err r → FollowsOn v st w out f
  on_refused e g = record { answer = rw (e, g); ends = λ next count h. rw g tt }

  module _ {t i j : ℕ} (e : v ≡ fine_at t i j) where
    pub on-stopped : {w : Verdict} (why : Refusal) → w ≡ Err why → refused (said_why why) ≡ f (found_at t st) → FollowsOn v st w out f
    on-stopped why q h = subst⁻¹ (λ (w : Verdict). FollowsOn v st w out f) q (record { answer = rw e h; ends = λ next count h. tt })

    pub on_fine : (s : ℕ) → found s out ≡ f (found_at t st) → FollowsOn v st (fine_at s i j) out f
    on_fine s h = record { answer = rw e h; ends = λ next count g. rw e at g }

-- ---- .. with the binders of both

module _ (x : Held) {f : Found → Answer Found} {w : Verdict} (b : Binders) where
  pub follows_on : FollowsOn x.verdict (stack_of x.binders) w (stack_of b) f → FollowsHeld x (reached w b) f
  unfolding said
  follows_on F = record { answer = F.answer; ends = F.ends }

  -- .. by the number of binders that a fine verdict has
  pub follows_at : (m : ℕ) → CountsOf m x → FollowsOn x.verdict (stack_from x.binders.types (bits_of x.binders.sorts) (bits_of x.binders.used) m) w (stack_of b) f → FollowsHeld x (reached w b) f
  follows_at m n F = by-verdict x.verdict refl n F
    where
      by-verdict : (v : Verdict) → x.verdict ≡ v → CountsIn m v x.binders.count → FollowsOn v (stack_from x.binders.types (bits_of x.binders.sorts) (bits_of x.binders.used) m) w (stack_of b) f → FollowsHeld x (reached w b) f
      by-verdict (Ok g) e h F = follows_on (rw (e, h) F)
      by-verdict (Err r) e h F = follows_on (rw e (record { answer = F.answer; ends = F.ends }))

-- .. where the k nearest binders go out of scope
pub follows_left : (x : Held) {f : Found → Answer Found} {w : Verdict} (k c : ℕ) → CountsOf (c + k) x
    → FollowsOn x.verdict (stack_from x.binders.types (bits_of x.binders.sorts) (bits_of x.binders.used) (c + k)) w (drop k (stack_from x.binders.types (bits_of x.binders.sorts) (bits_of x.binders.used) (c + k))) f
    → FollowsHeld x (reached w (at_count x.binders c)) f
follows_left x k c n F =
    let e : c + k - k ≡ c = omega arith in
    follows_at x _ (c + k) n (rw (← left x.binders.types (bits_of x.binders.sorts) (bits_of x.binders.used) k (c + k) (omega arith), e) at F)
