-- Tests one after the other, in the rules' order: the first that fails is the first broken rule. Assumes nothing.
use Prim.Native.Nat.{ℕ}
use mathlib.Core.Path.{◌≡◌, refl, sym, ap, subst, ◌∙◌}
use mathlib.Core.Bool.{Bool, true, false, ◌||◌}
use mathlib.Core.List.{List, [], ◌∷◌}
use lib.Dec.{T, eqb, eqb→eq}
use lib.ListN.{get_or}
use Rattle.calculus.specs.Answer.{Refusal, Answer, refused, ◌>>=◌, numbered, need}
use Rattle.laws.proofs.Tests.{false_not_T, or_elim}
use Rattle.sheet_theorems.proofs.Judging.{Judged, refusal}
use Rattle.sheet_theorems.proofs.Going.{passes}
use Rattle.refusal_theorems.specs.Unreadable.{ReadRule, by-due, by_kind, by-body, by_count, by-depth, by-numbers, by_form, by-repeat, by_size, rule_order, rule_number, FirstBroken, this_rule, later_rule, KeepsRules}

abbrev pub run_rules : {A : Type 0} → (ReadRule → Bool) → ℕ → List ReadRule → Answer A → Answer A
run_rules ok at [] f = f
run_rules ok at (r ∷ rs) f = need (ok r) (rule_number r) at >>= λ _. run_rules ok at rs f

-- no rule of a list is broken
pub data NoneBroken (B : ReadRule → Type 0) : List ReadRule → Type 0 where
  none_left : NoneBroken B []
  none_here : {r : ReadRule} {rs : List ReadRule} → ¬ B r → NoneBroken B rs → NoneBroken B (r ∷ rs)

-- .. and every rule is in the list, whatever its order
abbrev rank : ReadRule → ℕ
rank by-due = 0
rank by_kind = 1
rank by-body = 2
rank by_count = 3
rank by-depth = 4
rank by-numbers = 5
rank by_form = 6
rank by-repeat = 7
rank by_size = 8

abbrev ranked : ℕ → ReadRule
ranked n = get_or (by-due ∷ by_kind ∷ by-body ∷ by_count ∷ by-depth ∷ by-numbers ∷ by_form ∷ by-repeat ∷ by_size ∷ []) n by-due

rank-back : (r : ReadRule) → ranked (rank r) ≡ r
rank-back by-due = refl
rank-back by_kind = refl
rank-back by-body = refl
rank-back by_count = refl
rank-back by-depth = refl
rank-back by-numbers = refl
rank-back by_form = refl
rank-back by-repeat = refl
rank-back by_size = refl

abbrev listed : ReadRule → List ReadRule → Bool
listed r [] = false
listed r (q ∷ rs) = eqb (rank r) (rank q) || listed r rs

none-at : {B : ReadRule → Type 0} {rs : List ReadRule} → NoneBroken B rs → (r : ReadRule) → T (listed r rs) → ¬ B r
none-at none_left r t = absurd t
none-at {B} (none_here {r = q} {rs = rs} k v) r t = or_elim (eqb (rank r) (rank q)) (listed r rs) t
    (λ e. subst (λ (x : ReadRule). ¬ B x) (sym (rank-back q) ∙ ap ranked (sym (eqb→eq (rank r) (rank q) e)) ∙ rank-back r) k)
    (λ u. none-at v r u)

all_listed : (r : ReadRule) → T (listed r rule_order)
all_listed by-due = tt
all_listed by_kind = tt
all_listed by-body = tt
all_listed by_count = tt
all_listed by-depth = tt
all_listed by-numbers = tt
all_listed by_form = tt
all_listed by-repeat = tt
all_listed by_size = tt

pub keeps_rules : {B : ReadRule → Type 0} → NoneBroken B rule_order → KeepsRules B
keeps_rules v r = none-at v r (all_listed r)

-- what a test stands for
abbrev pub RuleTests : (ReadRule → Type 0) → (ReadRule → Bool) → Type 0
RuleTests B ok = (r : ReadRule) → (B r → ok r ≡ false) × (ok r ≡ false → B r)

module _ {B : ReadRule → Type 0} (ok : ReadRule → Bool) (m : RuleTests B ok) (at : ℕ) where
  -- the tests, and then f: what holds of a refusal by the first broken rule, and of f behind them
  pub runs_or : {A : Type 0} {G : Refusal → Type 0} {Q : A → Type 0} (rs : List ReadRule) (f : Answer A)
      → ((rule : ReadRule) → FirstBroken B rs rule → G (numbered (rule_number rule) at)) → (NoneBroken B rs → Judged G Q f) → Judged G Q (run_rules ok at rs f)
  runs_or [] f says on = on none_left
  runs_or {A} {G} {Q} (r ∷ rs) f says on = by (ok r) refl (λ says on. runs_or rs f says on)
    where
      by : (t : Bool) → ok r ≡ t → (((rule : ReadRule) → FirstBroken B rs rule → G (numbered (rule_number rule) at)) → (NoneBroken B rs → Judged G Q f) → Judged G Q (run_rules ok at rs f))
          → Judged G Q (need t (rule_number r) at >>= λ _. run_rules ok at rs f)
      by true e rest = let k : ¬ B r = λ b. false_not_T (ok r) ((m r).0 b) (rw e tt) in rest (λ rule x. says rule (later_rule k x)) (λ x. on (none_here k x))
      by false e rest = refusal (says r (this_rule ((m r).1 e)))

  -- .. and the other way
  pub runs-first : {A : Type 0} {rs : List ReadRule} {rule : ReadRule} (f : Answer A) → FirstBroken B rs rule → run_rules ok at rs f ≡ refused (numbered (rule_number rule) at)
  runs-first f (this_rule {r = r} b) = rw ((m r).0 b)
  runs-first f (later_rule {q = q} k x) = passes (ok q) (rule_number q) at _ (unbroken q k) (runs-first f x)
    where
      unbroken : (q : ReadRule) → ¬ B q → T (ok q)
      unbroken q k = by (ok q) refl
        where
          by : (t : Bool) → ok q ≡ t → T t
          by true e = tt
          by false e = k ((m q).1 e)

  pub runs_none : {A : Type 0} (rs : List ReadRule) (f : Answer A) → KeepsRules B → run_rules ok at rs f ≡ f
  runs_none [] f k = refl
  runs_none (r ∷ rs) f k = passes (ok r) (rule_number r) at _ (by (ok r) refl) (runs_none rs f k)
    where
      by : (t : Bool) → ok r ≡ t → T t
      by true e = tt
      by false e = k r ((m r).1 e)
