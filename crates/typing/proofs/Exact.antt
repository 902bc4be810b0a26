-- The code accepts a read sheet exactly when Figure 2 has a derivation, and its contract allows one answer only. Assumes nothing.
use Prim.Native.Nat.{ℕ}
use mathlib.Core.Path.{◌≡◌, refl, sym, ap, ◌∙◌}
use mathlib.Core.Logic.{◌↔◌}
use mathlib.Core.List.{List, []}
use Rattle.calculus.specs.Answer.{good, ◌>>=◌}
use Rattle.calculus.proofs.Answers.{refused≢good, good-inj, refused-inj, on-bind}
use Rattle.calculus.specs.Types.{Ty}
use Rattle.calculus.specs.Read.{Sheet, edition_of, records_of, read_sheet}
use Rattle.calculus.specs.Rules.{Typed}
use Rattle.calculus.specs.Walk.{Found, walk}
use Rattle.sheet_theorems.proofs.Laying.{opened}
use Rattle.sheet_theorems.proofs.Exact.{exact}
use Rattle.std.specs.declared.result.Result.{Result}
use Rattle.std.specs.declared.result.Result.TheVariants.{Ok, Err}
use Rattle.answers.specs.declared.Refusal.{Refusal as Why}
use Rattle.answers.proofs.Reasons.{same_why}
use Rattle.typing.specs.Answers.{said_typing, check_of}
use Rattle.laws.proofs.OneResult.{Result as OneResult}
use Rattle.typing.proofs.check.Kinds as check
use Rattle.typing.proofs.check.Reads as check-reads

-- ---- two answers that the contract of `check` allows are equal

same_typing : (r q : Result ℕ Why) → said_typing r ≡ said_typing q → r ≡ q
same_typing (Ok t) (Ok u) e = ap {B = Result ℕ Why} (λ (x : ℕ). Ok x) (good-inj e)
same_typing (Ok t) (Err q) e = absurd (refused≢good (sym e))
same_typing (Err r) (Ok u) e = absurd (refused≢good e)
same_typing (Err r) (Err q) e = ap {B = Result ℕ Why} (λ (x : Why). Err x) (same_why r q (refused-inj e))

pub determined : OneResult check.ps check.r check-reads.Post
determined κs a x y s t f g = same_typing x y (f ∙ sym g)

-- ---- with Figure 2

module _ (s : List ℕ) (σ : Sheet) (read : read_sheet s ≡ good σ) (r : Result ℕ Why) (contract : said_typing r ≡ check_of (edition_of s) (records_of s)) where
  walked : said_typing r ≡ (walk σ.edition σ.table σ.term 0 [] >>= λ x. good x.type)
  unfolding check_of
  walked = contract ∙ rw (opened s σ read).records refl

  good-type : (q : Result ℕ Why) (t : ℕ) → said_typing q ≡ good t → q ≡ Ok t
  good-type (Ok u) t e = ap {B = Result ℕ Why} (λ (x : ℕ). Ok x) (good-inj e)
  good-type (Err p) t e = absurd (refused≢good e)

  accepted : ((t : ℕ) × (r ≡ Ok t)) → (x : Found) × (walk σ.edition σ.table σ.term 0 [] ≡ good x)
  accepted a =
      on-bind (walk σ.edition σ.table σ.term 0 []) (λ x. good x.type) a.0 (sym walked ∙ ap said_typing a.1) λ x h k.
      (x, h)

  accepts : (x : Found) × (walk σ.edition σ.table σ.term 0 [] ≡ good x) → (t : ℕ) × (r ≡ Ok t)
  accepts a = (a.0.type, good-type r a.0.type (walked ∙ rw a.1 refl))

  -- a type is answered exactly when there is a derivation from empty contexts
  pub walk-exact : ((t : ℕ) × (r ≡ Ok t)) ↔ ((τ : Ty) × Typed σ.edition σ.table [] σ.term τ)
  walk-exact = let w = exact s σ read in ((λ a. w.0 (accepted a)), (λ d. accepts (w.1 d)))
