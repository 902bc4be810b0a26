-- Refusals 10 to 15 of a sheet that is read: the walk's are the sentences', at most one, and one exactly where Figure 2 has no derivation.
-- Assumes nothing.
use Prim.Native.Nat.{ℕ}
use mathlib.Core.Path.{◌≡◌, refl, sym, ◌∙◌}
use mathlib.Core.Logic.{◌⊎◌, inl, inr, ◌↔◌}
use mathlib.Core.List.{List, []}
use Rattle.calculus.specs.Answer.{Refusal, Answer, good, refused}
use Rattle.calculus.proofs.Answers.{refused≢good, refused-inj}
use Rattle.calculus.specs.Types.{Ty}
use Rattle.calculus.specs.Read.{Sheet, read_sheet}
use Rattle.calculus.specs.Walk.{Found, walk}
use Rattle.calculus.specs.Rules.{Typed}
use Rattle.sheet_theorems.proofs.Laying.{laid}
use Rattle.sheet_theorems.proofs.Exact.{exact}
use Rattle.sheet_theorems.proofs.Judging.{Judged, Any, of_refused}
use Rattle.refusal_theorems.specs.Refuses.{Refuses}
use Rattle.refusal_theorems.proofs.Refusing.{walk-refuses, refuses-walk}

module _ (s : List ℕ) (σ : Sheet) (read : read_sheet s ≡ good σ) where
  pub walk_or : Judged (Refuses σ.edition σ.table [] σ.term 0) Any (walk σ.edition σ.table σ.term 0 [])
  walk_or = let l = laid s σ read in walk-refuses σ.edition σ.table l.table σ.term 0 [] l.ranged tt

  -- the walk answers a refusal exactly when the sentences refuse
  pub refuses-exact : (why : Refusal) → (walk σ.edition σ.table σ.term 0 [] ≡ refused why) ↔ Refuses σ.edition σ.table [] σ.term 0 why
  refuses-exact why =
      let l = laid s σ read in (
        (λ h. of_refused (walk σ.edition σ.table σ.term 0 []) why walk_or h),
        (λ r. refuses-walk σ.edition σ.table l.table r l.ranged tt),
      )

  -- at most one refusal: number, node, and the two types of 12
  pub refuses_only : (why why' : Refusal) → Refuses σ.edition σ.table [] σ.term 0 why → Refuses σ.edition σ.table [] σ.term 0 why' → why ≡ why'
  refuses_only why why' r q = refused-inj (sym ((refuses-exact why).1 r) ∙ (refuses-exact why').1 q)

  -- .. and none where Figure 2 has a derivation
  pub refuses_untyped : (why : Refusal) (τ : Ty) → Refuses σ.edition σ.table [] σ.term 0 why → Typed σ.edition σ.table [] σ.term τ → ⊥
  refuses_untyped why τ r d =
      let (f, h) = (exact s σ read).1 (τ, d) in
      refused≢good (sym ((refuses-exact why).1 r) ∙ h)

  -- a derivation or a refusal
  pub typed_or_refuses : ((τ : Ty) × Typed σ.edition σ.table [] σ.term τ) ⊎ ((why : Refusal) × Refuses σ.edition σ.table [] σ.term 0 why)
  typed_or_refuses = by (walk σ.edition σ.table σ.term 0 []) refl
    where
      by : (a : Answer Found) → walk σ.edition σ.table σ.term 0 [] ≡ a
          → ((τ : Ty) × Typed σ.edition σ.table [] σ.term τ) ⊎ ((why : Refusal) × Refuses σ.edition σ.table [] σ.term 0 why)
      by (good r) h = inl ((exact s σ read).0 (r, h))
      by (refused why) h = inr (why, (refuses-exact why).0 h)
