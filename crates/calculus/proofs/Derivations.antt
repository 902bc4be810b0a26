-- Figure 2 on known sheets: P8, P9 and P11 have no derivation, P3 has one; and the rule of section 5.2 on S3 and S5. Assumes nothing.
use Prim.Native.Nat.{ℕ}
use mathlib.Core.Path.{◌≡◌, refl, sym, subst, ◌∙◌}
use mathlib.Core.List.{List, [], ◌∷◌}
use native.Mathlib.Omega.{arith}
use lib.Dec.{T}
use Rattle.calculus.specs.Answer.{good}
use Rattle.calculus.specs.Types.{Ty, bit, arrow, sharable, rec01, rec02, rec03, rec04, Table}
use Rattle.calculus.specs.Terms.{Edition, first, second, is_second, Term, var, lvar, app, lfun, lapp, pair, con, name}
use Rattle.calculus.specs.Read.{Sheet, edition_of, records_of, read_sheet, read_records, read_types, read_term, head_at}
use Rattle.calculus.specs.Rules.{Ctx, once, away, NoLinear, none_end, none_many, none_away, in_here, IsΔ, is_here, split_end, split_many, split_first, split_second, split_away, Typed, Var, LVar, →E, ⊸I, ⊸E, ×I, Con, ×E'}
use Rattle.calculus.specs.Known.{P3, P8, P9, P11, S3, S5}
use Rattle.calculus.proofs.Answers.{good-inj}

abbrev sheet : Table → Term → Sheet
sheet Θ e = record { edition = first; table = Θ; term = e }

-- 0 is **1**, 1 is **1** → **1**, 2 is (**1** → **1**) ⊸ **1**
abbrev types : Table
types = rec01 ∷ rec03 0 0 ∷ rec04 1 0 ∷ []

-- the term of a sheet has no derivation
abbrev pub Underivable : List ℕ → Type 0
Underivable s = (σ : Sheet) → read_sheet s ≡ good σ → (τ : Ty) → Typed σ.edition σ.table [] σ.term τ → ⊥

underivable : (s : List ℕ) (σ : Sheet) → read_sheet s ≡ good σ → ((τ : Ty) → Typed σ.edition σ.table [] σ.term τ → ⊥) → Underivable s
underivable s σ e none σ' e' τ d = none τ (subst (λ (x : Sheet). Typed x.edition x.table [] x.term τ) (good-inj (sym e' ∙ e)) d)

-- ---- P8: the linear variable is used again

read-P8 : read_sheet P8.sheet ≡ good (sheet types (lfun 2 (app (lvar 0) (app (lvar 0) (con 0 0)))))
unfolding edition_of records_of read_sheet read_records read_types read_term head_at
read-P8 = refl

-- whichever side of an application the variable goes to, the other has none
away_used : {Γ : Ctx} {κ : Ty} → IsΔ (away ∷ Γ) 0 κ → ⊥
away_used = elim [ ]

first_used : {Γ : Ctx} {τ : Ty} → Typed first types (away ∷ Γ) (lvar 0) τ → ⊥
first_used (LVar x) = away_used x

away_applied : {Γ : Ctx} {τ : Ty} {a : Term} → Typed first types (away ∷ Γ) (app (lvar 0) a) τ → ⊥
away_applied (→E (split_away z) sh d c) = first_used d

applied-twice : {κ τ : Ty} {a : Term} → Typed first types (once κ ∷ []) (app (lvar 0) (app (lvar 0) a)) τ → ⊥
applied-twice (→E (split_first z) sh d c) = away_applied c
applied-twice (→E (split_second z) sh d c) = first_used d

twice : (τ : Ty) → Typed first types [] (lfun 2 (app (lvar 0) (app (lvar 0) (con 0 0)))) τ → ⊥
twice τ (⊸I e ar d) = applied-twice d

pub untyped_P8 : Underivable P8.sheet
untyped_P8 = underivable P8.sheet _ read-P8 twice

-- ---- P9: the linear variable is unused

read-P9 : read_sheet P9.sheet ≡ good (sheet types (lfun 2 (con 0 0)))
unfolding edition_of records_of read_sheet read_records read_types read_term head_at
read-P9 = refl

left_over : {κ : Ty} → NoLinear (once κ ∷ []) → ⊥
left_over = elim [ ]

unused_in : {κ τ : Ty} → Typed first types (once κ ∷ []) (con 0 0) τ → ⊥
unused_in (Con h e z) = left_over z

unused : (τ : Ty) → Typed first types [] (lfun 2 (con 0 0)) τ → ⊥
unused τ (⊸I e ar d) = unused_in d

pub untyped_P9 : Underivable P9.sheet
untyped_P9 = underivable P9.sheet _ read-P9 unused

-- ---- P11: zero is no function

read-P11 : read_sheet P11.sheet ≡ good (sheet (rec01 ∷ []) (app (con 0 0) (con 0 0)))
unfolding edition_of records_of read_sheet read_records read_types read_term head_at
read-P11 = refl

no_function : {E : Edition} {Θ : Table} {Γ : Ctx} {t : ℕ} {θ τ : Ty} → Typed E Θ Γ (con 0 t) (arrow θ τ) → ⊥
no_function = elim [ ]

misfit : (τ : Ty) → Typed first (rec01 ∷ []) [] (app (con 0 0) (con 0 0)) τ → ⊥
misfit τ (→E z sh d c) = no_function d

pub untyped_P11 : Underivable P11.sheet
untyped_P11 = underivable P11.sheet _ read-P11 misfit

-- ---- P3: a linear function, applied to reg

read-P3 : read_sheet P3.sheet ≡ good (sheet types (lapp (lfun 2 (app (lvar 0) (con 0 0))) (con 1 1)))
unfolding edition_of records_of read_sheet read_records read_types read_term head_at
read-P3 = refl

pub typed_P3 : (σ : Sheet) → read_sheet P3.sheet ≡ good σ → Typed σ.edition σ.table [] σ.term bit
typed_P3 σ e =
    subst (λ (x : Sheet). Typed x.edition x.table [] x.term bit) (good-inj (sym read-P3 ∙ e))
    (⊸E split_end tt (⊸I refl tt (→E (split_first split_end) tt (LVar (is_here none_end)) (Con (omega arith) refl (none_away none_end)))) (Con (omega arith) refl none_end))

-- ---- S3: zero is named, and goes to both inputs of a gate

-- 0 is **1**, 1 is **1** × **1**, 2 is **1** × **1** → **1**
abbrev paired : Sheet
paired = record { edition = second; table = rec01 ∷ rec02 0 0 ∷ rec03 1 0 ∷ []; term = name (con 0 0) (app (con 2 2) (pair 1 (var 0) (var 0))) }

read-S3 : read_sheet S3.sheet ≡ good paired
unfolding edition_of records_of read_sheet read_records read_types read_term head_at
read-S3 = refl

pub typed_S3 : (σ : Sheet) → read_sheet S3.sheet ≡ good σ → Typed σ.edition σ.table [] σ.term bit
typed_S3 σ e =
    let none = none_many none_end in
    let x = Var (in_here none_end) in
    subst (λ (y : Sheet). Typed y.edition y.table [] y.term bit) (good-inj (sym read-S3 ∙ e))
    (×E' refl split_end tt (Con (omega arith) refl none_end) (→E (split_many split_end) tt (Con (omega arith) refl none) (×I (split_many split_end) refl tt tt x x)))

-- ---- S5: reg is not sharable, so it has no name

read-S5 : read_sheet S5.sheet ≡ good (record { edition = second; table = rec01 ∷ rec03 0 0 ∷ []; term = name (con 1 1) (con 0 0) })
unfolding edition_of records_of read_sheet read_records read_types read_term head_at
read-S5 = refl

reg_linear : {E : Edition} {Θ : Table} {Γ : Ctx} {t : ℕ} {θ : Ty} → T (sharable θ) → Typed E Θ Γ (con 1 t) θ → ⊥
reg_linear sh (Con h e z) = sh

no_name : {E : Edition} {Θ : Table} {t : ℕ} {e : Term} (τ : Ty) → Typed E Θ [] (name (con 1 t) e) τ → ⊥
no_name τ (×E' i z sh d c) = reg_linear sh d

pub untyped_S5 : Underivable S5.sheet
untyped_S5 = underivable S5.sheet _ read-S5 no_name

-- ---- the first edition has no such rule

edition_differs : first ≡ second → ⊥
edition_differs e = subst (λ (E : Edition). T (is_second E)) (sym e) tt

pub untyped_first : {Θ : Table} {Γ : Ctx} {a e : Term} {τ : Ty} → Typed first Θ Γ (name a e) τ → ⊥
untyped_first (×E' i z sh d c) = edition_differs i
