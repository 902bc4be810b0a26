-- The type system (document 000, Figure 2), plus the rule for constants (document 01, "Typing") and, in the second edition, the rule of
-- document 000, section 5.2. Assumes nothing.
-- A context is one list, the nearest binder first, since binders of both sorts share one count. An entry is `many θ` for x : θ in Γ,
-- `once κ` for f : κ in Δ, and `away` for a linear binder that is in scope and not in this Δ.
use Rattle.std.specs.Prelude.{ℕ, zero, suc, ◌<◌, ◌≡◌, List, [], ◌∷◌, T, length}
use Rattle.calculus.specs.Types.{Ty, prod, arrow, lolli, sharable, is_arrow, Table, tree}
use Rattle.calculus.specs.Terms.{Edition, second, Term, var, lvar, fun, app, lfun, lapp, pair, proj, fix, con, name, parts, part_at}

pub data Entry : Type 0 where
  many once : Ty → Entry
  away : Entry

abbrev pub Ctx : Type 0
Ctx = List Entry

-- Δ is empty
pub data NoLinear : Ctx → Type 0 where
  none_end : NoLinear []
  none_many : {θ : Ty} {Γ : Ctx} → NoLinear Γ → NoLinear (many θ ∷ Γ)
  none_away : {Γ : Ctx} → NoLinear Γ → NoLinear (away ∷ Γ)

-- x : θ is in Γ, at binder number i, and Δ is empty
pub data InΓ : Ctx → ℕ → Ty → Type 0 where
  in_here : {θ : Ty} {Γ : Ctx} → NoLinear Γ → InΓ (many θ ∷ Γ) zero θ
  in_many : {θ τ : Ty} {Γ : Ctx} {i : ℕ} → InΓ Γ i θ → InΓ (many τ ∷ Γ) (suc i) θ
  in_away : {θ : Ty} {Γ : Ctx} {i : ℕ} → InΓ Γ i θ → InΓ (away ∷ Γ) (suc i) θ

-- Δ is f : κ alone, at binder number i
pub data IsΔ : Ctx → ℕ → Ty → Type 0 where
  is_here : {κ : Ty} {Γ : Ctx} → NoLinear Γ → IsΔ (once κ ∷ Γ) zero κ
  is_many : {κ τ : Ty} {Γ : Ctx} {i : ℕ} → IsΔ Γ i κ → IsΔ (many τ ∷ Γ) (suc i) κ
  is_away : {κ : Ty} {Γ : Ctx} {i : ℕ} → IsΔ Γ i κ → IsΔ (away ∷ Γ) (suc i) κ

-- Γ; Δ₁, Δ₂ is split into Γ; Δ₁ and Γ; Δ₂
pub data Split : Ctx → Ctx → Ctx → Type 0 where
  split_end : Split [] [] []
  split_many : {θ : Ty} {Γ Γ₁ Γ₂ : Ctx} → Split Γ Γ₁ Γ₂ → Split (many θ ∷ Γ) (many θ ∷ Γ₁) (many θ ∷ Γ₂)
  split_first : {κ : Ty} {Γ Γ₁ Γ₂ : Ctx} → Split Γ Γ₁ Γ₂ → Split (once κ ∷ Γ) (once κ ∷ Γ₁) (away ∷ Γ₂)
  split_second : {κ : Ty} {Γ Γ₁ Γ₂ : Ctx} → Split Γ Γ₁ Γ₂ → Split (once κ ∷ Γ) (away ∷ Γ₁) (once κ ∷ Γ₂)
  split_away : {Γ Γ₁ Γ₂ : Ctx} → Split Γ Γ₁ Γ₂ → Split (away ∷ Γ) (away ∷ Γ₁) (away ∷ Γ₂)

-- Γ; Δ ⊢ e : τ, over the sheet's table of types: a written type must equal the one that the rule gives. Γ; Δ is the one context Γ. Each
-- rule is set as in the figure, its premises one below the other; θ stands for sharable types, κ for arrows
pub data Typed (E : Edition) (Θ : Table) : Ctx → Term → Ty → Type 0 where
  Var :
      {Γ : Ctx} {i : ℕ} {θ : Ty}
      → InΓ Γ i θ
      -- ---------------------------------------------
      → Typed E Θ Γ (var i) θ
  LVar :
      {Γ : Ctx} {i : ℕ} {κ : Ty}
      → IsΔ Γ i κ
      -- ---------------------------------------------
      → Typed E Θ Γ (lvar i) κ
  →I :
      {Γ : Ctx} {t : ℕ} {e : Term} {θ τ : Ty}
      → tree Θ t ≡ arrow θ τ
      → T (sharable θ)
      → Typed E Θ (many θ ∷ Γ) e τ
      -- ---------------------------------------------
      → Typed E Θ Γ (fun t e) (arrow θ τ)
  →E :
      {Γ Γ₁ Γ₂ : Ctx} {f a : Term} {θ τ : Ty}
      → Split Γ Γ₁ Γ₂
      → T (sharable θ)
      → Typed E Θ Γ₁ f (arrow θ τ)
      → Typed E Θ Γ₂ a θ
      -- ---------------------------------------------
      → Typed E Θ Γ (app f a) τ
  ⊸I :
      {Γ : Ctx} {t : ℕ} {e : Term} {κ τ : Ty}
      → tree Θ t ≡ lolli κ τ
      → T (is_arrow κ)
      → Typed E Θ (once κ ∷ Γ) e τ
      -- ---------------------------------------------
      → Typed E Θ Γ (lfun t e) (lolli κ τ)
  ⊸E :
      {Γ Γ₁ Γ₂ : Ctx} {f a : Term} {κ τ : Ty}
      → Split Γ Γ₁ Γ₂
      → T (is_arrow κ)
      → Typed E Θ Γ₁ f (lolli κ τ)
      → Typed E Θ Γ₂ a κ
      -- ---------------------------------------------
      → Typed E Θ Γ (lapp f a) τ
  ×I :
      {Γ Γ₁ Γ₂ : Ctx} {t : ℕ} {a b : Term} {θ₁ θ₂ : Ty}
      → Split Γ Γ₁ Γ₂
      → tree Θ t ≡ prod θ₁ θ₂
      → T (sharable θ₁)
      → T (sharable θ₂)
      → Typed E Θ Γ₁ a θ₁
      → Typed E Θ Γ₂ b θ₂
      -- ---------------------------------------------
      → Typed E Θ Γ (pair t a b) (prod θ₁ θ₂)
  ×E :
      {Γ Γ₁ Γ₂ : Ctx} {a e : Term} {θ₁ θ₂ τ : Ty}
      → Split Γ Γ₁ Γ₂
      → T (sharable θ₁)
      → T (sharable θ₂)
      → Typed E Θ Γ₁ a (prod θ₁ θ₂)
      → Typed E Θ (many θ₂ ∷ many θ₁ ∷ Γ₂) e τ
      -- ---------------------------------------------
      → Typed E Θ Γ (proj a e) τ
  Fix :
      {Γ : Ctx} {t : ℕ} {e : Term} {θ : Ty}
      → tree Θ t ≡ θ
      → T (sharable θ)
      → Typed E Θ (many θ ∷ Γ) e θ
      -- ---------------------------------------------
      → Typed E Θ Γ (fix t e) θ
  -- a constant has its part's type and an empty linear context
  Con :
      {Γ : Ctx} {p t : ℕ}
      → p < length parts
      → tree Θ t ≡ (part_at p).type E
      → NoLinear Γ
      -- ---------------------------------------------
      → Typed E Θ Γ (con p t) ((part_at p).type E)
  -- the projection with one variable, in the second edition
  ×E' :
      {Γ Γ₁ Γ₂ : Ctx} {a e : Term} {θ τ : Ty}
      → E ≡ second
      → Split Γ Γ₁ Γ₂
      → T (sharable θ)
      → Typed E Θ Γ₁ a θ
      → Typed E Θ (many θ ∷ Γ₂) e τ
      -- ---------------------------------------------
      → Typed E Θ Γ (name a e) τ
