-- A term has at most one type. Assumes nothing.
use Prim.Native.Nat.{ℕ}
use mathlib.Core.Path.{◌≡◌, refl, sym, ◌∙◌}
use mathlib.Core.List.{[], ◌∷◌}
use Rattle.calculus.specs.Types.{Ty, prod, arrow, lolli, Table}
use Rattle.calculus.specs.Terms.{Edition, Term}
use Rattle.calculus.specs.Rules.{many, once, away, Ctx, InΓ, in_here, in_many, in_away, IsΔ, is_here, is_many, is_away, Split, split_end, split_many, split_first, split_second, split_away, Typed, Var, LVar, →I, →E, ⊸I, ⊸E, ×I, ×E, Fix, Con, ×E'}

-- two contexts that do not differ where a binder is in both
pub data Alike : Ctx → Ctx → Type 0 where
  alike_end : Alike [] []
  alike_many : {θ : Ty} {Γ Γ' : Ctx} → Alike Γ Γ' → Alike (many θ ∷ Γ) (many θ ∷ Γ')
  alike_once : {κ : Ty} {Γ Γ' : Ctx} → Alike Γ Γ' → Alike (once κ ∷ Γ) (once κ ∷ Γ')
  alike_left : {κ : Ty} {Γ Γ' : Ctx} → Alike Γ Γ' → Alike (once κ ∷ Γ) (away ∷ Γ')
  alike_right : {κ : Ty} {Γ Γ' : Ctx} → Alike Γ Γ' → Alike (away ∷ Γ) (once κ ∷ Γ')
  alike_away : {Γ Γ' : Ctx} → Alike Γ Γ' → Alike (away ∷ Γ) (away ∷ Γ')

pub alike_refl : (Γ : Ctx) → Alike Γ Γ
alike_refl [] = alike_end
alike_refl (many θ ∷ Γ) = alike_many (alike_refl Γ)
alike_refl (once κ ∷ Γ) = alike_once (alike_refl Γ)
alike_refl (away ∷ Γ) = alike_away (alike_refl Γ)

-- however each is split
split_alike : {Γ Γ' Γ₁ Γ₂ Γ₁' Γ₂' : Ctx} → Alike Γ Γ' → Split Γ Γ₁ Γ₂ → Split Γ' Γ₁' Γ₂' → Alike Γ₁ Γ₁' × Alike Γ₂ Γ₂'
split_alike alike_end split_end split_end = (alike_end, alike_end)
split_alike (alike_many l) (split_many z) (split_many w) = let (p, q) = split_alike l z w in (alike_many p, alike_many q)
split_alike (alike_once l) (split_first z) (split_first w) = let (p, q) = split_alike l z w in (alike_once p, alike_away q)
split_alike (alike_once l) (split_first z) (split_second w) = let (p, q) = split_alike l z w in (alike_left p, alike_right q)
split_alike (alike_once l) (split_second z) (split_first w) = let (p, q) = split_alike l z w in (alike_right p, alike_left q)
split_alike (alike_once l) (split_second z) (split_second w) = let (p, q) = split_alike l z w in (alike_away p, alike_once q)
split_alike (alike_left l) (split_first z) (split_away w) = let (p, q) = split_alike l z w in (alike_left p, alike_away q)
split_alike (alike_left l) (split_second z) (split_away w) = let (p, q) = split_alike l z w in (alike_away p, alike_left q)
split_alike (alike_right l) (split_away z) (split_first w) = let (p, q) = split_alike l z w in (alike_right p, alike_away q)
split_alike (alike_right l) (split_away z) (split_second w) = let (p, q) = split_alike l z w in (alike_away p, alike_right q)
split_alike (alike_away l) (split_away z) (split_away w) = let (p, q) = split_alike l z w in (alike_away p, alike_away q)

one_shared : {Γ Γ' : Ctx} {i : ℕ} {θ θ' : Ty} → Alike Γ Γ' → InΓ Γ i θ → InΓ Γ' i θ' → θ ≡ θ'
one_shared (alike_many l) (in_here z) (in_here w) = refl
one_shared (alike_many l) (in_many x) (in_many y) = one_shared l x y
one_shared (alike_away l) (in_away x) (in_away y) = one_shared l x y
one_shared {i = i} {θ = θ} alike_end x y = elim x [ ]
one_shared {i = i} {θ = θ} (alike_once {κ = κ} {Γ = Γ} _) x _ = elim x [ ]
one_shared {i = i} {θ = θ} (alike_left {κ = κ} {Γ = Γ} _) x _ = elim x [ ]
one_shared {i = i} {θ = θ} (alike_right {κ = κ} {Γ = Γ} _) _ y = elim y [ ]

-- a linear binder that is in only one of the two is not the variable
taken : {Γ Γ' : Ctx} {i : ℕ} {κ ρ κ' : Ty} → IsΔ (away ∷ Γ') i κ' → IsΔ (once ρ ∷ Γ) i κ → ⊥
taken (is_away y) = elim [ ]

one_linear : {Γ Γ' : Ctx} {i : ℕ} {κ κ' : Ty} → Alike Γ Γ' → IsΔ Γ i κ → IsΔ Γ' i κ' → κ ≡ κ'
one_linear (alike_once l) (is_here z) (is_here w) = refl
one_linear (alike_left l) x y = absurd (taken y x)
one_linear (alike_right l) x y = absurd (taken x y)
one_linear (alike_many l) (is_many x) (is_many y) = one_linear l x y
one_linear (alike_away l) (is_away x) (is_away y) = one_linear l x y
one_linear {i = i} {κ = κ} alike_end x y = elim x [ ]

arrow_right : {a b c d : Ty} → arrow a b ≡ arrow c d → b ≡ d
arrow_right e = cc

lolli_right : {a b c d : Ty} → lolli a b ≡ lolli c d → b ≡ d
lolli_right e = cc

prod_left : {a b c d : Ty} → prod a b ≡ prod c d → a ≡ c
prod_left e = cc

prod_right : {a b c d : Ty} → prod a b ≡ prod c d → b ≡ d
prod_right e = cc

pub one_type_alike : {E : Edition} {Θ : Table} {Γ Γ' : Ctx} {e : Term} {τ τ' : Ty} → Alike Γ Γ' → Typed E Θ Γ e τ → Typed E Θ Γ' e τ' → τ ≡ τ'
one_type_alike l (Var x) (Var y) = one_shared l x y
one_type_alike l (LVar x) (LVar y) = one_linear l x y
one_type_alike l (→I p sh d) (→I q sh' d') = sym p ∙ q
one_type_alike l (→E z sh d c) (→E w sh' d' c') = let (m, n) = split_alike l z w in arrow_right (one_type_alike m d d')
one_type_alike l (⊸I p ar d) (⊸I q ar' d') = sym p ∙ q
one_type_alike l (⊸E z ar d c) (⊸E w ar' d' c') = let (m, n) = split_alike l z w in lolli_right (one_type_alike m d d')
one_type_alike l (×I z p s₁ s₂ d c) (×I w q t₁ t₂ d' c') = sym p ∙ q
one_type_alike l (×E z s₁ s₂ d c) (×E w t₁ t₂ d' c') =
    let (m, n) = split_alike l z w in
    let e = one_type_alike m d d' in
    one_type_alike (rw (prod_left e, prod_right e) (alike_many (alike_many n))) c c'
one_type_alike l (Fix p sh d) (Fix q sh' d') = sym p ∙ q
one_type_alike l (Con h p z) (Con k q w) = refl
one_type_alike l (×E' eE z sh d c) (×E' eF w sh' d' c') =
    let (m, n) = split_alike l z w in
    one_type_alike (rw (one_type_alike m d d') (alike_many n)) c c'

pub one_type : {E : Edition} {Θ : Table} {Γ : Ctx} {e : Term} {τ τ' : Ty} → Typed E Θ Γ e τ → Typed E Θ Γ e τ' → τ ≡ τ'
one_type {Γ = Γ} d d' = one_type_alike (alike_refl Γ) d d'
