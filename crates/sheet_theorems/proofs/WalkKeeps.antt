-- An accepted walk leaves the binders as they were, but for marks of use, and its type number names a type. Assumes nothing.
use Prim.Native.Nat.{ℕ, zero, suc, ◌+◌, ◌<◌}
use mathlib.Core.Path.{◌≡◌, refl, ap, subst}
use mathlib.Core.Bool.{Bool, true, false}
use mathlib.Core.List.{[], ◌∷◌}
use native.Mathlib.Omega.{arith}
use lib.Dec.{eqb, ltb}
use lib.ListN.{length}
use Rattle.calculus.specs.Answer.{good}
use Rattle.calculus.proofs.Answers.{refused≢good, good-inj, on-bind, on-require, on-need}
use Rattle.calculus.specs.Types.{sharable, ty_eq, TyRec, rec02, rec03, rec04, Table, rec_at, tree}
use Rattle.calculus.specs.Terms.{Edition, Term, var, lvar, fun, app, lfun, lapp, pair, proj, fix, con, name, nodes, parts, part_at}
use Rattle.calculus.specs.Walk.{Binder, shared, linear, Stack, Sides, product, sharable_arrow, linear_arrow, Found, use_shared, use_linear, pop, top_used, walk}
use Rattle.sheet_theorems.specs.Laid.{Below, TableOk, Ranged}
use Rattle.sheet_theorems.proofs.Sound.{product_good, sharable_good, linear_good, under_good}
use Rattle.sheet_theorems.specs.Numbers.{Numbers}

-- the same binders, of which some linear ones have been used meanwhile
pub data StackKept : Stack → Stack → Type 0 where
  kept_end : StackKept [] []
  kept_shared : {t : ℕ} {st st' : Stack} → StackKept st st' → StackKept (shared t ∷ st) (shared t ∷ st')
  kept_same : {t : ℕ} {u : Bool} {st st' : Stack} → StackKept st st' → StackKept (linear t u ∷ st) (linear t u ∷ st')
  kept_took : {t : ℕ} {st st' : Stack} → StackKept st st' → StackKept (linear t false ∷ st) (linear t true ∷ st')

pub kept_refl : (st : Stack) → StackKept st st
kept_refl [] = kept_end
kept_refl (shared t ∷ st) = kept_shared (kept_refl st)
kept_refl (linear t u ∷ st) = kept_same (kept_refl st)

pub kept_trans : {a b c : Stack} → StackKept a b → StackKept b c → StackKept a c
kept_trans kept_end kept_end = kept_end
kept_trans (kept_shared p) (kept_shared q) = kept_shared (kept_trans p q)
kept_trans (kept_same p) (kept_same q) = kept_same (kept_trans p q)
kept_trans (kept_same p) (kept_took q) = kept_took (kept_trans p q)
kept_trans (kept_took p) (kept_same q) = kept_took (kept_trans p q)

pub kept-length : {st st' : Stack} → StackKept st st' → length st' ≡ length st
kept-length kept_end = refl
kept-length (kept_shared k) = ap suc (kept-length k)
kept-length (kept_same k) = ap suc (kept-length k)
kept-length (kept_took k) = ap suc (kept-length k)

pub kept-numbers : {st st' : Stack} (l : ℕ) → StackKept st st' → Numbers st l → Numbers st' l
kept-numbers l kept_end n = n
kept-numbers l (kept_shared k) n = (n.0, kept-numbers l k n.1)
kept-numbers l (kept_same k) n = (n.0, kept-numbers l k n.1)
kept-numbers l (kept_took k) n = (n.0, kept-numbers l k n.1)

-- leaving a binder's scope
pub kept-pop : {b : Binder} {st st' : Stack} → StackKept (b ∷ st) st' → StackKept st (pop st')
kept-pop (kept_shared k) = k
kept-pop (kept_same k) = k
kept-pop (kept_took k) = k

use_shared_keeps : (st : Stack) (i n : ℕ) (r : Found) → use_shared st i n ≡ good r → StackKept st r.stack
use_shared_keeps [] i n r e = absurd (refused≢good e)
use_shared_keeps (shared t ∷ st) zero n r e = rw (← good-inj e) (kept_refl (shared t ∷ st))
use_shared_keeps (linear t u ∷ st) zero n r e = absurd (refused≢good e)
use_shared_keeps (shared t ∷ st) (suc i) n r e =
    let (q, e₁, e₂) = under_good (shared t) (use_shared st i n) r e in
    rw (← e₂) (kept_shared (use_shared_keeps st i n q e₁))
use_shared_keeps (linear t u ∷ st) (suc i) n r e =
    let (q, e₁, e₂) = under_good (linear t u) (use_shared st i n) r e in
    rw (← e₂) (kept_same (use_shared_keeps st i n q e₁))

use_linear_keeps : (st : Stack) (i n : ℕ) (r : Found) → use_linear st i n ≡ good r → StackKept st r.stack
use_linear_keeps [] i n r e = absurd (refused≢good e)
use_linear_keeps (shared t ∷ st) zero n r e = absurd (refused≢good e)
use_linear_keeps (linear t true ∷ st) zero n r e = absurd (refused≢good e)
use_linear_keeps (linear t false ∷ st) zero n r e = rw (← good-inj e) (kept_took (kept_refl st))
use_linear_keeps (shared t ∷ st) (suc i) n r e =
    let (q, e₁, e₂) = under_good (shared t) (use_linear st i n) r e in
    rw (← e₂) (kept_shared (use_linear_keeps st i n q e₁))
use_linear_keeps (linear t u ∷ st) (suc i) n r e =
    let (q, e₁, e₂) = under_good (linear t u) (use_linear st i n) r e in
    rw (← e₂) (kept_same (use_linear_keeps st i n q e₁))

pub walk_keeps : (E : Edition) (Θ : Table) (e : Term) (n : ℕ) (st : Stack) (r : Found) → walk E Θ e n st ≡ good r → StackKept st r.stack
walk_keeps E Θ (var i) n st r h = use_shared_keeps st i n r h
walk_keeps E Θ (lvar i) n st r h = use_linear_keeps st i n r h
walk_keeps E Θ (fun t e) n st r h =
    on-bind (sharable_arrow (rec_at Θ t) t n) _ r h λ τ h₁ k₁.
    on-bind (walk E Θ e (n + 1) (shared τ.left ∷ st)) _ r k₁ λ q h₂ k₂.
    on-require (eqb q.type τ.right) _ _ r k₂ λ h₃ k₃.
    rw (← good-inj k₃) (kept-pop (walk_keeps E Θ e (n + 1) _ q h₂))
walk_keeps E Θ (app f a) n st r h =
    on-bind (walk E Θ f (n + 1) st) _ r h λ x h₁ k₁.
    on-bind (walk E Θ a (n + 1 + nodes f) x.stack) _ r k₁ λ y h₂ k₂.
    on-bind (sharable_arrow (rec_at Θ x.type) x.type n) _ r k₂ λ τ h₃ k₃.
    on-require (eqb y.type τ.left) _ _ r k₃ λ h₄ k₄.
    rw (← good-inj k₄) (kept_trans (walk_keeps E Θ f (n + 1) st x h₁) (walk_keeps E Θ a _ x.stack y h₂))
walk_keeps E Θ (lfun t e) n st r h =
    on-bind (linear_arrow (rec_at Θ t) t n) _ r h λ τ h₁ k₁.
    on-bind (walk E Θ e (n + 1) (linear τ.left false ∷ st)) _ r k₁ λ q h₂ k₂.
    on-need (top_used q.stack) 14 n _ r k₂ λ h₃ k₃.
    on-require (eqb q.type τ.right) _ _ r k₃ λ h₄ k₄.
    rw (← good-inj k₄) (kept-pop (walk_keeps E Θ e (n + 1) _ q h₂))
walk_keeps E Θ (lapp f a) n st r h =
    on-bind (walk E Θ f (n + 1) st) _ r h λ x h₁ k₁.
    on-bind (walk E Θ a (n + 1 + nodes f) x.stack) _ r k₁ λ y h₂ k₂.
    on-bind (linear_arrow (rec_at Θ x.type) x.type n) _ r k₂ λ τ h₃ k₃.
    on-require (eqb y.type τ.left) _ _ r k₃ λ h₄ k₄.
    rw (← good-inj k₄) (kept_trans (walk_keeps E Θ f (n + 1) st x h₁) (walk_keeps E Θ a _ x.stack y h₂))
walk_keeps E Θ (pair t a b) n st r h =
    on-bind (product (rec_at Θ t) t n) _ r h λ τ h₁ k₁.
    on-bind (walk E Θ a (n + 1) st) _ r k₁ λ x h₂ k₂.
    on-bind (walk E Θ b (n + 1 + nodes a) x.stack) _ r k₂ λ y h₃ k₃.
    on-require (eqb x.type τ.left) _ _ r k₃ λ h₄ k₄.
    on-require (eqb y.type τ.right) _ _ r k₄ λ h₅ k₅.
    rw (← good-inj k₅) (kept_trans (walk_keeps E Θ a (n + 1) st x h₂) (walk_keeps E Θ b _ x.stack y h₃))
walk_keeps E Θ (proj a e) n st r h =
    on-bind (walk E Θ a (n + 1) st) _ r h λ x h₁ k₁.
    on-bind (product (rec_at Θ x.type) x.type n) _ r k₁ λ τ h₂ k₂.
    on-bind (walk E Θ e (n + 1 + nodes a) (shared τ.right ∷ shared τ.left ∷ x.stack)) _ r k₂ λ y h₃ k₃.
    rw (← good-inj k₃) (kept_trans (walk_keeps E Θ a (n + 1) st x h₁) (kept-pop (kept-pop (walk_keeps E Θ e _ _ y h₃))))
walk_keeps E Θ (fix t e) n st r h =
    on-require (sharable (tree Θ t)) _ _ r h λ h₁ k₁.
    on-bind (walk E Θ e (n + 1) (shared t ∷ st)) _ r k₁ λ q h₂ k₂.
    on-require (eqb q.type t) _ _ r k₂ λ h₃ k₃.
    rw (← good-inj k₃) (kept-pop (walk_keeps E Θ e (n + 1) _ q h₂))
walk_keeps E Θ (con p t) n st r h =
    on-need (ltb p (length parts)) 15 n _ r h λ h₁ k₁.
    on-require (ty_eq (tree Θ t) ((part_at p).type E)) _ _ r k₁ λ h₂ k₂.
    rw (← good-inj k₂) (kept_refl st)
walk_keeps E Θ (name a e) n st r h =
    on-bind (walk E Θ a (n + 1) st) _ r h λ x h₁ k₁.
    on-require (sharable (tree Θ x.type)) _ _ r k₁ λ h₂ k₂.
    on-bind (walk E Θ e (n + 1 + nodes a) (shared x.type ∷ x.stack)) _ r k₂ λ y h₃ k₃.
    rw (← good-inj k₃) (kept_trans (walk_keeps E Θ a (n + 1) st x h₁) (kept-pop (walk_keeps E Θ e _ _ y h₃)))

-- ---- the type number

use_shared_in : (st : Stack) (i n l : ℕ) (r : Found) → Numbers st l → use_shared st i n ≡ good r → r.type < l
use_shared_in [] i n l r k e = absurd (refused≢good e)
use_shared_in (shared t ∷ st) zero n l r k e = rw (← good-inj e) k.0
use_shared_in (linear t u ∷ st) zero n l r k e = absurd (refused≢good e)
use_shared_in (shared t ∷ st) (suc i) n l r k e =
    let (q, e₁, e₂) = under_good (shared t) (use_shared st i n) r e in
    rw (← e₂) (use_shared_in st i n l q k.1 e₁)
use_shared_in (linear t u ∷ st) (suc i) n l r k e =
    let (q, e₁, e₂) = under_good (linear t u) (use_shared st i n) r e in
    rw (← e₂) (use_shared_in st i n l q k.1 e₁)

use_linear_in : (st : Stack) (i n l : ℕ) (r : Found) → Numbers st l → use_linear st i n ≡ good r → r.type < l
use_linear_in [] i n l r k e = absurd (refused≢good e)
use_linear_in (shared t ∷ st) zero n l r k e = absurd (refused≢good e)
use_linear_in (linear t true ∷ st) zero n l r k e = absurd (refused≢good e)
use_linear_in (linear t false ∷ st) zero n l r k e = rw (← good-inj e) k.0
use_linear_in (shared t ∷ st) (suc i) n l r k e =
    let (q, e₁, e₂) = under_good (shared t) (use_linear st i n) r e in
    rw (← e₂) (use_linear_in st i n l q k.1 e₁)
use_linear_in (linear t u ∷ st) (suc i) n l r k e =
    let (q, e₁, e₂) = under_good (linear t u) (use_linear st i n) r e in
    rw (← e₂) (use_linear_in st i n l q k.1 e₁)

module _ (Θ : Table) (ok : TableOk Θ) where
  -- the two sides of a written or found type
  sides-in : (t a b : ℕ) (of : ℕ → ℕ → TyRec) → t < length Θ → rec_at Θ t ≡ of a b → ((m : ℕ) → Below m (of a b) → (a < m) × (b < m)) → (a < length Θ) × (b < length Θ)
  sides-in t a b of h e f =
      let k = f t (subst (λ (q : TyRec). Below t q) e (ok.earlier t h)) in
      (omega arith, omega arith)

  pub arrow_in : (t n : ℕ) (τ : Sides) → t < length Θ → sharable_arrow (rec_at Θ t) t n ≡ good τ → (τ.left < length Θ) × (τ.right < length Θ)
  arrow_in t n τ h e = sides-in t τ.left τ.right rec03 h (sharable_good (rec_at Θ t) t n τ e) (λ m k. k)

  pub lolli_in : (t n : ℕ) (τ : Sides) → t < length Θ → linear_arrow (rec_at Θ t) t n ≡ good τ → (τ.left < length Θ) × (τ.right < length Θ)
  lolli_in t n τ h e = sides-in t τ.left τ.right rec04 h (linear_good (rec_at Θ t) t n τ e) (λ m k. k)

  pub product_in : (t n : ℕ) (τ : Sides) → t < length Θ → product (rec_at Θ t) t n ≡ good τ → (τ.left < length Θ) × (τ.right < length Θ)
  product_in t n τ h e = sides-in t τ.left τ.right rec02 h (product_good (rec_at Θ t) t n τ e) (λ m k. k)

  pub walk_in : (E : Edition) (e : Term) (n : ℕ) (st : Stack) (r : Found) → Ranged E Θ e → Numbers st (length Θ) → walk E Θ e n st ≡ good r → r.type < length Θ
  walk_in E (var i) n st r g k h = use_shared_in st i n (length Θ) r k h
  walk_in E (lvar i) n st r g k h = use_linear_in st i n (length Θ) r k h
  walk_in E (fun t e) n st r g k h =
      on-bind (sharable_arrow (rec_at Θ t) t n) _ r h λ τ h₁ k₁.
      on-bind (walk E Θ e (n + 1) (shared τ.left ∷ st)) _ r k₁ λ q h₂ k₂.
      on-require (eqb q.type τ.right) _ _ r k₂ λ h₃ k₃.
      rw (← good-inj k₃) g.0
  walk_in E (app f a) n st r g k h =
      on-bind (walk E Θ f (n + 1) st) _ r h λ x h₁ k₁.
      on-bind (walk E Θ a (n + 1 + nodes f) x.stack) _ r k₁ λ y h₂ k₂.
      on-bind (sharable_arrow (rec_at Θ x.type) x.type n) _ r k₂ λ τ h₃ k₃.
      on-require (eqb y.type τ.left) _ _ r k₃ λ h₄ k₄.
      rw (← good-inj k₄) (arrow_in x.type n τ (walk_in E f (n + 1) st x g.0 k h₁) h₃).1
  walk_in E (lfun t e) n st r g k h =
      on-bind (linear_arrow (rec_at Θ t) t n) _ r h λ τ h₁ k₁.
      on-bind (walk E Θ e (n + 1) (linear τ.left false ∷ st)) _ r k₁ λ q h₂ k₂.
      on-need (top_used q.stack) 14 n _ r k₂ λ h₃ k₃.
      on-require (eqb q.type τ.right) _ _ r k₃ λ h₄ k₄.
      rw (← good-inj k₄) g.0
  walk_in E (lapp f a) n st r g k h =
      on-bind (walk E Θ f (n + 1) st) _ r h λ x h₁ k₁.
      on-bind (walk E Θ a (n + 1 + nodes f) x.stack) _ r k₁ λ y h₂ k₂.
      on-bind (linear_arrow (rec_at Θ x.type) x.type n) _ r k₂ λ τ h₃ k₃.
      on-require (eqb y.type τ.left) _ _ r k₃ λ h₄ k₄.
      rw (← good-inj k₄) (lolli_in x.type n τ (walk_in E f (n + 1) st x g.0 k h₁) h₃).1
  walk_in E (pair t a b) n st r g k h =
      on-bind (product (rec_at Θ t) t n) _ r h λ τ h₁ k₁.
      on-bind (walk E Θ a (n + 1) st) _ r k₁ λ x h₂ k₂.
      on-bind (walk E Θ b (n + 1 + nodes a) x.stack) _ r k₂ λ y h₃ k₃.
      on-require (eqb x.type τ.left) _ _ r k₃ λ h₄ k₄.
      on-require (eqb y.type τ.right) _ _ r k₄ λ h₅ k₅.
      rw (← good-inj k₅) g.0
  walk_in E (proj a e) n st r g k h =
      on-bind (walk E Θ a (n + 1) st) _ r h λ x h₁ k₁.
      on-bind (product (rec_at Θ x.type) x.type n) _ r k₁ λ τ h₂ k₂.
      on-bind (walk E Θ e (n + 1 + nodes a) (shared τ.right ∷ shared τ.left ∷ x.stack)) _ r k₂ λ y h₃ k₃.
      let z = product_in x.type n τ (walk_in E a (n + 1) st x g.0 k h₁) h₂ in
      rw (← good-inj k₃) (walk_in E e _ _ y g.1 (z.1, (z.0, kept-numbers (length Θ) (walk_keeps E Θ a (n + 1) st x h₁) k)) h₃)
  walk_in E (fix t e) n st r g k h =
      on-require (sharable (tree Θ t)) _ _ r h λ h₁ k₁.
      on-bind (walk E Θ e (n + 1) (shared t ∷ st)) _ r k₁ λ q h₂ k₂.
      on-require (eqb q.type t) _ _ r k₂ λ h₃ k₃.
      rw (← good-inj k₃) g.0
  walk_in E (con p t) n st r g k h =
      on-need (ltb p (length parts)) 15 n _ r h λ h₁ k₁.
      on-require (ty_eq (tree Θ t) ((part_at p).type E)) _ _ r k₁ λ h₂ k₂.
      rw (← good-inj k₂) g
  walk_in E (name a e) n st r g k h =
      on-bind (walk E Θ a (n + 1) st) _ r h λ x h₁ k₁.
      on-require (sharable (tree Θ x.type)) _ _ r k₁ λ h₂ k₂.
      on-bind (walk E Θ e (n + 1 + nodes a) (shared x.type ∷ x.stack)) _ r k₂ λ y h₃ k₃.
      rw (← good-inj k₃) (walk_in E e _ _ y g.2 (walk_in E a (n + 1) st x g.1 k h₁, kept-numbers (length Θ) (walk_keeps E Θ a (n + 1) st x h₁) k) h₃)
