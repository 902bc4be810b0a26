-- Refusal 12 names two types that differ, and no other refusal names any. Assumes nothing.
use Prim.Native.Nat.{ℕ, zero, suc, ◌+◌, ◌<◌}
use mathlib.Core.Path.{◌≡◌, refl, sym, ap, ◌∙◌}
use mathlib.Core.Bool.{Bool, true, false, false≢true}
use mathlib.Core.List.{List, [], ◌∷◌}
use mathlib.Core.Logic.{◌⊎◌, inl, inr}
use native.Mathlib.Omega.{arith}
use lib.Dec.{eqb, ltb}
use lib.ListN.{length, get_or}
use borrow.Author.Tests.{eqb-false}
use Rattle.calculus.specs.Answer.{Refusal, Answer, good, refused, numbered, clash, a_form}
use Rattle.calculus.specs.Types.{Ty, bit, sharable, ty_eq, TyRec, rec01, rec02, rec03, rec04, Table, rec_at, tys_from, tree}
use Rattle.calculus.specs.Terms.{Edition, Term, var, lvar, fun, app, lfun, lapp, pair, proj, fix, con, name, nodes, parts, part_at}
use Rattle.calculus.specs.Walk.{shared, linear, Stack, product, sharable_arrow, linear_arrow, Found, under, use_shared, use_linear, top_used, number_from, type_number, walk}
use Rattle.sheet_theorems.specs.Laid.{TableOk, Ranged}
use Rattle.sheet_theorems.specs.Clash.{Tells}
use Rattle.sheet_theorems.proofs.Tables.{tys_count}
use Rattle.sheet_theorems.specs.Numbers.{Numbers}
use Rattle.sheet_theorems.proofs.WalkKeeps.{walk_keeps, kept-numbers, walk_in, arrow_in, lolli_in, product_in}
use Rattle.sheet_theorems.proofs.Judging.{Judged, value, refusal, Any, of_bind, of_require}

-- ---- the number of a part's type

-- it is 256, or that of a type in the list that is equal
numbered_so : (k : ℕ) (σs : List Ty) (τ : Ty) → (number_from k σs τ ≡ 256) ⊎ ((i : ℕ) × (number_from k σs τ ≡ k + i) × (i < length σs) × (ty_eq (get_or σs i bit) τ ≡ true))
numbered_so k [] τ = inl refl
numbered_so k (σ ∷ σs) τ = here (ty_eq σ τ) refl (numbered_so (suc k) σs τ)
  where
    here : (t : Bool) → ty_eq σ τ ≡ t → (number_from (suc k) σs τ ≡ 256) ⊎ ((i : ℕ) × (number_from (suc k) σs τ ≡ suc k + i) × (i < length σs) × (ty_eq (get_or σs i bit) τ ≡ true))
        → (number_from k (σ ∷ σs) τ ≡ 256) ⊎ ((i : ℕ) × (number_from k (σ ∷ σs) τ ≡ k + i) × (i < length (σ ∷ σs)) × (ty_eq (get_or (σ ∷ σs) i bit) τ ≡ true))
    here true e r = inr (0, rw e (omega arith), omega arith, e)
    here false e (inl h) = inl (rw e h)
    here false e (inr (i, h, l, q)) = inr (suc i, rw e (omega (arith, h)), omega (arith, l), q)

module _ (E : Edition) (Θ : Table) (ok : TableOk Θ) where
  -- ---- one refusal

  none : (number place : ℕ) → ¬ (number ≡ 12) → Tells Θ (numbered number place)
  none number place d = record { clash = λ e. absurd (d e); other = λ _. (refl, refl) }

  two : (n wanted found : ℕ) → ¬ (wanted ≡ found) → found < length Θ → (wanted < length Θ) ⊎ (wanted ≡ 256) → Tells Θ (clash n wanted found)
  two n wanted found d f w = record { clash = λ _. record { differs = d; found_in = f; wanted_in = w }; other = λ d. absurd (d refl) }

  a-form : (n found : ℕ) → found < length Θ → Tells Θ (clash n a_form found)
  a-form n found f = two n a_form found (λ e. absurd (omega (arith, ok.few))) f (inr refl)

  a-type : (n wanted found : ℕ) → eqb found wanted ≡ false → found < length Θ → wanted < length Θ → Tells Θ (clash n wanted found)
  a-type n wanted found e f w = two n wanted found (λ z. eqb-false found wanted e (sym z)) f (inl w)

  a-part : (n t : ℕ) (τ : Ty) → ty_eq (tree Θ t) τ ≡ false → t < length Θ → Tells Θ (clash n (type_number Θ τ) t)
  a-part n t τ e h = by (numbered_so 0 (tys_from [] Θ) τ)
    where
      by : (type_number Θ τ ≡ 256) ⊎ ((i : ℕ) × (type_number Θ τ ≡ 0 + i) × (i < length (tys_from [] Θ)) × (ty_eq (get_or (tys_from [] Θ) i bit) τ ≡ true)) → Tells Θ (clash n (type_number Θ τ) t)
      by (inl w) = two n (type_number Θ τ) t (λ z. absurd (omega (arith, ok.few, w, z))) h (inr w)
      by (inr (i, w, l, q)) =
          let is : type_number Θ τ ≡ i = w ∙ (let z : 0 + i ≡ i = omega arith in z) in
          two n (type_number Θ τ) t (λ z. false≢true (sym e ∙ ap (λ (x : ℕ). ty_eq (tree Θ x) τ) (sym z ∙ is) ∙ q)) h (inl (omega (arith, is, l, tys_count Θ)))

  -- ---- forms and variables

  arrow-tells : (q : TyRec) (t n : ℕ) → t < length Θ → Judged (Tells Θ) Any (sharable_arrow q t n)
  arrow-tells rec01 t n h = refusal (a-form n t h)
  arrow-tells (rec02 a b) t n h = refusal (a-form n t h)
  arrow-tells (rec03 a b) t n h = value tt
  arrow-tells (rec04 a b) t n h = refusal (a-form n t h)

  lolli-tells : (q : TyRec) (t n : ℕ) → t < length Θ → Judged (Tells Θ) Any (linear_arrow q t n)
  lolli-tells rec01 t n h = refusal (a-form n t h)
  lolli-tells (rec02 a b) t n h = refusal (a-form n t h)
  lolli-tells (rec03 a b) t n h = refusal (a-form n t h)
  lolli-tells (rec04 a b) t n h = value tt

  product-tells : (q : TyRec) (t n : ℕ) → t < length Θ → Judged (Tells Θ) Any (product q t n)
  product-tells rec01 t n h = refusal (a-form n t h)
  product-tells (rec02 a b) t n h = value tt
  product-tells (rec03 a b) t n h = refusal (a-form n t h)
  product-tells (rec04 a b) t n h = refusal (a-form n t h)

  ten : (n : ℕ) → Tells Θ (numbered 10 n)
  ten n = none 10 n (λ e. absurd (omega (arith, e)))

  eleven : (n : ℕ) → Tells Θ (numbered 11 n)
  eleven n = none 11 n (λ e. absurd (omega (arith, e)))

  under-tells : (b : _) (m : Answer Found) → Judged (Tells Θ) Any m → Judged (Tells Θ) Any (under b m)
  under-tells b (good r) (value h) = value tt
  under-tells b (refused why) (refusal h) = refusal h

  shared-tells : (st : Stack) (i n : ℕ) → Judged (Tells Θ) Any (use_shared st i n)
  shared-tells [] i n = refusal (ten n)
  shared-tells (shared t ∷ st) zero n = value tt
  shared-tells (linear t u ∷ st) zero n = refusal (eleven n)
  shared-tells (shared t ∷ st) (suc i) n = under-tells (shared t) (use_shared st i n) (shared-tells st i n)
  shared-tells (linear t u ∷ st) (suc i) n = under-tells (linear t u) (use_shared st i n) (shared-tells st i n)

  linear-tells : (st : Stack) (i n : ℕ) → Judged (Tells Θ) Any (use_linear st i n)
  linear-tells [] i n = refusal (ten n)
  linear-tells (shared t ∷ st) zero n = refusal (eleven n)
  linear-tells (linear t false ∷ st) zero n = value tt
  linear-tells (linear t true ∷ st) zero n = refusal (none 13 n (λ e. absurd (omega (arith, e))))
  linear-tells (shared t ∷ st) (suc i) n = under-tells (shared t) (use_linear st i n) (linear-tells st i n)
  linear-tells (linear t u ∷ st) (suc i) n = under-tells (linear t u) (use_linear st i n) (linear-tells st i n)

  -- ---- the walk

  pub walk_tells : (e : Term) (n : ℕ) (st : Stack) → Ranged E Θ e → Numbers st (length Θ) → Judged (Tells Θ) Any (walk E Θ e n st)
  walk_tells (var i) n st g k = shared-tells st i n
  walk_tells (lvar i) n st g k = linear-tells st i n
  walk_tells (fun t e) n st g k =
      of_bind (sharable_arrow (rec_at Θ t) t n) _ (arrow-tells (rec_at Θ t) t n g.0) λ τ h₁ _.
      let (l, r) = arrow_in Θ ok t n τ g.0 h₁ in
      of_bind (walk E Θ e (n + 1) (shared τ.left ∷ st)) _ (walk_tells e (n + 1) _ g.1 (l, k)) λ x h₂ _.
      of_require (eqb x.type τ.right) _ _ (λ d. a-type n τ.right x.type d (walk_in Θ ok E e (n + 1) _ x g.1 (l, k) h₂) r) λ _.
      value tt
  walk_tells (app f a) n st g k =
      of_bind (walk E Θ f (n + 1) st) _ (walk_tells f (n + 1) st g.0 k) λ x h₁ _.
      let xs = kept-numbers (length Θ) (walk_keeps E Θ f (n + 1) st x h₁) k in
      let xt = walk_in Θ ok E f (n + 1) st x g.0 k h₁ in
      of_bind (walk E Θ a (n + 1 + nodes f) x.stack) _ (walk_tells a (n + 1 + nodes f) x.stack g.1 xs) λ y h₂ _.
      of_bind (sharable_arrow (rec_at Θ x.type) x.type n) _ (arrow-tells (rec_at Θ x.type) x.type n xt) λ τ h₃ _.
      of_require (eqb y.type τ.left) _ _ (λ d. a-type n τ.left y.type d (walk_in Θ ok E a _ _ y g.1 xs h₂) (arrow_in Θ ok x.type n τ xt h₃).0) λ _.
      value tt
  walk_tells (lfun t e) n st g k =
      of_bind (linear_arrow (rec_at Θ t) t n) _ (lolli-tells (rec_at Θ t) t n g.0) λ τ h₁ _.
      let (l, r) = lolli_in Θ ok t n τ g.0 h₁ in
      of_bind (walk E Θ e (n + 1) (linear τ.left false ∷ st)) _ (walk_tells e (n + 1) _ g.1 (l, k)) λ x h₂ _.
      of_require (top_used x.stack) _ _ (λ _. none 14 n (λ e. absurd (omega (arith, e)))) λ _.
      of_require (eqb x.type τ.right) _ _ (λ d. a-type n τ.right x.type d (walk_in Θ ok E e (n + 1) _ x g.1 (l, k) h₂) r) λ _.
      value tt
  walk_tells (lapp f a) n st g k =
      of_bind (walk E Θ f (n + 1) st) _ (walk_tells f (n + 1) st g.0 k) λ x h₁ _.
      let xs = kept-numbers (length Θ) (walk_keeps E Θ f (n + 1) st x h₁) k in
      let xt = walk_in Θ ok E f (n + 1) st x g.0 k h₁ in
      of_bind (walk E Θ a (n + 1 + nodes f) x.stack) _ (walk_tells a (n + 1 + nodes f) x.stack g.1 xs) λ y h₂ _.
      of_bind (linear_arrow (rec_at Θ x.type) x.type n) _ (lolli-tells (rec_at Θ x.type) x.type n xt) λ τ h₃ _.
      of_require (eqb y.type τ.left) _ _ (λ d. a-type n τ.left y.type d (walk_in Θ ok E a _ _ y g.1 xs h₂) (lolli_in Θ ok x.type n τ xt h₃).0) λ _.
      value tt
  walk_tells (pair t a b) n st g k =
      of_bind (product (rec_at Θ t) t n) _ (product-tells (rec_at Θ t) t n g.0) λ τ h₁ _.
      let (l, r) = product_in Θ ok t n τ g.0 h₁ in
      of_bind (walk E Θ a (n + 1) st) _ (walk_tells a (n + 1) st g.1 k) λ x h₂ _.
      let xs = kept-numbers (length Θ) (walk_keeps E Θ a (n + 1) st x h₂) k in
      of_bind (walk E Θ b (n + 1 + nodes a) x.stack) _ (walk_tells b (n + 1 + nodes a) x.stack g.2 xs) λ y h₃ _.
      of_require (eqb x.type τ.left) _ _ (λ d. a-type n τ.left x.type d (walk_in Θ ok E a (n + 1) st x g.1 k h₂) l) λ _.
      of_require (eqb y.type τ.right) _ _ (λ d. a-type n τ.right y.type d (walk_in Θ ok E b _ _ y g.2 xs h₃) r) λ _.
      value tt
  walk_tells (proj a e) n st g k =
      of_bind (walk E Θ a (n + 1) st) _ (walk_tells a (n + 1) st g.0 k) λ x h₁ _.
      let xs = kept-numbers (length Θ) (walk_keeps E Θ a (n + 1) st x h₁) k in
      let xt = walk_in Θ ok E a (n + 1) st x g.0 k h₁ in
      of_bind (product (rec_at Θ x.type) x.type n) _ (product-tells (rec_at Θ x.type) x.type n xt) λ τ h₂ _.
      let (l, r) = product_in Θ ok x.type n τ xt h₂ in
      of_bind (walk E Θ e (n + 1 + nodes a) (shared τ.right ∷ shared τ.left ∷ x.stack)) _ (walk_tells e _ _ g.1 (r, (l, xs))) λ y h₃ _.
      value tt
  walk_tells (fix t e) n st g k =
      of_require (sharable (tree Θ t)) _ _ (λ _. a-form n t g.0) λ _.
      of_bind (walk E Θ e (n + 1) (shared t ∷ st)) _ (walk_tells e (n + 1) _ g.1 (g.0, k)) λ x h₂ _.
      of_require (eqb x.type t) _ _ (λ d. a-type n t x.type d (walk_in Θ ok E e (n + 1) _ x g.1 (g.0, k) h₂) g.0) λ _.
      value tt
  walk_tells (con p t) n st g k =
      of_require (ltb p (length parts)) _ _ (λ _. none 15 n (λ e. absurd (omega (arith, e)))) λ _.
      of_require (ty_eq (tree Θ t) ((part_at p).type E)) _ _ (λ d. a-part n t ((part_at p).type E) d g) λ _.
      value tt
  walk_tells (name a e) n st g k =
      of_bind (walk E Θ a (n + 1) st) _ (walk_tells a (n + 1) st g.1 k) λ x h₁ _.
      let xs = kept-numbers (length Θ) (walk_keeps E Θ a (n + 1) st x h₁) k in
      let xt = walk_in Θ ok E a (n + 1) st x g.1 k h₁ in
      of_require (sharable (tree Θ x.type)) _ _ (λ _. a-form n x.type xt) λ _.
      of_bind (walk E Θ e (n + 1 + nodes a) (shared x.type ∷ x.stack)) _ (walk_tells e _ _ g.2 (xt, xs)) λ y h₃ _.
      value tt
