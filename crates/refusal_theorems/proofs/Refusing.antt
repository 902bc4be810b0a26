-- The walk answers a refusal exactly when document 01's sentences refuse. Assumes nothing.
use Prim.Native.Nat.{ℕ, zero, suc, ◌+◌, ◌<◌}
use mathlib.Core.Path.{◌≡◌, refl, sym, ap, subst, ◌∙◌}
use mathlib.Core.Logic.{◌⊎◌, inl, inr}
use mathlib.Core.Bool.{Bool, true, false, false≢true}
use mathlib.Core.List.{List, [], ◌∷◌}
use native.Mathlib.Omega.{arith}
use lib.Dec.{T, eqb, ltb, eqb→eq, ltb→lt}
use lib.ListN.{length, get_or}
use borrow.Author.Tests.{ltb-false, eqb-false, lt-ltb, le-ltb, eq-eqb, ne_eqb}
use Rattle.calculus.specs.Answer.{Refusal, good, refused, numbered, clash}
use Rattle.calculus.specs.Types.{Ty, bit, sharable, ty_eq, rec02, rec03, rec04, Table, rec_at, tys_from, tree}
use Rattle.calculus.specs.Terms.{Edition, Term, var, lvar, fun, app, lfun, lapp, pair, proj, fix, con, name, nodes, parts, part_at}
use Rattle.calculus.specs.Walk.{shared, linear, Stack, product, sharable_arrow, linear_arrow, top_used, number_from, type_number, walk}
use Rattle.calculus.specs.Rules.{Ctx}
use Rattle.laws.proofs.Tests.{T-is, is_false, false_not_T}
use Rattle.sheet_theorems.specs.Laid.{TableOk, Ranged}
use Rattle.sheet_theorems.specs.Numbers.{Numbers}
use Rattle.sheet_theorems.proofs.Tables.{tys_count}
use Rattle.sheet_theorems.proofs.Sound.{ty_eq→eq, product_good, sharable_good, linear_good}
use Rattle.sheet_theorems.proofs.Complete.{ty_eq_refl}
use Rattle.sheet_theorems.proofs.WalkKeeps.{arrow_in, lolli_in, product_in}
use Rattle.sheet_theorems.proofs.Judging.{Judged, value, Any, of_bind, of_require, weaker}
use Rattle.sheet_theorems.specs.Uses.{Uses, uses_not, uses_it}
use Rattle.refusal_theorems.specs.Refuses.{Passes, Differ, NumberOf, stands, nowhere, WrongNode, not_in_scope_lem, not_in_scope_linear, other_sort_lem, other_sort_linear, used_again_lem, unknown_part, not_the_parts, no_arrow_written, no_linear_arrow_written, no_product_written, not_sharable_written, no_product, not_sharable, unused, other_body, other_linear_body, other_fixed, first_half_lem, second_half_lem, no_arrow, no_linear_arrow, other_argument, other_linear_argument, Enters, function_body, linear_function_body, fixed_body, function, argument, linear_function, linear_argument, first_of_pair, second_of_pair, projected, projection_body, named, name_body, Refuses, here, inside}
use Rattle.refusal_theorems.proofs.Passing.{uses_numbers, passed, passes-walk, no_02, no_03, no_04, arrow_or, linear_or, product_or, WrongUse, use_10, use_11, use_11_linear, use_13, shared_or, linear_use_or, shared_10, linear_10, shared_11, linear_11, linear_13}

-- ---- the number of a part's type

abbrev Numbered : ℕ → List Ty → Ty → ℕ → Type 0
Numbered k σs τ w = ((i : ℕ) × (w ≡ k + i) × (i < length σs) × (get_or σs i bit ≡ τ)) ⊎ ((w ≡ 256) × ((i : ℕ) → i < length σs → ¬ (get_or σs i bit ≡ τ)))

number_so : (k : ℕ) (σs : List Ty) (τ : Ty) → Numbered k σs τ (number_from k σs τ)
number_so k [] τ = inr (refl, λ i h. absurd (omega (arith, h)))
number_so k (σ ∷ σs) τ = at_first (ty_eq σ τ) refl (number_so (suc k) σs τ)
  where
    none-at : ¬ (σ ≡ τ) → ((i : ℕ) → i < length σs → ¬ (get_or σs i bit ≡ τ)) → (i : ℕ) → i < length (σ ∷ σs) → ¬ (get_or (σ ∷ σs) i bit ≡ τ)
    none-at d f zero h = d
    none-at d f (suc i) h = f i (omega (arith, h))

    at_first : (t : Bool) → ty_eq σ τ ≡ t → Numbered (suc k) σs τ (number_from (suc k) σs τ) → Numbered k (σ ∷ σs) τ (number_from k (σ ∷ σs) τ)
    at_first true e r = inl (0, rw e (omega arith), omega arith, ty_eq→eq σ τ (rw e tt))
    at_first false e (inl (i, h, l, q)) = inl (suc i, rw e (omega (arith, h)), omega (arith, l), q)
    at_first false e (inr (h, f)) = inr (rw e h, none-at (λ z. false_not_T (ty_eq σ τ) e (rw z (ty_eq_refl τ))) f)

module _ (E : Edition) (Θ : Table) (ok : TableOk Θ) where
  number_of : (τ : Ty) → NumberOf Θ τ (type_number Θ τ)
  number_of τ = by (number_so 0 (tys_from [] Θ) τ)
    where
      by : Numbered 0 (tys_from [] Θ) τ (type_number Θ τ) → NumberOf Θ τ (type_number Θ τ)
      by (inl (i, w, l, q)) =
          let is : type_number Θ τ ≡ i = omega (arith, w) in
          rw is (stands {w = i} (omega (arith, l, tys_count Θ)) q)
      by (inr (w, f)) = rw w (nowhere (λ i h. f i (omega (arith, h, tys_count Θ))))

  number_only : {τ : Ty} {v w : ℕ} → NumberOf Θ τ v → NumberOf Θ τ w → v ≡ w
  number_only (stands {w = v} h e) (stands {w = w} k f) = ok.distinct v w h k (e ∙ sym f)
  number_only (stands {w = v} h e) (nowhere f) = absurd (f v h e)
  number_only (nowhere f) (stands {w = w} h e) = absurd (f w h e)
  number_only (nowhere f) (nowhere g) = refl

  -- ---- from the walk to the sentences

  differ : (a b : ℕ) → eqb a b ≡ false → a < length Θ → b < length Θ → Differ Θ a b
  differ a b d ha hb e = eqb-false a b d (ok.distinct a b ha hb e)

  wrong-shared : {st : Stack} {i number : ℕ} (n : ℕ) → WrongUse false st i number → WrongNode E Θ st (var i) n (numbered number n)
  wrong-shared n (use_10 h) = not_in_scope_lem h
  wrong-shared n (use_11 h) = other_sort_lem h

  wrong-linear : {st : Stack} {i number : ℕ} (n : ℕ) → WrongUse true st i number → WrongNode E Θ st (lvar i) n (numbered number n)
  wrong-linear n (use_10 h) = not_in_scope_linear h
  wrong-linear n (use_11_linear h) = other_sort_linear h
  wrong-linear n (use_13 h) = used_again_lem h

  -- a linear binder on leaving its scope
  left-unused : {t : ℕ} {st st' : Stack} {Γ : Ctx} → Uses Θ (linear t false ∷ st) st' Γ → top_used st' ≡ false → (st₁ : Stack) × (st' ≡ linear t false ∷ st₁)
  left-unused (uses_not {st' = st₁} s) e = (st₁, refl)
  left-unused (uses_it s) e = absurd (false≢true (sym e))

  left-used : {t : ℕ} {st st' : Stack} {Γ : Ctx} → Uses Θ (linear t false ∷ st) st' Γ → T (top_used st') → (st₁ : Stack) × (st' ≡ linear t true ∷ st₁)
  left-used (uses_not s) u = absurd u
  left-used (uses_it {st' = st₁} s) u = (st₁, refl)

  wrong-unused : {st st' : Stack} {t a b r n : ℕ} {e : Term} → rec_at Θ t ≡ rec04 a b → Passes E Θ (linear a false ∷ st) e r st' → top_used st' ≡ false → WrongNode E Θ st (lfun t e) n (numbered 14 n)
  wrong-unused {st} {st'} {t} {a} {b} {r} {n} {e} q p u =
      let (st₁, z) = left-unused p.uses u in
      unused q (subst (λ (s : Stack). Passes E Θ (linear a false ∷ st) e r s) z p)

  wrong-linear-body : {st st' : Stack} {t a b r n : ℕ} {e : Term} → rec_at Θ t ≡ rec04 a b → Passes E Θ (linear a false ∷ st) e r st' → T (top_used st') → Differ Θ r b → WrongNode E Θ st (lfun t e) n (clash n b r)
  wrong-linear-body {st} {st'} {t} {a} {b} {r} {n} {e} q p u d =
      let (st₁, z) = left-used p.uses u in
      other_linear_body q (subst (λ (s : Stack). Passes E Θ (linear a false ∷ st) e r s) z p) d

  pub walk-refuses : (e : Term) (n : ℕ) (st : Stack) → Ranged E Θ e → Numbers st (length Θ) → Judged (Refuses E Θ st e n) Any (walk E Θ e n st)
  walk-refuses (var i) n st g k = weaker (λ why w. subst (Refuses E Θ st (var i) n) (sym w.0) (here (wrong-shared n w.1))) (shared_or st i n)
  walk-refuses (lvar i) n st g k = weaker (λ why w. subst (Refuses E Θ st (lvar i) n) (sym w.0) (here (wrong-linear n w.1))) (linear_use_or st i n)
  walk-refuses (fun t e) n st g k =
      of_bind (sharable_arrow (rec_at Θ t) t n) _ (arrow_or (rec_at Θ t) t n (λ d. here (no_arrow_written d))) λ τ h₁ _.
      let q = sharable_good (rec_at Θ t) t n τ h₁ in
      let (l, r) = arrow_in Θ ok t n τ g.0 h₁ in
      of_bind (walk E Θ e (n + 1) (shared τ.left ∷ st)) _ (weaker (λ why w. inside (function_body q) w) (walk-refuses e (n + 1) (shared τ.left ∷ st) g.1 (l, k))) λ x h₂ _.
      let p = passed E Θ ok e (n + 1) (shared τ.left ∷ st) x g.1 (l, k) h₂ in
      of_require (eqb x.type τ.right) _ _ (λ d. here (other_body q p (differ x.type τ.right d p.type_in_lem r))) λ _.
      value tt
  walk-refuses (app f a) n st g k =
      of_bind (walk E Θ f (n + 1) st) _ (weaker (λ why w. inside function w) (walk-refuses f (n + 1) st g.0 k)) λ x h₁ _.
      let p = passed E Θ ok f (n + 1) st x g.0 k h₁ in
      let xs = uses_numbers (length Θ) p.uses k in
      of_bind (walk E Θ a (n + 1 + nodes f) x.stack) _ (weaker (λ why w. inside (argument p) w) (walk-refuses a (n + 1 + nodes f) x.stack g.1 xs)) λ y h₂ _.
      let s = passed E Θ ok a (n + 1 + nodes f) x.stack y g.1 xs h₂ in
      of_bind (sharable_arrow (rec_at Θ x.type) x.type n) _ (arrow_or (rec_at Θ x.type) x.type n (λ d. here (no_arrow p s d))) λ τ h₃ _.
      of_require (eqb y.type τ.left) _ _ (λ d. here (other_argument p s (sharable_good (rec_at Θ x.type) x.type n τ h₃) (differ y.type τ.left d s.type_in_lem (arrow_in Θ ok x.type n τ p.type_in_lem h₃).0))) λ _.
      value tt
  walk-refuses (lfun t e) n st g k =
      of_bind (linear_arrow (rec_at Θ t) t n) _ (linear_or (rec_at Θ t) t n (λ d. here (no_linear_arrow_written d))) λ τ h₁ _.
      let q = linear_good (rec_at Θ t) t n τ h₁ in
      let (l, r) = lolli_in Θ ok t n τ g.0 h₁ in
      of_bind (walk E Θ e (n + 1) (linear τ.left false ∷ st)) _ (weaker (λ why w. inside (linear_function_body q) w) (walk-refuses e (n + 1) (linear τ.left false ∷ st) g.1 (l, k))) λ x h₂ _.
      let p = passed E Θ ok e (n + 1) (linear τ.left false ∷ st) x g.1 (l, k) h₂ in
      of_require (top_used x.stack) _ _ (λ u. here (wrong-unused q p u)) λ u.
      of_require (eqb x.type τ.right) _ _ (λ d. here (wrong-linear-body q p u (differ x.type τ.right d p.type_in_lem r))) λ _.
      value tt
  walk-refuses (lapp f a) n st g k =
      of_bind (walk E Θ f (n + 1) st) _ (weaker (λ why w. inside linear_function w) (walk-refuses f (n + 1) st g.0 k)) λ x h₁ _.
      let p = passed E Θ ok f (n + 1) st x g.0 k h₁ in
      let xs = uses_numbers (length Θ) p.uses k in
      of_bind (walk E Θ a (n + 1 + nodes f) x.stack) _ (weaker (λ why w. inside (linear_argument p) w) (walk-refuses a (n + 1 + nodes f) x.stack g.1 xs)) λ y h₂ _.
      let s = passed E Θ ok a (n + 1 + nodes f) x.stack y g.1 xs h₂ in
      of_bind (linear_arrow (rec_at Θ x.type) x.type n) _ (linear_or (rec_at Θ x.type) x.type n (λ d. here (no_linear_arrow p s d))) λ τ h₃ _.
      of_require (eqb y.type τ.left) _ _ (λ d. here (other_linear_argument p s (linear_good (rec_at Θ x.type) x.type n τ h₃) (differ y.type τ.left d s.type_in_lem (lolli_in Θ ok x.type n τ p.type_in_lem h₃).0))) λ _.
      value tt
  walk-refuses (pair t a b) n st g k =
      of_bind (product (rec_at Θ t) t n) _ (product_or (rec_at Θ t) t n (λ d. here (no_product_written d))) λ τ h₁ _.
      let q = product_good (rec_at Θ t) t n τ h₁ in
      let (l, r) = product_in Θ ok t n τ g.0 h₁ in
      of_bind (walk E Θ a (n + 1) st) _ (weaker (λ why w. inside (first_of_pair q) w) (walk-refuses a (n + 1) st g.1 k)) λ x h₂ _.
      let p = passed E Θ ok a (n + 1) st x g.1 k h₂ in
      let xs = uses_numbers (length Θ) p.uses k in
      of_bind (walk E Θ b (n + 1 + nodes a) x.stack) _ (weaker (λ why w. inside (second_of_pair q p) w) (walk-refuses b (n + 1 + nodes a) x.stack g.2 xs)) λ y h₃ _.
      let s = passed E Θ ok b (n + 1 + nodes a) x.stack y g.2 xs h₃ in
      of_require (eqb x.type τ.left) _ _ (λ d. here (first_half_lem q p s (differ x.type τ.left d p.type_in_lem l))) λ u.
      of_require (eqb y.type τ.right) _ _ (λ d. here (second_half_lem q (subst (λ (t : ℕ). Passes E Θ st a t x.stack) (eqb→eq x.type τ.left u) p) s (differ y.type τ.right d s.type_in_lem r))) λ _.
      value tt
  walk-refuses (proj a e) n st g k =
      of_bind (walk E Θ a (n + 1) st) _ (weaker (λ why w. inside projected w) (walk-refuses a (n + 1) st g.0 k)) λ x h₁ _.
      let p = passed E Θ ok a (n + 1) st x g.0 k h₁ in
      let xs = uses_numbers (length Θ) p.uses k in
      of_bind (product (rec_at Θ x.type) x.type n) _ (product_or (rec_at Θ x.type) x.type n (λ d. here (no_product p d))) λ τ h₂ _.
      let (l, r) = product_in Θ ok x.type n τ p.type_in_lem h₂ in
      of_bind (walk E Θ e (n + 1 + nodes a) (shared τ.right ∷ shared τ.left ∷ x.stack)) _
      (weaker (λ why w. inside (projection_body p (product_good (rec_at Θ x.type) x.type n τ h₂)) w) (walk-refuses e (n + 1 + nodes a) (shared τ.right ∷ shared τ.left ∷ x.stack) g.1 (r, (l, xs)))) λ y h₃ _.
      value tt
  walk-refuses (fix t e) n st g k =
      of_require (sharable (tree Θ t)) _ _ (λ f. here (not_sharable_written (false_not_T (sharable (tree Θ t)) f))) λ u.
      of_bind (walk E Θ e (n + 1) (shared t ∷ st)) _ (weaker (λ why w. inside (fixed_body u) w) (walk-refuses e (n + 1) (shared t ∷ st) g.1 (g.0, k))) λ x h₂ _.
      let p = passed E Θ ok e (n + 1) (shared t ∷ st) x g.1 (g.0, k) h₂ in
      of_require (eqb x.type t) _ _ (λ d. here (other_fixed u p (differ x.type t d p.type_in_lem g.0))) λ _.
      value tt
  walk-refuses (con p t) n st g k =
      of_require (ltb p (length parts)) _ _ (λ f. here (unknown_part (ltb-false p (length parts) f))) λ u.
      of_require (ty_eq (tree Θ t) ((part_at p).type E)) _ _
      (λ d. here (not_the_parts (ltb→lt p (length parts) u) (λ z. false_not_T (ty_eq (tree Θ t) ((part_at p).type E)) d (rw z (ty_eq_refl ((part_at p).type E)))) (number_of ((part_at p).type E)))) λ _.
      value tt
  walk-refuses (name a e) n st g k =
      of_bind (walk E Θ a (n + 1) st) _ (weaker (λ why w. inside named w) (walk-refuses a (n + 1) st g.1 k)) λ x h₁ _.
      let p = passed E Θ ok a (n + 1) st x g.1 k h₁ in
      let xs = uses_numbers (length Θ) p.uses k in
      of_require (sharable (tree Θ x.type)) _ _ (λ f. here (not_sharable p (false_not_T (sharable (tree Θ x.type)) f))) λ u.
      of_bind (walk E Θ e (n + 1 + nodes a) (shared x.type ∷ x.stack)) _ (weaker (λ why w. inside (name_body p u) w) (walk-refuses e (n + 1 + nodes a) (shared x.type ∷ x.stack) g.2 (p.type_in_lem, xs))) λ y h₃ _.
      value tt

  -- ---- from the sentences to the walk

  -- the walk at a subterm that passes
  goes : {st st' : Stack} {e : Term} {t : ℕ} (n : ℕ) → Ranged E Θ e → Numbers st (length Θ) → Passes E Θ st e t st' → walk E Θ e n st ≡ good (record { type = t; stack = st' })
  goes {st} {st'} {e} {t} n g k p = passes-walk E Θ ok e n st t st' g k p

  on-uses : {st st' : Stack} {e : Term} {t : ℕ} → Passes E Θ st e t st' → Numbers st (length Θ) → Numbers st' (length Θ)
  on-uses p k = uses_numbers (length Θ) p.uses k

  unequal : (a b : ℕ) → Differ Θ a b → eqb a b ≡ false
  unequal a b d = ne_eqb a b (λ e. d (ap (λ (n : ℕ). tree Θ n) e))

  -- both numbers of a written or found type are of the table
  sides-03 : {t a b : ℕ} → t < length Θ → rec_at Θ t ≡ rec03 a b → (a < length Θ) × (b < length Θ)
  sides-03 {t} {a} {b} h e = arrow_in Θ ok t 0 (record { left = a; right = b }) h (rw e)

  sides-04 : {t a b : ℕ} → t < length Θ → rec_at Θ t ≡ rec04 a b → (a < length Θ) × (b < length Θ)
  sides-04 {t} {a} {b} h e = lolli_in Θ ok t 0 (record { left = a; right = b }) h (rw e)

  sides-02 : {t a b : ℕ} → t < length Θ → rec_at Θ t ≡ rec02 a b → (a < length Θ) × (b < length Θ)
  sides-02 {t} {a} {b} h e = product_in Θ ok t 0 (record { left = a; right = b }) h (rw e)

  wrong-walk : {st : Stack} {e : Term} {n : ℕ} {why : Refusal} → WrongNode E Θ st e n why → Ranged E Θ e → Numbers st (length Θ) → walk E Θ e n st ≡ refused why
  wrong-walk (not_in_scope_lem {st = st} {i = i} {n = n} h) g k = shared_10 st i n h
  wrong-walk (not_in_scope_linear {st = st} {i = i} {n = n} h) g k = linear_10 st i n h
  wrong-walk (other_sort_lem {n = n} {t = t} {u = u} h) g k = shared_11 n h t u refl
  wrong-walk (other_sort_linear {n = n} {t = t} h) g k = linear_11 n h t refl
  wrong-walk (used_again_lem {n = n} {t = t} h) g k = linear_13 n h t refl
  wrong-walk (unknown_part {p = p} h) g k = simp (le-ltb p (length parts) h)
  wrong-walk (not_the_parts {p = p} {t = t} {n = n} {w = w} h d o) g k =
      simp (lt-ltb p (length parts) h, is_false (ty_eq (tree Θ t) ((part_at p).type E)) (λ z. d (ty_eq→eq (tree Θ t) ((part_at p).type E) z)), number_only (number_of ((part_at p).type E)) o)
  wrong-walk (no_arrow_written {t = t} {n = n} d) g k = simp (no_03 (rec_at Θ t) t n d)
  wrong-walk (no_linear_arrow_written {t = t} {n = n} d) g k = simp (no_04 (rec_at Θ t) t n d)
  wrong-walk (no_product_written {t = t} {n = n} d) g k = simp (no_02 (rec_at Θ t) t n d)
  wrong-walk (not_sharable_written {t = t} d) g k = simp (is_false (sharable (tree Θ t)) d)
  wrong-walk (no_product {t = t} {n = n} p d) g k = simp (goes (n + 1) g.0 k p, no_02 (rec_at Θ t) t n d)
  wrong-walk (not_sharable {t = t} {n = n} p d) g k = simp (goes (n + 1) g.1 k p, is_false (sharable (tree Θ t)) d)
  wrong-walk (unused {n = n} q p) g k = simp (q, goes (n + 1) g.1 ((sides-04 g.0 q).0, k) p)
  wrong-walk (other_body {b = b} {r = r} {n = n} q p d) g k = simp (q, goes (n + 1) g.1 ((sides-03 g.0 q).0, k) p, unequal r b d)
  wrong-walk (other_linear_body {b = b} {r = r} {n = n} q p d) g k = simp (q, goes (n + 1) g.1 ((sides-04 g.0 q).0, k) p, unequal r b d)
  wrong-walk (other_fixed {t = t} {r = r} {n = n} u p d) g k = simp (T-is (sharable (tree Θ t)) u, goes (n + 1) g.1 (g.0, k) p, unequal r t d)
  wrong-walk (first_half_lem {l = l} {x = x} {n = n} {a = a} q p s d) g k = simp (q, goes (n + 1) g.1 k p, goes (n + 1 + nodes a) g.2 (on-uses p k) s, unequal x l d)
  wrong-walk (second_half_lem {l = l} {r = r} {y = y} {n = n} {a = a} q p s d) g k = simp (q, goes (n + 1) g.1 k p, goes (n + 1 + nodes a) g.2 (on-uses p k) s, eq-eqb l l refl, unequal y r d)
  wrong-walk (no_arrow {x = x} {n = n} {f = f} p s d) g k = simp (goes (n + 1) g.0 k p, goes (n + 1 + nodes f) g.1 (on-uses p k) s, no_03 (rec_at Θ x) x n d)
  wrong-walk (no_linear_arrow {x = x} {n = n} {f = f} p s d) g k = simp (goes (n + 1) g.0 k p, goes (n + 1 + nodes f) g.1 (on-uses p k) s, no_04 (rec_at Θ x) x n d)
  wrong-walk (other_argument {y = y} {l = l} {n = n} {f = f} p s q d) g k = simp (goes (n + 1) g.0 k p, goes (n + 1 + nodes f) g.1 (on-uses p k) s, q, unequal y l d)
  wrong-walk (other_linear_argument {y = y} {l = l} {n = n} {f = f} p s q d) g k = simp (goes (n + 1) g.0 k p, goes (n + 1 + nodes f) g.1 (on-uses p k) s, q, unequal y l d)

  -- a subterm that the walk enters is of the sheet, and so are the binders in scope there
  entered : {st st' : Stack} {e e' : Term} {n n' : ℕ} → Enters E Θ st e n st' e' n' → Ranged E Θ e → Numbers st (length Θ) → Ranged E Θ e' × Numbers st' (length Θ)
  entered (function_body q) g k = (g.1, ((sides-03 g.0 q).0, k))
  entered (linear_function_body q) g k = (g.1, ((sides-04 g.0 q).0, k))
  entered (fixed_body u) g k = (g.1, (g.0, k))
  entered function g k = (g.0, k)
  entered (argument p) g k = (g.1, on-uses p k)
  entered linear_function g k = (g.0, k)
  entered (linear_argument p) g k = (g.1, on-uses p k)
  entered (first_of_pair q) g k = (g.1, k)
  entered (second_of_pair q p) g k = (g.2, on-uses p k)
  entered projected g k = (g.0, k)
  entered (projection_body p q) g k = let (l, r) = sides-02 p.type_in_lem q in (g.1, (r, (l, on-uses p k)))
  entered named g k = (g.1, k)
  entered (name_body p u) g k = (g.2, (p.type_in_lem, on-uses p k))

  enters-walk : {st st' : Stack} {e e' : Term} {n n' : ℕ} {why : Refusal} → Enters E Θ st e n st' e' n' → Ranged E Θ e → Numbers st (length Θ) → walk E Θ e' n' st' ≡ refused why → walk E Θ e n st ≡ refused why
  enters-walk (function_body q) g k h = simp (q, h)
  enters-walk (linear_function_body q) g k h = simp (q, h)
  enters-walk (fixed_body {t = t} u) g k h = simp (T-is (sharable (tree Θ t)) u, h)
  enters-walk function g k h = simp h
  enters-walk (argument {n = n} p) g k h = simp (goes (n + 1) g.0 k p, h)
  enters-walk linear_function g k h = simp h
  enters-walk (linear_argument {n = n} p) g k h = simp (goes (n + 1) g.0 k p, h)
  enters-walk (first_of_pair q) g k h = simp (q, h)
  enters-walk (second_of_pair {n = n} q p) g k h = simp (q, goes (n + 1) g.1 k p, h)
  enters-walk projected g k h = simp h
  enters-walk (projection_body {n = n} p q) g k h = simp (goes (n + 1) g.0 k p, q, h)
  enters-walk named g k h = simp h
  enters-walk (name_body {t = t} {n = n} p u) g k h = simp (goes (n + 1) g.1 k p, T-is (sharable (tree Θ t)) u, h)

  pub refuses-walk : {st : Stack} {e : Term} {n : ℕ} {why : Refusal} → Refuses E Θ st e n why → Ranged E Θ e → Numbers st (length Θ) → walk E Θ e n st ≡ refused why
  refuses-walk (here w) g k = wrong-walk w g k
  refuses-walk (inside i r) g k =
      let (g', k') = entered i g k in
      enters-walk i g k (refuses-walk r g' k')
