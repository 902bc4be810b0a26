-- What the walk has found when it accepts a term. Assumes nothing.
use Prim.Native.Nat.{ℕ, zero, suc, ◌+◌}
use mathlib.Core.Path.{◌≡◌, refl, sym, ap, subst}
use mathlib.Core.Bool.{true, false}
use mathlib.Core.List.{List, [], ◌∷◌}
use lib.Dec.{T, eqb, ltb, eqb→eq, ltb→lt}
use lib.ListN.{length}
use Rattle.calculus.specs.Answer.{Answer, good, refused, clash, a_form}
use Rattle.calculus.proofs.Answers.{refused≢good, good-inj, on-bind, on-require, on-need}
use Rattle.calculus.specs.Types.{Ty, sharable, is_arrow, ty_eq, TyRec, rec01, rec02, rec03, rec04, Table, rec_at, tree}
use Rattle.calculus.specs.Terms.{Edition, Term, var, lvar, fun, app, lfun, lapp, pair, proj, fix, con, name, nodes, parts, part_at}
use Rattle.calculus.specs.Walk.{Binder, shared, linear, Stack, Sides, sharable_arrow, linear_arrow, product, Found, under, use_shared, use_linear, pop, top_used, type_number, walk}
use Rattle.sheet_theorems.proofs.Sound.{ty_eq→eq}
use Rattle.sheet_theorems.specs.Laid.{Agrees, TableOk, Ranged}
use Rattle.notation_calculus.specs.Making.{is_sharable, shares}
use Rattle.show_theorems.specs.Numbered.{BinderAt, nearest, farther, Numbered, of_var, of_lvar, of_fun, of_lfun, of_app, of_lapp, of_pair, of_proj, of_fix_lem, of_con, of_name}

-- the binders of a stack have these types, each of its sort
abbrev StackOf : Table → Stack → List ℕ → Type 0
StackOf Θ [] [] = Unit {0}
StackOf Θ [] (u ∷ Γ) = ⊥
StackOf Θ (shared t ∷ st) [] = ⊥
StackOf Θ (linear t v ∷ st) [] = ⊥
StackOf Θ (shared t ∷ st) (u ∷ Γ) = (t ≡ u) × T (shares Θ t) × StackOf Θ st Γ
StackOf Θ (linear t v ∷ st) (u ∷ Γ) = (t ≡ u) × (shares Θ t ≡ false) × StackOf Θ st Γ

-- ---- sorts

shares_of : (Θ : Table) (r : TyRec) (τ : Ty) → Agrees Θ r τ → T (sharable τ) → T (is_sharable r)
shares_of Θ rec01 τ h s = tt
shares_of Θ (rec02 a b) τ h s = tt
shares_of Θ (rec03 a b) τ h s = absurd (subst (λ (ρ : Ty). T (sharable ρ)) h.0 s)
shares_of Θ (rec04 a b) τ h s = absurd (subst (λ (ρ : Ty). T (sharable ρ)) h.0 s)

linear_of : (Θ : Table) (r : TyRec) (τ : Ty) → Agrees Θ r τ → T (is_arrow τ) → is_sharable r ≡ false
linear_of Θ rec01 τ h s = absurd (subst (λ (ρ : Ty). T (is_arrow ρ)) h s)
linear_of Θ (rec02 a b) τ h s = absurd (subst (λ (ρ : Ty). T (is_arrow ρ)) h.0 s)
linear_of Θ (rec03 a b) τ h s = refl
linear_of Θ (rec04 a b) τ h s = refl

pub shares-tree : (Θ : Table) → TableOk Θ → (t : ℕ) → T (sharable (tree Θ t)) → T (shares Θ t)
shares-tree Θ ok t h = shares_of Θ (rec_at Θ t) (tree Θ t) (ok.agrees t) h

linear_tree : (Θ : Table) → TableOk Θ → (t : ℕ) → T (is_arrow (tree Θ t)) → shares Θ t ≡ false
linear_tree Θ ok t h = linear_of Θ (rec_at Θ t) (tree Θ t) (ok.agrees t) h

pub left-shares : (Θ : Table) → TableOk Θ → (t a b : ℕ) → rec_at Θ t ≡ rec03 a b → T (shares Θ a)
left-shares Θ ok t a b e = shares-tree Θ ok a (subst (λ (r : TyRec). Agrees Θ r (tree Θ t)) e (ok.agrees t)).1

pub left_linear : (Θ : Table) → TableOk Θ → (t a b : ℕ) → rec_at Θ t ≡ rec04 a b → shares Θ a ≡ false
left_linear Θ ok t a b e = linear_tree Θ ok a (subst (λ (r : TyRec). Agrees Θ r (tree Θ t)) e (ok.agrees t)).1

pub halves_share : (Θ : Table) → TableOk Θ → (t a b : ℕ) → rec_at Θ t ≡ rec02 a b → T (shares Θ a) × T (shares Θ b)
halves_share Θ ok t a b e = let h = subst (λ (r : TyRec). Agrees Θ r (tree Θ t)) e (ok.agrees t) in (shares-tree Θ ok a h.1, shares-tree Θ ok b h.2)

-- ---- the forms

module _ {C : Type 0} (r : TyRec) (t n : ℕ) (τ : Sides) where
  arrow_form : sharable_arrow r t n ≡ good τ → (r ≡ rec03 τ.left τ.right → C) → C
  arrow_form e k = by r e k
    where
      by : (q : TyRec) → sharable_arrow q t n ≡ good τ → (q ≡ rec03 τ.left τ.right → C) → C
      by rec01 e k = absurd (refused≢good e)
      by (rec02 a b) e k = absurd (refused≢good e)
      by (rec03 a b) e k = k (ap (λ (s : Sides). rec03 s.left s.right) (good-inj e))
      by (rec04 a b) e k = absurd (refused≢good e)

  linear_form : linear_arrow r t n ≡ good τ → (r ≡ rec04 τ.left τ.right → C) → C
  linear_form e k = by r e k
    where
      by : (q : TyRec) → linear_arrow q t n ≡ good τ → (q ≡ rec04 τ.left τ.right → C) → C
      by rec01 e k = absurd (refused≢good e)
      by (rec02 a b) e k = absurd (refused≢good e)
      by (rec03 a b) e k = absurd (refused≢good e)
      by (rec04 a b) e k = k (ap (λ (s : Sides). rec04 s.left s.right) (good-inj e))

  product-form : product r t n ≡ good τ → (r ≡ rec02 τ.left τ.right → C) → C
  product-form e k = by r e k
    where
      by : (q : TyRec) → product q t n ≡ good τ → (q ≡ rec02 τ.left τ.right → C) → C
      by rec01 e k = absurd (refused≢good e)
      by (rec02 a b) e k = k (ap (λ (s : Sides). rec02 s.left s.right) (good-inj e))
      by (rec03 a b) e k = absurd (refused≢good e)
      by (rec04 a b) e k = absurd (refused≢good e)

-- ---- variables

under_good : {C : Type 0} (b : Binder) (m : Answer Found) (r : Found) → under b m ≡ good r → ((q : Found) → m ≡ good q → r ≡ record { type = q.type; stack = b ∷ q.stack } → C) → C
under_good b (good q) r e k = k q refl (sym (good-inj e))
under_good b (refused why) r e k = absurd (refused≢good e)

abbrev Uses : Table → List ℕ → ℕ → (ℕ → Type 0) → Found → Type 0
Uses Θ Γ i P r = BinderAt Γ i r.type × P r.type × StackOf Θ r.stack Γ

use_shared_lem : (Θ : Table) (st : Stack) (Γ : List ℕ) (i n : ℕ) (r : Found) → StackOf Θ st Γ → use_shared st i n ≡ good r → Uses Θ Γ i (λ t. T (shares Θ t)) r
use_shared_lem Θ [] Γ i n r s e = absurd (refused≢good e)
use_shared_lem Θ (shared t ∷ st) [] i n r s e = absurd s
use_shared_lem Θ (linear t u ∷ st) [] i n r s e = absurd s
use_shared_lem Θ (shared t ∷ st) (v ∷ Γ) zero n r (q, h, s) e = subst (λ (x : Found). Uses Θ (v ∷ Γ) 0 (λ t. T (shares Θ t)) x) (good-inj e) (subst (λ (x : ℕ). BinderAt (v ∷ Γ) 0 x) (sym q) nearest, h, (q, h, s))
use_shared_lem Θ (linear t u ∷ st) (v ∷ Γ) zero n r s e = absurd (refused≢good e)
use_shared_lem Θ (shared t ∷ st) (v ∷ Γ) (suc i) n r (q, h, s) e = under_good (shared t) (use_shared st i n) r e λ x f g.
    let (a, p, z) = use_shared_lem Θ st Γ i n x s f in
    subst (λ (y : Found). Uses Θ (v ∷ Γ) (suc i) (λ t. T (shares Θ t)) y) (sym g) (farther a, p, (q, h, z))
use_shared_lem Θ (linear t u ∷ st) (v ∷ Γ) (suc i) n r (q, h, s) e = under_good (linear t u) (use_shared st i n) r e λ x f g.
    let (a, p, z) = use_shared_lem Θ st Γ i n x s f in
    subst (λ (y : Found). Uses Θ (v ∷ Γ) (suc i) (λ t. T (shares Θ t)) y) (sym g) (farther a, p, (q, h, z))

use_linear_lem : (Θ : Table) (st : Stack) (Γ : List ℕ) (i n : ℕ) (r : Found) → StackOf Θ st Γ → use_linear st i n ≡ good r → Uses Θ Γ i (λ t. shares Θ t ≡ false) r
use_linear_lem Θ [] Γ i n r s e = absurd (refused≢good e)
use_linear_lem Θ (shared t ∷ st) [] i n r s e = absurd s
use_linear_lem Θ (linear t u ∷ st) [] i n r s e = absurd s
use_linear_lem Θ (shared t ∷ st) (v ∷ Γ) zero n r s e = absurd (refused≢good e)
use_linear_lem Θ (linear t false ∷ st) (v ∷ Γ) zero n r (q, h, s) e = subst (λ (x : Found). Uses Θ (v ∷ Γ) 0 (λ t. shares Θ t ≡ false) x) (good-inj e) (subst (λ (x : ℕ). BinderAt (v ∷ Γ) 0 x) (sym q) nearest, h, (q, h, s))
use_linear_lem Θ (linear t true ∷ st) (v ∷ Γ) zero n r s e = absurd (refused≢good e)
use_linear_lem Θ (shared t ∷ st) (v ∷ Γ) (suc i) n r (q, h, s) e = under_good (shared t) (use_linear st i n) r e λ x f g.
    let (a, p, z) = use_linear_lem Θ st Γ i n x s f in
    subst (λ (y : Found). Uses Θ (v ∷ Γ) (suc i) (λ t. shares Θ t ≡ false) y) (sym g) (farther a, p, (q, h, z))
use_linear_lem Θ (linear t u ∷ st) (v ∷ Γ) (suc i) n r (q, h, s) e = under_good (linear t u) (use_linear st i n) r e λ x f g.
    let (a, p, z) = use_linear_lem Θ st Γ i n x s f in
    subst (λ (y : Found). Uses Θ (v ∷ Γ) (suc i) (λ t. shares Θ t ≡ false) y) (sym g) (farther a, p, (q, h, z))

-- ---- the walk

pop_one : (Θ : Table) (st : Stack) (u : ℕ) (Γ : List ℕ) → StackOf Θ st (u ∷ Γ) → StackOf Θ (pop st) Γ
pop_one Θ [] u Γ h = absurd h
pop_one Θ (shared t ∷ st) u Γ h = h.2
pop_one Θ (linear t v ∷ st) u Γ h = h.2

module _ (E : Edition) (Θ : Table) (ok : TableOk Θ) where
  abbrev Walks : List ℕ → Term → Found → Type 0
  Walks Γ e r = Numbered E Θ Γ e r.type × StackOf Θ r.stack Γ

  pub walk-numbered : (e : Term) → Ranged E Θ e → (n : ℕ) (st : Stack) (r : Found) (Γ : List ℕ) → StackOf Θ st Γ → walk E Θ e n st ≡ good r → Walks Γ e r
  walk-numbered (var i) g n st r Γ s e = let (a, h, z) = use_shared_lem Θ st Γ i n r s e in (of_var a h, z)
  walk-numbered (lvar i) g n st r Γ s e = let (a, h, z) = use_linear_lem Θ st Γ i n r s e in (of_lvar a h, z)
  walk-numbered (fun t b) (l, g) n st r Γ s e =
      on-bind (sharable_arrow (rec_at Θ t) t n) _ r e λ τ eτ e₁.
      on-bind (walk E Θ b (n + 1) (shared τ.left ∷ st)) _ r e₁ λ q eq e₂.
      on-require (eqb q.type τ.right) (clash n τ.right q.type) _ r e₂ λ same e₃.
      arrow_form (rec_at Θ t) t n τ eτ λ is.
      let (d, z) = walk-numbered b g (n + 1) (shared τ.left ∷ st) q (τ.left ∷ Γ) (refl, left-shares Θ ok t τ.left τ.right is, s) eq in
      subst (λ (x : Found). Walks Γ (fun t b) x) (good-inj e₃) (of_fun l is (subst (λ (x : ℕ). Numbered E Θ (τ.left ∷ Γ) b x) (eqb→eq q.type τ.right same) d), pop_one Θ q.stack τ.left Γ z)
  walk-numbered (app f a) (gf, ga) n st r Γ s e =
      on-bind (walk E Θ f (n + 1) st) _ r e λ x ex e₁.
      on-bind (walk E Θ a (n + 1 + nodes f) x.stack) _ r e₁ λ y ey e₂.
      on-bind (sharable_arrow (rec_at Θ x.type) x.type n) _ r e₂ λ τ eτ e₃.
      on-require (eqb y.type τ.left) (clash n τ.left y.type) _ r e₃ λ same e₄.
      arrow_form (rec_at Θ x.type) x.type n τ eτ λ is.
      let (df, zf) = walk-numbered f gf (n + 1) st x Γ s ex in
      let (da, za) = walk-numbered a ga (n + 1 + nodes f) x.stack y Γ zf ey in
      subst (λ (q : Found). Walks Γ (app f a) q) (good-inj e₄) (of_app is df (subst (λ (q : ℕ). Numbered E Θ Γ a q) (eqb→eq y.type τ.left same) da), za)
  walk-numbered (lfun t b) (l, g) n st r Γ s e =
      on-bind (linear_arrow (rec_at Θ t) t n) _ r e λ τ eτ e₁.
      on-bind (walk E Θ b (n + 1) (linear τ.left false ∷ st)) _ r e₁ λ q eq e₂.
      on-need (top_used q.stack) 14 n _ r e₂ λ used e₃.
      on-require (eqb q.type τ.right) (clash n τ.right q.type) _ r e₃ λ same e₄.
      linear_form (rec_at Θ t) t n τ eτ λ is.
      let (d, z) = walk-numbered b g (n + 1) (linear τ.left false ∷ st) q (τ.left ∷ Γ) (refl, left_linear Θ ok t τ.left τ.right is, s) eq in
      subst (λ (x : Found). Walks Γ (lfun t b) x) (good-inj e₄) (of_lfun l is (subst (λ (x : ℕ). Numbered E Θ (τ.left ∷ Γ) b x) (eqb→eq q.type τ.right same) d), pop_one Θ q.stack τ.left Γ z)
  walk-numbered (lapp f a) (gf, ga) n st r Γ s e =
      on-bind (walk E Θ f (n + 1) st) _ r e λ x ex e₁.
      on-bind (walk E Θ a (n + 1 + nodes f) x.stack) _ r e₁ λ y ey e₂.
      on-bind (linear_arrow (rec_at Θ x.type) x.type n) _ r e₂ λ τ eτ e₃.
      on-require (eqb y.type τ.left) (clash n τ.left y.type) _ r e₃ λ same e₄.
      linear_form (rec_at Θ x.type) x.type n τ eτ λ is.
      let (df, zf) = walk-numbered f gf (n + 1) st x Γ s ex in
      let (da, za) = walk-numbered a ga (n + 1 + nodes f) x.stack y Γ zf ey in
      subst (λ (q : Found). Walks Γ (lapp f a) q) (good-inj e₄) (of_lapp is df (subst (λ (q : ℕ). Numbered E Θ Γ a q) (eqb→eq y.type τ.left same) da), za)
  walk-numbered (pair t a b) (l, ga, gb) n st r Γ s e =
      on-bind (product (rec_at Θ t) t n) _ r e λ τ eτ e₁.
      on-bind (walk E Θ a (n + 1) st) _ r e₁ λ x ex e₂.
      on-bind (walk E Θ b (n + 1 + nodes a) x.stack) _ r e₂ λ y ey e₃.
      on-require (eqb x.type τ.left) (clash n τ.left x.type) _ r e₃ λ sa e₄.
      on-require (eqb y.type τ.right) (clash n τ.right y.type) _ r e₄ λ sb e₅.
      product-form (rec_at Θ t) t n τ eτ λ is.
      let (da, za) = walk-numbered a ga (n + 1) st x Γ s ex in
      let (db, zb) = walk-numbered b gb (n + 1 + nodes a) x.stack y Γ za ey in
      subst (λ (q : Found). Walks Γ (pair t a b) q) (good-inj e₅) (of_pair l is (subst (λ (q : ℕ). Numbered E Θ Γ a q) (eqb→eq x.type τ.left sa) da) (subst (λ (q : ℕ). Numbered E Θ Γ b q) (eqb→eq y.type τ.right sb) db), zb)
  walk-numbered (proj a b) (ga, gb) n st r Γ s e =
      on-bind (walk E Θ a (n + 1) st) _ r e λ x ex e₁.
      on-bind (product (rec_at Θ x.type) x.type n) _ r e₁ λ τ eτ e₂.
      on-bind (walk E Θ b (n + 1 + nodes a) (shared τ.right ∷ shared τ.left ∷ x.stack)) _ r e₂ λ y ey e₃.
      product-form (rec_at Θ x.type) x.type n τ eτ λ is.
      let (da, za) = walk-numbered a ga (n + 1) st x Γ s ex in
      let h = halves_share Θ ok x.type τ.left τ.right is in
      let (db, zb) = walk-numbered b gb (n + 1 + nodes a) (shared τ.right ∷ shared τ.left ∷ x.stack) y (τ.right ∷ τ.left ∷ Γ) (refl, h.1, (refl, h.0, za)) ey in
      subst (λ (q : Found). Walks Γ (proj a b) q) (good-inj e₃) (of_proj is da db, pop_one Θ (pop y.stack) τ.left Γ (pop_one Θ y.stack τ.right (τ.left ∷ Γ) zb))
  walk-numbered (fix t b) (l, g) n st r Γ s e =
      on-require (sharable (tree Θ t)) (clash n a_form t) _ r e λ sh e₁.
      on-bind (walk E Θ b (n + 1) (shared t ∷ st)) _ r e₁ λ q eq e₂.
      on-require (eqb q.type t) (clash n t q.type) _ r e₂ λ same e₃.
      let (d, z) = walk-numbered b g (n + 1) (shared t ∷ st) q (t ∷ Γ) (refl, shares-tree Θ ok t sh, s) eq in
      subst (λ (x : Found). Walks Γ (fix t b) x) (good-inj e₃) (of_fix_lem l (subst (λ (x : ℕ). Numbered E Θ (t ∷ Γ) b x) (eqb→eq q.type t same) d), pop_one Θ q.stack t Γ z)
  walk-numbered (con p t) l n st r Γ s e =
      on-need (ltb p (length parts)) 15 n _ r e λ known e₁.
      on-require (ty_eq (tree Θ t) ((part_at p).type E)) (clash n (type_number Θ ((part_at p).type E)) t) _ r e₁ λ same e₂.
      subst (λ (x : Found). Walks Γ (con p t) x) (good-inj e₂) (of_con l (ltb→lt p 7 known) (ty_eq→eq (tree Θ t) ((part_at p).type E) same), s)
  walk-numbered (name a b) (E₂, ga, gb) n st r Γ s e =
      on-bind (walk E Θ a (n + 1) st) _ r e λ x ex e₁.
      on-require (sharable (tree Θ x.type)) (clash n a_form x.type) _ r e₁ λ sh e₂.
      on-bind (walk E Θ b (n + 1 + nodes a) (shared x.type ∷ x.stack)) _ r e₂ λ y ey e₃.
      let (da, za) = walk-numbered a ga (n + 1) st x Γ s ex in
      let h = shares-tree Θ ok x.type sh in
      let (db, zb) = walk-numbered b gb (n + 1 + nodes a) (shared x.type ∷ x.stack) y (x.type ∷ Γ) (refl, h, za) ey in
      subst (λ (q : Found). Walks Γ (name a b) q) (good-inj e₃) (of_name E₂ h da db, pop_one Θ y.stack x.type Γ zb)
