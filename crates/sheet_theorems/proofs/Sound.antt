-- What the typing walk accepts has a derivation by the rules. Assumes nothing.
use Prim.Native.Nat.{ℕ, zero, suc, ◌+◌}
use mathlib.Core.Path.{◌≡◌, refl, ap, ap₂, subst}
use mathlib.Core.Bool.{Bool, true, false}
use mathlib.Core.List.{[], ◌∷◌}
use lib.Dec.{T, eqb, ltb, eqb→eq, ltb→lt}
use lib.ListN.{length}
use Rattle.calculus.specs.Answer.{Answer, good, refused}
use Rattle.calculus.proofs.Answers.{refused≢good, good-inj, on-bind, on-require, on-need}
use Rattle.calculus.specs.Types.{Ty, bit, prod, arrow, lolli, sharable, is_arrow, ty_eq, TyRec, rec01, rec02, rec03, rec04, Table, rec_at, tree}
use Rattle.calculus.specs.Terms.{Edition, second, Term, var, lvar, fun, app, lfun, lapp, pair, proj, fix, con, name, nodes, parts, part_at}
use Rattle.sheet_theorems.specs.Uses.{Uses, uses_end, uses_shared, uses_not, uses_it}
use Rattle.sheet_theorems.specs.Laid.{Agrees, TableOk, Ranged}
use Rattle.laws.proofs.Tests.{and_both}
use Rattle.calculus.specs.Walk.{Binder, shared, linear, Stack, Sides, product, sharable_arrow, linear_arrow, Found, under, use_shared, use_linear, pop, top_used, walk}
use Rattle.calculus.specs.Rules.{many, once, away, Ctx, NoLinear, none_end, none_many, none_away, InΓ, in_here, in_many, in_away, IsΔ, is_here, is_many, is_away, Split, split_end, split_many, split_first, split_second, split_away, Typed, Var, LVar, →I, →E, ⊸I, ⊸E, ×I, ×E, Fix, Con, ×E'}

-- ---- forms of types

pub product_good : (q : TyRec) (t n : ℕ) (s : Sides) → product q t n ≡ good s → q ≡ rec02 s.left s.right
product_good rec01 t n s e = absurd (refused≢good e)
product_good (rec02 a b) t n s e = ap (λ (s : Sides). rec02 s.left s.right) (good-inj e)
product_good (rec03 a b) t n s e = absurd (refused≢good e)
product_good (rec04 a b) t n s e = absurd (refused≢good e)

pub sharable_good : (q : TyRec) (t n : ℕ) (s : Sides) → sharable_arrow q t n ≡ good s → q ≡ rec03 s.left s.right
sharable_good rec01 t n s e = absurd (refused≢good e)
sharable_good (rec02 a b) t n s e = absurd (refused≢good e)
sharable_good (rec03 a b) t n s e = ap (λ (s : Sides). rec03 s.left s.right) (good-inj e)
sharable_good (rec04 a b) t n s e = absurd (refused≢good e)

pub linear_good : (q : TyRec) (t n : ℕ) (s : Sides) → linear_arrow q t n ≡ good s → q ≡ rec04 s.left s.right
linear_good rec01 t n s e = absurd (refused≢good e)
linear_good (rec02 a b) t n s e = absurd (refused≢good e)
linear_good (rec03 a b) t n s e = absurd (refused≢good e)
linear_good (rec04 a b) t n s e = ap (λ (s : Sides). rec04 s.left s.right) (good-inj e)

-- ---- a stretch of the walk takes some linear binders: those are its Δ

-- nothing taken
idle : (Θ : Table) (st : Stack) → (Γ : Ctx) × Uses Θ st st Γ × NoLinear Γ
idle Θ [] = ([], uses_end, none_end)
idle Θ (shared t ∷ st) = let (Γ, s, z) = idle Θ st in (many (tree Θ t) ∷ Γ, uses_shared s, none_many z)
idle Θ (linear t u ∷ st) = let (Γ, s, z) = idle Θ st in (away ∷ Γ, uses_not s, none_away z)

-- one stretch and then another
both : {Θ : Table} {a b c : Stack} {Γ₁ Γ₂ : Ctx} → Uses Θ a b Γ₁ → Uses Θ b c Γ₂ → (Γ : Ctx) × Uses Θ a c Γ × Split Γ Γ₁ Γ₂
both uses_end uses_end = ([], uses_end, split_end)
both (uses_shared p) (uses_shared q) = let (Γ, s, z) = both p q in (_, uses_shared s, split_many z)
both (uses_not p) (uses_not q) = let (Γ, s, z) = both p q in (_, uses_not s, split_away z)
both (uses_not p) (uses_it q) = let (Γ, s, z) = both p q in (_, uses_it s, split_second z)
both (uses_it p) (uses_not q) = let (Γ, s, z) = both p q in (_, uses_it s, split_first z)

-- leaving a binder's scope
pop_shared : {Θ : Table} {t : ℕ} {st st' : Stack} {Γ' : Ctx} → Uses Θ (shared t ∷ st) st' Γ' → (Γ : Ctx) × (Γ' ≡ many (tree Θ t) ∷ Γ) × Uses Θ st (pop st') Γ
pop_shared (uses_shared s) = (_, refl, s)

pop_linear : {Θ : Table} {t : ℕ} {st st' : Stack} {Γ' : Ctx} → Uses Θ (linear t false ∷ st) st' Γ' → T (top_used st') → (Γ : Ctx) × (Γ' ≡ once (tree Θ t) ∷ Γ) × Uses Θ st (pop st') Γ
pop_linear (uses_not s) u = absurd u
pop_linear (uses_it s) u = (_, refl, s)

-- ---- soundness

pub record Derived (E : Edition) (Θ : Table) (st : Stack) (e : Term) (r : Found) : Type 0 where
  pub ctx : Ctx
  pub uses : Uses Θ st r.stack ctx
  pub typed : Typed E Θ ctx e (tree Θ r.type)

-- an answer under one more binder
pub under_good : (b : Binder) (m : Answer Found) (r : Found) → under b m ≡ good r → (q : Found) × (m ≡ good q) × (record { type = q.type; stack = b ∷ q.stack } ≡ r)
under_good b (good q) r e = (q, refl, good-inj e)
under_good b (refused why) r e = absurd (refused≢good e)

-- a sharable variable
pub record Shares (Θ : Table) (st : Stack) (i : ℕ) (r : Found) : Type 0 where
  pub ctx : Ctx
  pub uses : Uses Θ st r.stack ctx
  pub at : InΓ ctx i (tree Θ r.type)

shares : (Θ : Table) (st : Stack) (i n : ℕ) (r : Found) → use_shared st i n ≡ good r → Shares Θ st i r
shares Θ [] i n r e = absurd (refused≢good e)
shares Θ (shared t ∷ st) zero n r e =
    let (Γ, s, z) = idle Θ st in
    subst (λ (r : Found). Shares Θ (shared t ∷ st) zero r) (good-inj e)
    (record { ctx = many (tree Θ t) ∷ Γ; uses = uses_shared s; at = in_here z })
shares Θ (linear t u ∷ st) zero n r e = absurd (refused≢good e)
shares Θ (shared t ∷ st) (suc i) n r e =
    let (q, e₁, e₂) = under_good (shared t) (use_shared st i n) r e in
    let h = shares Θ st i n q e₁ in
    subst (λ (r : Found). Shares Θ (shared t ∷ st) (suc i) r) e₂
    (record { ctx = many (tree Θ t) ∷ h.ctx; uses = uses_shared h.uses; at = in_many h.at })
shares Θ (linear t u ∷ st) (suc i) n r e =
    let (q, e₁, e₂) = under_good (linear t u) (use_shared st i n) r e in
    let h = shares Θ st i n q e₁ in
    subst (λ (r : Found). Shares Θ (linear t u ∷ st) (suc i) r) e₂
    (record { ctx = away ∷ h.ctx; uses = uses_not h.uses; at = in_away h.at })

-- a linear variable
pub record Takes (Θ : Table) (st : Stack) (i : ℕ) (r : Found) : Type 0 where
  pub ctx : Ctx
  pub uses : Uses Θ st r.stack ctx
  pub at : IsΔ ctx i (tree Θ r.type)

takes : (Θ : Table) (st : Stack) (i n : ℕ) (r : Found) → use_linear st i n ≡ good r → Takes Θ st i r
takes Θ [] i n r e = absurd (refused≢good e)
takes Θ (shared t ∷ st) zero n r e = absurd (refused≢good e)
takes Θ (linear t true ∷ st) zero n r e = absurd (refused≢good e)
takes Θ (linear t false ∷ st) zero n r e =
    let (Γ, s, z) = idle Θ st in
    subst (λ (r : Found). Takes Θ (linear t false ∷ st) zero r) (good-inj e)
    (record { ctx = once (tree Θ t) ∷ Γ; uses = uses_it s; at = is_here z })
takes Θ (shared t ∷ st) (suc i) n r e =
    let (q, e₁, e₂) = under_good (shared t) (use_linear st i n) r e in
    let h = takes Θ st i n q e₁ in
    subst (λ (r : Found). Takes Θ (shared t ∷ st) (suc i) r) e₂
    (record { ctx = many (tree Θ t) ∷ h.ctx; uses = uses_shared h.uses; at = is_many h.at })
takes Θ (linear t u ∷ st) (suc i) n r e =
    let (q, e₁, e₂) = under_good (linear t u) (use_linear st i n) r e in
    let h = takes Θ st i n q e₁ in
    subst (λ (r : Found). Takes Θ (linear t u ∷ st) (suc i) r) e₂
    (record { ctx = away ∷ h.ctx; uses = uses_not h.uses; at = is_away h.at })

-- ---- the test of equal types

pub ty_eq→eq : (σ τ : Ty) → T (ty_eq σ τ) → σ ≡ τ
ty_eq→eq bit bit t = refl
ty_eq→eq bit (prod c d) t = absurd t
ty_eq→eq bit (arrow c d) t = absurd t
ty_eq→eq bit (lolli c d) t = absurd t
ty_eq→eq (prod a b) bit t = absurd t
ty_eq→eq (prod a b) (prod c d) t =
    let (p, q) = and_both (ty_eq a c) (ty_eq b d) t in
    ap₂ prod (ty_eq→eq a c p) (ty_eq→eq b d q)
ty_eq→eq (prod a b) (arrow c d) t = absurd t
ty_eq→eq (prod a b) (lolli c d) t = absurd t
ty_eq→eq (arrow a b) bit t = absurd t
ty_eq→eq (arrow a b) (prod c d) t = absurd t
ty_eq→eq (arrow a b) (arrow c d) t =
    let (p, q) = and_both (ty_eq a c) (ty_eq b d) t in
    ap₂ arrow (ty_eq→eq a c p) (ty_eq→eq b d q)
ty_eq→eq (arrow a b) (lolli c d) t = absurd t
ty_eq→eq (lolli a b) bit t = absurd t
ty_eq→eq (lolli a b) (prod c d) t = absurd t
ty_eq→eq (lolli a b) (arrow c d) t = absurd t
ty_eq→eq (lolli a b) (lolli c d) t =
    let (p, q) = and_both (ty_eq a c) (ty_eq b d) t in
    ap₂ lolli (ty_eq→eq a c p) (ty_eq→eq b d q)

-- ---- each rule, from what the walk found

abbrev at_type : ℕ → Stack → Found
at_type t st = record { type = t; stack = st }

module _ (E : Edition) (Θ : Table) (st : Stack) where
  fun-rule : (t a b : ℕ) (e : Term) (q : Found) → tree Θ t ≡ arrow (tree Θ a) (tree Θ b) → T (sharable (tree Θ a)) → q.type ≡ b
      → Derived E Θ (shared a ∷ st) e q → Derived E Θ st (fun t e) (at_type t (pop q.stack))
  fun-rule t a b e q eτ sh eb d =
      let (Γ, eΓ, s) = pop_shared d.uses in
      record { ctx = Γ; uses = s; typed = rw eτ (→I eτ sh (rw (eΓ, eb) at d.typed)) }

  lfun-rule : (t a b : ℕ) (e : Term) (q : Found) → tree Θ t ≡ lolli (tree Θ a) (tree Θ b) → T (is_arrow (tree Θ a)) → T (top_used q.stack) → q.type ≡ b
      → Derived E Θ (linear a false ∷ st) e q → Derived E Θ st (lfun t e) (at_type t (pop q.stack))
  lfun-rule t a b e q eτ ar u eb d =
      let (Γ, eΓ, s) = pop_linear d.uses u in
      record { ctx = Γ; uses = s; typed = rw eτ (⊸I eτ ar (rw (eΓ, eb) at d.typed)) }

  app-rule : (l r : ℕ) (f a : Term) (x y : Found) → tree Θ x.type ≡ arrow (tree Θ l) (tree Θ r) → T (sharable (tree Θ l)) → y.type ≡ l
      → Derived E Θ st f x → Derived E Θ x.stack a y → Derived E Θ st (app f a) (at_type r y.stack)
  app-rule l r f a x y eτ sh el d c =
      let (Γ, s, z) = both d.uses c.uses in
      record { ctx = Γ; uses = s; typed = →E z sh (rw eτ at d.typed) (rw el at c.typed) }

  lapp-rule : (l r : ℕ) (f a : Term) (x y : Found) → tree Θ x.type ≡ lolli (tree Θ l) (tree Θ r) → T (is_arrow (tree Θ l)) → y.type ≡ l
      → Derived E Θ st f x → Derived E Θ x.stack a y → Derived E Θ st (lapp f a) (at_type r y.stack)
  lapp-rule l r f a x y eτ ar el d c =
      let (Γ, s, z) = both d.uses c.uses in
      record { ctx = Γ; uses = s; typed = ⊸E z ar (rw eτ at d.typed) (rw el at c.typed) }

  pair-rule : (t l r : ℕ) (a b : Term) (x y : Found) → tree Θ t ≡ prod (tree Θ l) (tree Θ r) → T (sharable (tree Θ l)) → T (sharable (tree Θ r)) → x.type ≡ l → y.type ≡ r
      → Derived E Θ st a x → Derived E Θ x.stack b y → Derived E Θ st (pair t a b) (at_type t y.stack)
  pair-rule t l r a b x y eτ s₁ s₂ el er d c =
      let (Γ, s, z) = both d.uses c.uses in
      record { ctx = Γ; uses = s; typed = rw eτ (×I z eτ s₁ s₂ (rw el at d.typed) (rw er at c.typed)) }

  proj-rule : (l r : ℕ) (a e : Term) (x y : Found) → tree Θ x.type ≡ prod (tree Θ l) (tree Θ r) → T (sharable (tree Θ l)) → T (sharable (tree Θ r))
      → Derived E Θ st a x → Derived E Θ (shared r ∷ shared l ∷ x.stack) e y → Derived E Θ st (proj a e) (at_type y.type (pop (pop y.stack)))
  proj-rule l r a e x y eτ p q d c =
      let (Γ₁, e₁, s₁) = pop_shared c.uses in
      let (Γ₂, e₂, s₂) = pop_shared s₁ in
      let (Γ, s, z) = both d.uses s₂ in
      record { ctx = Γ; uses = s; typed = ×E z p q (rw eτ at d.typed) (rw (e₁, e₂) at c.typed) }

  fix-rule : (t : ℕ) (e : Term) (q : Found) → T (sharable (tree Θ t)) → q.type ≡ t
      → Derived E Θ (shared t ∷ st) e q → Derived E Θ st (fix t e) (at_type t (pop q.stack))
  fix-rule t e q sh eb d =
      let (Γ, eΓ, s) = pop_shared d.uses in
      record { ctx = Γ; uses = s; typed = Fix refl sh (rw (eΓ, eb) at d.typed) }

  con-rule : (p t : ℕ) → T (ltb p (length parts)) → T (ty_eq (tree Θ t) ((part_at p).type E)) → Derived E Θ st (con p t) (at_type t st)
  con-rule p t h k =
      let (Γ, s, z) = idle Θ st in
      let e = ty_eq→eq (tree Θ t) ((part_at p).type E) k in
      record { ctx = Γ; uses = s; typed = rw e (Con (ltb→lt p (length parts) h) e z) }

  name-rule : (a e : Term) (x y : Found) → E ≡ second → T (sharable (tree Θ x.type))
      → Derived E Θ st a x → Derived E Θ (shared x.type ∷ x.stack) e y → Derived E Θ st (name a e) (at_type y.type (pop y.stack))
  name-rule a e x y eE sh d c =
      let (Γ₂, e₂, s₂) = pop_shared c.uses in
      let (Γ, s, z) = both d.uses s₂ in
      record { ctx = Γ; uses = s; typed = ×E' eE z sh d.typed (rw e₂ at c.typed) }

-- the walk
pub derived : (E : Edition) (Θ : Table) → TableOk Θ → (e : Term) → Ranged E Θ e → (n : ℕ) (st : Stack) (r : Found) → walk E Θ e n st ≡ good r → Derived E Θ st e r
derived E Θ ok (var i) g n st r h =
    let s = shares Θ st i n r h in
    record { ctx = s.ctx; uses = s.uses; typed = Var s.at }
derived E Θ ok (lvar i) g n st r h =
    let s = takes Θ st i n r h in
    record { ctx = s.ctx; uses = s.uses; typed = LVar s.at }
derived E Θ ok (fun t e) g n st r h =
    on-bind (sharable_arrow (rec_at Θ t) t n) _ r h λ τ h₁ k₁.
    on-bind (walk E Θ e (n + 1) (shared τ.left ∷ st)) _ r k₁ λ q h₂ k₂.
    on-require (eqb q.type τ.right) _ _ r k₂ λ h₃ k₃.
    let (eτ, sh) = subst (λ (q : TyRec). Agrees Θ q (tree Θ t)) (sharable_good (rec_at Θ t) t n τ h₁) (ok.agrees t) in
    rw (← good-inj k₃) (fun-rule E Θ st t τ.left τ.right e q eτ sh (eqb→eq _ _ h₃) (derived E Θ ok e g.1 (n + 1) _ q h₂))
derived E Θ ok (app f a) g n st r h =
    on-bind (walk E Θ f (n + 1) st) _ r h λ x h₁ k₁.
    on-bind (walk E Θ a (n + 1 + nodes f) x.stack) _ r k₁ λ y h₂ k₂.
    on-bind (sharable_arrow (rec_at Θ x.type) x.type n) _ r k₂ λ τ h₃ k₃.
    on-require (eqb y.type τ.left) _ _ r k₃ λ h₄ k₄.
    let (eτ, sh) = subst (λ (q : TyRec). Agrees Θ q (tree Θ x.type)) (sharable_good (rec_at Θ x.type) x.type n τ h₃) (ok.agrees x.type) in
    rw (← good-inj k₄) (app-rule E Θ st τ.left τ.right f a x y eτ sh (eqb→eq _ _ h₄) (derived E Θ ok f g.0 (n + 1) st x h₁) (derived E Θ ok a g.1 _ x.stack y h₂))
derived E Θ ok (lfun t e) g n st r h =
    on-bind (linear_arrow (rec_at Θ t) t n) _ r h λ τ h₁ k₁.
    on-bind (walk E Θ e (n + 1) (linear τ.left false ∷ st)) _ r k₁ λ q h₂ k₂.
    on-need (top_used q.stack) 14 n _ r k₂ λ h₃ k₃.
    on-require (eqb q.type τ.right) _ _ r k₃ λ h₄ k₄.
    let (eτ, ar) = subst (λ (q : TyRec). Agrees Θ q (tree Θ t)) (linear_good (rec_at Θ t) t n τ h₁) (ok.agrees t) in
    rw (← good-inj k₄) (lfun-rule E Θ st t τ.left τ.right e q eτ ar h₃ (eqb→eq _ _ h₄) (derived E Θ ok e g.1 (n + 1) _ q h₂))
derived E Θ ok (lapp f a) g n st r h =
    on-bind (walk E Θ f (n + 1) st) _ r h λ x h₁ k₁.
    on-bind (walk E Θ a (n + 1 + nodes f) x.stack) _ r k₁ λ y h₂ k₂.
    on-bind (linear_arrow (rec_at Θ x.type) x.type n) _ r k₂ λ τ h₃ k₃.
    on-require (eqb y.type τ.left) _ _ r k₃ λ h₄ k₄.
    let (eτ, ar) = subst (λ (q : TyRec). Agrees Θ q (tree Θ x.type)) (linear_good (rec_at Θ x.type) x.type n τ h₃) (ok.agrees x.type) in
    rw (← good-inj k₄) (lapp-rule E Θ st τ.left τ.right f a x y eτ ar (eqb→eq _ _ h₄) (derived E Θ ok f g.0 (n + 1) st x h₁) (derived E Θ ok a g.1 _ x.stack y h₂))
derived E Θ ok (pair t a b) g n st r h =
    on-bind (product (rec_at Θ t) t n) _ r h λ τ h₁ k₁.
    on-bind (walk E Θ a (n + 1) st) _ r k₁ λ x h₂ k₂.
    on-bind (walk E Θ b (n + 1 + nodes a) x.stack) _ r k₂ λ y h₃ k₃.
    on-require (eqb x.type τ.left) _ _ r k₃ λ h₄ k₄.
    on-require (eqb y.type τ.right) _ _ r k₄ λ h₅ k₅.
    let (eτ, s₁, s₂) = subst (λ (q : TyRec). Agrees Θ q (tree Θ t)) (product_good (rec_at Θ t) t n τ h₁) (ok.agrees t) in
    rw (← good-inj k₅) (pair-rule E Θ st t τ.left τ.right a b x y eτ s₁ s₂ (eqb→eq _ _ h₄) (eqb→eq _ _ h₅) (derived E Θ ok a g.1 (n + 1) st x h₂) (derived E Θ ok b g.2 _ x.stack y h₃))
derived E Θ ok (proj a e) g n st r h =
    on-bind (walk E Θ a (n + 1) st) _ r h λ x h₁ k₁.
    on-bind (product (rec_at Θ x.type) x.type n) _ r k₁ λ τ h₂ k₂.
    on-bind (walk E Θ e (n + 1 + nodes a) (shared τ.right ∷ shared τ.left ∷ x.stack)) _ r k₂ λ y h₃ k₃.
    let (eτ, s₁, s₂) = subst (λ (q : TyRec). Agrees Θ q (tree Θ x.type)) (product_good (rec_at Θ x.type) x.type n τ h₂) (ok.agrees x.type) in
    rw (← good-inj k₃) (proj-rule E Θ st τ.left τ.right a e x y eτ s₁ s₂ (derived E Θ ok a g.0 (n + 1) st x h₁) (derived E Θ ok e g.1 _ _ y h₃))
derived E Θ ok (fix t e) g n st r h =
    on-require (sharable (tree Θ t)) _ _ r h λ h₁ k₁.
    on-bind (walk E Θ e (n + 1) (shared t ∷ st)) _ r k₁ λ q h₂ k₂.
    on-require (eqb q.type t) _ _ r k₂ λ h₃ k₃.
    rw (← good-inj k₃) (fix-rule E Θ st t e q h₁ (eqb→eq _ _ h₃) (derived E Θ ok e g.1 (n + 1) _ q h₂))
derived E Θ ok (con p t) g n st r h =
    on-need (ltb p (length parts)) 15 n _ r h λ h₁ k₁.
    on-require (ty_eq (tree Θ t) ((part_at p).type E)) _ _ r k₁ λ h₂ k₂.
    rw (← good-inj k₂) (con-rule E Θ st p t h₁ h₂)
derived E Θ ok (name a e) g n st r h =
    on-bind (walk E Θ a (n + 1) st) _ r h λ x h₁ k₁.
    on-require (sharable (tree Θ x.type)) _ _ r k₁ λ h₂ k₂.
    on-bind (walk E Θ e (n + 1 + nodes a) (shared x.type ∷ x.stack)) _ r k₂ λ y h₃ k₃.
    rw (← good-inj k₃) (name-rule E Θ st a e x y g.0 h₂ (derived E Θ ok a g.1 (n + 1) st x h₁) (derived E Θ ok e g.2 _ _ y h₃))

-- from the empty stack: a derivation in the empty context
closed : {Θ : Table} {st : Stack} {Γ : Ctx} → Uses Θ [] st Γ → Γ ≡ []
closed uses_end = refl

pub sound : (E : Edition) (Θ : Table) → TableOk Θ → (e : Term) → Ranged E Θ e → (r : Found) → walk E Θ e 0 [] ≡ good r → Typed E Θ [] e (tree Θ r.type)
sound E Θ ok e g r h =
    let d = derived E Θ ok e g 0 [] r h in
    rw (closed d.uses) at d.typed
