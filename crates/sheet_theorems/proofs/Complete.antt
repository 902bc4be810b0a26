-- What has a derivation by the rules is accepted by the typing walk. Assumes nothing.
use Prim.Native.Nat.{ℕ, ◌+◌, ◌<◌}
use mathlib.Core.Path.{◌≡◌, refl, sym, ap, ◌∙◌}
use mathlib.Core.Bool.{true, false}
use mathlib.Core.List.{[], ◌∷◌}
use native.Mathlib.Omega.{arith}
use lib.Dec.{T, eqb}
use lib.ListN.{length}
use borrow.Author.Tests.{lt-ltb, eq-eqb}
use Rattle.calculus.specs.Answer.{Answer}
use Rattle.calculus.specs.Types.{Ty, bit, prod, arrow, lolli, sharable, ty_eq, TyRec, rec01, rec02, rec03, rec04, Table, rec_at, tree}
use Rattle.calculus.specs.Terms.{Edition, Term, fun, app, lfun, lapp, pair, proj, fix, con, name, nodes, parts, part_at}
use Rattle.calculus.specs.Walk.{shared, linear, Stack, Found, found, use_shared, use_linear, walk}
use Rattle.calculus.specs.Rules.{Ctx, NoLinear, none_end, none_many, none_away, InΓ, in_here, in_many, in_away, IsΔ, is_here, is_many, is_away, Split, split_end, split_many, split_first, split_second, split_away, Typed, Var, LVar, →I, →E, ⊸I, ⊸E, ×I, ×E, Fix, Con, ×E'}
use Rattle.sheet_theorems.specs.Laid.{Agrees, Below, TableOk, Ranged}
use Rattle.sheet_theorems.specs.Numbers.{Numbers}
use Rattle.laws.proofs.Tests.{and_of, T-is}
use Rattle.sheet_theorems.proofs.Tables.{wider}
use Rattle.sheet_theorems.specs.Uses.{Uses, uses_end, uses_shared, uses_not, uses_it}

-- ---- the two numbers of a record whose type has a form

pub record Parts (Θ : Table) (q : TyRec) (of : ℕ → ℕ → TyRec) (σ τ : Ty) : Type 0 where
  pub left : ℕ
  pub right : ℕ
  pub rec : q ≡ of left right
  pub left_in : left < length Θ
  pub right_in_lem : right < length Θ
  pub left_is : tree Θ left ≡ σ
  pub right_is : tree Θ right ≡ τ

module _ (Θ : Table) where
  arrow-parts : (q : TyRec) (ρ σ τ : Ty) → Agrees Θ q ρ → Below (length Θ) q → ρ ≡ arrow σ τ → Parts Θ q rec03 σ τ
  arrow-parts rec01 ρ σ τ a k e = absurd (let z : ◌≡◌ {A = ℕ} 0 1 = cc in omega arith)
  arrow-parts (rec02 x y) ρ σ τ a k e = let h = a.0 in absurd (let z : ◌≡◌ {A = ℕ} 0 1 = cc in omega arith)
  arrow-parts (rec03 x y) ρ σ τ a k e = let h = a.0 in record { left = x; right = y; rec = refl; left_in = k.0; right_in_lem = k.1; left_is = cc; right_is = cc }
  arrow-parts (rec04 x y) ρ σ τ a k e = let h = a.0 in absurd (let z : ◌≡◌ {A = ℕ} 0 1 = cc in omega arith)

  lolli-parts : (q : TyRec) (ρ σ τ : Ty) → Agrees Θ q ρ → Below (length Θ) q → ρ ≡ lolli σ τ → Parts Θ q rec04 σ τ
  lolli-parts rec01 ρ σ τ a k e = absurd (let z : ◌≡◌ {A = ℕ} 0 1 = cc in omega arith)
  lolli-parts (rec02 x y) ρ σ τ a k e = let h = a.0 in absurd (let z : ◌≡◌ {A = ℕ} 0 1 = cc in omega arith)
  lolli-parts (rec03 x y) ρ σ τ a k e = let h = a.0 in absurd (let z : ◌≡◌ {A = ℕ} 0 1 = cc in omega arith)
  lolli-parts (rec04 x y) ρ σ τ a k e = let h = a.0 in record { left = x; right = y; rec = refl; left_in = k.0; right_in_lem = k.1; left_is = cc; right_is = cc }

  prod-parts : (q : TyRec) (ρ σ τ : Ty) → Agrees Θ q ρ → Below (length Θ) q → ρ ≡ prod σ τ → Parts Θ q rec02 σ τ
  prod-parts rec01 ρ σ τ a k e = absurd (let z : ◌≡◌ {A = ℕ} 0 1 = cc in omega arith)
  prod-parts (rec02 x y) ρ σ τ a k e = let h = a.0 in record { left = x; right = y; rec = refl; left_in = k.0; right_in_lem = k.1; left_is = cc; right_is = cc }
  prod-parts (rec03 x y) ρ σ τ a k e = let h = a.0 in absurd (let z : ◌≡◌ {A = ℕ} 0 1 = cc in omega arith)
  prod-parts (rec04 x y) ρ σ τ a k e = let h = a.0 in absurd (let z : ◌≡◌ {A = ℕ} 0 1 = cc in omega arith)

-- ---- the stacks between two subterms

between : {Θ : Table} {Γ Γ₁ Γ₂ : Ctx} {st st' : Stack} → Split Γ Γ₁ Γ₂ → Uses Θ st st' Γ → (mid : Stack) × Uses Θ st mid Γ₁ × Uses Θ mid st' Γ₂
between split_end uses_end = ([], uses_end, uses_end)
between (split_many z) (uses_shared s) = let (m, p, q) = between z s in (_, uses_shared p, uses_shared q)
between (split_first z) (uses_it s) = let (m, p, q) = between z s in (_, uses_it p, uses_not q)
between (split_second z) (uses_it s) = let (m, p, q) = between z s in (_, uses_not p, uses_it q)
between (split_away z) (uses_not s) = let (m, p, q) = between z s in (_, uses_not p, uses_not q)

idle-same : {Θ : Table} {Γ : Ctx} {st st' : Stack} → NoLinear Γ → Uses Θ st st' Γ → st' ≡ st
idle-same none_end uses_end = refl
idle-same (none_many z) (uses_shared {t = t} s) = ap (λ (r : Stack). shared t ∷ r) (idle-same z s)
idle-same (none_away z) (uses_not {t = t} {u = u} s) = ap (λ (r : Stack). linear t u ∷ r) (idle-same z s)

-- ---- variables

pub record FoundAs (Θ : Table) (τ : Ty) (st : Stack) (a : Answer Found) : Type 0 where
  pub type : ℕ
  pub type_in_lem : type < length Θ
  pub type_is : tree Θ type ≡ τ
  pub answer : a ≡ found type st

shares : {Θ : Table} {Γ : Ctx} {i : ℕ} {θ : Ty} {st st' : Stack} (n : ℕ) → InΓ Γ i θ → Uses Θ st st' Γ → Numbers st (length Θ) → FoundAs Θ θ st' (use_shared st i n)
shares n (in_here z) (uses_shared {t = t} s) k = record { type = t; type_in_lem = k.0; type_is = refl; answer = rw (idle-same z s) }
shares n (in_many x) (uses_shared s) k = let r = shares n x s k.1 in record { type = r.type; type_in_lem = r.type_in_lem; type_is = r.type_is; answer = rw r.answer }
shares n (in_away x) (uses_not s) k = let r = shares n x s k.1 in record { type = r.type; type_in_lem = r.type_in_lem; type_is = r.type_is; answer = rw r.answer }

takes : {Θ : Table} {Γ : Ctx} {i : ℕ} {κ : Ty} {st st' : Stack} (n : ℕ) → IsΔ Γ i κ → Uses Θ st st' Γ → Numbers st (length Θ) → FoundAs Θ κ st' (use_linear st i n)
takes n (is_here z) (uses_it {t = t} s) k = record { type = t; type_in_lem = k.0; type_is = refl; answer = rw (idle-same z s) }
takes n (is_many x) (uses_shared s) k = let r = takes n x s k.1 in record { type = r.type; type_in_lem = r.type_in_lem; type_is = r.type_is; answer = rw r.answer }
takes n (is_away x) (uses_not s) k = let r = takes n x s k.1 in record { type = r.type; type_in_lem = r.type_in_lem; type_is = r.type_is; answer = rw r.answer }

numbers_uses : {Θ : Table} {Γ : Ctx} {st st' : Stack} (l : ℕ) → Uses Θ st st' Γ → Numbers st l → Numbers st' l
numbers_uses l uses_end k = k
numbers_uses l (uses_shared s) k = (k.0, numbers_uses l s k.1)
numbers_uses l (uses_not s) k = (k.0, numbers_uses l s k.1)
numbers_uses l (uses_it s) k = (k.0, numbers_uses l s k.1)

pub ty_eq_refl : (τ : Ty) → T (ty_eq τ τ)
ty_eq_refl bit = tt
ty_eq_refl (prod a b) = and_of (ty_eq a a) (ty_eq b b) (ty_eq_refl a) (ty_eq_refl b)
ty_eq_refl (arrow a b) = and_of (ty_eq a a) (ty_eq b b) (ty_eq_refl a) (ty_eq_refl b)
ty_eq_refl (lolli a b) = and_of (ty_eq a a) (ty_eq b b) (ty_eq_refl a) (ty_eq_refl b)

-- ---- each rule

module _ (E : Edition) (Θ : Table) (ok : TableOk Θ) where
  parts-arrow : (t : ℕ) {σ τ : Ty} → t < length Θ → tree Θ t ≡ arrow σ τ → Parts Θ (rec_at Θ t) rec03 σ τ
  parts-arrow t h e = arrow-parts Θ (rec_at Θ t) (tree Θ t) _ _ (ok.agrees t) (wider (rec_at Θ t) (omega arith) (ok.earlier t h)) e

  parts-lolli : (t : ℕ) {σ τ : Ty} → t < length Θ → tree Θ t ≡ lolli σ τ → Parts Θ (rec_at Θ t) rec04 σ τ
  parts-lolli t h e = lolli-parts Θ (rec_at Θ t) (tree Θ t) _ _ (ok.agrees t) (wider (rec_at Θ t) (omega arith) (ok.earlier t h)) e

  parts-prod : (t : ℕ) {σ τ : Ty} → t < length Θ → tree Θ t ≡ prod σ τ → Parts Θ (rec_at Θ t) rec02 σ τ
  parts-prod t h e = prod-parts Θ (rec_at Θ t) (tree Θ t) _ _ (ok.agrees t) (wider (rec_at Θ t) (omega arith) (ok.earlier t h)) e

  -- two numbers of one type are one
  same : {a b : ℕ} {τ : Ty} → a < length Θ → b < length Θ → tree Θ a ≡ τ → tree Θ b ≡ τ → eqb a b ≡ true
  same {a} {b} ha hb ea eb = eq-eqb a b (ok.distinct a b ha hb (ea ∙ sym eb))

  app-walk : (f a : Term) (n : ℕ) (st mid st' : Stack) (θ τ : Ty) → FoundAs Θ (arrow θ τ) mid (walk E Θ f (n + 1) st)
      → FoundAs Θ θ st' (walk E Θ a (n + 1 + nodes f) mid) → FoundAs Θ τ st' (walk E Θ (app f a) n st)
  app-walk f a n st mid st' θ τ x y =
      let p = parts-arrow x.type x.type_in_lem x.type_is in
      record { type = p.right; type_in_lem = p.right_in_lem; type_is = p.right_is; answer = simp (x.answer, y.answer, p.rec, same y.type_in_lem p.left_in y.type_is p.left_is) }

  lapp-walk : (f a : Term) (n : ℕ) (st mid st' : Stack) (θ τ : Ty) → FoundAs Θ (lolli θ τ) mid (walk E Θ f (n + 1) st)
      → FoundAs Θ θ st' (walk E Θ a (n + 1 + nodes f) mid) → FoundAs Θ τ st' (walk E Θ (lapp f a) n st)
  lapp-walk f a n st mid st' θ τ x y =
      let p = parts-lolli x.type x.type_in_lem x.type_is in
      record { type = p.right; type_in_lem = p.right_in_lem; type_is = p.right_is; answer = simp (x.answer, y.answer, p.rec, same y.type_in_lem p.left_in y.type_is p.left_is) }

  pair-walk : (t : ℕ) (a b : Term) (n : ℕ) (st mid st' : Stack) (θ₁ θ₂ : Ty) → t < length Θ → tree Θ t ≡ prod θ₁ θ₂ → FoundAs Θ θ₁ mid (walk E Θ a (n + 1) st)
      → FoundAs Θ θ₂ st' (walk E Θ b (n + 1 + nodes a) mid) → FoundAs Θ (prod θ₁ θ₂) st' (walk E Θ (pair t a b) n st)
  pair-walk t a b n st mid st' θ₁ θ₂ h e x y =
      let p = parts-prod t h e in
      record { type = t; type_in_lem = h; type_is = e; answer = simp (p.rec, x.answer, y.answer, same x.type_in_lem p.left_in x.type_is p.left_is, same y.type_in_lem p.right_in_lem y.type_is p.right_is) }

  fun-walk : (t : ℕ) (e : Term) (n : ℕ) (st st' : Stack) (θ τ : Ty) (h : t < length Θ) (eτ : tree Θ t ≡ arrow θ τ) (p : Parts Θ (rec_at Θ t) rec03 θ τ)
      → FoundAs Θ τ (shared p.left ∷ st') (walk E Θ e (n + 1) (shared p.left ∷ st)) → FoundAs Θ (arrow θ τ) st' (walk E Θ (fun t e) n st)
  fun-walk t e n st st' θ τ h eτ p x =
      record { type = t; type_in_lem = h; type_is = eτ; answer = simp (p.rec, x.answer, same x.type_in_lem p.right_in_lem x.type_is p.right_is) }

  lfun-walk : (t : ℕ) (e : Term) (n : ℕ) (st st' : Stack) (θ τ : Ty) (h : t < length Θ) (eτ : tree Θ t ≡ lolli θ τ) (p : Parts Θ (rec_at Θ t) rec04 θ τ)
      → FoundAs Θ τ (linear p.left true ∷ st') (walk E Θ e (n + 1) (linear p.left false ∷ st)) → FoundAs Θ (lolli θ τ) st' (walk E Θ (lfun t e) n st)
  lfun-walk t e n st st' θ τ h eτ p x =
      record { type = t; type_in_lem = h; type_is = eτ; answer = simp (p.rec, x.answer, same x.type_in_lem p.right_in_lem x.type_is p.right_is) }

  proj-walk : (a e : Term) (n : ℕ) (st mid st' : Stack) (θ₁ θ₂ τ : Ty) (x : FoundAs Θ (prod θ₁ θ₂) mid (walk E Θ a (n + 1) st)) (p : Parts Θ (rec_at Θ x.type) rec02 θ₁ θ₂)
      → FoundAs Θ τ (shared p.right ∷ shared p.left ∷ st') (walk E Θ e (n + 1 + nodes a) (shared p.right ∷ shared p.left ∷ mid)) → FoundAs Θ τ st' (walk E Θ (proj a e) n st)
  proj-walk a e n st mid st' θ₁ θ₂ τ x p y =
      record { type = y.type; type_in_lem = y.type_in_lem; type_is = y.type_is; answer = simp (x.answer, p.rec, y.answer) }

  name-walk : (a e : Term) (n : ℕ) (st mid st' : Stack) (θ τ : Ty) → T (sharable θ) → (x : FoundAs Θ θ mid (walk E Θ a (n + 1) st))
      → FoundAs Θ τ (shared x.type ∷ st') (walk E Θ e (n + 1 + nodes a) (shared x.type ∷ mid)) → FoundAs Θ τ st' (walk E Θ (name a e) n st)
  name-walk a e n st mid st' θ τ sh x y =
      record { type = y.type; type_in_lem = y.type_in_lem; type_is = y.type_is; answer = simp (x.answer, T-is (sharable (tree Θ x.type)) (rw x.type_is sh), y.answer) }

  fix-walk : (t : ℕ) (e : Term) (n : ℕ) (st st' : Stack) (θ : Ty) (h : t < length Θ) → tree Θ t ≡ θ → T (sharable θ)
      → FoundAs Θ θ (shared t ∷ st') (walk E Θ e (n + 1) (shared t ∷ st)) → FoundAs Θ θ st' (walk E Θ (fix t e) n st)
  fix-walk t e n st st' θ h eτ sh x =
      record { type = t; type_in_lem = h; type_is = eτ; answer = simp (T-is (sharable (tree Θ t)) (rw eτ sh), x.answer, same x.type_in_lem h x.type_is eτ) }

  con-walk : (p t n : ℕ) (st : Stack) → t < length Θ → p < length parts → tree Θ t ≡ (part_at p).type E → FoundAs Θ ((part_at p).type E) st (walk E Θ (con p t) n st)
  con-walk p t n st h hp e =
      record { type = t; type_in_lem = h; type_is = e; answer = simp (lt-ltb p (length parts) hp, T-is (ty_eq (tree Θ t) ((part_at p).type E)) (rw e (ty_eq_refl ((part_at p).type E)))) }

  pub complete : {Γ : Ctx} {e : Term} {τ : Ty} → Typed E Θ Γ e τ → Ranged E Θ e → (n : ℕ) {st st' : Stack} → Uses Θ st st' Γ → Numbers st (length Θ) → FoundAs Θ τ st' (walk E Θ e n st)
  complete (Var x) g n s k = shares n x s k
  complete (LVar x) g n s k = takes n x s k
  complete (→I {t = t} {e = e} {θ = θ} {τ = τ} eτ sh d) g n {st} {st'} s k =
      let p = parts-arrow t g.0 eτ in
      fun-walk t e n st st' θ τ g.0 eτ p (complete d g.1 (n + 1) (rw p.left_is at (uses_shared {t = p.left} s)) (p.left_in, k))
  complete (→E {f = f} {a = a} {θ = θ} {τ = τ} z sh d c) g n {st} {st'} s k =
      let (m, p, q) = between z s in
      app-walk f a n st m st' θ τ (complete d g.0 (n + 1) p k) (complete c g.1 (n + 1 + nodes f) q (numbers_uses (length Θ) p k))
  complete (⊸I {t = t} {e = e} {κ = κ} {τ = τ} eτ ar d) g n {st} {st'} s k =
      let p = parts-lolli t g.0 eτ in
      lfun-walk t e n st st' κ τ g.0 eτ p (complete d g.1 (n + 1) (rw p.left_is at (uses_it {t = p.left} s)) (p.left_in, k))
  complete (⊸E {f = f} {a = a} {κ = κ} {τ = τ} z ar d c) g n {st} {st'} s k =
      let (m, p, q) = between z s in
      lapp-walk f a n st m st' κ τ (complete d g.0 (n + 1) p k) (complete c g.1 (n + 1 + nodes f) q (numbers_uses (length Θ) p k))
  complete (×I {t = t} {a = a} {b = b} {θ₁ = θ₁} {θ₂ = θ₂} z eτ s₁ s₂ d c) g n {st} {st'} s k =
      let (m, p, q) = between z s in
      pair-walk t a b n st m st' θ₁ θ₂ g.0 eτ (complete d g.1 (n + 1) p k) (complete c g.2 (n + 1 + nodes a) q (numbers_uses (length Θ) p k))
  complete (×E {a = a} {e = e} {θ₁ = θ₁} {θ₂ = θ₂} {τ = τ} z s₁ s₂ d c) g n {st} {st'} s k =
      let (m, p, q) = between z s in
      let x = complete d g.0 (n + 1) p k in
      let o = parts-prod x.type x.type_in_lem x.type_is in
      proj-walk a e n st m st' θ₁ θ₂ τ x o (complete c g.1 (n + 1 + nodes a) (rw (o.left_is, o.right_is) at (uses_shared {t = o.right} (uses_shared {t = o.left} q))) (o.right_in_lem, (o.left_in, numbers_uses (length Θ) p k)))
  complete (Fix {t = t} {e = e} {θ = θ} eτ sh d) g n {st} {st'} s k =
      fix-walk t e n st st' θ g.0 eτ sh (complete d g.1 (n + 1) (rw eτ at (uses_shared {t = t} s)) (g.0, k))
  complete (Con {p = p} {t = t} h e z) g n {st} {st'} s k =
      rw (idle-same z s) (con-walk p t n st g h e)
  complete (×E' {a = a} {e = e} {θ = θ} {τ = τ} eE z sh d c) g n {st} {st'} s k =
      let (m, p, q) = between z s in
      let x = complete d g.1 (n + 1) p k in
      name-walk a e n st m st' θ τ sh x (complete c g.2 (n + 1 + nodes a) (rw x.type_is at (uses_shared {t = x.type} q)) (x.type_in_lem, numbers_uses (length Θ) p k))
