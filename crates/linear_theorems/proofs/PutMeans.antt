-- Putting a linear argument in keeps the meaning. By induction on the derivation. Assumes nothing.
use Prim.Native.Nat.{ℕ, zero, suc}
use mathlib.Core.Path.{◌≡◌, refl, sym, subst, ◌∙◌}
use mathlib.Core.Logic.{◌↔◌}
use mathlib.Core.Bool.{true, false, true≢false, false≢true}
use mathlib.Core.List.{List, [], ◌∷◌}
use lib.ListN.{get_or}
use Rattle.calculus.specs.Types.{Ty, Table, tree}
use Rattle.calculus.specs.Terms.{first, part_at}
use Rattle.calculus.specs.Net.{part_side, left_of}
use Rattle.calculus.specs.Record.{Law}
use Rattle.calculus.specs.Rules.{many, once, away, Ctx, InΓ, in_here, in_many, in_away, IsΔ, is_here, is_many, is_away, Split, split_end, split_many, split_first, split_second, split_away, Typed, Var, LVar, →I, →E, ⊸I, ⊸E, ×I, ×E, Fix, Con}
use Rattle.linear_theorems.specs.Marked.{Marked, mvar, mlvar, mfun, mapp, mlfun, mlapp, mpair, mproj, mfix, mcon, plain, Seen}
use Rattle.linear_theorems.specs.PutIn.{above, without, same, raise, put, PutIn, put_here, in_fun, in_app_left, in_app_right, in_lfun, in_lapp_left, in_lapp_right, in_pair_left, in_pair_right, in_proj_left, in_proj_right, in_fix}
use Rattle.linear_theorems.proofs.Meaning.{Val, leaf, node, dark, Shaped, Means}
use Rattle.linear_theorems.proofs.Lines.{lines_cut, build_shaped}
use Rattle.linear_theorems.proofs.PutTyped.{Ins, ins_here, ins_there, other, none-once, in_once, itself, split_drop, split_take, by_first, by_second}

-- ---- values of binders, with one put in

abbrev pub into : ℕ → Val → List Val → List Val
into zero u ε = u ∷ ε
into (suc j) u [] = dark ∷ into j u []
into (suc j) u (x ∷ ε) = x ∷ into j u ε

look-above : (c i : ℕ) (u : Val) (ε : List Val) → get_or (into c u ε) (above c i) dark ≡ get_or ε i dark
look-above zero i u ε = refl
look-above (suc c) zero u [] = refl
look-above (suc c) zero u (x ∷ ε) = refl
look-above (suc c) (suc i) u [] = look-above c i u []
look-above (suc c) (suc i) u (x ∷ ε) = look-above c i u ε

look-same : (j i : ℕ) (u : Val) (ε : List Val) → same j i ≡ true → get_or (into j u ε) i dark ≡ u
look-same zero zero u ε e = refl
look-same zero (suc i) u ε e = absurd (false≢true e)
look-same (suc j) zero u ε e = absurd (false≢true e)
look-same (suc j) (suc i) u [] e = look-same j i u [] e
look-same (suc j) (suc i) u (x ∷ ε) e = look-same j i u ε e

look-other : (j i : ℕ) (u : Val) (ε : List Val) → same j i ≡ false → get_or (into j u ε) i dark ≡ get_or ε (without j i) dark
look-other zero zero u ε e = absurd (true≢false e)
look-other zero (suc i) u ε e = refl
look-other (suc j) zero u [] e = refl
look-other (suc j) zero u (x ∷ ε) e = refl
look-other (suc j) (suc i) u [] e = look-other j i u [] e
look-other (suc j) (suc i) u (x ∷ ε) e = look-other j i u ε e

-- a sharable variable is not the linear one
apart : {j i : ℕ} {θ : Ty} {Γ Γ⁺ : Ctx} → Ins j away Γ Γ⁺ → InΓ Γ⁺ i θ → same j i ≡ false
apart ins_here (in_away v) = refl
apart (ins_there p) (in_here z) = refl
apart (ins_there p) (in_many v) = apart p v
apart (ins_there p) (in_away v) = apart p v

module _ (law : Law) (Θ : Table) (n : ℕ) (ρ : Seen) where
  -- e over ε and e' over ε' have the same values
  abbrev pub Like : Marked → List Val → Marked → List Val → Type 0
  Like e ε e' ε' = (v : Val) → Means law Θ n ρ e ε v ↔ Means law Θ n ρ e' ε' v

  -- ---- each node keeps likeness

  fun-like : (t : ℕ) (e e' : Marked) (ε ε' : List Val) → ((u : Val) → Shaped n (left_of (tree Θ t)) u → Like e (u ∷ ε) e' (u ∷ ε')) → Like (mfun t e) ε (mfun t e') ε'
  fun-like t e e' ε ε' h (leaf w) = ((λ x. x), (λ x. x))
  fun-like t e e' ε ε' h (node u v) = ((λ x. (x.0, (h u x.0 v).0 x.1)), (λ x. (x.0, (h u x.0 v).1 x.1)))

  lfun-like : (t : ℕ) (e e' : Marked) (ε ε' : List Val) → ((u : Val) → Shaped n (left_of (tree Θ t)) u → Like e (u ∷ ε) e' (u ∷ ε')) → Like (mlfun t e) ε (mlfun t e') ε'
  lfun-like t e e' ε ε' h (leaf w) = ((λ x. x), (λ x. x))
  lfun-like t e e' ε ε' h (node u v) = ((λ x. (x.0, (h u x.0 v).0 x.1)), (λ x. (x.0, (h u x.0 v).1 x.1)))

  app-like : (f a f' a' : Marked) (ε ε' : List Val) → Like f ε f' ε' → Like a ε a' ε' → Like (mapp f a) ε (mapp f' a') ε'
  app-like f a f' a' ε ε' p q v = ((λ x. (x.0, (p (node x.0 v)).0 x.1, (q x.0).0 x.2)), (λ x. (x.0, (p (node x.0 v)).1 x.1, (q x.0).1 x.2)))

  pair-like : (t : ℕ) (a b a' b' : Marked) (ε ε' : List Val) → Like a ε a' ε' → Like b ε b' ε' → Like (mpair t a b) ε (mpair t a' b') ε'
  pair-like t a b a' b' ε ε' p q (leaf w) = ((λ x. x), (λ x. x))
  pair-like t a b a' b' ε ε' p q (node u v) = ((λ x. ((p u).0 x.0, (q v).0 x.1)), (λ x. ((p u).1 x.0, (q v).1 x.1)))

  proj-like : (a e a' e' : Marked) (ε ε' : List Val) → Like a ε a' ε' → ((u w : Val) → Means law Θ n ρ a ε (node u w) → Like e (w ∷ u ∷ ε) e' (w ∷ u ∷ ε')) → Like (mproj a e) ε (mproj a' e') ε'
  proj-like a e a' e' ε ε' p q v = (
    (λ x. (x.0, x.1, (p (node x.0 x.1)).0 x.2, (q x.0 x.1 x.2 v).0 x.3)),
    (λ x. let y = (p (node x.0 x.1)).1 x.2 in (x.0, x.1, y, (q x.0 x.1 y v).1 x.3)),
  )

  fix-like : (t : ℕ) (e e' : Marked) (ε ε' : List Val) → ((u : Val) → Shaped n (tree Θ t) u → Like e (u ∷ ε) e' (u ∷ ε')) → Like (mfix t e) ε (mfix t e') ε'
  fix-like t e e' ε ε' h v = ((λ x. (x.0, (h v x.0 v).0 x.1)), (λ x. (x.0, (h v x.0 v).1 x.1)))

  along : {x y : Val} → x ≡ y → (v : Val) → (v ≡ x) ↔ (v ≡ y)
  along e v = ((λ p. p ∙ e), (λ p. p ∙ sym e))

  -- ---- a term moved under one more binder

  pub raise_means : (c : ℕ) (u : Val) (e : Marked) (ε : List Val) → Like e ε (raise c e) (into c u ε)
  raise_means c u (mvar i) ε = along (sym (look-above c i u ε))
  raise_means c u (mlvar i) ε = along (sym (look-above c i u ε))
  raise_means c u (mfun t e) ε = fun-like t e (raise (suc c) e) ε (into c u ε) (λ w h. raise_means (suc c) u e (w ∷ ε))
  raise_means c u (mapp f a) ε = app-like f a (raise c f) (raise c a) ε (into c u ε) (raise_means c u f ε) (raise_means c u a ε)
  raise_means c u (mlfun t e) ε = lfun-like t e (raise (suc c) e) ε (into c u ε) (λ w h. raise_means (suc c) u e (w ∷ ε))
  raise_means c u (mlapp f a) ε = app-like f a (raise c f) (raise c a) ε (into c u ε) (raise_means c u f ε) (raise_means c u a ε)
  raise_means c u (mpair t a b) ε = pair-like t a b (raise c a) (raise c b) ε (into c u ε) (raise_means c u a ε) (raise_means c u b ε)
  raise_means c u (mproj a e) ε = proj-like a e (raise c a) (raise (suc (suc c)) e) ε (into c u ε) (raise_means c u a ε) (λ x w h. raise_means (suc (suc c)) u e (w ∷ x ∷ ε))
  raise_means c u (mfix t e) ε = fix-like t e (raise (suc c) e) ε (into c u ε) (λ w h. raise_means (suc c) u e (w ∷ ε))
  raise_means c u (mcon p t k) ε = λ v. ((λ x. x), (λ x. x))

  -- ---- a linear binder that the term does not use

  pub drop_means : (e a : Marked) {j : ℕ} {Γ Γ⁺ : Ctx} {τ : Ty} → Ins j away Γ Γ⁺ → Typed first Θ Γ⁺ (plain e) τ → (u : Val) (ε : List Val) → Like e (into j u ε) (put j a e) ε
  drop_means (mvar i) a {j} p (Var x) u ε = along (look-other j i u ε (apart p x))
  drop_means (mlvar i) a {j} p (LVar x) u ε = rw (other p x) (along (look-other j i u ε (other p x)))
  drop_means (mfun t e) a {j} p (→I q s d) u ε = fun-like t e (put (suc j) (raise 0 a) e) (into j u ε) ε (λ w h. drop_means e (raise 0 a) (ins_there p) d u (w ∷ ε))
  drop_means (mapp f b) a {j} p (→E z s d c) u ε = let h = split_drop p z in app-like f b (put j a f) (put j a b) (into j u ε) ε (drop_means f a h.ins_one d u ε) (drop_means b a h.ins_two c u ε)
  drop_means (mlfun t e) a {j} p (⊸I q s d) u ε = lfun-like t e (put (suc j) (raise 0 a) e) (into j u ε) ε (λ w h. drop_means e (raise 0 a) (ins_there p) d u (w ∷ ε))
  drop_means (mlapp f b) a {j} p (⊸E z s d c) u ε = let h = split_drop p z in app-like f b (put j a f) (put j a b) (into j u ε) ε (drop_means f a h.ins_one d u ε) (drop_means b a h.ins_two c u ε)
  drop_means (mpair t f b) a {j} p (×I z q s₁ s₂ d c) u ε = let h = split_drop p z in pair-like t f b (put j a f) (put j a b) (into j u ε) ε (drop_means f a h.ins_one d u ε) (drop_means b a h.ins_two c u ε)
  drop_means (mproj f b) a {j} p (×E z s₁ s₂ d c) u ε =
      let h = split_drop p z in
      proj-like f b (put j a f) (put (suc (suc j)) (raise 0 (raise 0 a)) b) (into j u ε) ε (drop_means f a h.ins_one d u ε) (λ x w g. drop_means b (raise 0 (raise 0 a)) (ins_there (ins_there h.ins_two)) c u (w ∷ x ∷ ε))
  drop_means (mfix t e) a {j} p (Fix q s d) u ε = fix-like t e (put (suc j) (raise 0 a) e) (into j u ε) ε (λ w h. drop_means e (raise 0 a) (ins_there p) d u (w ∷ ε))
  drop_means (mcon k t m) a p (Con l q z) u ε = λ v. ((λ x. x), (λ x. x))

  -- ---- the argument put in: it has a value, and the body has its own with that value at the variable

  abbrev pub Through : ℕ → Marked → Marked → List Val → Val → Type 0
  Through j a e ε v = (u : Val) × Means law Θ n ρ a ε u × Means law Θ n ρ e (into j u ε) v

  -- under one binder, whatever it asks of its own value
  under : {A : Type 0} (j : ℕ) (a e : Marked) (w : Val) (ε : List Val) → ((v : Val) → Means law Θ n ρ (put (suc j) (raise 0 a) e) (w ∷ ε) v ↔ Through (suc j) (raise 0 a) e (w ∷ ε) v)
      → (v : Val) → (A × Means law Θ n ρ (put (suc j) (raise 0 a) e) (w ∷ ε) v) ↔ ((u : Val) × Means law Θ n ρ a ε u × (A × Means law Θ n ρ e (w ∷ into j u ε) v))
  under j a e w ε h v = (
    (λ x. let y = (h v).0 x.1 in (y.0, (raise_means 0 w a ε y.0).1 y.1, (x.0, y.2))),
    (λ x. (x.2.0, (h v).1 (x.0, (raise_means 0 w a ε x.0).0 x.1, x.2.1))),
  )

  -- under two
  body-in₂ : (j : ℕ) (a e : Marked) (w x : Val) (ε : List Val) → ((v : Val) → Means law Θ n ρ (put (suc (suc j)) (raise 0 (raise 0 a)) e) (w ∷ x ∷ ε) v ↔ Through (suc (suc j)) (raise 0 (raise 0 a)) e (w ∷ x ∷ ε) v)
      → (v : Val) → Means law Θ n ρ (put (suc (suc j)) (raise 0 (raise 0 a)) e) (w ∷ x ∷ ε) v ↔ ((u : Val) × Means law Θ n ρ a ε u × Means law Θ n ρ e (w ∷ x ∷ into j u ε) v)
  body-in₂ j a e w x ε h v = (
    (λ y. let z = (h v).0 y in (z.0, (raise_means 0 x a ε z.0).1 ((raise_means 0 w (raise 0 a) (x ∷ ε) z.0).1 z.1), z.2)),
    (λ y. (h v).1 (y.0, (raise_means 0 w (raise 0 a) (x ∷ ε) y.0).0 ((raise_means 0 x a ε y.0).0 y.1), y.2)),
  )

  -- two subterms, of which one has the variable: an application, of either sort
  app-first : (j : ℕ) (a f b : Marked) (ε : List Val) (v : Val) → ((w : Val) → Means law Θ n ρ (put j a f) ε w ↔ Through j a f ε w) → ((u : Val) → Like b (into j u ε) (put j a b) ε)
      → Means law Θ n ρ (mapp (put j a f) (put j a b)) ε v ↔ Through j a (mapp f b) ε v
  app-first j a f b ε v p q = (
    (λ x. let m = (p (node x.0 v)).0 x.1 in (m.0, m.1, (x.0, m.2, (q m.0 x.0).1 x.2))),
    (λ x. (x.2.0, (p (node x.2.0 v)).1 (x.0, x.1, x.2.1), (q x.0 x.2.0).0 x.2.2)),
  )

  app-second : (j : ℕ) (a f b : Marked) (ε : List Val) (v : Val) → ((u : Val) → Like f (into j u ε) (put j a f) ε) → ((w : Val) → Means law Θ n ρ (put j a b) ε w ↔ Through j a b ε w)
      → Means law Θ n ρ (mapp (put j a f) (put j a b)) ε v ↔ Through j a (mapp f b) ε v
  app-second j a f b ε v p q = (
    (λ x. let m = (q x.0).0 x.2 in (m.0, m.1, (x.0, (p m.0 (node x.0 v)).1 x.1, m.2))),
    (λ x. (x.2.0, (p x.0 (node x.2.0 v)).0 x.2.1, (q x.2.0).1 (x.0, x.1, x.2.2))),
  )

  -- a pair
  pair_first : (j t : ℕ) (a f b : Marked) (ε : List Val) (v w : Val) → Means law Θ n ρ (put j a f) ε v ↔ Through j a f ε v → ((u : Val) → Like b (into j u ε) (put j a b) ε)
      → Means law Θ n ρ (mpair t (put j a f) (put j a b)) ε (node v w) ↔ Through j a (mpair t f b) ε (node v w)
  pair_first j t a f b ε v w p q = (
    (λ x. let m = p.0 x.0 in (m.0, m.1, (m.2, (q m.0 w).1 x.1))),
    (λ x. (p.1 (x.0, x.1, x.2.0), (q x.0 w).0 x.2.1)),
  )

  pair_second : (j t : ℕ) (a f b : Marked) (ε : List Val) (v w : Val) → ((u : Val) → Like f (into j u ε) (put j a f) ε) → Means law Θ n ρ (put j a b) ε w ↔ Through j a b ε w
      → Means law Θ n ρ (mpair t (put j a f) (put j a b)) ε (node v w) ↔ Through j a (mpair t f b) ε (node v w)
  pair_second j t a f b ε v w p q = (
    (λ x. let m = q.0 x.1 in (m.0, m.1, ((p m.0 v).1 x.0, m.2))),
    (λ x. ((p x.0 v).0 x.2.0, q.1 (x.0, x.1, x.2.1))),
  )

  -- a projection
  proj-first : (j : ℕ) (a f b : Marked) (ε : List Val) (v : Val) → ((w : Val) → Means law Θ n ρ (put j a f) ε w ↔ Through j a f ε w)
      → ((u x w : Val) → Like b (w ∷ x ∷ into j u ε) (put (suc (suc j)) (raise 0 (raise 0 a)) b) (w ∷ x ∷ ε))
      → Means law Θ n ρ (mproj (put j a f) (put (suc (suc j)) (raise 0 (raise 0 a)) b)) ε v ↔ Through j a (mproj f b) ε v
  proj-first j a f b ε v p q = (
    (λ x. let m = (p (node x.0 x.1)).0 x.2 in (m.0, m.1, (x.0, x.1, m.2, (q m.0 x.0 x.1 v).1 x.3))),
    (λ x. (x.2.0, x.2.1, (p (node x.2.0 x.2.1)).1 (x.0, x.1, x.2.2), (q x.0 x.2.0 x.2.1 v).0 x.2.3)),
  )

  proj-second : (j : ℕ) (a f b : Marked) (ε : List Val) (v : Val) → ((u : Val) → Like f (into j u ε) (put j a f) ε)
      → ((x w y : Val) → Means law Θ n ρ (put (suc (suc j)) (raise 0 (raise 0 a)) b) (w ∷ x ∷ ε) y ↔ Through (suc (suc j)) (raise 0 (raise 0 a)) b (w ∷ x ∷ ε) y)
      → Means law Θ n ρ (mproj (put j a f) (put (suc (suc j)) (raise 0 (raise 0 a)) b)) ε v ↔ Through j a (mproj f b) ε v
  proj-second j a f b ε v p q = (
    (λ x. let m = (body-in₂ j a b x.1 x.0 ε (q x.0 x.1) v).0 x.3 in (m.0, m.1, (x.0, x.1, (p m.0 (node x.0 x.1)).1 x.2, m.2))),
    (λ x. (x.2.0, x.2.1, (p x.0 (node x.2.0 x.2.1)).0 x.2.2, (body-in₂ j a b x.2.1 x.2.0 ε (q x.2.0 x.2.1) v).1 (x.0, x.1, x.2.3))),
  )

  pub put_means : {j : ℕ} {κ τ : Ty} {Γ Γ⁺ : Ctx} (e a : Marked) → Ins j (once κ) Γ Γ⁺ → Typed first Θ Γ⁺ (plain e) τ → (ε : List Val) (v : Val) → Means law Θ n ρ (put j a e) ε v ↔ Through j a e ε v
  put_means (mvar i) a p (Var x) ε v = absurd (in_once p x)
  put_means {j} (mlvar i) a p (LVar x) ε v =
      let r = (itself p x).place in
      rw r ((λ m. (v, m, sym (look-same j i v ε r))), (λ y. subst (λ (q : Val). Means law Θ n ρ a ε q) (sym (y.2 ∙ look-same j i y.0 ε r)) y.1))
  put_means (mfun t e) a p (→I q s d) ε (leaf w) = ((λ x. absurd x), (λ x. absurd x.2))
  put_means {j} (mfun t e) a p (→I q s d) ε (node w v) = under j a e w ε (put_means e (raise 0 a) (ins_there p) d (w ∷ ε)) v
  put_means {j} (mapp f b) a p (→E z s d c) ε v =
      elim (split_take p z) [
        | by_first l r y ↦ app-first j a f b ε v (put_means f a l d ε) (λ u. drop_means b a r c u ε)
        | by_second l r y ↦ app-second j a f b ε v (λ u. drop_means f a l d u ε) (put_means b a r c ε)
      ]
  put_means (mlfun t e) a p (⊸I q s d) ε (leaf w) = ((λ x. absurd x), (λ x. absurd x.2))
  put_means {j} (mlfun t e) a p (⊸I q s d) ε (node w v) = under j a e w ε (put_means e (raise 0 a) (ins_there p) d (w ∷ ε)) v
  put_means {j} (mlapp f b) a p (⊸E z s d c) ε v =
      elim (split_take p z) [
        | by_first l r y ↦ app-first j a f b ε v (put_means f a l d ε) (λ u. drop_means b a r c u ε)
        | by_second l r y ↦ app-second j a f b ε v (λ u. drop_means f a l d u ε) (put_means b a r c ε)
      ]
  put_means (mpair t f b) a p (×I z q s₁ s₂ d c) ε (leaf w) = ((λ x. absurd x), (λ x. absurd x.2))
  put_means {j} (mpair t f b) a p (×I z q s₁ s₂ d c) ε (node v w) =
      elim (split_take p z) [
        | by_first l r y ↦ pair_first j t a f b ε v w (put_means f a l d ε v) (λ u. drop_means b a r c u ε)
        | by_second l r y ↦ pair_second j t a f b ε v w (λ u. drop_means f a l d u ε) (put_means b a r c ε w)
      ]
  put_means {j} (mproj f b) a p (×E z s₁ s₂ d c) ε v =
      elim (split_take p z) [
        | by_first l r y ↦ proj-first j a f b ε v (put_means f a l d ε) (λ u x w. drop_means b (raise 0 (raise 0 a)) (ins_there (ins_there r)) c u (w ∷ x ∷ ε))
        | by_second l r y ↦ proj-second j a f b ε v (λ u. drop_means f a l d u ε) (λ x w. put_means b (raise 0 (raise 0 a)) (ins_there (ins_there r)) c (w ∷ x ∷ ε))
      ]
  put_means {j} (mfix t e) a p (Fix q s d) ε v = under j a e v ε (put_means e (raise 0 a) (ins_there p) d (v ∷ ε)) v
  put_means (mcon k t m) a p (Con l q z) ε v = absurd (none-once p z)

-- ---- values have the form of their types

-- the binders' values fit the context
module _ (n : ℕ) where
  pub data Fit : Ctx → List Val → Type 0 where
    fit-end : Fit [] []
    fit-many : {θ : Ty} {u : Val} {Γ : Ctx} {ε : List Val} → Shaped n θ u → Fit Γ ε → Fit (many θ ∷ Γ) (u ∷ ε)
    fit-once : {κ : Ty} {u : Val} {Γ : Ctx} {ε : List Val} → Shaped n κ u → Fit Γ ε → Fit (once κ ∷ Γ) (u ∷ ε)
    fit-away : {u : Val} {Γ : Ctx} {ε : List Val} → Fit Γ ε → Fit (away ∷ Γ) (u ∷ ε)

  split-fit : {Γ Γ₁ Γ₂ : Ctx} {ε : List Val} → Split Γ Γ₁ Γ₂ → Fit Γ ε → Fit Γ₁ ε × Fit Γ₂ ε
  split-fit split_end fit-end = (fit-end, fit-end)
  split-fit (split_many z) (fit-many h f) = let (p, q) = split-fit z f in (fit-many h p, fit-many h q)
  split-fit (split_first z) (fit-once h f) = let (p, q) = split-fit z f in (fit-once h p, fit-away q)
  split-fit (split_second z) (fit-once h f) = let (p, q) = split-fit z f in (fit-away p, fit-once h q)
  split-fit (split_away z) (fit-away f) = let (p, q) = split-fit z f in (fit-away p, fit-away q)

  fit-in : {Γ : Ctx} {ε : List Val} {i : ℕ} {θ : Ty} → InΓ Γ i θ → Fit Γ ε → Shaped n θ (get_or ε i dark)
  fit-in (in_here z) (fit-many h f) = h
  fit-in (in_many x) (fit-many h f) = fit-in x f
  fit-in (in_away x) (fit-away f) = fit-in x f

  fit_is : {Γ : Ctx} {ε : List Val} {i : ℕ} {κ : Ty} → IsΔ Γ i κ → Fit Γ ε → Shaped n κ (get_or ε i dark)
  fit_is (is_here z) (fit-once h f) = h
  fit_is (is_many x) (fit-many h f) = fit_is x f
  fit_is (is_away x) (fit-away f) = fit_is x f

module _ (law : Law) (Θ : Table) (n : ℕ) (ρ : Seen) where
  pub means_shaped : {Γ : Ctx} {τ : Ty} (e : Marked) → Typed first Θ Γ (plain e) τ → (ε : List Val) → Fit n Γ ε → (v : Val) → Means law Θ n ρ e ε v → Shaped n τ v
  means_shaped {τ = τ} (mvar i) (Var x) ε f v m = subst (λ (w : Val). Shaped n τ w) (sym m) (fit-in n x f)
  means_shaped {τ = τ} (mlvar i) (LVar x) ε f v m = subst (λ (w : Val). Shaped n τ w) (sym m) (fit_is n x f)
  means_shaped (mfun t e) (→I q s d) ε f (leaf w) m = absurd m
  means_shaped (mfun t e) (→I {θ = θ} q s d) ε f (node u v) m = let h : Shaped n θ u = rw q at m.0 in (h, means_shaped e d (u ∷ ε) (fit-many h f) v m.1)
  means_shaped (mapp g a) (→E z s d c) ε f v m = (means_shaped g d ε (split-fit n z f).0 (node m.0 v) m.1).1
  means_shaped (mlfun t e) (⊸I q s d) ε f (leaf w) m = absurd m
  means_shaped (mlfun t e) (⊸I {κ = κ} q s d) ε f (node u v) m = let h : Shaped n κ u = rw q at m.0 in (h, means_shaped e d (u ∷ ε) (fit-once h f) v m.1)
  means_shaped (mlapp g a) (⊸E z s d c) ε f v m = (means_shaped g d ε (split-fit n z f).0 (node m.0 v) m.1).1
  means_shaped (mpair t a b) (×I z q s₁ s₂ d c) ε f (leaf w) m = absurd m
  means_shaped (mpair t a b) (×I z q s₁ s₂ d c) ε f (node u v) m = (means_shaped a d ε (split-fit n z f).0 u m.0, means_shaped b c ε (split-fit n z f).1 v m.1)
  means_shaped (mproj a e) (×E z s₁ s₂ d c) ε f v m =
      let h = means_shaped a d ε (split-fit n z f).0 (node m.0 m.1) m.2 in
      means_shaped e c (m.1 ∷ m.0 ∷ ε) (fit-many h.1 (fit-many h.0 (split-fit n z f).1)) v m.3
  means_shaped {τ = τ} (mfix t e) (Fix q s d) ε f v m = rw q at m.0
  means_shaped {τ = τ} (mcon p t k) (Con l q z) ε f v m = subst (λ (w : Val). Shaped n τ w) (sym m.4) (build_shaped n τ _ (lines_cut n m.0 (part_side (part_at p).inputs m.1)))

  -- a linear function that is applied, written out anywhere in a term, keeps the term's meaning
  pub put_in_means : {Γ : Ctx} {τ : Ty} {e e' : Marked} → PutIn e e' → Typed first Θ Γ (plain e) τ → (ε : List Val) → Fit n Γ ε → Like law Θ n ρ e ε e' ε
  put_in_means (put_here {t = t} {e = e} {a = a}) (⊸E z _ (⊸I q s d) c) ε f = λ v. (
    (λ x. (put_means law Θ n ρ e a ins_here d ε v).1 (x.0, x.2, x.1.1)),
    (λ x.
        let y = (put_means law Θ n ρ e a ins_here d ε v).0 x in
        (y.0, ((rw q (means_shaped a c ε (split-fit n z f).1 y.0 y.1)), y.2), y.1)),
  )
  put_in_means (in_fun {t = t} {e = e} {e' = e'} r) (→I q s d) ε f = fun-like law Θ n ρ t e e' ε ε (λ u h. put_in_means r d (u ∷ ε) (fit-many (rw q at h) f))
  put_in_means (in_app_left {f = g} {f' = g'} {a = a} r) (→E z s d c) ε f = app-like law Θ n ρ g a g' a ε ε (put_in_means r d ε (split-fit n z f).0) (λ v. ((λ x. x), (λ x. x)))
  put_in_means (in_app_right {f = g} {a = a} {a' = a'} r) (→E z s d c) ε f = app-like law Θ n ρ g a g a' ε ε (λ v. ((λ x. x), (λ x. x))) (put_in_means r c ε (split-fit n z f).1)
  put_in_means (in_lfun {t = t} {e = e} {e' = e'} r) (⊸I q s d) ε f = lfun-like law Θ n ρ t e e' ε ε (λ u h. put_in_means r d (u ∷ ε) (fit-once (rw q at h) f))
  put_in_means (in_lapp_left {f = g} {f' = g'} {a = a} r) (⊸E z s d c) ε f = app-like law Θ n ρ g a g' a ε ε (put_in_means r d ε (split-fit n z f).0) (λ v. ((λ x. x), (λ x. x)))
  put_in_means (in_lapp_right {f = g} {a = a} {a' = a'} r) (⊸E z s d c) ε f = app-like law Θ n ρ g a g a' ε ε (λ v. ((λ x. x), (λ x. x))) (put_in_means r c ε (split-fit n z f).1)
  put_in_means (in_pair_left {t = t} {a = a} {a' = a'} {b = b} r) (×I z q s₁ s₂ d c) ε f = pair-like law Θ n ρ t a b a' b ε ε (put_in_means r d ε (split-fit n z f).0) (λ v. ((λ x. x), (λ x. x)))
  put_in_means (in_pair_right {t = t} {a = a} {b = b} {b' = b'} r) (×I z q s₁ s₂ d c) ε f = pair-like law Θ n ρ t a b a b' ε ε (λ v. ((λ x. x), (λ x. x))) (put_in_means r c ε (split-fit n z f).1)
  put_in_means (in_proj_left {a = a} {a' = a'} {e = e} r) (×E z s₁ s₂ d c) ε f = proj-like law Θ n ρ a e a' e ε ε (put_in_means r d ε (split-fit n z f).0) (λ u w h v. ((λ x. x), (λ x. x)))
  put_in_means (in_proj_right {a = a} {e = e} {e' = e'} r) (×E z s₁ s₂ d c) ε f =
      proj-like law Θ n ρ a e a e' ε ε (λ v. ((λ x. x), (λ x. x)))
      (λ u w m. let h = means_shaped a d ε (split-fit n z f).0 (node u w) m in put_in_means r c (w ∷ u ∷ ε) (fit-many h.1 (fit-many h.0 (split-fit n z f).1)))
  put_in_means (in_fix {t = t} {e = e} {e' = e'} r) (Fix q s d) ε f = fix-like law Θ n ρ t e e' ε ε (λ u h. put_in_means r d (u ∷ ε) (fit-many (rw q at h) f))
