-- A closed term makes the same elements, wires and interface wherever it stands: all terminals are as much further. Its types may have
-- other numbers there. Assumes nothing.
use Prim.Native.Nat.{ℕ, zero, suc, ◌+◌, ◌*◌, ◌<◌}
use mathlib.Core.Path.{◌≡◌, refl, sym, ap, ap₂, ◌∙◌, subst}
use mathlib.Core.Logic.{◌⊎◌, inl, inr}
use mathlib.Core.Bool.{Bool, true, false}
use mathlib.Core.List.{List, [], ◌∷◌, ◌++◌, map, map-append}
use native.Mathlib.Omega.{arith}
use lib.Dec.{T}
use lib.ListN.{length, get_or, take}
use Rattle.laws.proofs.Parts.{map-take, map-drop}
use Rattle.calculus.specs.Types.{Ty, bit, size, ty_eq, Table, tys_from, tree}
use Rattle.calculus.specs.Terms.{Edition, Term, var, lvar, fun, app, lfun, lapp, pair, proj, fix, con, name, part_at}
use Rattle.calculus.specs.Rules.{Ctx, InΓ, in_here, in_many, in_away, IsΔ, is_here, is_many, is_away, Split, split_end, split_many, split_first, split_second, split_away, Typed, Var, LVar, →I, →E, ⊸I, ⊸E, ×I, ×E, Fix, Con, ×E'}
use Rattle.calculus.specs.Walk.{number_from, type_number}
use Rattle.calculus.specs.Net.{Terminal, inp, out, Interface, turns, Element, point, part, Wire, wire_of, points, in_side, out_side, join, part_side, Bound, unbound, Made, left_of, right_of, binder, made_var, made_fun, made_app, made_pair, first_half, second_half, whole_of, made_proj, made_fix, made_con, make}
use Rattle.sheet_theorems.specs.Laid.{TableOk, Ranged}
use Rattle.sheet_theorems.proofs.Sound.{ty_eq→eq}
use Rattle.never_theorems.specs.Against.{moved_by_lem}
use Rattle.same_theorems.specs.Joint.{renumbered}

-- ---- a type's number, where it is one of the table

number_so : (k : ℕ) (σs : List Ty) (τ : Ty) → (number_from k σs τ ≡ 256) ⊎ ((i : ℕ) × (number_from k σs τ ≡ k + i) × (get_or σs i bit ≡ τ))
number_so k [] τ = inl refl
number_so k (σ ∷ σs) τ = here (ty_eq σ τ) refl (number_so (suc k) σs τ)
  where
    here : (t : Bool) → ty_eq σ τ ≡ t → (number_from (suc k) σs τ ≡ 256) ⊎ ((i : ℕ) × (number_from (suc k) σs τ ≡ suc k + i) × (get_or σs i bit ≡ τ))
        → (number_from k (σ ∷ σs) τ ≡ 256) ⊎ ((i : ℕ) × (number_from k (σ ∷ σs) τ ≡ k + i) × (get_or (σ ∷ σs) i bit ≡ τ))
    here true e r = inr (0, rw e (omega arith), ty_eq→eq σ τ (subst T (sym e) tt))
    here false e (inl h) = inl (rw e h)
    here false e (inr (i, h, q)) = inr (suc i, rw e (omega (arith, h)), q)

pub number-tree : (Φ : Table) → TableOk Φ → (τ : Ty) → type_number Φ τ < length Φ → tree Φ (type_number Φ τ) ≡ τ
number-tree Φ ok τ l = by (number_so 0 (tys_from [] Φ) τ)
  where
    by : (type_number Φ τ ≡ 256) ⊎ ((i : ℕ) × (type_number Φ τ ≡ 0 + i) × (get_or (tys_from [] Φ) i bit ≡ τ)) → tree Φ (type_number Φ τ) ≡ τ
    by (inl w) = absurd (omega (arith, ok.few, w, l))
    by (inr (i, w, q)) = let is : type_number Φ τ ≡ i = omega (arith, w) in ap (tree Φ) is ∙ q

-- ---- terms whose binder numbers are below k

abbrev pub Scoped : ℕ → Term → Type 0
Scoped k (var i) = i < k
Scoped k (lvar i) = i < k
Scoped k (fun t e) = Scoped (suc k) e
Scoped k (app f a) = Scoped k f × Scoped k a
Scoped k (lfun t e) = Scoped (suc k) e
Scoped k (lapp f a) = Scoped k f × Scoped k a
Scoped k (pair t a b) = Scoped k a × Scoped k b
Scoped k (proj a e) = Scoped k a × Scoped (suc (suc k)) e
Scoped k (fix t e) = Scoped (suc k) e
Scoped k (con p t) = Unit {0}
Scoped k (name a e) = Scoped k a × Scoped (suc k) e

in_scope : {Γ : Ctx} {i : ℕ} {θ : Ty} → InΓ Γ i θ → i < length Γ
in_scope (in_here z) = omega arith
in_scope (in_many x) = omega (arith, in_scope x)
in_scope (in_away x) = omega (arith, in_scope x)

is_scope : {Γ : Ctx} {i : ℕ} {κ : Ty} → IsΔ Γ i κ → i < length Γ
is_scope (is_here z) = omega arith
is_scope (is_many x) = omega (arith, is_scope x)
is_scope (is_away x) = omega (arith, is_scope x)

split_same : {Γ Γ₁ Γ₂ : Ctx} → Split Γ Γ₁ Γ₂ → (length Γ₁ ≡ length Γ) × (length Γ₂ ≡ length Γ)
split_same split_end = (refl, refl)
split_same (split_many z) = let r = split_same z in (ap suc r.0, ap suc r.1)
split_same (split_first z) = let r = split_same z in (ap suc r.0, ap suc r.1)
split_same (split_second z) = let r = split_same z in (ap suc r.0, ap suc r.1)
split_same (split_away z) = let r = split_same z in (ap suc r.0, ap suc r.1)

pub typed_scoped : {E : Edition} {Θ : Table} {Γ : Ctx} {e : Term} {τ : Ty} → Typed E Θ Γ e τ → Scoped (length Γ) e
typed_scoped (Var x) = in_scope x
typed_scoped (LVar x) = is_scope x
typed_scoped (→I q s d) = typed_scoped d
typed_scoped (→E {f = f} {a = a} z s d c) = let r = split_same z in (subst (λ (k : ℕ). Scoped k f) r.0 (typed_scoped d), subst (λ (k : ℕ). Scoped k a) r.1 (typed_scoped c))
typed_scoped (⊸I q s d) = typed_scoped d
typed_scoped (⊸E {f = f} {a = a} z s d c) = let r = split_same z in (subst (λ (k : ℕ). Scoped k f) r.0 (typed_scoped d), subst (λ (k : ℕ). Scoped k a) r.1 (typed_scoped c))
typed_scoped (×I {a = a} {b = b} z q s₁ s₂ d c) = let r = split_same z in (subst (λ (k : ℕ). Scoped k a) r.0 (typed_scoped d), subst (λ (k : ℕ). Scoped k b) r.1 (typed_scoped c))
typed_scoped (×E {a = a} {e = e} z s₁ s₂ d c) = let r = split_same z in (subst (λ (k : ℕ). Scoped k a) r.0 (typed_scoped d), subst (λ (k : ℕ). Scoped (suc (suc k)) e) r.1 (typed_scoped c))
typed_scoped (Fix q s d) = typed_scoped d
typed_scoped (Con l q z) = tt
typed_scoped (×E' {a = a} {e = e} q z s d c) = let r = split_same z in (subst (λ (k : ℕ). Scoped k a) r.0 (typed_scoped d), subst (λ (k : ℕ). Scoped (suc k) e) r.1 (typed_scoped c))

-- ---- all terminals d further

abbrev pub further_by : ℕ → ℕ → ℕ
further_by d x = x + d

abbrev pub moved_end : ℕ → Terminal → Terminal
moved_end d (inp i) = inp (i + d)
moved_end d (out o) = out (o + d)

abbrev pub moved_wire : ℕ → Wire → Wire
moved_wire d w = wire_of (w.from + d) (w.to + d)

abbrev pub moved_made : ℕ → Made → Made
moved_made d m = record {
  elements = map (moved_by_lem (further_by d)) m.elements;
  wires = map (moved_wire d) m.wires;
  type = m.type;
  side = map (moved_end d) m.side;
  next = m.next + d;
}

abbrev moved_bound : ℕ → Bound → Bound
moved_bound d b = record { type = b.type; side = map (moved_end d) b.side }

abbrev made : List Element → List Wire → Ty → Interface → ℕ → Made
made es ws τ s n = record { elements = es; wires = ws; type = τ; side = s; next = n }

made-same : {es es' : List Element} {ws ws' : List Wire} {τ : Ty} {s s' : Interface} {n n' : ℕ} → es ≡ es' → ws ≡ ws' → s ≡ s' → n ≡ n' → made es ws τ s n ≡ made es' ws' τ s' n'
made-same a b c e = cc

module _ (d : ℕ) where
  points-moved : (ts : List Bool) (i j : ℕ) → j ≡ i + d → points ts j ≡ map (moved_by_lem (further_by d)) (points ts i)
  points-moved [] i j e = refl
  points-moved (t ∷ ts) i j e = ap₂ (λ (x : ℕ) (r : List Element). point x ∷ r) e (points-moved ts (i + 2) (j + 2) (omega arith))

  in_moved : (ts : List Bool) (i j : ℕ) → j ≡ i + d → in_side ts j ≡ map (moved_end d) (in_side ts i)
  in_moved [] i j e = refl
  in_moved (false ∷ ts) i j e = ap₂ (λ (x : ℕ) (r : Interface). inp x ∷ r) e (in_moved ts (i + 2) (j + 2) (omega arith))
  in_moved (true ∷ ts) i j e = let q : j + 1 ≡ i + 1 + d = omega arith in ap₂ (λ (x : ℕ) (r : Interface). out x ∷ r) q (in_moved ts (i + 2) (j + 2) (omega arith))

  out-moved : (ts : List Bool) (i j : ℕ) → j ≡ i + d → out_side ts j ≡ map (moved_end d) (out_side ts i)
  out-moved [] i j e = refl
  out-moved (true ∷ ts) i j e = ap₂ (λ (x : ℕ) (r : Interface). inp x ∷ r) e (out-moved ts (i + 2) (j + 2) (omega arith))
  out-moved (false ∷ ts) i j e = let q : j + 1 ≡ i + 1 + d = omega arith in ap₂ (λ (x : ℕ) (r : Interface). out x ∷ r) q (out-moved ts (i + 2) (j + 2) (omega arith))

  part_moved : (k i j : ℕ) → j ≡ i + d → part_side k j ≡ map (moved_end d) (part_side k i)
  part_moved zero i j e = ap (λ (x : ℕ). out x ∷ []) e
  part_moved (suc k) i j e = ap₂ (λ (x : ℕ) (r : Interface). inp x ∷ r) e (part_moved k (i + 1) (j + 1) (omega arith))

  join-moved : (s t : Interface) → join (map (moved_end d) s) (map (moved_end d) t) ≡ map (moved_wire d) (join s t)
  join-moved [] t = refl
  join-moved (x ∷ s) [] = short x s
    where
      short : (x : Terminal) (s : Interface) → join (moved_end d x ∷ map (moved_end d) s) [] ≡ []
      short (inp i) s = refl
      short (out o) s = refl
  join-moved (out o ∷ s) (inp i ∷ t) = ap (λ (r : List Wire). wire_of (o + d) (i + d) ∷ r) (join-moved s t)
  join-moved (inp i ∷ s) (out o ∷ t) = ap (λ (r : List Wire). wire_of (o + d) (i + d) ∷ r) (join-moved s t)
  join-moved (out o ∷ s) (out p ∷ t) = join-moved s t
  join-moved (inp i ∷ s) (inp j ∷ t) = join-moved s t

  -- ---- node by node

  fun-moved : (τ : Ty) (i j : ℕ) → j ≡ i + d → (m : Made) → made_fun τ j (moved_made d m) ≡ moved_made d (made_fun τ i m)
  fun-moved τ i j e m =
      let ts = turns false (left_of τ) in
      made-same
      (ap (λ (r : List Element). r ++ map (moved_by_lem (further_by d)) m.elements) (points-moved ts i j e) ∙ sym (map-append (moved_by_lem (further_by d)) (points ts i) m.elements))
      refl
      (ap (λ (r : Interface). r ++ map (moved_end d) m.side) (in_moved ts i j e) ∙ sym (map-append (moved_end d) (in_side ts i) m.side))
      refl

  app-moved : (x y : Made) → made_app (moved_made d x) (moved_made d y) ≡ moved_made d (made_app x y)
  app-moved x y =
      let k = size (left_of x.type) in
      let g = join y.side (take k x.side) in
      made-same
      (sym (map-append (moved_by_lem (further_by d)) x.elements y.elements))
      (ap₂ ◌++◌ (sym (map-append (moved_wire d) x.wires y.wires)) (ap (join (map (moved_end d) y.side)) (sym (map-take (moved_end d) k x.side)) ∙ join-moved y.side (take k x.side))
      ∙ sym (map-append (moved_wire d) (x.wires ++ y.wires) g))
      (sym (map-drop (moved_end d) k x.side))
      refl

  pair-moved : (τ : Ty) (x y : Made) → made_pair τ (moved_made d x) (moved_made d y) ≡ moved_made d (made_pair τ x y)
  pair-moved τ x y =
      made-same (sym (map-append (moved_by_lem (further_by d)) x.elements y.elements)) (sym (map-append (moved_wire d) x.wires y.wires))
      (sym (map-append (moved_end d) x.side y.side)) refl

  proj-moved : (x y : Made) → made_proj (moved_made d x) (moved_made d y) ≡ moved_made d (made_proj x y)
  proj-moved x y =
      made-same (sym (map-append (moved_by_lem (further_by d)) x.elements y.elements)) (sym (map-append (moved_wire d) x.wires y.wires)) refl refl

  fix-moved : (τ : Ty) (i j : ℕ) → j ≡ i + d → (m : Made) → made_fix τ j (moved_made d m) ≡ moved_made d (made_fix τ i m)
  fix-moved τ i j e m =
      let ts = turns false τ in
      made-same
      (ap (λ (r : List Element). r ++ map (moved_by_lem (further_by d)) m.elements) (points-moved ts i j e) ∙ sym (map-append (moved_by_lem (further_by d)) (points ts i) m.elements))
      (ap (λ (r : List Wire). map (moved_wire d) m.wires ++ r) (ap (join (map (moved_end d) m.side)) (in_moved ts i j e) ∙ join-moved m.side (in_side ts i))
      ∙ sym (map-append (moved_wire d) m.wires (join m.side (in_side ts i))))
      refl refl

  con-moved : (τ : Ty) (p i j : ℕ) → j ≡ i + d → made_con τ p j ≡ moved_made d (made_con τ p i)
  con-moved τ p i j e =
      let k = (part_at p).inputs in
      let q : j + k + 1 ≡ i + k + 1 + d = omega arith in
      made-same (ap (λ (x : ℕ). part p x ∷ []) e) refl (part_moved k i j e) q

  -- ---- the binders' interfaces

  abbrev EnvMoved : ℕ → List Bound → List Bound → Type 0
  EnvMoved k env env' = (i : ℕ) → i < k → get_or env' i unbound ≡ moved_bound d (get_or env i unbound)

  env-more : (k : ℕ) (env env' : List Bound) (b b' : Bound) → b' ≡ moved_bound d b → EnvMoved k env env' → EnvMoved (suc k) (b ∷ env) (b' ∷ env')
  env-more k env env' b b' e v zero l = e
  env-more k env env' b b' e v (suc i) l = v i (omega arith)

  binder-moved : (τ : Ty) (i j : ℕ) → j ≡ i + d → binder τ j ≡ moved_bound d (binder τ i)
  binder-moved τ i j e = ap (λ (s : Interface). record { type = τ; side = s }) (out-moved (turns false τ) i j e)

  first-moved : (x : Made) → first_half (moved_made d x) ≡ moved_bound d (first_half x)
  first-moved x = ap (λ (s : Interface). record { type = left_of x.type; side = s }) (sym (map-take (moved_end d) (size (left_of x.type)) x.side))

  second-moved : (x : Made) → second_half (moved_made d x) ≡ moved_bound d (second_half x)
  second-moved x = ap (λ (s : Interface). record { type = right_of x.type; side = s }) (sym (map-drop (moved_end d) (size (left_of x.type)) x.side))

  var-moved : (b b' : Bound) (i j : ℕ) → j ≡ i + d → b' ≡ moved_bound d b → made_var b' j ≡ moved_made d (made_var b i)
  var-moved b b' i j e h = ap₂ made_var h e

  -- ---- terms

  module _ (E : Edition) (Θ Φ : Table) (ok : TableOk Φ) where
    pub make-moved : (e : Term) (k i j : ℕ) (env env' : List Bound) → Scoped k e → Ranged E Φ (renumbered Θ Φ e) → EnvMoved k env env' → j ≡ i + d
        → make Φ (renumbered Θ Φ e) env' j ≡ moved_made d (make Θ e env i)
    make-moved (var b) k i j env env' s r v q = var-moved (get_or env b unbound) (get_or env' b unbound) i j q (v b s)
    make-moved (lvar b) k i j env env' s r v q = var-moved (get_or env b unbound) (get_or env' b unbound) i j q (v b s)
    make-moved (fun t e) k i j env env' s r v q =
        let θ = left_of (tree Θ t) in
        rw (number-tree Φ ok (tree Θ t) r.0)
        (ap (made_fun (tree Θ t) j) (make-moved e (suc k) (i + 2 * size θ) (j + 2 * size θ) (binder θ i ∷ env) (binder θ j ∷ env') s r.1 (env-more k env env' (binder θ i) (binder θ j) (binder-moved θ i j q) v) (omega arith))
        ∙ fun-moved (tree Θ t) i j q (make Θ e (binder θ i ∷ env) (i + 2 * size θ)))
    make-moved (app f a) k i j env env' s r v q =
        let x = make Θ f env i in
        let p : make Φ (renumbered Θ Φ f) env' j ≡ moved_made d x = make-moved f k i j env env' s.0 r.0 v q in
        ap₂ made_app p (ap (λ (m : Made). make Φ (renumbered Θ Φ a) env' m.next) p ∙ make-moved a k x.next (x.next + d) env env' s.1 r.1 v refl) ∙ app-moved x (make Θ a env x.next)
    make-moved (lfun t e) k i j env env' s r v q =
        let θ = left_of (tree Θ t) in
        rw (number-tree Φ ok (tree Θ t) r.0)
        (ap (made_fun (tree Θ t) j) (make-moved e (suc k) (i + 2 * size θ) (j + 2 * size θ) (binder θ i ∷ env) (binder θ j ∷ env') s r.1 (env-more k env env' (binder θ i) (binder θ j) (binder-moved θ i j q) v) (omega arith))
        ∙ fun-moved (tree Θ t) i j q (make Θ e (binder θ i ∷ env) (i + 2 * size θ)))
    make-moved (lapp f a) k i j env env' s r v q =
        let x = make Θ f env i in
        let p : make Φ (renumbered Θ Φ f) env' j ≡ moved_made d x = make-moved f k i j env env' s.0 r.0 v q in
        ap₂ made_app p (ap (λ (m : Made). make Φ (renumbered Θ Φ a) env' m.next) p ∙ make-moved a k x.next (x.next + d) env env' s.1 r.1 v refl) ∙ app-moved x (make Θ a env x.next)
    make-moved (pair t a b) k i j env env' s r v q =
        let x = make Θ a env i in
        let p : make Φ (renumbered Θ Φ a) env' j ≡ moved_made d x = make-moved a k i j env env' s.0 r.1 v q in
        rw (number-tree Φ ok (tree Θ t) r.0)
        (ap₂ (made_pair (tree Θ t)) p (ap (λ (m : Made). make Φ (renumbered Θ Φ b) env' m.next) p ∙ make-moved b k x.next (x.next + d) env env' s.1 r.2 v refl) ∙ pair-moved (tree Θ t) x (make Θ b env x.next))
    make-moved (proj a e) k i j env env' s r v q =
        let x = make Θ a env i in
        let p : make Φ (renumbered Θ Φ a) env' j ≡ moved_made d x = make-moved a k i j env env' s.0 r.0 v q in
        ap₂ made_proj p
        (ap (λ (m : Made). make Φ (renumbered Θ Φ e) (second_half m ∷ first_half m ∷ env') m.next) p
        ∙ make-moved e (suc (suc k)) x.next (x.next + d) (second_half x ∷ first_half x ∷ env) (second_half (moved_made d x) ∷ first_half (moved_made d x) ∷ env') s.1 r.1
        (env-more (suc k) (first_half x ∷ env) (first_half (moved_made d x) ∷ env') (second_half x) (second_half (moved_made d x)) (second-moved x) (env-more k env env' (first_half x) (first_half (moved_made d x)) (first-moved x) v)) refl)
        ∙ proj-moved x (make Θ e (second_half x ∷ first_half x ∷ env) x.next)
    make-moved (fix t e) k i j env env' s r v q =
        let θ = tree Θ t in
        rw (number-tree Φ ok (tree Θ t) r.0)
        (ap (made_fix (tree Θ t) j) (make-moved e (suc k) (i + 2 * size θ) (j + 2 * size θ) (binder θ i ∷ env) (binder θ j ∷ env') s r.1 (env-more k env env' (binder θ i) (binder θ j) (binder-moved θ i j q) v) (omega arith))
        ∙ fix-moved (tree Θ t) i j q (make Θ e (binder θ i ∷ env) (i + 2 * size θ)))
    make-moved (con p t) k i j env env' s r v q = rw (number-tree Φ ok (tree Θ t) r) (con-moved (tree Θ t) p i j q)
    make-moved (name a e) k i j env env' s r v q =
        let x = make Θ a env i in
        let p : make Φ (renumbered Θ Φ a) env' j ≡ moved_made d x = make-moved a k i j env env' s.0 r.1 v q in
        ap₂ made_proj p
        (ap (λ (m : Made). make Φ (renumbered Θ Φ e) (whole_of m ∷ env') m.next) p
        ∙ make-moved e (suc k) x.next (x.next + d) (whole_of x ∷ env) (whole_of (moved_made d x) ∷ env') s.1 r.2 (env-more k env env' (whole_of x) (whole_of (moved_made d x)) refl v) refl)
        ∙ proj-moved x (make Θ e (whole_of x ∷ env) x.next)

-- a closed term at terminal d, whatever stands around it
pub closed_moved : (E : Edition) (Θ Φ : Table) → TableOk Φ → (e : Term) (d : ℕ) (env : List Bound) → Scoped 0 e → Ranged E Φ (renumbered Θ Φ e) → make Φ (renumbered Θ Φ e) env d ≡ moved_made d (make Θ e [] 0)
closed_moved E Θ Φ ok e d env s r = make-moved d E Θ Φ ok e 0 0 d [] env s r (λ i l. absurd (omega arith)) (omega arith)
