-- A typed term with one subterm or two, by its derivation. Assumes nothing.
use Prim.Native.Nat.{ℕ, ◌+◌, ◌*◌, ◌<◌}
use mathlib.Core.Bool.{true, false, true≢false}
use mathlib.Core.Path.{◌≡◌, refl, sym, ap, ◌∙◌}
use mathlib.Core.Logic.{inl, inr}
use mathlib.Core.List.{List, ◌∷◌}
use native.Mathlib.Omega.{arith}
use lib.ListN.{length, length-append}
use Rattle.calculus.specs.Types.{Ty, bit, prod, arrow, lolli, size, TyRec, rec01, rec02, rec03, rec04, Table, rec_at, tree}
use Rattle.calculus.specs.Terms.{Edition, Term}
use Rattle.calculus.specs.Write.{term_bytes}
use Rattle.sheet_theorems.specs.Laid.{Agrees, Below, Stands, Ranged}
use Rattle.calculus.specs.Rules.{Ctx, many, once, InΓ, in_here, in_many, in_away, IsΔ, is_here, is_many, is_away, Typed, Var, LVar, →I, →E, ⊸I, ⊸E, ×I, ×E, Fix, Con, ×E'}
use Rattle.calculus.specs.Net.{Bound, left_of, right_of, binder, made_pair, first_half, second_half, whole_of, make}
use Rattle.records.specs.Heads.{node_of}
use Rattle.records.specs.Rules.{is_constant}
use Rattle.records.specs.Forms.{rec_in}
use Rattle.sheet_theorems.proofs.Standing.{fun_body, lfun_body, fix_body, app_function, app_argument, lapp_function, lapp_argument, pair_first, pair_second, proj_pair, proj_body, name-first, name_body}
use Rattle.circuit_theorems.proofs.Drivers.{split_env, binder-fits, halves, term_driven}
use Rattle.circuit_theorems.specs.Scope.{Suits, Env, env_many, env_once, env_away}
use Rattle.records.specs.TypeNumbers.{left_no, right_no}
use Rattle.wiring.specs.Sides.{Knows}
use Rattle.wiring.specs.Nodes.{fun_of, Binding, Twofold, Variable, Constant}

-- ---- the sides of a type, by its record

pub record SidesAt (Θ : Table) (t l r : ℕ) : Type 0 where
  pub left_below : l < t
  pub right_below : r < t
  pub left : left_of (tree Θ t) ≡ tree Θ l
  pub right : right_of (tree Θ t) ≡ tree Θ r

sided_of_lem : (Θ : Table) (t : ℕ) (q : TyRec) → Agrees Θ q (tree Θ t) → Below t q → (tree Θ t ≡ bit → ⊥) → SidesAt Θ t (left_no q) (right_no q)
sided_of_lem Θ t rec01 a b f = absurd (f a)
sided_of_lem Θ t (rec02 l r) a b f = record { left_below = b.0; right_below = b.1; left = ap left_of a.0; right = ap right_of a.0 }
sided_of_lem Θ t (rec03 l r) a b f = record { left_below = b.0; right_below = b.1; left = ap left_of a.0; right = ap right_of a.0 }
sided_of_lem Θ t (rec04 l r) a b f = record { left_below = b.0; right_below = b.1; left = ap left_of a.0; right = ap right_of a.0 }

pub sided_at : {s sizes : List ℕ} {Θ : Table} → Knows s sizes Θ → (t : ℕ) → t < length Θ → (tree Θ t ≡ bit → ⊥) → SidesAt Θ t (left_no (rec_in s t)) (right_no (rec_in s t))
sided_at {Θ = Θ} K t h f = rw (K.records t h) (sided_of_lem Θ t (rec_at Θ t) (K.ok.agrees t) (K.ok.earlier t h) f)

-- ---- binders' interfaces and contexts

bound_fits : (τ α : Ty) (n : ℕ) → α ≡ τ → Suits τ (binder α n)
bound_fits τ α n e = rw e (binder-fits τ n)

not_arrow : {τ θ ρ : Ty} → τ ≡ arrow θ ρ → τ ≡ bit → ⊥
not_arrow p q = let z : arrow _ _ ≡ bit = sym p ∙ q in let n : ◌≡◌ {A = ℕ} 0 1 = cc in omega arith

not_lolli : {τ θ ρ : Ty} → τ ≡ lolli θ ρ → τ ≡ bit → ⊥
not_lolli p q = let z : lolli _ _ ≡ bit = sym p ∙ q in let n : ◌≡◌ {A = ℕ} 0 1 = cc in omega arith

not_prod : {τ θ ρ : Ty} → τ ≡ prod θ ρ → τ ≡ bit → ⊥
not_prod p q = let z : prod _ _ ≡ bit = sym p ∙ q in let n : ◌≡◌ {A = ℕ} 0 1 = cc in omega arith

past_one : (at : ℕ) → at + 1 + 0 ≡ at + 1
past_one at = omega arith

past_two : (at : ℕ) → at + 1 + 1 ≡ at + 2
past_two at = omega arith

-- ---- one subterm

module _ {s sizes : List ℕ} {E : Edition} {Θ : Table} (K : Knows s sizes Θ) (at n : ℕ) (env : List Bound) where
  pub binding : {Γ : Ctx} {e : Term} {τ : Ty} → Typed E Θ Γ e τ → Stands s at e → Ranged E Θ e → Env Γ env → (node_of e at).subterms ≡ 1 → Binding E Θ s at n env e τ
  binding (Var x) st rg v h = absurd (omega arith)
  binding (LVar x) st rg v h = absurd (omega arith)
  binding (→I {t = t} {e = e} {θ = θ} {τ = τ} eτ sh d) st rg v h =
      let S = sided_at K t rg.0 (not_arrow eτ) in
      let b = left_no (rec_in s t) in
      let eb : tree Θ b ≡ θ = sym S.left ∙ ap left_of eτ in
      record {
        body = e;
        bound = b;
        named = omega (arith, S.left_below, rg.0);
        context = many θ ∷ _;
        type = τ;
        typed = d;
        fits = env_many sh (bound_fits θ (tree Θ b) n eb) v;
        stands = rw (past_two at) (fun_body st);
        ranged = rg.1;
        deep = refl;
        bytes = omega arith;
        number = refl;
        first = rg.0;
        is-type = eτ;
        makes = inr (refl, ap (λ (ρ : Ty). fun_of (left_of (tree Θ t)) ρ n (make Θ e (binder (left_of (tree Θ t)) n ∷ env) (n + 2 * size (left_of (tree Θ t))))) eτ ∙ ap (λ (α : Ty). fun_of α (arrow θ τ) n (make Θ e (binder α n ∷ env) (n + 2 * size α))) S.left);
      }
  binding (⊸I {t = t} {e = e} {κ = κ} {τ = τ} eτ ar d) st rg v h =
      let S = sided_at K t rg.0 (not_lolli eτ) in
      let b = left_no (rec_in s t) in
      let eb : tree Θ b ≡ κ = sym S.left ∙ ap left_of eτ in
      record {
        body = e;
        bound = b;
        named = omega (arith, S.left_below, rg.0);
        context = once κ ∷ _;
        type = τ;
        typed = d;
        fits = env_once (bound_fits κ (tree Θ b) n eb) v;
        stands = rw (past_two at) (lfun_body st);
        ranged = rg.1;
        deep = refl;
        bytes = omega arith;
        number = refl;
        first = rg.0;
        is-type = eτ;
        makes = inr (refl, ap (λ (ρ : Ty). fun_of (left_of (tree Θ t)) ρ n (make Θ e (binder (left_of (tree Θ t)) n ∷ env) (n + 2 * size (left_of (tree Θ t))))) eτ ∙ ap (λ (α : Ty). fun_of α (lolli κ τ) n (make Θ e (binder α n ∷ env) (n + 2 * size α))) S.left);
      }
  binding (Fix {t = t} {e = e} {θ = θ} eτ sh d) st rg v h = record {
    body = e;
    bound = t;
    named = rg.0;
    context = many θ ∷ _;
    type = θ;
    typed = d;
    fits = env_many sh (bound_fits θ (tree Θ t) n eτ) v;
    stands = rw (past_two at) (fix_body st);
    ranged = rg.1;
    deep = refl;
    bytes = omega arith;
    number = refl;
    first = rg.0;
    is-type = eτ;
    makes = inl (refl, sym eτ, refl);
  }
  binding (→E z sh d c) st rg v h = absurd (omega arith)
  binding (⊸E z ar d c) st rg v h = absurd (omega arith)
  binding (×I z eτ s₁ s₂ d c) st rg v h = absurd (omega arith)
  binding (×E z s₁ s₂ d c) st rg v h = absurd (omega arith)
  binding (Con p e z) st rg v h = absurd (omega arith)
  binding (×E' i z sh d c) st rg v h = absurd (omega arith)

  -- ---- two subterms

  pub twofold : {Γ : Ctx} {e : Term} {τ : Ty} → Typed E Θ Γ e τ → Stands s at e → Ranged E Θ e → Env Γ env → (node_of e at).subterms ≡ 2 → Twofold E Θ s at n env e τ
  twofold (Var x) st rg v h = absurd (omega arith)
  twofold (LVar x) st rg v h = absurd (omega arith)
  twofold (→I eτ sh d) st rg v h = absurd (omega arith)
  twofold (⊸I eτ ar d) st rg v h = absurd (omega arith)
  twofold (Fix eτ sh d) st rg v h = absurd (omega arith)
  twofold (Con p e z) st rg v h = absurd (omega arith)
  twofold (→E {f = f} {a = a} {θ = θ} {τ = τ} z sh d c) st rg v h =
      let (p, q) = split_env z v in
      record {
        first = f;
        second = a;
        stands_first = rw (past_one at) (app_function st);
        stands_second = rw (past_one at) (app_argument st);
        ranged-first = rg.0;
        ranged-second = rg.1;
        deep-first = omega arith;
        deep-second = omega arith;
        bytes = omega (arith, length-append (term_bytes f) (term_bytes a));
        context = _;
        type = arrow θ τ;
        typed = d;
        fits = p;
        context₂ = _;
        type₂ = θ;
        env₂ = env;
        typed₂ = c;
        fits₂ = q;
        sort = inl (record { not_pair = refl; not-proj = refl; not_naming = refl; not_body = refl; same = refl; arrow = not_arrow refl; left = refl; right = refl; turned = refl; makes = refl });
      }
  twofold (⊸E {f = f} {a = a} {κ = κ} {τ = τ} z ar d c) st rg v h =
      let (p, q) = split_env z v in
      record {
        first = f;
        second = a;
        stands_first = rw (past_one at) (lapp_function st);
        stands_second = rw (past_one at) (lapp_argument st);
        ranged-first = rg.0;
        ranged-second = rg.1;
        deep-first = omega arith;
        deep-second = omega arith;
        bytes = omega (arith, length-append (term_bytes f) (term_bytes a));
        context = _;
        type = lolli κ τ;
        typed = d;
        fits = p;
        context₂ = _;
        type₂ = κ;
        env₂ = env;
        typed₂ = c;
        fits₂ = q;
        sort = inl (record { not_pair = refl; not-proj = refl; not_naming = refl; not_body = refl; same = refl; arrow = not_lolli refl; left = refl; right = refl; turned = refl; makes = refl });
      }
  twofold (×I {t = t} {a = a} {b = b} {θ₁ = θ₁} {θ₂ = θ₂} z eτ s₁ s₂ d c) st rg v h =
      let (p, q) = split_env z v in
      record {
        first = a;
        second = b;
        stands_first = rw (past_two at) (pair_first st);
        stands_second = rw (past_two at) (pair_second st);
        ranged-first = rg.1;
        ranged-second = rg.2;
        deep-first = omega arith;
        deep-second = omega arith;
        bytes = omega (arith, length-append (term_bytes a) (term_bytes b));
        context = _;
        type = θ₁;
        typed = d;
        fits = p;
        context₂ = _;
        type₂ = θ₂;
        env₂ = env;
        typed₂ = c;
        fits₂ = q;
        sort = inr (inl (record { pair = refl; not-proj = refl; not_naming = refl; not_body = refl; same = refl; first = rg.0; is-type = eτ; makes = ap (λ (ρ : Ty). made_pair ρ (make Θ a env n) (make Θ b env (make Θ a env n).next)) eτ }));
      }
  twofold (×E {a = a} {e = e} {θ₁ = θ₁} {θ₂ = θ₂} {τ = τ} z s₁ s₂ d c) st rg v h =
      let (p, q) = split_env z v in
      let x = make Θ a env n in
      let D = term_driven d env p n in
      let (h₁, h₂) = halves θ₁ θ₂ x D.type D.dirs in
      record {
        first = a;
        second = e;
        stands_first = rw (past_one at) (proj_pair st);
        stands_second = rw (past_one at) (proj_body st);
        ranged-first = rg.0;
        ranged-second = rg.1;
        deep-first = omega arith;
        deep-second = omega arith;
        bytes = omega (arith, length-append (term_bytes a) (term_bytes e));
        context = _;
        type = prod θ₁ θ₂;
        typed = d;
        fits = p;
        context₂ = many θ₂ ∷ many θ₁ ∷ _;
        type₂ = τ;
        env₂ = second_half x ∷ first_half x ∷ env;
        typed₂ = c;
        fits₂ = env_many s₂ h₂ (env_many s₁ h₁ q);
        sort = inr (inr (record { body = refl; same = refl; makes = refl; bound = inl (record { proj = refl; halves = refl; product = not_prod refl; sum = refl }) }));
      }
  twofold (×E' {a = a} {e = e} {θ = θ} {τ = τ} i z sh d c) st rg v h =
      let (p, q) = split_env z v in
      let x = make Θ a env n in
      let D = term_driven d env p n in
      record {
        first = a;
        second = e;
        stands_first = rw (past_one at) (name-first st);
        stands_second = rw (past_one at) (name_body st);
        ranged-first = rg.1;
        ranged-second = rg.2;
        deep-first = omega arith;
        deep-second = omega arith;
        bytes = omega (arith, length-append (term_bytes a) (term_bytes e));
        context = _;
        type = θ;
        typed = d;
        fits = p;
        context₂ = many θ ∷ _;
        type₂ = τ;
        env₂ = whole_of x ∷ env;
        typed₂ = c;
        fits₂ = env_many sh (record { type = D.type; dirs = D.dirs }) q;
        sort = inr (inr (record { body = refl; same = refl; makes = refl; bound = inr (record { not-proj = refl; naming = refl; whole = refl }) }));
      }

-- ---- variables are bound

pub shared_bound : {Γ : Ctx} {env : List Bound} {i : ℕ} {θ : Ty} → InΓ Γ i θ → Env Γ env → i < length env
shared_bound (in_here z) (env_many h f v) = omega arith
shared_bound (in_many x) (env_many h f v) = omega (arith, shared_bound x v)
shared_bound (in_away x) (env_away v) = omega (arith, shared_bound x v)

pub linear_bound : {Γ : Ctx} {env : List Bound} {i : ℕ} {κ : Ty} → IsΔ Γ i κ → Env Γ env → i < length env
linear_bound (is_here z) (env_once f v) = omega arith
linear_bound (is_many x) (env_many h f v) = omega (arith, linear_bound x v)
linear_bound (is_away x) (env_away v) = omega (arith, linear_bound x v)

-- ---- no subterm

module _ {E : Edition} {Θ : Table} (s : List ℕ) (at n : ℕ) (env : List Bound) where
  pub variable : {Γ : Ctx} {e : Term} {τ : Ty} → Typed E Θ Γ e τ → Env Γ env → (node_of e at).subterms ≡ 0 → (is_constant (node_of e at).rule ≡ false) → Variable E Θ s at n env e τ
  variable (Var x) v h f = record { bound = shared_bound x v; makes = refl; bytes = omega arith; shallow = refl }
  variable (LVar x) v h f = record { bound = linear_bound x v; makes = refl; bytes = omega arith; shallow = refl }
  variable (→I eτ sh d) v h f = absurd (omega arith)
  variable (⊸I eτ ar d) v h f = absurd (omega arith)
  variable (Fix eτ sh d) v h f = absurd (omega arith)
  variable (→E z sh d c) v h f = absurd (omega arith)
  variable (⊸E z ar d c) v h f = absurd (omega arith)
  variable (×I z eτ s₁ s₂ d c) v h f = absurd (omega arith)
  variable (×E z s₁ s₂ d c) v h f = absurd (omega arith)
  variable (Con p e z) v h f = absurd (true≢false f)
  variable (×E' i z sh d c) v h f = absurd (omega arith)

  pub constant : {Γ : Ctx} {e : Term} {τ : Ty} → Typed E Θ Γ e τ → Ranged E Θ e → is_constant (node_of e at).rule ≡ true → Constant E Θ s at n env e τ
  constant (Var x) rg f = absurd (true≢false (sym f))
  constant (LVar x) rg f = absurd (true≢false (sym f))
  constant (→I eτ sh d) rg f = absurd (true≢false (sym f))
  constant (⊸I eτ ar d) rg f = absurd (true≢false (sym f))
  constant (Fix eτ sh d) rg f = absurd (true≢false (sym f))
  constant (→E z sh d c) rg f = absurd (true≢false (sym f))
  constant (⊸E z ar d c) rg f = absurd (true≢false (sym f))
  constant (×I z eτ s₁ s₂ d c) rg f = absurd (true≢false (sym f))
  constant (×E z s₁ s₂ d c) rg f = absurd (true≢false (sym f))
  constant (×E' i z sh d c) rg f = absurd (true≢false (sym f))
  constant (Con p e z) rg f = record { known = p; named = rg; is-type = e; makes = refl; bytes = omega arith; shallow = refl }
