-- The term of a shown text comes back with its type numbers, or a limit is passed. Assumes nothing.
use Prim.Native.Nat.{ℕ, zero, suc, ◌+◌, ◌-◌, ◌≤◌, ◌<◌}
use mathlib.Core.Path.{◌≡◌, refl, sym, ap, subst, ◌∙◌}
use mathlib.Core.Bool.{Bool, true, false, ◌&&◌, cond}
use mathlib.Core.List.{List, [], ◌∷◌, ◌++◌}
use native.Mathlib.Omega.{arith}
use lib.Dec.{T, eqb, leb, ltb, leb→le, eqb→eq, lt→ltb}
use lib.ListN.{length, take}
use Rattle.calculus.specs.Answer.{Answer, good, ◌>>=◌, need}
use Rattle.calculus.specs.Types.{Ty, bit, prod, TyRec, rec01, rec02, rec03, rec04, Table, rec_at, tree}
use Rattle.calculus.specs.Types as Types
use Rattle.calculus.specs.Terms.{Edition, first, second, is_second, Term, var, lvar, app, lfun, lapp, proj, con, part_at}
use Rattle.calculus.specs.Terms as Terms
use Rattle.laws.proofs.Tests.{T-is, is_false}
use Rattle.sheet_theorems.specs.Laid.{Agrees, Below, TableOk}
use Rattle.notation_calculus.specs.Words.{Name, same_name}
use Rattle.notation_calculus.specs.Trees.{Bound, TypeTree, Tree, spine, apart, named, Clause, Text}
use Rattle.notation_calculus.specs.Trees as Trees
use Rattle.notation_calculus.specs.Making.{State, Found, Entry, Scope, shares, listed, lookup, bind, with_variables, entries, room_for, most_entries, Made, counted, node, over, variable, part_type, part_of, function_of, name_of, halves_of, half_of, pair_of, applied, type_of, term_of}
use Rattle.notation_calculus.specs.Show.{left_of}
use Rattle.show_theorems.specs.Shown.{shown_binder}
use Rattle.show_theorems.specs.Numbered.{BinderAt, nearest, farther, Numbered, of_var, of_lvar, of_fun, of_lfun, of_app, of_lapp, of_pair, of_proj, of_fix_lem, of_con, of_name}
use Rattle.show_theorems.specs.ShownTrees.{Within, ShownType, ShownTerm, var_shown, lvar_shown, fun_shown, lfun_shown, app_shown, lapp_shown, pair_shown, proj_shown, fix_shown, con_shown, name_shown, ShownClauses}
use Rattle.show_theorems.proofs.Figures.{same-decimal, same_self}
use Rattle.show_theorems.proofs.Parsing.{within_step, within-map, within_then}
use Rattle.show_theorems.proofs.Numbering.{left-shares, left_linear, halves_share}
use Rattle.show_theorems.proofs.Tabled.{take_all, grown_to, Tells, listed-whole, type-made}

-- ---- variables

-- k variables with these types, each named by the number of binders around it
abbrev pub Variables : ℕ → List ℕ → List Entry → Type 0
Variables k [] [] = k ≡ 0
Variables k [] (v ∷ vs) = ⊥
Variables k (t ∷ Γ) [] = ⊥
Variables k (t ∷ Γ) (v ∷ vs) = (j : ℕ) × (k ≡ suc j) × (v.name ≡ shown_binder j) × (v.value ≡ t) × Variables j Γ vs

variables_long : (k : ℕ) (Γ : List ℕ) (vs : List Entry) → Variables k Γ vs → length vs ≡ k
variables_long k [] [] h = sym h
variables_long k [] (v ∷ vs) h = absurd h
variables_long k (t ∷ Γ) [] h = absurd h
variables_long k (t ∷ Γ) (v ∷ vs) (j, e, n, x, h) = ap suc (variables_long j Γ vs h) ∙ sym e

binder-below : {Γ : List ℕ} {i t : ℕ} → BinderAt Γ i t → (k : ℕ) (vs : List Entry) → Variables k Γ vs → i < k
binder-below nearest k [] h = absurd h
binder-below nearest k (v ∷ vs) (j, e, n, x, h) = omega arith
binder-below (farther a) k [] h = absurd h
binder-below (farther a) k (v ∷ vs) (j, e, n, x, h) = omega (arith, binder-below a j vs h)

lookup-shown : {A : Type 0} {Γ : List ℕ} {i t : ℕ} → BinderAt Γ i t → (k n : ℕ) (vs : List Entry) (found : ℕ → ℕ → A) (else : A) → Variables k Γ vs → k ≤ 1024 → lookup (shown_binder (k - suc i)) vs n found else ≡ found (n + i) t
lookup-shown nearest k n [] found else h l = absurd h
lookup-shown {t = t} nearest k n (v ∷ vs) found else (j, e, m, x, h) l =
    let q : k - 1 ≡ j = omega arith in
    let s : same_name (shown_binder (k - 1)) v.name ≡ true = ap (λ (z : ℕ). same_name (shown_binder z) v.name) q ∙ ap (λ (z : Name). same_name (shown_binder j) z) m ∙ same_self (shown_binder j) in
    rw s (ap (λ (z : ℕ). found n z) x ∙ ap (λ (z : ℕ). found z t) (omega arith))
lookup-shown (farther a) k n [] found else h l = absurd h
lookup-shown {t = t} (farther {i = i} a) k n (v ∷ vs) found else (j, e, m, x, h) l =
    let b : i < j = binder-below a j vs h in
    let q : k - suc (suc i) ≡ j - suc i = omega arith in
    let s : same_name (shown_binder (k - suc (suc i))) v.name ≡ false = ap (λ (z : ℕ). same_name (shown_binder z) v.name) q ∙ ap (λ (z : Name). same_name (shown_binder (j - suc i)) z) m ∙ same-decimal 120 (j - suc i) j (omega arith) (omega arith) ∙ is_false (eqb (j - suc i) j) (λ z. let y = eqb→eq (j - suc i) j z in absurd (omega arith)) in
    rw s (ap (λ (z : ℕ). lookup (shown_binder z) vs (suc n) found else) q ∙ lookup-shown a j (suc n) vs found else h (omega arith) ∙ ap (λ (z : ℕ). found z t) (omega arith))

-- ---- nodes

-- the term, its type's number, and the table
abbrev pub Gives : Table → Term → ℕ → Made → Type 0
Gives Θ e t m = (m.term ≡ e) × (m.type ≡ t) × (m.state.table ≡ Θ)

node-gives : (Θ : Table) (at : ℕ) (e f : Term) (t s below : ℕ) (places : List ℕ) (σ : State) → e ≡ f → t ≡ s → σ.table ≡ Θ → Within (Gives Θ f s) (node at e t below places σ)
unfolding node
node-gives Θ at e f t s below places σ x y z = by (ltb σ.nodes 2048) (ltb below 64)
  where
    by : (a b : Bool) → Within (Gives Θ f s) (need a 34 at >>= λ _. need b 34 at >>= λ _. good (record { term = e; type = t; deep = suc below; places = at ∷ places; state = counted σ }))
    by true true = (x, y, z)
    by true false = refl
    by false b = refl

room_then : {B : Type 0} (Q : B → Type 0) (S : Scope) (n at : ℕ) (f : Unit {0} → Answer B) → (entries S + n ≤ 1024 → Within Q (f tt)) → Within Q (room_for S n at >>= f)
room_then Q S n at f k = by (leb (entries S + n) most_entries) refl
  where
    by : (b : Bool) → leb (entries S + n) most_entries ≡ b → Within Q (need b 34 at >>= f)
    by true e = k (leb→le (entries S + n) 1024 (subst (λ (x : Bool). T x) (sym e) tt))
    by false e = refl

module _ (Θ : Table) (ok : TableOk Θ) where
  -- a function of a sort
  function-gives : (x : Bound) (a b t : ℕ) (sort : Bool) (e : Term) (m : Made) → Gives Θ e b m → shares Θ a ≡ sort → rec_at Θ t ≡ cond sort (rec03 a b) (rec04 a b) → t < length Θ → Within (Gives Θ (cond sort (Terms.fun t e) (lfun t e)) t) (function_of x a m)
  function-gives x a b t sort e m (em, tm, sm) sh is h =
      let at : ℕ = x.place in
      let go : Bool → TyRec → Answer Made = λ s r. listed m.state r at >>= λ w. node at (cond s (Terms.fun w.type m.term) (lfun w.type m.term)) w.type m.deep m.places w.state in
      let one : function_of x a m ≡ go sort (cond sort (rec03 a b) (rec04 a b)) = ap (λ (Φ : Table). go (shares Φ a) (cond (shares Φ a) (rec03 a m.type) (rec04 a m.type))) sm ∙ ap (λ (s : Bool). go s (cond s (rec03 a m.type) (rec04 a m.type))) sh ∙ ap (λ (n : ℕ). go sort (cond sort (rec03 a n) (rec04 a n))) tm in
      let two : go sort (cond sort (rec03 a b) (rec04 a b)) ≡ node at (cond sort (Terms.fun t m.term) (lfun t m.term)) t m.deep m.places m.state = ap (λ (q : Answer Found). q >>= λ w. node at (cond sort (Terms.fun w.type m.term) (lfun w.type m.term)) w.type m.deep m.places w.state) (listed-whole Θ ok m.state t at (cond sort (rec03 a b) (rec04 a b)) sm is h) in
      subst (λ (q : Answer Made). Within (Gives Θ (cond sort (Terms.fun t e) (lfun t e)) t) q) (sym (one ∙ two)) (node-gives Θ at (cond sort (Terms.fun t m.term) (lfun t m.term)) (cond sort (Terms.fun t e) (lfun t e)) t t m.deep m.places m.state (ap (λ (f : Term). cond sort (Terms.fun t f) (lfun t f)) em) refl sm)

  over-gives : (at : ℕ) (build : Term → Term → Term) (t s : ℕ) (a b : Made) (σ : State) (x y : Term) → a.term ≡ x → b.term ≡ y → t ≡ s → σ.table ≡ Θ → Within (Gives Θ (build x y) s) (over at build t a b σ)
  over-gives at build t s a b σ x y ea eb et eσ = node-gives Θ at (build a.term b.term) (build x y) t s _ _ σ (ap (λ (f : Term). build f b.term) ea ∙ ap (λ (f : Term). build x f) eb) et eσ

  applied-gives : (at s a b : ℕ) (f x : Made) (g y : Term) → Gives Θ g s f → Gives Θ y a x → rec_at Θ s ≡ rec03 a b → Within (Gives Θ (app g y) b) (applied at (rec_at x.state.table f.type) f x)
  applied-gives at s a b f x g y (ef, tf, sf) (ex, tx, sx) is = subst (λ (r : TyRec). Within (Gives Θ (app g y) b) (applied at r f x)) (sym (ap (λ (Φ : Table). rec_at Φ f.type) sx ∙ ap (λ (n : ℕ). rec_at Θ n) tf ∙ is)) (over-gives at app b b f x x.state g y ef ex refl sx)

  lapplied-gives : (at s a b : ℕ) (f x : Made) (g y : Term) → Gives Θ g s f → Gives Θ y a x → rec_at Θ s ≡ rec04 a b → Within (Gives Θ (lapp g y) b) (applied at (rec_at x.state.table f.type) f x)
  lapplied-gives at s a b f x g y (ef, tf, sf) (ex, tx, sx) is = subst (λ (r : TyRec). Within (Gives Θ (lapp g y) b) (applied at r f x)) (sym (ap (λ (Φ : Table). rec_at Φ f.type) sx ∙ ap (λ (n : ℕ). rec_at Θ n) tf ∙ is)) (over-gives at lapp b b f x x.state g y ef ex refl sx)

  half_is : (Φ : Table) (n a : ℕ) → Φ ≡ Θ → n ≡ a → T (shares Θ a) → half_of Φ n ≡ a
  half_is Φ n a e f h = ap (λ (Ψ : Table). half_of Ψ n) e ∙ ap (λ (k : ℕ). half_of Θ k) f ∙ ap (λ (b : Bool). cond b a 0) (T-is (shares Θ a) h)

  pair-gives : (at t a b : ℕ) (x y : Made) (u v : Term) → Gives Θ u a x → Gives Θ v b y → rec_at Θ t ≡ rec02 a b → t < length Θ → Within (Gives Θ (Terms.pair t u v) t) (pair_of at x y)
  pair-gives at t a b x y u v (ex, tx, sx) (ey, ty, sy) is h =
      let sh = halves_share Θ ok t a b is in
      let Φ : Table = y.state.table in
      let r : rec02 (half_of Φ x.type) (half_of Φ y.type) ≡ rec02 a b = ap (λ (n : ℕ). rec02 n (half_of Φ y.type)) (half_is Φ x.type a sy tx sh.0) ∙ ap (λ (n : ℕ). rec02 a n) (half_is Φ y.type b sy ty sh.1) in
      subst (λ (q : Answer Found). Within (Gives Θ (Terms.pair t u v) t) (q >>= λ w. over at (Terms.pair w.type) w.type x y w.state)) (sym (listed-whole Θ ok y.state t at (rec02 (half_of Φ x.type) (half_of Φ y.type)) sy (is ∙ sym r) h)) (over-gives at (Terms.pair t) t t x y y.state u v ex ey refl sy)

  -- ---- parts

  pub record ArrowAt (t : ℕ) (τ ρ : Ty) : Type 0 where
    pub left : ℕ
    pub right : ℕ
    pub is : rec_at Θ t ≡ rec03 left right
    pub left-tree : tree Θ left ≡ τ
    pub right-tree : tree Θ right ≡ ρ
    pub left-known : left < length Θ
    pub right-known : right < length Θ

  abbrev is_arrow_type : Ty → Bool
  is_arrow_type bit = false
  is_arrow_type (prod a b) = false
  is_arrow_type (Types.arrow a b) = true
  is_arrow_type (Types.lolli a b) = false

  abbrev left_type : Ty → Ty
  left_type bit = bit
  left_type (prod a b) = a
  left_type (Types.arrow a b) = a
  left_type (Types.lolli a b) = a

  abbrev right_type : Ty → Ty
  right_type bit = bit
  right_type (prod a b) = b
  right_type (Types.arrow a b) = b
  right_type (Types.lolli a b) = b

  arrow_at_lem : (t : ℕ) (τ ρ : Ty) → t < length Θ → tree Θ t ≡ Types.arrow τ ρ → ArrowAt t τ ρ
  arrow_at_lem t τ ρ h e = by (rec_at Θ t) refl (ok.agrees t) (ok.earlier t h)
    where
      not_so : (σ : Ty) → tree Θ t ≡ σ → is_arrow_type σ ≡ false → ⊥
      not_so σ f z = absurd (subst (λ (b : Bool). T b) (ap is_arrow_type (sym e ∙ f) ∙ z) tt)

      by : (r : TyRec) → rec_at Θ t ≡ r → Agrees Θ r (tree Θ t) → Below t r → ArrowAt t τ ρ
      by rec01 is a b = absurd (not_so bit a refl)
      by (rec02 x y) is a b = absurd (not_so (prod (tree Θ x) (tree Θ y)) a.0 refl)
      by (rec03 x y) is a b = record { left = x; right = y; is = is; left-tree = sym (ap left_type (sym e ∙ a.0)); right-tree = sym (ap right_type (sym e ∙ a.0)); left-known = omega (arith, b.0); right-known = omega (arith, b.1) }
      by (rec04 x y) is a b = absurd (not_so (Types.lolli (tree Θ x) (tree Θ y)) a.0 refl)

  pub record ProductAt (t : ℕ) (τ ρ : Ty) : Type 0 where
    pub left : ℕ
    pub right : ℕ
    pub is : rec_at Θ t ≡ rec02 left right
    pub left-tree : tree Θ left ≡ τ
    pub right-tree : tree Θ right ≡ ρ
    pub left-known : left < length Θ
    pub right-known : right < length Θ

  abbrev is_product_type : Ty → Bool
  is_product_type bit = false
  is_product_type (prod a b) = true
  is_product_type (Types.arrow a b) = false
  is_product_type (Types.lolli a b) = false

  product_at : (t : ℕ) (τ ρ : Ty) → t < length Θ → tree Θ t ≡ prod τ ρ → ProductAt t τ ρ
  product_at t τ ρ h e = by (rec_at Θ t) refl (ok.agrees t) (ok.earlier t h)
    where
      not_so : (σ : Ty) → tree Θ t ≡ σ → is_product_type σ ≡ false → ⊥
      not_so σ f z = absurd (subst (λ (b : Bool). T b) (ap is_product_type (sym e ∙ f) ∙ z) tt)

      by : (r : TyRec) → rec_at Θ t ≡ r → Agrees Θ r (tree Θ t) → Below t r → ProductAt t τ ρ
      by rec01 is a b = absurd (not_so bit a refl)
      by (rec02 x y) is a b = record { left = x; right = y; is = is; left-tree = sym (ap left_type (sym e ∙ a.0)); right-tree = sym (ap right_type (sym e ∙ a.0)); left-known = omega (arith, b.0); right-known = omega (arith, b.1) }
      by (rec03 x y) is a b = absurd (not_so (Types.arrow (tree Θ x) (tree Θ y)) a.0 refl)
      by (rec04 x y) is a b = absurd (not_so (Types.lolli (tree Θ x) (tree Θ y)) a.0 refl)

  module _ (bit-first : rec_at Θ 0 ≡ rec01) where
    bit_at : (t : ℕ) → t < length Θ → tree Θ t ≡ bit → t ≡ 0
    bit_at t h e = ok.distinct t 0 h (omega arith) (e ∙ sym (subst (λ (r : TyRec). Agrees Θ r (tree Θ 0)) bit-first (ok.agrees 0)))

    -- the types of the parts stand in the table
    unary-at : (t : ℕ) → t < length Θ → tree Θ t ≡ Types.arrow bit bit → rec_at Θ t ≡ rec03 0 0
    unary-at t h e =
        let a = arrow_at_lem t bit bit h e in
        a.is ∙ ap (λ (n : ℕ). rec03 n a.right) (bit_at a.left a.left-known a.left-tree) ∙ ap (λ (n : ℕ). rec03 0 n) (bit_at a.right a.right-known a.right-tree)

    paired_at : (t : ℕ) → t < length Θ → tree Θ t ≡ prod bit bit → rec_at Θ t ≡ rec02 0 0
    paired_at t h e =
        let a = product_at t bit bit h e in
        a.is ∙ ap (λ (n : ℕ). rec02 n a.right) (bit_at a.left a.left-known a.left-tree) ∙ ap (λ (n : ℕ). rec02 0 n) (bit_at a.right a.right-known a.right-tree)

    abbrev Typed : ℕ → Found → Type 0
    Typed t x = (x.type ≡ t) × (x.state.table ≡ Θ)

    gate-type : (E : Edition) (n : ℕ) (σ : State) (at t : ℕ) → σ.table ≡ Θ → t < length Θ → tree Θ t ≡ (part_at 2).type E → Within (Typed t) (part_type E (suc (suc n)) σ at)
    gate-type first n σ at t s h e =
        let a = arrow_at_lem t bit (Types.arrow bit bit) h e in
        let u : ℕ = a.right in
        let z : rec_at Θ t ≡ rec03 0 u = a.is ∙ ap (λ (k : ℕ). rec03 k u) (bit_at a.left a.left-known a.left-tree) in
        rw (listed-whole Θ ok σ u at (rec03 0 0) s (unary-at u a.right-known a.right-tree) a.right-known, listed-whole Θ ok σ t at (rec03 0 u) s z h) (refl, s)
    gate-type second n σ at t s h e =
        let a = arrow_at_lem t (prod bit bit) bit h e in
        let u : ℕ = a.left in
        let z : rec_at Θ t ≡ rec03 u 0 = a.is ∙ ap (λ (k : ℕ). rec03 u k) (bit_at a.right a.right-known a.right-tree) in
        rw (listed-whole Θ ok σ u at (rec02 0 0) s (paired_at u a.left-known a.left-tree) a.left-known, listed-whole Θ ok σ t at (rec03 u 0) s z h) (refl, s)

    unary_type : (E : Edition) (σ : State) (at t : ℕ) → σ.table ≡ Θ → t < length Θ → tree Θ t ≡ Types.arrow bit bit → Within (Typed t) (part_type E 1 σ at)
    unary_type E σ at t s h e = rw (listed-whole Θ ok σ t at (rec03 0 0) s (unary-at t h e) h) (refl, s)

    source-type : (E : Edition) (σ : State) (at t : ℕ) → σ.table ≡ Θ → t < length Θ → tree Θ t ≡ bit → Within (Typed t) (part_type E 0 σ at)
    source-type E σ at t s h e = (sym (bit_at t h e), s)

    part_type_lem : (E : Edition) (p : ℕ) (σ : State) (at t : ℕ) → p < 7 → σ.table ≡ Θ → t < length Θ → tree Θ t ≡ (part_at p).type E → Within (Typed t) (part_type E (part_at p).inputs σ at)
    part_type_lem E zero σ at t l s h e = source-type E σ at t s h e
    part_type_lem E (suc zero) σ at t l s h e = unary_type E σ at t s h e
    part_type_lem E (suc (suc zero)) σ at t l s h e = gate-type E 0 σ at t s h e
    part_type_lem E (suc (suc (suc zero))) σ at t l s h e = gate-type E 0 σ at t s h e
    part_type_lem E (suc (suc (suc (suc zero)))) σ at t l s h e = gate-type E 0 σ at t s h e
    part_type_lem E (suc (suc (suc (suc (suc zero))))) σ at t l s h e = unary_type E σ at t s h e
    part_type_lem E (suc (suc (suc (suc (suc (suc zero)))))) σ at t l s h e = source-type E σ at t s h e
    part_type_lem E (suc (suc (suc (suc (suc (suc (suc p))))))) σ at t l s h e = absurd (omega arith)

    part_gives : (E : Edition) (p : ℕ) (σ : State) (at t : ℕ) → p < 7 → σ.table ≡ Θ → t < length Θ → tree Θ t ≡ (part_at p).type E → Within (Gives Θ (con p t) t) (part_of E σ at p)
    part_gives E p σ at t l s h e = within_step (Typed t) (Gives Θ (con p t) t) (part_type E (part_at p).inputs σ at) (λ x. node at (con p x.type) x.type 0 [] x.state) (part_type_lem E p σ at t l s h e) λ x (a, b). node-gives Θ at (con p x.type) (con p t) x.type t 0 [] x.state (ap (λ (n : ℕ). con p n) a) a b

-- ---- terms

module _ (X : Text) (E : Edition) (Θ : Table) (ok : TableOk Θ) (bit-first : rec_at Θ 0 ≡ rec01) (cs : List Clause) (main : Clause) (clauses : X.clauses ≡ cs ++ main ∷ []) (shown : ShownClauses 0 Θ cs) (edition : X.edition ≡ E) where
  -- where a term is made under k binders: all types are known and in the table
  pub record Around (k : ℕ) (Γ : List ℕ) (S : Scope) : Type 0 where
    pub bare : S.types ≡ []
    pub seen : length Θ ≤ S.seen
    pub variables : Variables k Γ S.variables
    pub few : k ≤ 1024

  type-whole : (m i : ℕ) (S : Scope) (σ : State) (t : TypeTree) → S.types ≡ [] → length Θ ≤ S.seen → ShownType i t → i < length Θ → σ.table ≡ Θ → Within (λ (x : Found). (x.type ≡ i) × (x.state.table ≡ Θ)) (type_of X m S σ t)
  type-whole m i S σ t b l d h e =
      let g : grown_to i (length Θ) ≡ length Θ = rw (T-is (ltb i (length Θ)) (lt→ltb i (length Θ) h)) refl in
      within-map (Tells Θ i (length Θ)) _ (type_of X m S σ t) (type-made X Θ ok bit-first cs main clauses shown m i (length Θ) S σ t d (omega arith) (record { bare = b; known = h; next = omega arith; some = omega arith; few = omega arith; table = e ∙ sym (take_all Θ) })) λ x (a, c). (a, c ∙ ap (λ (n : ℕ). take n Θ) g ∙ take_all Θ)

  -- one more variable
  abbrev bound_as : ℕ → ℕ → Bound
  bound_as k q = record { name = shown_binder k; place = q }

  under_one : (k t v : ℕ) (Γ : List ℕ) (S : Scope) (q : ℕ) → Around k Γ S → v ≡ t → entries S + 1 ≤ 1024 → Around (suc k) (t ∷ Γ) (with_variables S (bind (bound_as k q) v S.variables))
  under_one k t v Γ S q A e l = record { bare = A.bare; seen = A.seen; variables = (k, refl, refl, e, A.variables); few = omega (arith, variables_long k Γ S.variables A.variables) }

  under-two : (k a b v w : ℕ) (Γ : List ℕ) (S : Scope) (q r : ℕ) → Around k Γ S → v ≡ a → w ≡ b → entries S + 4 ≤ 1024 → Around (suc (suc k)) (b ∷ a ∷ Γ) (with_variables S (bind (bound_as (suc k) r) w (bind (bound_as k q) v S.variables)))
  under-two k a b v w Γ S q r A e f l = record { bare = A.bare; seen = A.seen; variables = (suc k, refl, refl, f, (k, refl, refl, e, A.variables)); few = omega (arith, variables_long k Γ S.variables A.variables) }

  abbrev TermGoes : ℕ → List ℕ → Term → ℕ → Type 0
  TermGoes m Γ e t = (k : ℕ) (S : Scope) (σ : State) (b : Tree) → ShownTerm Θ k e b → Around k Γ S → σ.table ≡ Θ → Within (Gives Θ e t) (term_of X m S σ b)

  -- a function's variable, its type and its body
  fun-goes :
      (m k a b t : ℕ) (sort : Bool) (Γ : List ℕ) (e : Term) (S : Scope) (σ : State) (p q : ℕ) (s : TypeTree) (body : Tree) → TermGoes m (a ∷ Γ) e b → ShownTerm Θ (suc k) e body → Around k Γ S → σ.table ≡ Θ
      → ShownType a s → a < length Θ → shares Θ a ≡ sort → rec_at Θ t ≡ cond sort (rec03 a b) (rec04 a b) → t < length Θ → Within (Gives Θ (cond sort (Terms.fun t e) (lfun t e)) t) (term_of X (suc m) S σ (Trees.fun p (bound_as k q ∷ []) s body))
  fun-goes m k a b t sort Γ e S σ p q s body ih d A z st ha sh is ht =
      within_step _ (Gives Θ (cond sort (Terms.fun t e) (lfun t e)) t) (type_of X m S σ s) _ (type-whole m a S σ s A.bare A.seen st ha z) λ θ (eθ, sθ).
      room_then (Gives Θ (cond sort (Terms.fun t e) (lfun t e)) t) S 1 p _ λ room.
      within_step (Gives Θ e b) (Gives Θ (cond sort (Terms.fun t e) (lfun t e)) t) (term_of X m (with_variables S (bind (bound_as k q) θ.type S.variables)) θ.state body) _ (ih (suc k) (with_variables S (bind (bound_as k q) θ.type S.variables)) θ.state body d (under_one k a θ.type Γ S q A eθ room) sθ) λ m g.
      subst (λ (n : ℕ). Within (Gives Θ (cond sort (Terms.fun t e) (lfun t e)) t) (function_of (bound_as k q) n m)) (sym eθ) (function-gives Θ ok (bound_as k q) a b t sort e m g sh is ht)

  left_is : (t a b : ℕ) (c : ℕ → ℕ → TyRec) → (left_of (c a b) ≡ a) → rec_at Θ t ≡ c a b → left_of (rec_at Θ t) ≡ a
  left_is t a b c e is = ap left_of is ∙ e

  sides-below : (t a b : ℕ) (r : TyRec) → t < length Θ → rec_at Θ t ≡ r → Below t r
  sides-below t a b r h is = subst (λ (q : TyRec). Below t q) is (ok.earlier t h)

  pub term_made : (m : ℕ) {Γ : List ℕ} {e : Term} {t : ℕ} → Numbered E Θ Γ e t → TermGoes m Γ e t
  term_made zero d k S σ (spine p a es) h A z = refl
  term_made zero d k S σ (Trees.fun p xs s b) h A z = refl
  term_made zero d k S σ (Trees.fix p x s b) h A z = refl
  term_made zero d k S σ (Trees.name p x v b) h A z = refl
  term_made zero d k S σ (apart p xs v b) h A z = refl
  term_made (suc m) (of_var {i = i} {t = t} a sh) k S σ b (var_shown {p = p} {q = q}) A z =
      rw (lookup-shown a k 0 S.variables (λ i t. node q (variable σ.table i t) t 0 [] σ) _ A.variables A.few) (within_step (Gives Θ (var i) t) (Gives Θ (var i) t) (node q (variable σ.table (0 + i) t) t 0 [] σ) (λ f. good f) (node-gives Θ q (variable σ.table (0 + i) t) (var i) t t 0 [] σ (ap (λ (Φ : Table). variable Φ (0 + i) t) z ∙ ap (λ (b : Bool). cond b (var (0 + i)) (lvar (0 + i))) (T-is (shares Θ t) sh) ∙ ap var (omega arith)) refl z) λ f g. g)
  term_made (suc m) (of_lvar {i = i} {t = t} a sh) k S σ b (lvar_shown {p = p} {q = q}) A z =
      rw (lookup-shown a k 0 S.variables (λ i t. node q (variable σ.table i t) t 0 [] σ) _ A.variables A.few) (within_step (Gives Θ (lvar i) t) (Gives Θ (lvar i) t) (node q (variable σ.table (0 + i) t) t 0 [] σ) (λ f. good f) (node-gives Θ q (variable σ.table (0 + i) t) (lvar i) t t 0 [] σ (ap (λ (Φ : Table). variable Φ (0 + i) t) z ∙ ap (λ (b : Bool). cond b (var (0 + i)) (lvar (0 + i))) sh ∙ ap lvar (omega arith)) refl z) λ f g. g)
  term_made (suc m) {Γ = Γ} (of_fun {t = t} {a = a} {b = c} {e = e} h is d) k S σ b (fun_shown {p = p} {q = q} {s = s} {b = body} st x) A z =
      let below = sides-below t a c (rec03 a c) h is in
      fun-goes m k a c t true Γ e S σ p q s body (λ k S σ b h A z. term_made m d k S σ b h A z) x A z (subst (λ (n : ℕ). ShownType n s) (ap left_of is) st) (omega (arith, below.0)) (T-is (shares Θ a) (left-shares Θ ok t a c is)) is h
  term_made (suc m) {Γ = Γ} (of_lfun {t = t} {a = a} {b = c} {e = e} h is d) k S σ b (lfun_shown {p = p} {q = q} {s = s} {b = body} st x) A z =
      let below = sides-below t a c (rec04 a c) h is in
      fun-goes m k a c t false Γ e S σ p q s body (λ k S σ b h A z. term_made m d k S σ b h A z) x A z (subst (λ (n : ℕ). ShownType n s) (ap left_of is) st) (omega (arith, below.0)) (left_linear Θ ok t a c is) is h
  term_made (suc m) (of_app {s = s} {a = a} {b = c} {f = f} {x = x} is d g) k S σ b (app_shown {p = p} {g = u} {b = v} hf hx) A z =
      within_step (Gives Θ f s) (Gives Θ (app f x) c) (term_of X m S σ u) _ (term_made m d k S σ u hf A z) λ y ey.
      within_step (Gives Θ x a) (Gives Θ (app f x) c) (term_of X m S y.state v) _ (term_made m g k S y.state v hx A ey.2) λ w ew.
      within_step (Gives Θ (app f x) c) (Gives Θ (app f x) c) (applied p (rec_at w.state.table y.type) y w) (λ r. good r) (applied-gives Θ ok p s a c y w f x ey ew is) λ r h. h
  term_made (suc m) (of_lapp {s = s} {a = a} {b = c} {f = f} {x = x} is d g) k S σ b (lapp_shown {p = p} {g = u} {b = v} hf hx) A z =
      within_step (Gives Θ f s) (Gives Θ (lapp f x) c) (term_of X m S σ u) _ (term_made m d k S σ u hf A z) λ y ey.
      within_step (Gives Θ x a) (Gives Θ (lapp f x) c) (term_of X m S y.state v) _ (term_made m g k S y.state v hx A ey.2) λ w ew.
      within_step (Gives Θ (lapp f x) c) (Gives Θ (lapp f x) c) (applied p (rec_at w.state.table y.type) y w) (λ r. good r) (lapplied-gives Θ ok p s a c y w f x ey ew is) λ r h. h
  term_made (suc m) (of_pair {t = t} {a = a} {b = c} {x = x} {y = y} h is d g) k S σ b (pair_shown {p = p} {q = q} {a = u} {b = v} hx hy) A z =
      within_then (Gives Θ x a) (Gives Θ (Terms.pair t x y) t) (term_of X m S σ u) _ _ (term_made m d k S σ u hx A z) λ w ew.
      within_then (Gives Θ y c) (Gives Θ (Terms.pair t x y) t) (term_of X m S w.state v) _ _ (term_made m g k S w.state v hy A ew.2) λ r er.
      within_step (Gives Θ (Terms.pair t x y) t) (Gives Θ (Terms.pair t x y) t) (pair_of q w r) (λ f. good f) (pair-gives Θ ok q t a c w r x y ew er is h) λ f e. e
  term_made (suc m) {Γ = Γ} (of_proj {s = s} {a = a} {b = c} {t = t} {x = x} {e = e} is d g) k S σ b (proj_shown {p = p} {q = q} {r = r} {v = v} {b = body} hx he) A z =
      within_step (Gives Θ x s) (Gives Θ (proj x e) t) (term_of X m S σ v) _ (term_made m d k S σ v hx A z) λ w ew.
      room_then (Gives Θ (proj x e) t) S (2 + 2) p _ λ room.
      let H : halves_of (rec_at w.state.table w.type) ≡ record { left = a; right = c } = ap (λ (Φ : Table). halves_of (rec_at Φ w.type)) ew.2 ∙ ap (λ (n : ℕ). halves_of (rec_at Θ n)) ew.1 ∙ ap halves_of is in
      let inner : Scope = with_variables S (bind (bound_as (suc k) r) (halves_of (rec_at w.state.table w.type)).right (bind (bound_as k q) (halves_of (rec_at w.state.table w.type)).left S.variables)) in
      within_step (Gives Θ e t) (Gives Θ (proj x e) t) (term_of X m inner w.state body) (λ y. over q proj y.type w y y.state) (term_made m g (suc (suc k)) inner w.state body he (under-two k a c _ _ Γ S q r A (ap (λ h. h.left) H) (ap (λ h. h.right) H) (omega arith)) ew.2) λ y ey.
      over-gives Θ ok q proj y.type t w y y.state x e ew.0 ey.0 ey.1 ey.2
  term_made (suc m) {Γ = Γ} (of_fix_lem {t = t} {e = e} h d) k S σ b (fix_shown {p = p} {q = q} {s = s} {b = body} st x) A z =
      within_step _ (Gives Θ (Terms.fix t e) t) (type_of X m S σ s) _ (type-whole m t S σ s A.bare A.seen st h z) λ θ (eθ, sθ).
      room_then (Gives Θ (Terms.fix t e) t) S 1 p _ λ room.
      within_step (Gives Θ e t) (Gives Θ (Terms.fix t e) t) (term_of X m (with_variables S (bind (bound_as k q) θ.type S.variables)) θ.state body) _ (term_made m d (suc k) (with_variables S (bind (bound_as k q) θ.type S.variables)) θ.state body x (under_one k t θ.type Γ S q A eθ room) sθ) λ y ey.
      node-gives Θ q (Terms.fix θ.type y.term) (Terms.fix t e) θ.type t y.deep y.places y.state (ap (λ (n : ℕ). Terms.fix n y.term) eθ ∙ ap (λ (f : Term). Terms.fix t f) ey.0) eθ ey.2
  term_made (suc m) (of_con {p = i} {t = t} h l is) k S σ b (con_shown {p = p} {q = q}) A z =
      within_step (Gives Θ (con i t) t) (Gives Θ (con i t) t) (part_of X.edition σ q i) (λ f. good f) (subst (λ (F : Edition). Within (Gives Θ (con i t) t) (part_of F σ q i)) (sym edition) (part_gives Θ ok bit-first E i σ q t l z h is)) λ f e. e
  term_made (suc m) {Γ = Γ} (of_name {s = s} {t = t} {x = x} {e = e} E₂ sh d g) k S σ b (name_shown {p = p} {q = q} {v = v} {b = body} hx he) A z =
      within_step (Gives Θ x s) (Gives Θ (Terms.name x e) t) (term_of X m S σ v) _ (term_made m d k S σ v hx A z) λ w ew.
      room_then (Gives Θ (Terms.name x e) t) S 1 p _ λ room.
      within_step (Gives Θ e t) (Gives Θ (Terms.name x e) t) (term_of X m (with_variables S (bind (bound_as k q) w.type S.variables)) w.state body) _ (term_made m g (suc k) (with_variables S (bind (bound_as k q) w.type S.variables)) w.state body he (under_one k s w.type Γ S q A ew.1 room) ew.2) λ y ey.
      named-gives w y q ew ey
    where
      named-gives : (w y : Made) (q : ℕ) → Gives Θ x s w → Gives Θ e t y → Within (Gives Θ (Terms.name x e) t) (name_of X.edition (bound_as k q) w y)
      named-gives w y q ew ey =
          let c : (is_second X.edition && shares y.state.table w.type) ≡ true = ap (λ (F : Edition). is_second F && shares y.state.table w.type) (edition ∙ E₂) ∙ ap (λ (Φ : Table). shares Φ w.type) ey.2 ∙ ap (λ (n : ℕ). shares Θ n) ew.1 ∙ T-is (shares Θ s) sh in
          subst (λ (b : Bool). Within (Gives Θ (Terms.name x e) t) (cond b (over q Terms.name y.type w y y.state) (function_of (bound_as k q) w.type y >>= λ f. over q (cond (shares y.state.table w.type) app lapp) y.type f w f.state))) (sym c) (over-gives Θ ok q Terms.name y.type t w y y.state x e ew.0 ey.0 ey.1 ey.2)
