-- What a possible record of the made netlist shows is a value that the term can have. By induction on the derivation. Assumes nothing.
use Prim.Native.Nat.{ℕ, suc, ◌+◌, ◌*◌}
use mathlib.Core.Path.{◌≡◌, refl, sym, ap, ap₂, subst, ◌∙◌}
use mathlib.Core.Bool.{Bool, true, false, not}
use mathlib.Core.List.{List, [], ◌∷◌, ◌++◌, map}
use lib.ListN.{length, get_or, take, drop, get_or-map}
use lib.Seq.{take_at, drop_at}
use Rattle.calculus.specs.Types.{Ty, prod, size, Table, tree}
use Rattle.calculus.specs.Terms.{first}
use Rattle.calculus.specs.Rules.{Ctx, Typed, Var, LVar, →I, →E, ⊸I, ⊸E, ×I, ×E, Fix, Con}
use Rattle.calculus.specs.Net.{Interface, turns, Element, point, part, points, in_side, join, Bound, unbound, Made, left_of, binder, first_half, second_half, made_app, made_fix, make}
use Rattle.calculus.specs.Record.{Bits, Law, All, Works, Joined}
use Rattle.circuit_theorems.proofs.Drivers.{turns-size, dirs_in, dirs-left, opposite, split_env, binder-fits, halves, term_driven}
use Rattle.circuit_theorems.specs.Scope.{dirs, Env, env_many, env_once}
use Rattle.circuit_theorems.proofs.Lists.{all_left, all_right}
use Rattle.linear_theorems.specs.Marked.{Marked, mvar, mlvar, mfun, mapp, mlfun, mlapp, mpair, mproj, mfix, mcon, plain, marks, Seen, PartsSeen}
use Rattle.linear_theorems.proofs.Meaning.{lines, Val, node, dark, Shaped, build, Means}
use Rattle.linear_theorems.proofs.Lines.{lines-append, lines-take, lines-drop, lines-length, lines_cut, side_length, build_shaped, points-lines, join-lines}

-- ---- marks: as many as parts

abbrev CountedBelow : List ℕ → List Element → Type 0
CountedBelow ks [] = ks ≡ []
CountedBelow ks (point i ∷ es) = CountedBelow ks es
CountedBelow [] (part p i ∷ es) = ⊥
CountedBelow (k ∷ ks) (part p i ∷ es) = CountedBelow ks es

counted-append : (ks ls : List ℕ) (es fs : List Element) → CountedBelow ks es → CountedBelow ls fs → CountedBelow (ks ++ ls) (es ++ fs)
counted-append ks ls [] fs a b = subst (λ (r : List ℕ). CountedBelow (r ++ ls) fs) (sym a) b
counted-append ks ls (point i ∷ es) fs a b = counted-append ks ls es fs a b
counted-append [] ls (part p i ∷ es) fs a b = absurd a
counted-append (k ∷ ks) ls (part p i ∷ es) fs a b = counted-append ks ls es fs a b

counted-points : (ts : List Bool) (i : ℕ) → CountedBelow [] (points ts i)
counted-points [] i = refl
counted-points (t ∷ ts) i = counted-points ts (i + 2)

counted : (Θ : Table) (e : Marked) (env : List Bound) (i : ℕ) → CountedBelow (marks e) (make Θ (plain e) env i).elements
counted Θ (mvar k) env i = refl
counted Θ (mlvar k) env i = refl
counted Θ (mfun t e) env i = counted-append [] (marks e) (points (turns false (left_of (tree Θ t))) i) _ (counted-points (turns false (left_of (tree Θ t))) i) (counted Θ e _ _)
counted Θ (mapp f a) env i = counted-append (marks f) (marks a) (make Θ (plain f) env i).elements _ (counted Θ f env i) (counted Θ a env _)
counted Θ (mlfun t e) env i = counted-append [] (marks e) (points (turns false (left_of (tree Θ t))) i) _ (counted-points (turns false (left_of (tree Θ t))) i) (counted Θ e _ _)
counted Θ (mlapp f a) env i = counted-append (marks f) (marks a) (make Θ (plain f) env i).elements _ (counted Θ f env i) (counted Θ a env _)
counted Θ (mpair t a b) env i = counted-append (marks a) (marks b) (make Θ (plain a) env i).elements _ (counted Θ a env i) (counted Θ b env _)
counted Θ (mproj a e) env i = counted-append (marks a) (marks e) (make Θ (plain a) env i).elements _ (counted Θ a env i) (counted Θ e _ _)
counted Θ (mfix t e) env i = counted-append [] (marks e) (points (turns false (tree Θ t)) i) _ (counted-points (turns false (tree Θ t)) i) (counted Θ e _ _)
counted Θ (mcon p t k) env i = refl

module _ (n : ℕ) (ρ : Seen) (β : Bits) where
  seen-left : (ks ls : List ℕ) (es fs : List Element) → CountedBelow ks es → PartsSeen n ρ β (ks ++ ls) (es ++ fs) → PartsSeen n ρ β ks es
  seen-left ks ls [] fs a b = a
  seen-left ks ls (point i ∷ es) fs a b = seen-left ks ls es fs a b
  seen-left [] ls (part p i ∷ es) fs a b = absurd a
  seen-left (k ∷ ks) ls (part p i ∷ es) fs a b = (b.0, seen-left ks ls es fs a b.1)

  seen-right : (ks ls : List ℕ) (es fs : List Element) → CountedBelow ks es → PartsSeen n ρ β (ks ++ ls) (es ++ fs) → PartsSeen n ρ β ls fs
  seen-right ks ls [] fs a b = subst (λ (r : List ℕ). PartsSeen n ρ β (r ++ ls) fs) a b
  seen-right ks ls (point i ∷ es) fs a b = seen-right ks ls es fs a b
  seen-right [] ls (part p i ∷ es) fs a b = absurd a
  seen-right (k ∷ ks) ls (part p i ∷ es) fs a b = seen-right ks ls es fs a b.1

-- ---- the value of an interface

-- of an arrow or a product, in two parts
module _ (n : ℕ) (β : Bits) (α : Ty) (s t : Interface) (e : length s ≡ size α) where
  pub front : build α (take (size α) (lines n β (s ++ t))) ≡ build α (lines n β s)
  front = ap (build α) (ap (take (size α)) (lines-append n β s t) ∙ take_at (lines n β s) (lines n β t) (size α) (lines-length n β s ∙ e))

  pub behind : (τ : Ty) → build τ (drop (size α) (lines n β (s ++ t))) ≡ build τ (lines n β t)
  behind τ = ap (build τ) (ap (drop (size α)) (lines-append n β s t) ∙ drop_at (lines n β s) (lines n β t) (size α) (lines-length n β s ∙ e))

pub in_length : (α : Ty) (i : ℕ) → length (in_side (turns false α) i) ≡ size α
in_length α i = sides-length (turns false α) i ∙ turns-size false α
  where
    sides-length : (ts : List Bool) (i : ℕ) → length (in_side ts i) ≡ length ts
    sides-length [] i = refl
    sides-length (false ∷ ts) i = ap suc (sides-length ts (i + 2))
    sides-length (true ∷ ts) i = ap suc (sides-length ts (i + 2))

-- the values that bits give to binders
abbrev pub val : ℕ → Bits → Bound → Val
val n β b = build b.type (lines n β b.side)

abbrev pub vals : ℕ → Bits → List Bound → List Val
vals n β env = map (val n β) env

-- the bits run what was made
pub record HeardRuns (law : Law) (n : ℕ) (ρ : Seen) (β : Bits) (ks : List ℕ) (m : Made) : Type 0 where
  pub works : All (Works law n β) m.elements
  pub joined : All (Joined n β) m.wires
  pub seen : PartsSeen n ρ β ks m.elements

module _ (law : Law) (n : ℕ) (ρ : Seen) (β : Bits) where
  -- a binder's two interfaces
  in_out_lem : (α : Ty) (i : ℕ) → All (Works law n β) (points (turns false α) i) → build α (lines n β (in_side (turns false α) i)) ≡ val n β (binder α i)
  in_out_lem α i a = ap (build α) (points-lines law n β (turns false α) i a)

  -- the first and the second of two subterms
  module _ (ks ls : List ℕ) (x y : Made) (k : CountedBelow ks x.elements) (a : All (Works law n β) (x.elements ++ y.elements)) (b : All (Joined n β) (x.wires ++ y.wires))
      (c : PartsSeen n ρ β (ks ++ ls) (x.elements ++ y.elements)) where
    runs-first : HeardRuns law n ρ β ks x
    runs-first = record {
      works = all_left (Works law n β) x.elements y.elements a;
      joined = all_left (Joined n β) x.wires y.wires b;
      seen = seen-left n ρ β ks ls x.elements y.elements k c;
    }

    runs-second : HeardRuns law n ρ β ls y
    runs-second = record {
      works = all_right (Works law n β) x.elements y.elements a;
      joined = all_right (Joined n β) x.wires y.wires b;
      seen = seen-right n ρ β ks ls x.elements y.elements k c;
    }

  -- a binder's body
  inner : (ks : List ℕ) (α : Ty) (i : ℕ) (m : Made) → All (Works law n β) (points (turns false α) i ++ m.elements) → All (Joined n β) m.wires
      → PartsSeen n ρ β ks (points (turns false α) i ++ m.elements) → HeardRuns law n ρ β ks m
  inner ks α i m a b c = record {
    works = all_right (Works law n β) (points (turns false α) i) m.elements a;
    joined = b;
    seen = seen-right n ρ β [] ks (points (turns false α) i) m.elements (counted-points (turns false α) i) c;
  }

  module _ (Θ : Table) where
    var-heard : (env : List Bound) (k : ℕ) (τ : Ty) → (get_or env k unbound).type ≡ τ → build τ (lines n β (get_or env k unbound).side) ≡ get_or (vals n β env) k dark
    var-heard env k τ e = ap (λ (σ : Ty). build σ (lines n β (get_or env k unbound).side)) (sym e) ∙ sym (get_or-map (val n β) env k unbound)

    -- a function, of either sort
    fun-heard : (e : Marked) (ε : List Val) (α σ : Ty) (i : ℕ) (m : Made) → (HeardRuns law n ρ β (marks e) m → Means law Θ n ρ e (val n β (binder α i) ∷ ε) (build σ (lines n β m.side)))
        → All (Works law n β) (points (turns false α) i ++ m.elements) → All (Joined n β) m.wires → PartsSeen n ρ β (marks e) (points (turns false α) i ++ m.elements)
        → Shaped n α (build α (take (size α) (lines n β (in_side (turns false α) i ++ m.side))))
        × Means law Θ n ρ e (build α (take (size α) (lines n β (in_side (turns false α) i ++ m.side))) ∷ ε) (build σ (drop (size α) (lines n β (in_side (turns false α) i ++ m.side))))
    fun-heard e ε α σ i m h w j k =
        let s = in_side (turns false α) i in
        let p : build α (take (size α) (lines n β (s ++ m.side))) ≡ build α (lines n β s) = front n β α s m.side (in_length α i) in
        let q : build σ (drop (size α) (lines n β (s ++ m.side))) ≡ build σ (lines n β m.side) = behind n β α s m.side (in_length α i) σ in
        let r : build α (lines n β s) ≡ val n β (binder α i) = in_out_lem α i (all_left (Works law n β) (points (turns false α) i) m.elements w) in (
          subst (λ (x : Val). Shaped n α x) (sym p) (build_shaped n α (lines n β s) (lines_cut n β s)),
          subst (λ (x : Val). Means law Θ n ρ e (x ∷ ε) (build σ (drop (size α) (lines n β (s ++ m.side))))) (sym (p ∙ r))
              (subst (λ (x : Val). Means law Θ n ρ e (val n β (binder α i) ∷ ε) x) (sym q) (h (inner (marks e) α i m w j k))),
        )

    -- an application, of either sort
    app-heard : (f a : Marked) (ε : List Val) (α σ : Ty) (x y : Made) → left_of x.type ≡ α → dirs x.side ≡ turns true α ++ turns false σ → dirs y.side ≡ turns false α → CountedBelow (marks f) x.elements
        → (HeardRuns law n ρ β (marks f) x → Means law Θ n ρ f ε (node (build α (take (size α) (lines n β x.side))) (build σ (drop (size α) (lines n β x.side)))))
        → (HeardRuns law n ρ β (marks a) y → Means law Θ n ρ a ε (build α (lines n β y.side))) → HeardRuns law n ρ β (marks f ++ marks a) (made_app x y)
        → (u : Val) × Means law Θ n ρ f ε (node u (build σ (lines n β (made_app x y).side))) × Means law Θ n ρ a ε u
    app-heard f a ε α σ x y el dx dy k mf ma r =
        let ws = join y.side (take (size (left_of x.type)) x.side) in
        let b = all_left (Joined n β) (x.wires ++ y.wires) ws r.joined in
        let j : All (Joined n β) (join y.side (take (size α) x.side)) = rw el at (all_right (Joined n β) (x.wires ++ y.wires) ws r.joined) in
        let d = opposite α y.side (take (size α) x.side) dy (dirs-left true α (turns false σ) x.side dx) in
        let p : build α (take (size α) (lines n β x.side)) ≡ build α (lines n β y.side) = ap (build α) (sym (lines-take n β (size α) x.side) ∙ sym (join-lines n β y.side (take (size α) x.side) d j)) in
        let q : build σ (drop (size α) (lines n β x.side)) ≡ build σ (lines n β (drop (size (left_of x.type)) x.side)) = rw el (ap (build σ) (sym (lines-drop n β (size α) x.side))) in (
          build α (lines n β y.side),
          subst (λ (z : Val). Means law Θ n ρ f ε z) (ap₂ node p q) (mf (runs-first (marks f) (marks a) x y k r.works b r.seen)),
          ma (runs-second (marks f) (marks a) x y k r.works b r.seen),
        )

    pair-heard : (a b : Marked) (ε : List Val) (θ₁ θ₂ : Ty) (x y : Made) → length x.side ≡ size θ₁ → CountedBelow (marks a) x.elements
        → (HeardRuns law n ρ β (marks a) x → Means law Θ n ρ a ε (build θ₁ (lines n β x.side))) → (HeardRuns law n ρ β (marks b) y → Means law Θ n ρ b ε (build θ₂ (lines n β y.side)))
        → All (Works law n β) (x.elements ++ y.elements) → All (Joined n β) (x.wires ++ y.wires) → PartsSeen n ρ β (marks a ++ marks b) (x.elements ++ y.elements)
        → Means law Θ n ρ a ε (build θ₁ (take (size θ₁) (lines n β (x.side ++ y.side)))) × Means law Θ n ρ b ε (build θ₂ (drop (size θ₁) (lines n β (x.side ++ y.side))))
    pair-heard a b ε θ₁ θ₂ x y l k ma mb w j s = (
      subst (λ (w : Val). Means law Θ n ρ a ε w) (sym (front n β θ₁ x.side y.side l)) (ma (runs-first (marks a) (marks b) x y k w j s)),
      subst (λ (w : Val). Means law Θ n ρ b ε w) (sym (behind n β θ₁ x.side y.side l θ₂)) (mb (runs-second (marks a) (marks b) x y k w j s)),
    )

    proj-heard : (a e : Marked) (ε : List Val) (θ₁ θ₂ : Ty) (v : Val) (x y : Made) → x.type ≡ prod θ₁ θ₂ → CountedBelow (marks a) x.elements
        → (HeardRuns law n ρ β (marks a) x → Means law Θ n ρ a ε (node (build θ₁ (take (size θ₁) (lines n β x.side))) (build θ₂ (drop (size θ₁) (lines n β x.side)))))
        → (HeardRuns law n ρ β (marks e) y → Means law Θ n ρ e (val n β (second_half x) ∷ val n β (first_half x) ∷ ε) v)
        → All (Works law n β) (x.elements ++ y.elements) → All (Joined n β) (x.wires ++ y.wires) → PartsSeen n ρ β (marks a ++ marks e) (x.elements ++ y.elements)
        → (u w : Val) × Means law Θ n ρ a ε (node u w) × Means law Θ n ρ e (w ∷ u ∷ ε) v
    proj-heard a e ε θ₁ θ₂ v x y t k ma me w j s =
        let p : build θ₁ (take (size θ₁) (lines n β x.side)) ≡ val n β (first_half x) = rw t (ap (build θ₁) (sym (lines-take n β (size θ₁) x.side))) in
        let q : build θ₂ (drop (size θ₁) (lines n β x.side)) ≡ val n β (second_half x) = rw t (ap (build θ₂) (sym (lines-drop n β (size θ₁) x.side))) in (
          val n β (first_half x),
          val n β (second_half x),
          subst (λ (w : Val). Means law Θ n ρ a ε w) (ap₂ node p q) (ma (runs-first (marks a) (marks e) x y k w j s)),
          me (runs-second (marks a) (marks e) x y k w j s),
        )

    fix-heard : (e : Marked) (ε : List Val) (θ : Ty) (i : ℕ) (m : Made) → dirs m.side ≡ turns false θ → (HeardRuns law n ρ β (marks e) m → Means law Θ n ρ e (val n β (binder θ i) ∷ ε) (build θ (lines n β m.side)))
        → HeardRuns law n ρ β (marks e) (made_fix θ i m)
        → Shaped n θ (build θ (lines n β m.side)) × Means law Θ n ρ e (build θ (lines n β m.side) ∷ ε) (build θ (lines n β m.side))
    fix-heard e ε θ i m d h r =
        let s = in_side (turns false θ) i in
        let w : build θ (lines n β m.side) ≡ val n β (binder θ i) =
        ap (build θ) (join-lines n β m.side s (dirs_in (turns false θ) i ∙ ap (map not) (sym d)) (all_right (Joined n β) m.wires (join m.side s) r.joined))
        ∙ in_out_lem θ i (all_left (Works law n β) (points (turns false θ) i) m.elements r.works) in (
          build_shaped n θ (lines n β m.side) (lines_cut n β m.side),
          subst (λ (u : Val). Means law Θ n ρ e (u ∷ ε) (build θ (lines n β m.side))) (sym w) (h (inner (marks e) θ i m r.works (all_left (Joined n β) m.wires (join m.side s) r.joined) r.seen)),
        )

    pub hear : {Γ : Ctx} {τ : Ty} (e : Marked) → Typed first Θ Γ (plain e) τ → (env : List Bound) → Env Γ env → (i : ℕ) → HeardRuns law n ρ β (marks e) (make Θ (plain e) env i)
        → Means law Θ n ρ e (vals n β env) (build τ (lines n β (make Θ (plain e) env i).side))
    hear {τ = τ} (mvar k) (Var x) env v i = λ r. var-heard env k τ (term_driven {E = first} {Θ = Θ} (Var x) env v i).type
    hear {τ = τ} (mlvar k) (LVar x) env v i = λ r. var-heard env k τ (term_driven {E = first} {Θ = Θ} (LVar x) env v i).type
    hear (mfun t e) (→I {θ = θ} {τ = σ} q s d) env v i =
        rw q λ r.
        fun-heard e (vals n β env) θ σ i (make Θ (plain e) (binder θ i ∷ env) (i + 2 * size θ)) (hear e d (binder θ i ∷ env) (env_many s (binder-fits θ i) v) (i + 2 * size θ)) r.works r.joined r.seen
    hear (mapp f a) (→E {θ = θ} {τ = σ} z s d c) env v i =
        let (v₁, v₂) = split_env z v in
        let x = make Θ (plain f) env i in
        let dx = term_driven d env v₁ i in
        app-heard f a (vals n β env) θ σ x (make Θ (plain a) env x.next) (ap left_of dx.type) dx.dirs (term_driven c env v₂ x.next).dirs (counted Θ f env i) (hear f d env v₁ i) (hear a c env v₂ x.next)
    hear (mlfun t e) (⊸I {κ = κ} {τ = σ} q s d) env v i =
        rw q λ r.
        fun-heard e (vals n β env) κ σ i (make Θ (plain e) (binder κ i ∷ env) (i + 2 * size κ)) (hear e d (binder κ i ∷ env) (env_once (binder-fits κ i) v) (i + 2 * size κ)) r.works r.joined r.seen
    hear (mlapp f a) (⊸E {κ = κ} {τ = σ} z s d c) env v i =
        let (v₁, v₂) = split_env z v in
        let x = make Θ (plain f) env i in
        let dx = term_driven d env v₁ i in
        app-heard f a (vals n β env) κ σ x (make Θ (plain a) env x.next) (ap left_of dx.type) dx.dirs (term_driven c env v₂ x.next).dirs (counted Θ f env i) (hear f d env v₁ i) (hear a c env v₂ x.next)
    hear (mpair t a b) (×I {θ₁ = θ₁} {θ₂ = θ₂} z q s₁ s₂ d c) env v i = λ r.
        let (v₁, v₂) = split_env z v in
        let x = make Θ (plain a) env i in
        pair-heard a b (vals n β env) θ₁ θ₂ x (make Θ (plain b) env x.next) (side_length θ₁ false x.side (term_driven d env v₁ i).dirs) (counted Θ a env i) (hear a d env v₁ i) (hear b c env v₂ x.next) r.works r.joined r.seen
    hear (mproj a e) (×E {θ₁ = θ₁} {θ₂ = θ₂} {τ = σ} z s₁ s₂ d c) env v i = λ r.
        let (v₁, v₂) = split_env z v in
        let x = make Θ (plain a) env i in
        let dx = term_driven d env v₁ i in
        let (h₁, h₂) = halves θ₁ θ₂ x dx.type dx.dirs in
        let y = make Θ (plain e) (second_half x ∷ first_half x ∷ env) x.next in
        proj-heard a e (vals n β env) θ₁ θ₂ (build σ (lines n β y.side)) x y dx.type (counted Θ a env i) (hear a d env v₁ i)
        (hear e c (second_half x ∷ first_half x ∷ env) (env_many s₂ h₂ (env_many s₁ h₁ v₂)) x.next) r.works r.joined r.seen
    hear (mfix t e) (Fix {θ = θ} q s d) env v i =
        rw q (
        let v' = env_many s (binder-fits θ i) v in
        fix-heard e (vals n β env) θ i (make Θ (plain e) (binder θ i ∷ env) (i + 2 * size θ)) (term_driven d (binder θ i ∷ env) v' (i + 2 * size θ)).dirs (hear e d (binder θ i ∷ env) v' (i + 2 * size θ)))
    hear (mcon p t k) (Con l q z) env v i = λ r. (β, i, r.works.0, r.seen.0, refl)
