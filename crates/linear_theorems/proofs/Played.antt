-- A value that the term can have is shown by a possible record of the made netlist. By induction on the derivation. Assumes nothing.
use Prim.Native.Nat.{ℕ, ◌+◌, ◌*◌, ◌≤◌}
use mathlib.Core.Path.{◌≡◌, refl, sym, ap, ap₂, subst, ◌∙◌}
use mathlib.Core.Bool.{Bool, true, false}
use mathlib.Core.List.{List, [], ◌∷◌, ◌++◌}
use native.Mathlib.Omega.{arith}
use lib.Dec.{T}
use lib.ListN.{get_or, take, drop, get_or-map}
use Rattle.calculus.specs.Types.{Ty, prod, arrow, lolli, size, sharable, Table, tree}
use Rattle.calculus.specs.Terms.{first, part_at}
use Rattle.calculus.specs.Rules.{Ctx, many, once, Split, Typed, Var, LVar, →I, →E, ⊸I, ⊸E, ×I, ×E, Fix, Con}
use Rattle.calculus.specs.Net.{turns, Element, point, part, points, in_side, out_side, join, Bound, unbound, Made, left_of, binder, first_half, second_half, made_var, made_fun, made_app, made_pair, made_proj, made_fix, made_con, make}
use Rattle.calculus.specs.Record.{Stream, Bits, Law, All, Works, Joined}
use Rattle.circuit_theorems.proofs.Drivers.{turns-size, dirs-left, split_env, binder-fits, halves, term_driven}
use Rattle.circuit_theorems.specs.Scope.{dirs, Env, env_many, env_once}
use Rattle.circuit_theorems.proofs.Lists.{all_append, all_take, all_drop}
use Rattle.circuit_theorems.proofs.Outputs.{next_le}
use Rattle.linear_theorems.specs.Marked.{Marked, mvar, mlvar, mfun, mapp, mlfun, mlapp, mpair, mproj, mfix, mcon, plain, marks, Seen, PartsSeen}
use Rattle.linear_theorems.proofs.Meaning.{lines, Val, leaf, node, dark, Shaped, build, Means}
use Rattle.linear_theorems.proofs.Lines.{lines-take, lines-drop, lines-length, side_length, flat, flat-cut, flat-length, build-flat, build_inj, node-left, node-right, points_work, join_works}
use Rattle.linear_theorems.proofs.Heard.{val, vals, HeardRuns, front, behind, in_length}
use Rattle.linear_theorems.proofs.Below.{part-lines, part_moved, LowEnv, env_up, low_in, low_out, Lows, lows, Agree, lines_keep, vals-keep, runs-keep, lay, lay-below, lay_in_lem, lay_out, seat, seat-below, seat-at}

-- ---- marks

module _ (n : ℕ) (ρ : Seen) (β : Bits) where
  seen-append : (ks ls : List ℕ) (es fs : List Element) → PartsSeen n ρ β ks es → PartsSeen n ρ β ls fs → PartsSeen n ρ β (ks ++ ls) (es ++ fs)
  seen-append ks ls [] fs a b = subst (λ (r : List ℕ). PartsSeen n ρ β (r ++ ls) fs) (sym a) b
  seen-append ks ls (point i ∷ es) fs a b = seen-append ks ls es fs a b
  seen-append [] ls (part p i ∷ es) fs a b = absurd a
  seen-append (k ∷ ks) ls (part p i ∷ es) fs a b = (a.0, seen-append ks ls es fs a.1 b)

  seen-points : (ts : List Bool) (i : ℕ) → PartsSeen n ρ β [] (points ts i)
  seen-points [] i = refl
  seen-points (t ∷ ts) i = seen-points ts (i + 2)

-- bits that are β below terminal i, run what was made from there on, and show the value v
pub record Played (law : Law) (n : ℕ) (ρ : Seen) (i : ℕ) (β : Bits) (ks : List ℕ) (m : Made) (τ : Ty) (v : Val) : Type 0 where
  pub bits : Bits
  pub agree : Agree i bits β
  pub runs : HeardRuns law n ρ bits ks m
  pub value : v ≡ build τ (lines n bits m.side)

-- ---- a binder's points carry the value u laid onto them, whatever is set above them

module _ (n : ℕ) (α : Ty) (u : Val) (i : ℕ) (β β' : Bits) (h : Shaped n α u) (g : Agree (i + 2 * size α) β' (lay (flat u) i β)) where
  laid_in : lines n β' (in_side (turns false α) i) ≡ flat u
  laid_in =
      lines_keep (i + 2 * size α) β' (lay (flat u) i β) g n (in_side (turns false α) i) (low_in (i + 2 * size α) (turns false α) i (let q = turns-size false α in omega arith))
      ∙ lay_in_lem n (turns false α) (flat u) i β (flat-length n α u h ∙ sym (turns-size false α)) (flat-cut n α u h)

  laid_out : lines n β' (out_side (turns false α) i) ≡ flat u
  laid_out =
      lines_keep (i + 2 * size α) β' (lay (flat u) i β) g n (out_side (turns false α) i) (low_out (i + 2 * size α) (turns false α) i (let q = turns-size false α in omega arith))
      ∙ lay_out n (turns false α) (flat u) i β (flat-length n α u h ∙ sym (turns-size false α)) (flat-cut n α u h)

  laid-points : (law : Law) → All (Works law n β') (points (turns false α) i)
  laid-points law = points_work law n β' (turns false α) i (laid_in ∙ sym laid_out)

  laid-agree : Agree i β' β
  laid-agree x l = g x (omega arith) ∙ lay-below (flat u) i β x l

-- the binders' values inside
laid-vals : (n : ℕ) (α : Ty) (u : Val) (i : ℕ) (β : Bits) (env : List Bound) → Shaped n α u → LowEnv i env → vals n (lay (flat u) i β) (binder α i ∷ env) ≡ u ∷ vals n β env
laid-vals n α u i β env h a =
    ap₂ ◌∷◌ (ap (build α) (laid_out n α u i β (lay (flat u) i β) h (λ x l. refl)) ∙ build-flat n α u h) (vals-keep i (lay (flat u) i β) β (lay-below (flat u) i β) n env a)

laid_env : (α : Ty) (i : ℕ) (env : List Bound) → LowEnv i env → LowEnv (i + 2 * size α) (binder α i ∷ env)
laid_env α i env a = (low_out (i + 2 * size α) (turns false α) i (let q = turns-size false α in omega arith), env_up i (i + 2 * size α) (omega arith) env a)

module _ (law : Law) (n : ℕ) (ρ : Seen) where
  -- the points of a binder, and its body
  bound-runs : (ks : List ℕ) (α : Ty) (u : Val) (i : ℕ) (β β' : Bits) (m : Made) → Shaped n α u → Agree (i + 2 * size α) β' (lay (flat u) i β) → HeardRuns law n ρ β' ks m
      → All (Works law n β') (points (turns false α) i ++ m.elements) × PartsSeen n ρ β' ks (points (turns false α) i ++ m.elements)
  bound-runs ks α u i β β' m h g r = (
    all_append (Works law n β') (points (turns false α) i) m.elements (laid-points n α u i β β' h g law) r.works,
    seen-append n ρ β' [] ks (points (turns false α) i) m.elements (seen-points n ρ β' (turns false α) i) r.seen,
  )

  -- a function of the type φ, of either sort
  fun-played : (φ α σ : Ty) (ks : List ℕ) (i : ℕ) (β : Bits) (m : Made) (u w : Val) → left_of φ ≡ α → ((ws : List Stream) → build φ ws ≡ node (build α (take (size α) ws)) (build σ (drop (size α) ws)))
      → Shaped n α u → Played law n ρ (i + 2 * size α) (lay (flat u) i β) ks m σ w → Played law n ρ i β ks (made_fun φ i m) φ (node u w)
  fun-played φ α σ ks i β m u w el eb h p = rw el (
      let β' = p.bits in
      let s = in_side (turns false α) i in
      let l = in_length α i in
      let b = bound-runs ks α u i β β' m h p.agree p.runs in
      record {
        bits = β';
        agree = laid-agree n α u i β β' h p.agree;
        runs = record { works = b.0; joined = p.runs.joined; seen = b.1 };
        value = ap₂ node (sym (front n β' α s m.side l ∙ ap (build α) (laid_in n α u i β β' h p.agree) ∙ build-flat n α u h)) (p.value ∙ sym (behind n β' α s m.side l σ)) ∙ sym (eb (lines n β' (s ++ m.side)));
      })

  fix-played : (θ : Ty) (ks : List ℕ) (i : ℕ) (β : Bits) (m : Made) (v : Val) → dirs m.side ≡ turns false θ → Shaped n θ v → Played law n ρ (i + 2 * size θ) (lay (flat v) i β) ks m θ v
      → Played law n ρ i β ks (made_fix θ i m) θ v
  fix-played θ ks i β m v d h p =
      let β' = p.bits in
      let s = in_side (turns false θ) i in
      let b = bound-runs ks θ v i β β' m h p.agree p.runs in
      let w : lines n β' m.side ≡ lines n β' s =
      build_inj θ (lines n β' m.side) (lines n β' s) (lines-length n β' m.side ∙ side_length θ false m.side d) (lines-length n β' s ∙ in_length θ i)
      (sym p.value ∙ sym (ap (build θ) (laid_in n θ v i β β' h p.agree) ∙ build-flat n θ v h)) in
      record {
        bits = β';
        agree = laid-agree n θ v i β β' h p.agree;
        runs = record { works = b.0; joined = all_append (Joined n β') m.wires (join m.side s) p.runs.joined (join_works n β' m.side s w); seen = b.1 };
        value = p.value;
      }

  -- two subterms: the second's bits run the first as well
  module _ (ks ls : List ℕ) (i : ℕ) (β : Bits) (x y : Made) (on : i ≤ x.next) (l : Lows x) {α σ : Ty} {u v : Val} (p : Played law n ρ i β ks x α u) (q : Played law n ρ x.next p.bits ls y σ v) where
    first_runs : HeardRuns law n ρ q.bits ks x
    first_runs = runs-keep law n ρ ks x q.bits p.bits q.agree l p.runs

    both-agree : Agree i q.bits β
    both-agree z h = q.agree z (omega arith) ∙ p.agree z h

    both-work : All (Works law n q.bits) (x.elements ++ y.elements)
    both-work = all_append (Works law n q.bits) x.elements y.elements first_runs.works q.runs.works

    both-joined : All (Joined n q.bits) (x.wires ++ y.wires)
    both-joined = all_append (Joined n q.bits) x.wires y.wires first_runs.joined q.runs.joined

    both-seen : PartsSeen n ρ q.bits (ks ++ ls) (x.elements ++ y.elements)
    both-seen = seen-append n ρ q.bits ks ls x.elements y.elements first_runs.seen q.runs.seen

    first-side : lines n q.bits x.side ≡ lines n p.bits x.side
    first-side = lines_keep x.next q.bits p.bits q.agree n x.side l.side

  -- what is made second is played over the bits that the first has set
  abbrev After : ℕ → Bits → List ℕ → Made → Ty → Val → List ℕ → Made → Ty → Val → Type 0
  After i β ks x α u ls y σ v = (p : Played law n ρ i β ks x α u) → Played law n ρ x.next p.bits ls y σ v

  -- an application, of a function of the type φ, of either sort
  app-played : (φ α σ : Ty) (i : ℕ) (β : Bits) (ks ls : List ℕ) (x y : Made) (u v : Val) → left_of x.type ≡ α → ((ws : List Stream) → build φ ws ≡ node (build α (take (size α) ws)) (build σ (drop (size α) ws)))
      → dirs x.side ≡ turns true α ++ turns false σ → dirs y.side ≡ turns false α → i ≤ x.next → Lows x
      → Played law n ρ i β ks x φ (node u v) → After i β ks x φ (node u v) ls y α u → Played law n ρ i β (ks ++ ls) (made_app x y) σ v
  app-played φ α σ i β ks ls x y u v el eb dx dy on l p next =
      let q = next p in
      let β' = q.bits in
      let f = take (size α) x.side in
      let e : node u v ≡ node (build α (take (size α) (lines n p.bits x.side))) (build σ (drop (size α) (lines n p.bits x.side))) = p.value ∙ eb (lines n p.bits x.side) in
      let s : lines n β' x.side ≡ lines n p.bits x.side = first-side ks ls i β x y on l p q in
      let w : lines n β' y.side ≡ lines n β' f =
      build_inj α (lines n β' y.side) (lines n β' f) (lines-length n β' y.side ∙ side_length α false y.side dy) (lines-length n β' f ∙ side_length α true f (dirs-left true α (turns false σ) x.side dx))
      (sym q.value ∙ node-left e ∙ ap (λ (z : List Stream). build α (take (size α) z)) (sym s) ∙ ap (build α) (sym (lines-take n β' (size α) x.side))) in
      rw el (record {
        bits = β';
        agree = both-agree ks ls i β x y on l p q;
        runs = record {
          works = both-work ks ls i β x y on l p q;
          joined = all_append (Joined n β') (x.wires ++ y.wires) (join y.side f) (both-joined ks ls i β x y on l p q) (join_works n β' y.side f w);
          seen = both-seen ks ls i β x y on l p q;
        };
        value = node-right e ∙ ap (λ (z : List Stream). build σ (drop (size α) z)) (sym s) ∙ ap (build σ) (sym (lines-drop n β' (size α) x.side));
      })

  pair-played : (φ θ₁ θ₂ : Ty) (i : ℕ) (β : Bits) (ks ls : List ℕ) (x y : Made) (u v : Val) → dirs x.side ≡ turns false θ₁ → i ≤ x.next → Lows x
      → Played law n ρ i β ks x θ₁ u → After i β ks x θ₁ u ls y θ₂ v → Played law n ρ i β (ks ++ ls) (made_pair φ x y) (prod θ₁ θ₂) (node u v)
  pair-played φ θ₁ θ₂ i β ks ls x y u v d on l p next =
      let q = next p in
      let h = side_length θ₁ false x.side d in
      record {
        bits = q.bits;
        agree = both-agree ks ls i β x y on l p q;
        runs = record { works = both-work ks ls i β x y on l p q; joined = both-joined ks ls i β x y on l p q; seen = both-seen ks ls i β x y on l p q };
        value = ap₂ node (p.value ∙ ap (build θ₁) (sym (first-side ks ls i β x y on l p q)) ∙ sym (front n q.bits θ₁ x.side y.side h)) (q.value ∙ sym (behind n q.bits θ₁ x.side y.side h θ₂));
      }

  proj-played : (φ σ : Ty) (i : ℕ) (β : Bits) (ks ls : List ℕ) (x y : Made) (u v : Val) → i ≤ x.next → Lows x
      → Played law n ρ i β ks x φ u → After i β ks x φ u ls y σ v → Played law n ρ i β (ks ++ ls) (made_proj x y) σ v
  proj-played φ σ i β ks ls x y u v on l p next =
      let q = next p in
      record {
        bits = q.bits;
        agree = both-agree ks ls i β x y on l p q;
        runs = record { works = both-work ks ls i β x y on l p q; joined = both-joined ks ls i β x y on l p q; seen = both-seen ks ls i β x y on l p q };
        value = q.value;
      }

  -- the binders' values in a projection's body
  halves-vals : (θ₁ θ₂ : Ty) (β : Bits) (x : Made) (env : List Bound) (ε : List Val) (u w : Val) → x.type ≡ prod θ₁ θ₂
      → node u w ≡ node (build θ₁ (take (size θ₁) (lines n β x.side))) (build θ₂ (drop (size θ₁) (lines n β x.side))) → vals n β env ≡ ε
      → vals n β (second_half x ∷ first_half x ∷ env) ≡ w ∷ u ∷ ε
  halves-vals θ₁ θ₂ β x env ε u w t e g =
      let a : val n β (first_half x) ≡ u = rw t (ap (build θ₁) (lines-take n β (size θ₁) x.side) ∙ sym (node-left e)) in
      let b : val n β (second_half x) ≡ w = rw t (ap (build θ₂) (lines-drop n β (size θ₁) x.side) ∙ sym (node-right e)) in
      ap₂ ◌∷◌ b (ap₂ ◌∷◌ a g)

  halves-low : (i : ℕ) (x : Made) (env : List Bound) → i ≤ x.next → Lows x → LowEnv i env → LowEnv x.next (second_half x ∷ first_half x ∷ env)
  halves-low i x env on l a =
      let k = size (left_of x.type) in
      (all_drop _ k x.side l.side, (all_take _ k x.side l.side, env_up i x.next on env a))

  var-played : (i : ℕ) (β : Bits) (env : List Bound) (k : ℕ) (τ : Ty) (v : Val) → (get_or env k unbound).type ≡ τ → v ≡ get_or (vals n β env) k dark → Played law n ρ i β [] (made_var (get_or env k unbound) i) τ v
  var-played i β env k τ v e m = record {
    bits = β;
    agree = λ z h. refl;
    runs = record { works = tt; joined = tt; seen = refl };
    value = m ∙ get_or-map (val n β) env k unbound ∙ ap (λ (σ : Ty). build σ (lines n β (get_or env k unbound).side)) e;
  }

  module _ (Θ : Table) where
    -- a subterm's meaning, over the bits set so far
    moved : (e : Marked) (i : ℕ) (β β' : Bits) (env : List Bound) (v : Val) → LowEnv i env → Agree i β' β → Means law Θ n ρ e (vals n β env) v → Means law Θ n ρ e (vals n β' env) v
    moved e i β β' env v a g m = subst (λ (ε : List Val). Means law Θ n ρ e ε v) (sym (vals-keep i β' β g n env a)) m

    -- a binder's body, over the value laid onto the binder's points
    inside : (e : Marked) (α : Ty) (u : Val) (i : ℕ) (β : Bits) (env : List Bound) (v : Val) → LowEnv i env → Shaped n α u → Means law Θ n ρ e (u ∷ vals n β env) v
        → Means law Θ n ρ e (vals n (lay (flat u) i β) (binder α i ∷ env)) v
    inside e α u i β env v a h m = subst (λ (ε : List Val). Means law Θ n ρ e ε v) (sym (laid-vals n α u i β env h a)) m

    -- a projection's body, over the two halves
    halved : (e : Marked) (θ₁ θ₂ : Ty) (i : ℕ) (β β' : Bits) (x : Made) (env : List Bound) (u w v : Val) → LowEnv i env → Agree i β' β → x.type ≡ prod θ₁ θ₂
        → node u w ≡ node (build θ₁ (take (size θ₁) (lines n β' x.side))) (build θ₂ (drop (size θ₁) (lines n β' x.side))) → Means law Θ n ρ e (w ∷ u ∷ vals n β env) v
        → Means law Θ n ρ e (vals n β' (second_half x ∷ first_half x ∷ env)) v
    halved e θ₁ θ₂ i β β' x env u w v a g t q m =
        subst (λ (ε : List Val). Means law Θ n ρ e ε v) (sym (halves-vals θ₁ θ₂ β' x env (vals n β env) u w t q (vals-keep i β' β g n env a))) m

    fun-step : (e : Marked) (env : List Bound) (φ α σ : Ty) (i : ℕ) (β : Bits) (m : Made) (u w : Val) → left_of φ ≡ α → ((ws : List Stream) → build φ ws ≡ node (build α (take (size α) ws)) (build σ (drop (size α) ws))) → LowEnv i env
        → (Means law Θ n ρ e (vals n (lay (flat u) i β) (binder α i ∷ env)) w → Played law n ρ (i + 2 * size α) (lay (flat u) i β) (marks e) m σ w)
        → Shaped n α u × Means law Θ n ρ e (u ∷ vals n β env) w → Played law n ρ i β (marks e) (made_fun φ i m) φ (node u w)
    fun-step e env φ α σ i β m u w el eb a go (h, g) = fun-played φ α σ (marks e) i β m u w el eb h (go (inside e α u i β env w a h g))

    fix-step : (e : Marked) (env : List Bound) (θ : Ty) (i : ℕ) (β : Bits) (m : Made) (v : Val) → dirs m.side ≡ turns false θ → LowEnv i env
        → (Means law Θ n ρ e (vals n (lay (flat v) i β) (binder θ i ∷ env)) v → Played law n ρ (i + 2 * size θ) (lay (flat v) i β) (marks e) m θ v)
        → Shaped n θ v × Means law Θ n ρ e (v ∷ vals n β env) v → Played law n ρ i β (marks e) (made_fix θ i m) θ v
    fix-step e env θ i β m v d a go (h, g) = fix-played θ (marks e) i β m v d h (go (inside e θ v i β env v a h g))

    app-step : (f b : Marked) (env : List Bound) (φ α σ : Ty) (i : ℕ) (β : Bits) (x y : Made) (v : Val) → left_of x.type ≡ α → ((ws : List Stream) → build φ ws ≡ node (build α (take (size α) ws)) (build σ (drop (size α) ws)))
        → dirs x.side ≡ turns true α ++ turns false σ → dirs y.side ≡ turns false α → i ≤ x.next → Lows x → LowEnv i env
        → ((u : Val) → Means law Θ n ρ f (vals n β env) (node u v) → Played law n ρ i β (marks f) x φ (node u v))
        → ((β' : Bits) (u : Val) → Means law Θ n ρ b (vals n β' env) u → Played law n ρ x.next β' (marks b) y α u)
        → (u : Val) × Means law Θ n ρ f (vals n β env) (node u v) × Means law Θ n ρ b (vals n β env) u → Played law n ρ i β (marks f ++ marks b) (made_app x y) σ v
    app-step f b env φ α σ i β x y v el eb dx dy on l a pf pb (u, mf, mb) =
        app-played φ α σ i β (marks f) (marks b) x y u v el eb dx dy on l (pf u mf) (λ p. pb p.bits u (moved b i β p.bits env u a p.agree mb))

    pair_step : (f b : Marked) (env : List Bound) (φ θ₁ θ₂ : Ty) (i : ℕ) (β : Bits) (x y : Made) (u v : Val) → dirs x.side ≡ turns false θ₁ → i ≤ x.next → Lows x → LowEnv i env
        → (Means law Θ n ρ f (vals n β env) u → Played law n ρ i β (marks f) x θ₁ u) → ((β' : Bits) → Means law Θ n ρ b (vals n β' env) v → Played law n ρ x.next β' (marks b) y θ₂ v)
        → Means law Θ n ρ f (vals n β env) u × Means law Θ n ρ b (vals n β env) v → Played law n ρ i β (marks f ++ marks b) (made_pair φ x y) (prod θ₁ θ₂) (node u v)
    pair_step f b env φ θ₁ θ₂ i β x y u v d on l a pf pb (mf, mb) =
        pair-played φ θ₁ θ₂ i β (marks f) (marks b) x y u v d on l (pf mf) (λ p. pb p.bits (moved b i β p.bits env v a p.agree mb))

    proj-step : (f b : Marked) (env : List Bound) (θ₁ θ₂ σ : Ty) (i : ℕ) (β : Bits) (x y : Made) (v : Val) → x.type ≡ prod θ₁ θ₂ → i ≤ x.next → Lows x → LowEnv i env
        → ((u w : Val) → Means law Θ n ρ f (vals n β env) (node u w) → Played law n ρ i β (marks f) x (prod θ₁ θ₂) (node u w))
        → ((β' : Bits) → Means law Θ n ρ b (vals n β' (second_half x ∷ first_half x ∷ env)) v → Played law n ρ x.next β' (marks b) y σ v)
        → (u w : Val) × Means law Θ n ρ f (vals n β env) (node u w) × Means law Θ n ρ b (w ∷ u ∷ vals n β env) v → Played law n ρ i β (marks f ++ marks b) (made_proj x y) σ v
    proj-step f b env θ₁ θ₂ σ i β x y v t on l a pf pb (u, w, mf, mb) =
        proj-played (prod θ₁ θ₂) σ i β (marks f) (marks b) x y (node u w) v on l (pf u w mf) (λ p. pb p.bits (halved b θ₁ θ₂ i β p.bits x env u w v a p.agree t p.value mb))

    con-played : (p t k i : ℕ) (β : Bits) (ε : List Val) (v : Val) → Means law Θ n ρ (mcon p t k) ε v → Played law n ρ i β (k ∷ []) (made_con (tree Θ t) p i) ((part_at p).type first) v
    con-played p t k i β ε v (s, j, w, q, e) =
        let β' = seat i s j β in
        record {
          bits = β';
          agree = seat-below i s j β;
          runs = record {
            works = (part_moved law n p i j β' s (λ x h. seat-at i s j β x) w, tt);
            joined = tt;
            seen = ((λ x h t l. q x h t l ∙ ap (λ (f : Stream). f t) (sym (seat-at i s j β x))), refl);
          };
          value = e ∙ ap (build ((part_at p).type first)) (sym (part-lines n (part_at p).inputs i j β' s (λ x h. seat-at i s j β x)));
        }

    -- e can be played, over binders that fit Γ
    abbrev pub Plays : Ctx → Marked → Ty → Type 0
    Plays Γ e τ = (env : List Bound) → Env Γ env → (i : ℕ) → LowEnv i env → (β : Bits) (v : Val) → Means law Θ n ρ e (vals n β env) v
        → Played law n ρ i β (marks e) (make Θ (plain e) env i) τ v

    fun-case : {Γ : Ctx} {θ σ : Ty} (t : ℕ) (e : Marked) → tree Θ t ≡ arrow θ σ → T (sharable θ) → Plays (many θ ∷ Γ) e σ → Plays Γ (mfun t e) (arrow θ σ)
    fun-case t e q s go env o i a β (leaf w) = λ m. absurd m
    fun-case {θ = θ} {σ = σ} t e q s go env o i a β (node u w) =
        rw q (fun-step e env (arrow θ σ) θ σ i β (make Θ (plain e) (binder θ i ∷ env) (i + 2 * size θ)) u w refl (λ ws. refl) a
        (go (binder θ i ∷ env) (env_many s (binder-fits θ i) o) (i + 2 * size θ) (laid_env θ i env a) (lay (flat u) i β) w))

    lfun-case : {Γ : Ctx} {κ σ : Ty} (t : ℕ) (e : Marked) → tree Θ t ≡ lolli κ σ → Plays (once κ ∷ Γ) e σ → Plays Γ (mlfun t e) (lolli κ σ)
    lfun-case t e q go env o i a β (leaf w) = λ m. absurd m
    lfun-case {κ = κ} {σ = σ} t e q go env o i a β (node u w) =
        rw q (fun-step e env (lolli κ σ) κ σ i β (make Θ (plain e) (binder κ i ∷ env) (i + 2 * size κ)) u w refl (λ ws. refl) a
        (go (binder κ i ∷ env) (env_once (binder-fits κ i) o) (i + 2 * size κ) (laid_env κ i env a) (lay (flat u) i β) w))

    fix-case : {Γ : Ctx} {θ : Ty} (t : ℕ) (e : Marked) → tree Θ t ≡ θ → T (sharable θ) → Typed first Θ (many θ ∷ Γ) (plain e) θ → Plays (many θ ∷ Γ) e θ → Plays Γ (mfix t e) θ
    fix-case {θ = θ} t e q s d go env o i a β v =
        rw q (
        let o' = env_many s (binder-fits θ i) o in
        fix-step e env θ i β (make Θ (plain e) (binder θ i ∷ env) (i + 2 * size θ)) v (term_driven d (binder θ i ∷ env) o' (i + 2 * size θ)).dirs a
        (go (binder θ i ∷ env) o' (i + 2 * size θ) (laid_env θ i env a) (lay (flat v) i β) v))

    module _ {Γ Γ₁ Γ₂ : Ctx} (f b : Marked) (z : Split Γ Γ₁ Γ₂) where
      app-case : {θ σ : Ty} → Typed first Θ Γ₁ (plain f) (arrow θ σ) → Typed first Θ Γ₂ (plain b) θ → Plays Γ₁ f (arrow θ σ) → Plays Γ₂ b θ → Plays Γ (mapp f b) σ
      app-case {θ} {σ} d c pf pb env o i a β v =
          let (o₁, o₂) = split_env z o in
          let x = make Θ (plain f) env i in
          let on = next_le Θ (plain f) env i in
          let dx = term_driven d env o₁ i in
          app-step f b env (arrow θ σ) θ σ i β x (make Θ (plain b) env x.next) v (ap left_of dx.type) (λ ws. refl) dx.dirs (term_driven c env o₂ x.next).dirs on (lows Θ (plain f) env i a) a
          (λ u. pf env o₁ i a β (node u v)) (λ β' u. pb env o₂ x.next (env_up i x.next on env a) β' u)

      lapp-case : {κ σ : Ty} → Typed first Θ Γ₁ (plain f) (lolli κ σ) → Typed first Θ Γ₂ (plain b) κ → Plays Γ₁ f (lolli κ σ) → Plays Γ₂ b κ → Plays Γ (mlapp f b) σ
      lapp-case {κ} {σ} d c pf pb env o i a β v =
          let (o₁, o₂) = split_env z o in
          let x = make Θ (plain f) env i in
          let on = next_le Θ (plain f) env i in
          let dx = term_driven d env o₁ i in
          app-step f b env (lolli κ σ) κ σ i β x (make Θ (plain b) env x.next) v (ap left_of dx.type) (λ ws. refl) dx.dirs (term_driven c env o₂ x.next).dirs on (lows Θ (plain f) env i a) a
          (λ u. pf env o₁ i a β (node u v)) (λ β' u. pb env o₂ x.next (env_up i x.next on env a) β' u)

      pair-case : {θ₁ θ₂ : Ty} (t : ℕ) → Typed first Θ Γ₁ (plain f) θ₁ → Plays Γ₁ f θ₁ → Plays Γ₂ b θ₂ → Plays Γ (mpair t f b) (prod θ₁ θ₂)
      pair-case t d pf pb env o i a β (leaf w) = λ m. absurd m
      pair-case {θ₁} {θ₂} t d pf pb env o i a β (node u v) =
          let (o₁, o₂) = split_env z o in
          let x = make Θ (plain f) env i in
          let on = next_le Θ (plain f) env i in
          pair_step f b env (tree Θ t) θ₁ θ₂ i β x (make Θ (plain b) env x.next) u v (term_driven d env o₁ i).dirs on (lows Θ (plain f) env i a) a
          (pf env o₁ i a β u) (λ β'. pb env o₂ x.next (env_up i x.next on env a) β' v)

      proj-case : {θ₁ θ₂ σ : Ty} → T (sharable θ₁) → T (sharable θ₂) → Typed first Θ Γ₁ (plain f) (prod θ₁ θ₂) → Plays Γ₁ f (prod θ₁ θ₂) → Plays (many θ₂ ∷ many θ₁ ∷ Γ₂) b σ → Plays Γ (mproj f b) σ
      proj-case {θ₁} {θ₂} {σ} s₁ s₂ d pf pb env o i a β v =
          let (o₁, o₂) = split_env z o in
          let x = make Θ (plain f) env i in
          let on = next_le Θ (plain f) env i in
          let l = lows Θ (plain f) env i a in
          let dx = term_driven d env o₁ i in
          let (h₁, h₂) = halves θ₁ θ₂ x dx.type dx.dirs in
          proj-step f b env θ₁ θ₂ σ i β x (make Θ (plain b) (second_half x ∷ first_half x ∷ env) x.next) v dx.type on l a
          (λ u w. pf env o₁ i a β (node u w)) (λ β'. pb (second_half x ∷ first_half x ∷ env) (env_many s₂ h₂ (env_many s₁ h₁ o₂)) x.next (halves-low i x env on l a) β' v)

    pub play : {Γ : Ctx} {τ : Ty} (e : Marked) → Typed first Θ Γ (plain e) τ → Plays Γ e τ
    play {τ = τ} (mvar k) (Var x) = λ env o i a β v. var-played i β env k τ v (term_driven {E = first} {Θ = Θ} (Var x) env o i).type
    play {τ = τ} (mlvar k) (LVar x) = λ env o i a β v. var-played i β env k τ v (term_driven {E = first} {Θ = Θ} (LVar x) env o i).type
    play (mfun t e) (→I q s d) = fun-case t e q s (play e d)
    play (mapp f b) (→E z s d c) = app-case f b z d c (play f d) (play b c)
    play (mlfun t e) (⊸I q s d) = lfun-case t e q (play e d)
    play (mlapp f b) (⊸E z s d c) = lapp-case f b z d c (play f d) (play b c)
    play (mpair t f b) (×I z q s₁ s₂ d c) = pair-case f b z t d (play f d) (play b c)
    play (mproj f b) (×E z s₁ s₂ d c) = proj-case f b z s₁ s₂ d (play f d) (play b c)
    play (mfix t e) (Fix q s d) = fix-case t e q s d (play e d)
    play (mcon p t k) (Con h q z) = λ env o i a β v. con-played p t k i β (vals n β env) v
