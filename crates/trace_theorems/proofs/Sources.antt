-- What decides a terminal of a formed netlist, full or lean.
-- Assumes nothing.
use Prim.Native.Nat.{ℕ, zero, suc, ◌+◌, ◌<◌, ◌≤◌}
use mathlib.Core.Path.{◌≡◌, refl, sym, ap, ◌∙◌, subst}
use mathlib.Core.Logic.{◌⊎◌, inl, inr, ⊎_elim}
use mathlib.Core.Bool.{Bool, true, false, cond, ◌||◌}
use mathlib.Core.List.{List, [], ◌∷◌, ◌++◌}
use native.Mathlib.Nat.{le_refl}
use native.Mathlib.Decide.{dec_le}
use native.Mathlib.Omega.{arith}
use lib.Dec.{T, eqb, eqb→eq, eqb_refl}
use Rattle.calculus.specs.Terms.{part_at}
use Rattle.calculus.specs.Net.{Element, point, part, Wire, Net, part_side}
use Rattle.calculus.specs.Lean.{driver, is_pin}
use Rattle.calculus.specs.Record.{All, Among, here, there}
use Rattle.trace_calculus.specs.Trace.{Source, pin, from, made_part as made_by, source_among, source, looks, before, up_from, terminals}
use Rattle.calculus.specs.Inputs.{ins, made_at_lem, targets, is_out, has_wire}
use Rattle.circuit_theorems.specs.Terminals.{has}
use Rattle.circuit_theorems.specs.Formed.{Rising, Formed}
use Rattle.laws.proofs.Tests.{by_eqb, or_elim, or_left, or_right, is_false, T-is}
use Rattle.circuit_theorems.proofs.NetRead.{out_not_made}
use Rattle.circuit_theorems.proofs.Terminals.{each_target, unique, pin_ins, ins_pin}
use Rattle.circuit_theorems.proofs.Wiring.{input-once, target_one}

-- ---- members

pub all_in : {A : Type 0} (F : A → Type 0) (xs : List A) → ((x : A) → Among x xs → F x) → All F xs
all_in F [] f = tt
all_in F (x ∷ xs) f = (f x here, all_in F xs (λ y h. f y (there h)))

pub in_all : {A : Type 0} (F : A → Type 0) {x : A} {xs : List A} → Among x xs → All F xs → F x
in_all F here a = a.0
in_all F (there h) a = in_all F h a.1

-- ---- what decides a terminal

pub data View (es : List Element) (d : Source) (x : ℕ) : Source → Type 0 where
  other : (T (is_out es x) → ⊥) → View es d x d
  of_point : (i : ℕ) → Among (point i) es → i + 1 ≡ x → View es d x (from i)
  of_part : (p i : ℕ) → Among (part p i) es → i + (part_at p).inputs ≡ x → View es d x (made_by p i)

behind : {es : List Element} {d : Source} {x : ℕ} {s : Source} (e : Element) → (T (is_out (e ∷ es) x) → T (is_out es x)) → View es d x s → View (e ∷ es) d x s
behind e f (other h) = other (λ t. h (f t))
behind e f (of_point i h q) = of_point i (there h) q
behind e f (of_part p i h q) = of_part p i (there h) q

pub view : (es : List Element) (d : Source) (x : ℕ) → View es d x (source_among es d x)
view [] d x = other (λ t. t)
view (point i ∷ es) d x =
    by_eqb (λ b. (b ≡ eqb (i + 1) x) → View (point i ∷ es) d x (cond b (from i) (source_among es d x))) (i + 1) x
    (λ e _. of_point i here e)
    (λ n q. behind (point i) (λ t. subst (λ (b : Bool). T (b || is_out es x)) (sym q) t) (view es d x)) refl
view (part p i ∷ es) d x =
    by_eqb (λ b. (b ≡ eqb (i + (part_at p).inputs) x) → View (part p i ∷ es) d x (cond b (made_by p i) (source_among es d x))) (i + (part_at p).inputs) x
    (λ e _. of_part p i here e)
    (λ n q. behind (part p i) (λ t. subst (λ (b : Bool). T (b || is_out es x)) (sym q) t) (view es d x)) refl

pub point_low : {i : ℕ} {es : List Element} (n e : ℕ) → Among (point i) es → Rising es n e → n ≤ i
point_low n e here r = r.0
point_low {es} n e (there {y = point j} h) r = let l = point_low (j + 2) e h r.1 in omega (arith, r.0)
point_low {es} n e (there {y = part p j} h) r = let l = point_low (j + (part_at p).inputs + 1) e h r.1 in omega (arith, r.0)

pub part-from : {p i : ℕ} {es : List Element} (n e : ℕ) → Among (part p i) es → Rising es n e → n ≤ i
part-from n e here r = r.0
part-from {es} n e (there {y = point j} h) r = let l = part-from (j + 2) e h r.1 in omega (arith, r.0)
part-from {es} n e (there {y = part p j} h) r = let l = part-from (j + (part_at p).inputs + 1) e h r.1 in omega (arith, r.0)

-- in a rising list each output is found at its own element
pub point_source : {i : ℕ} {es : List Element} (n e : ℕ) (d : Source) → Among (point i) es → Rising es n e → source_among es d (i + 1) ≡ from i
point_source {i = i} n e d (here {xs = es}) r = by_eqb (λ b. cond b (from i) (source_among es d (i + 1)) ≡ from i) (i + 1) (i + 1) (λ e. refl) (λ f. absurd (f refl))
point_source {i = i} n e d (there {y = point j} {xs = es} h) r =
    by_eqb (λ b. cond b (from j) (source_among es d (i + 1)) ≡ from i) (j + 1) (i + 1) (λ f. absurd (let l = point_low (j + 2) e h r.1 in omega arith)) (λ f. point_source (j + 2) e d h r.1)
point_source {i = i} n e d (there {y = part p j} {xs = es} h) r =
    by_eqb (λ b. cond b (made_by p j) (source_among es d (i + 1)) ≡ from i) (j + (part_at p).inputs) (i + 1) (λ f. absurd (let l = point_low (j + (part_at p).inputs + 1) e h r.1 in omega arith)) (λ f. point_source (j + (part_at p).inputs + 1) e d h r.1)

pub part-source : {p i : ℕ} {es : List Element} (n e : ℕ) (d : Source) → Among (part p i) es → Rising es n e → source_among es d (i + (part_at p).inputs) ≡ made_by p i
part-source {p = p} {i = i} n e d (here {xs = es}) r = by_eqb (λ b. cond b (made_by p i) (source_among es d (i + (part_at p).inputs)) ≡ made_by p i) (i + (part_at p).inputs) (i + (part_at p).inputs) (λ e. refl) (λ f. absurd (f refl))
part-source {p = p} {i = i} n e d (there {y = point j} {xs = es} h) r =
    by_eqb (λ b. cond b (from j) (source_among es d (i + (part_at p).inputs)) ≡ made_by p i) (j + 1) (i + (part_at p).inputs) (λ f. absurd (let l = part-from (j + 2) e h r.1 in omega arith)) (λ f. part-source (j + 2) e d h r.1)
part-source {p = p} {i = i} n e d (there {y = part q j} {xs = es} h) r =
    by_eqb (λ b. cond b (made_by q j) (source_among es d (i + (part_at p).inputs)) ≡ made_by p i) (j + (part_at q).inputs) (i + (part_at p).inputs) (λ f. absurd (let l = part-from (j + (part_at q).inputs + 1) e h r.1 in omega arith)) (λ f. part-source (j + (part_at q).inputs + 1) e d h r.1)

-- ---- an output is no input

pub ins_range : (k i x : ℕ) → 1 ≤ ins (part_side k i) x → (i ≤ x) × (x < i + k)
ins_range zero i x h = absurd (omega arith)
ins_range (suc k) i x h = by_eqb (λ b. 1 ≤ cond b 1 0 + ins (part_side k (i + 1)) x → (i ≤ x) × (x < i + suc k)) i x (λ e _. (omega arith, omega arith)) (λ d l. let r = ins_range k (i + 1) x (omega arith) in (omega arith, omega arith)) h

-- ---- wires

pub wire-has : (ws : List Wire) (x : ℕ) → 1 ≤ targets ws x → T (has_wire ws x)
wire-has [] x h = absurd (omega arith)
wire-has (w ∷ ws) x h = by_eqb (λ b. 1 ≤ cond b 1 0 + targets ws x → T (b || has_wire ws x)) w.to x (λ q l. tt) (λ q l. wire-has ws x (omega arith)) h

pub has-wire : (ws : List Wire) (x : ℕ) → T (has_wire ws x) → 1 ≤ targets ws x
has-wire [] x h = absurd h
has-wire (w ∷ ws) x h = by_eqb (λ b. T (b || has_wire ws x) → 1 ≤ cond b 1 0 + targets ws x) w.to x (λ q l. omega arith) (λ q l. omega (arith, has-wire ws x l)) h

-- the wire that the driver's number comes from
pub the_wire : (ws : List Wire) (x d : ℕ) → T (has_wire ws x) → (w : Wire) × Among w ws × (w.to ≡ x) × (driver ws x d ≡ w.from)
the_wire [] x d h = absurd h
the_wire (w ∷ ws) x d h =
    by_eqb (λ b. T (b || has_wire ws x) → (v : Wire) × Among v (w ∷ ws) × (v.to ≡ x) × (cond b w.from (driver ws x d) ≡ v.from)) w.to x
    (λ e _. (w, here, e, refl))
    (λ _ t. let r = the_wire ws x d t in (r.0, there r.1, r.2, r.3)) h

-- ---- terminals

pub has_left : (xs ys : List ℕ) (x : ℕ) → T (has xs x) → T (has (xs ++ ys) x)
has_left [] ys x h = absurd h
has_left (y ∷ xs) ys x h = or_elim (eqb y x) (has xs x) h (λ t. or_left (eqb y x) (has (xs ++ ys) x) t) (λ t. or_right (eqb y x) (has (xs ++ ys) x) (has_left xs ys x t))

pub has_right : (xs ys : List ℕ) (x : ℕ) → T (has ys x) → T (has (xs ++ ys) x)
has_right [] ys x h = h
has_right (y ∷ xs) ys x h = or_right (eqb y x) (has (xs ++ ys) x) (has_right xs ys x h)

pub has-append : (xs ys : List ℕ) (x : ℕ) → T (has (xs ++ ys) x) → T (has xs x) ⊎ T (has ys x)
has-append [] ys x h = inr h
has-append (y ∷ xs) ys x h = or_elim (eqb y x) (has (xs ++ ys) x) h (λ t. inl (or_left (eqb y x) (has xs x) t)) (λ t. ⊎_elim (λ u. inl (or_right (eqb y x) (has xs x) u)) (λ u. inr u) (has-append xs ys x t))

pub up_has : (k i x : ℕ) → i ≤ x → x < i + k → T (has (up_from k i) x)
up_has zero i x l h = absurd (omega arith)
up_has (suc k) i x l h = by_eqb (λ b. T (b || has (up_from k (i + 1)) x)) i x (λ e. tt) (λ d. up_has k (i + 1) x (omega arith) (omega arith))

pub has_up : (k i x : ℕ) → T (has (up_from k i) x) → (i ≤ x) × (x < i + k)
has_up zero i x t = absurd t
has_up (suc k) i x t = or_elim (eqb i x) (has (up_from k (i + 1)) x) t (λ u. let e = eqb→eq i x u in (omega arith, omega arith)) (λ u. let r = has_up k (i + 1) x u in (omega arith, omega arith))

pub out_of_point : {i : ℕ} {es : List Element} → Among (point i) es → T (is_out es (i + 1))
out_of_point {i = i} (here {xs = es}) = or_left (eqb (i + 1) (i + 1)) (is_out es (i + 1)) (eqb_refl (i + 1))
out_of_point {i = i} (there {y = point j} {xs = es} h) = or_right (eqb (j + 1) (i + 1)) (is_out es (i + 1)) (out_of_point h)
out_of_point {i = i} (there {y = part p j} {xs = es} h) = or_right (eqb (j + (part_at p).inputs) (i + 1)) (is_out es (i + 1)) (out_of_point h)

pub out_of-part : {p i : ℕ} {es : List Element} → Among (part p i) es → T (is_out es (i + (part_at p).inputs))
out_of-part {p = p} {i = i} (here {xs = es}) = or_left (eqb (i + (part_at p).inputs) (i + (part_at p).inputs)) (is_out es (i + (part_at p).inputs)) (eqb_refl (i + (part_at p).inputs))
out_of-part {p = p} {i = i} (there {y = point j} {xs = es} h) = or_right (eqb (j + 1) (i + (part_at p).inputs)) (is_out es (i + (part_at p).inputs)) (out_of-part h)
out_of-part {p = p} {i = i} (there {y = part q j} {xs = es} h) = or_right (eqb (j + (part_at q).inputs) (i + (part_at p).inputs)) (is_out es (i + (part_at p).inputs)) (out_of-part h)

pub point_terminal : {i : ℕ} {es : List Element} → Among (point i) es → T (has (terminals es) i)
point_terminal {i = i} (here {xs = es}) = has_left (up_from 2 i) (terminals es) i (up_has 2 i i (le_refl i) (omega arith))
point_terminal {i = i} (there {y = point j} {xs = es} h) = has_right (up_from 2 j) (terminals es) i (point_terminal h)
point_terminal {i = i} (there {y = part p j} {xs = es} h) = has_right (up_from (suc (part_at p).inputs) j) (terminals es) i (point_terminal h)

pub part_terminal : {p i : ℕ} {es : List Element} (x : ℕ) → Among (part p i) es → i ≤ x → x ≤ i + (part_at p).inputs → T (has (terminals es) x)
part_terminal {p = p} {i = i} x (here {xs = es}) l h = has_left (up_from (suc (part_at p).inputs) i) (terminals es) x (up_has (suc (part_at p).inputs) i x l (omega arith))
part_terminal x (there {y = point j} {xs = es} k) l h = has_right (up_from 2 j) (terminals es) x (part_terminal x k l h)
part_terminal x (there {y = part q j} {xs = es} k) l h = has_right (up_from (suc (part_at q).inputs) j) (terminals es) x (part_terminal x k l h)

pub out_terminal : (es : List Element) (x : ℕ) → T (is_out es x) → T (has (terminals es) x)
out_terminal [] x t = absurd t
out_terminal (point i ∷ es) x t = or_elim (eqb (i + 1) x) (is_out es x) t (λ u. let e = eqb→eq (i + 1) x u in has_left (up_from 2 i) (terminals es) x (up_has 2 i x (omega arith) (omega arith))) (λ u. has_right (up_from 2 i) (terminals es) x (out_terminal es x u))
out_terminal (part p i ∷ es) x t = or_elim (eqb (i + (part_at p).inputs) x) (is_out es x) t (λ u. let e = eqb→eq (i + (part_at p).inputs) x u in has_left (up_from (suc (part_at p).inputs) i) (terminals es) x (up_has (suc (part_at p).inputs) i x (omega arith) (omega arith))) (λ u. has_right (up_from (suc (part_at p).inputs) i) (terminals es) x (out_terminal es x u))

-- a part makes each of its inputs
pub ins_of : (k i x : ℕ) → i ≤ x → x < i + k → 1 ≤ ins (part_side k i) x
ins_of zero i x l h = absurd (omega arith)
ins_of (suc k) i x l h = by_eqb (λ b. 1 ≤ cond b 1 0 + ins (part_side k (i + 1)) x) i x (λ e. omega arith) (λ d. omega (arith, ins_of k (i + 1) x (omega arith) (omega arith)))

-- a terminal is an output, or an input that is made
pub terminal_is : (es : List Element) (x : ℕ) → T (has (terminals es) x) → T (is_out es x) ⊎ (1 ≤ made_at_lem es x)
terminal_is [] x t = absurd t
terminal_is (point i ∷ es) x t = ⊎_elim at_point (λ u. ⊎_elim (λ v. inl (or_right (eqb (i + 1) x) (is_out es x) v)) (λ v. inr (omega arith)) (terminal_is es x u)) (has-append (up_from 2 i) (terminals es) x t)
  where
    at_point : T (has (up_from 2 i) x) → T (is_out (point i ∷ es) x) ⊎ (1 ≤ made_at_lem (point i ∷ es) x)
    at_point u = or_elim (eqb i x) (has (up_from 1 (i + 1)) x) u (λ v. inr (by_eqb (λ b. T b → 1 ≤ cond b 1 0 + made_at_lem es x) i x (λ e _. omega arith) (λ d w. absurd w) v)) (λ v. inl (or_left (eqb (i + 1) x) (is_out es x) (or_elim (eqb (i + 1) x) false v (λ w. w) (λ w. absurd w))))
terminal_is (part p i ∷ es) x t = ⊎_elim at_part (λ u. ⊎_elim (λ v. inl (or_right (eqb (i + (part_at p).inputs) x) (is_out es x) v)) (λ v. inr (omega arith)) (terminal_is es x u)) (has-append (up_from (suc (part_at p).inputs) i) (terminals es) x t)
  where
    at_part : T (has (up_from (suc (part_at p).inputs) i) x) → T (is_out (part p i ∷ es) x) ⊎ (1 ≤ made_at_lem (part p i ∷ es) x)
    at_part u =
        let r = has_up (suc (part_at p).inputs) i x u in
        by_eqb (λ b. T (b || is_out es x) ⊎ (1 ≤ made_at_lem (part p i ∷ es) x)) (i + (part_at p).inputs) x (λ e. inl tt) (λ d. inr (omega (arith, ins_of (part_at p).inputs i x (omega arith) (omega arith))))

-- ---- what a part looks at within the tick

pub looks-at : (p i x : ℕ) → T (has (looks (made_by p i)) x) → ¬ (p ≡ 1) × (i ≤ x) × (x < i + (part_at p).inputs)
looks-at zero i x t = absurd t
looks-at (suc zero) i x t = absurd t
looks-at (suc (suc zero)) i x t = let r = has_up 2 i x t in ((λ e. omega arith), r.0, r.1)
looks-at (suc (suc (suc zero))) i x t = let r = has_up 2 i x t in ((λ e. omega arith), r.0, r.1)
looks-at (suc (suc (suc (suc zero)))) i x t = let r = has_up 2 i x t in ((λ e. omega arith), r.0, r.1)
looks-at (suc (suc (suc (suc (suc zero))))) i x t = let r = has_up 1 i x t in ((λ e. omega arith), r.0, r.1)
looks-at (suc (suc (suc (suc (suc (suc p)))))) i x t = absurd t

pub at-looks : (p i x : ℕ) → ¬ (p ≡ 1) → i ≤ x → x < i + (part_at p).inputs → T (has (looks (made_by p i)) x)
at-looks zero i x n l h = absurd (omega arith)
at-looks (suc zero) i x n l h = absurd (n refl)
at-looks (suc (suc zero)) i x n l h = up_has 2 i x l h
at-looks (suc (suc (suc zero))) i x n l h = up_has 2 i x l h
at-looks (suc (suc (suc (suc zero)))) i x n l h = up_has 2 i x l h
at-looks (suc (suc (suc (suc (suc zero))))) i x n l h = up_has 1 i x l h
at-looks (suc (suc (suc (suc (suc (suc zero)))))) i x n l h = absurd (omega arith)
at-looks (suc (suc (suc (suc (suc (suc (suc p))))))) i x n l h = absurd (omega arith)

-- ---- in a well-formed netlist

module _ (m : Net) (ok : Formed m) where
  abbrev rest : ℕ → Source
  rest x = cond (has_wire m.wires x) (from (driver m.wires x 0)) pin

  pub not_out : (x : ℕ) → 1 ≤ made_at_lem m.elements x → T (is_out m.elements x) → ⊥
  not_out x h t = omega (arith, out_not_made m.elements 0 ok.end x ok.rising t)

  at-input : (x : ℕ) → 1 ≤ made_at_lem m.elements x → source m x ≡ rest x
  unfolding source
  at-input x h = go (view m.elements (rest x) x)
    where
      go : {s : Source} → View m.elements (rest x) x s → s ≡ rest x
      go (other f) = refl
      go (of_point i k q) = absurd (not_out x h (subst (λ (z : ℕ). T (is_out m.elements z)) q (out_of_point k)))
      go (of_part p i k q) = absurd (not_out x h (subst (λ (z : ℕ). T (is_out m.elements z)) q (out_of-part k)))

  pub at_point : {i : ℕ} → Among (point i) m.elements → source m (i + 1) ≡ from i
  unfolding source
  at_point {i} h = point_source 0 ok.end (rest (i + 1)) h ok.rising

  pub at_part : {p i : ℕ} → Among (part p i) m.elements → source m (i + (part_at p).inputs) ≡ made_by p i
  unfolding source
  at_part {p} {i} h = part-source 0 ok.end (rest (i + (part_at p).inputs)) h ok.rising

  pub at-wire : {w : Wire} → Among w m.wires → source m w.to ≡ from w.from
  at-wire {w} h =
      let l : 1 ≤ targets m.wires w.to = in_all (λ v. 1 ≤ targets m.wires v.to) h (each_target m.wires) in
      at-input w.to (omega (arith, ok.reached w.to))
      ∙ ap (λ (b : Bool). cond b (from (driver m.wires w.to 0)) pin) (T-is (has_wire m.wires w.to) (wire-has m.wires w.to l))
      ∙ ap from (in_all (λ v. (d : ℕ) → driver m.wires v.to d ≡ v.from) h (unique m.wires (target_one m ok)) 0)

  pub at_pin : (i : ℕ) → T (is_pin m.pins i) → source m i ≡ pin
  at_pin i h =
      let l = pin_ins m.pins i h in
      at-input i (omega (arith, ok.reached i))
      ∙ ap (λ (b : Bool). cond b (from (driver m.wires i 0)) pin) (is_false (has_wire m.wires i) (λ t. omega (arith, ok.reached i, input-once m ok i, has-wire m.wires i t)))

  -- a terminal, by what decides it
  pub data Decided (x : ℕ) : Source → Type 0 where
    is-pin : T (is_pin m.pins x) → Decided x pin
    is-wire : (w : Wire) → Among w m.wires → w.to ≡ x → Decided x (from w.from)
    is-point : (i : ℕ) → Among (point i) m.elements → i + 1 ≡ x → Decided x (from i)
    is-part : (p i : ℕ) → Among (part p i) m.elements → i + (part_at p).inputs ≡ x → Decided x (made_by p i)

  pub decided : (x : ℕ) → T (has (terminals m.elements) x) → Decided x (source m x)
  unfolding source
  decided x t = go (view m.elements (rest x) x)
    where
      input : 1 ≤ made_at_lem m.elements x → (b : Bool) → has_wire m.wires x ≡ b → Decided x (cond b (from (driver m.wires x 0)) pin)
      input l true e = let r = the_wire m.wires x 0 (subst (λ (b : Bool). T b) (sym e) tt) in subst (λ (y : ℕ). Decided x (from y)) (sym r.3) (is-wire r.0 r.1 r.2)
      input l false e = is-pin (ins_pin m.pins x (elim (dec_le 1 (targets m.wires x)) [ yes h ↦ absurd (subst (λ (b : Bool). T b) e (wire-has m.wires x h)) | no h ↦ omega (arith, ok.reached x) ]))

      go : {s : Source} → View m.elements (rest x) x s → Decided x s
      go (other f) = ⊎_elim (λ u. absurd (f u)) (λ l. input l (has_wire m.wires x) refl) (terminal_is m.elements x t)
      go (of_point i k q) = is-point i k q
      go (of_part p i k q) = is-part p i k q

  -- what a terminal looks at is a terminal
  pub closed : (x y : ℕ) → T (has (before m x) y) → T (has (terminals m.elements) y)
  unfolding source
  closed x y t = go (view m.elements (rest x) x) t
    where
      one_of : (a : ℕ) → T (has (a ∷ []) y) → a ≡ y
      one_of a t = or_elim (eqb a y) false t (λ u. eqb→eq a y u) (λ u. absurd u)

      input : (b : Bool) → has_wire m.wires x ≡ b → T (has (looks (cond b (from (driver m.wires x 0)) pin)) y) → T (has (terminals m.elements) y)
      input true e t =
          let r = the_wire m.wires x 0 (subst (λ (b : Bool). T b) (sym e) tt) in
          out_terminal m.elements y (subst (λ (z : ℕ). T (is_out m.elements z)) (sym r.3 ∙ one_of (driver m.wires x 0) t) (in_all (λ w. T (is_out m.elements w.from)) r.1 ok.from))
      input false e t = absurd t

      go : {s : Source} → View m.elements (rest x) x s → T (has (looks s) y) → T (has (terminals m.elements) y)
      go (other f) t = input (has_wire m.wires x) refl t
      go (of_point i k q) t = subst (λ (z : ℕ). T (has (terminals m.elements) z)) (one_of i t) (point_terminal k)
      go (of_part p i k q) t = let r = looks-at p i y t in part_terminal y k r.1 (omega (arith, r.2))
