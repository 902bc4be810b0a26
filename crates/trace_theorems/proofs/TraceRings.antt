-- Refusal 19: a formed netlist is refused exactly when some terminal is on a ring without a register, at the lowest input terminal on any. Assumes nothing.
use Prim.Native.Nat.{ℕ, zero, suc, ◌+◌, ◌<◌, ◌≤◌}
use mathlib.Core.Path.{◌≡◌, refl, sym, ap, ◌∙◌, subst}
use mathlib.Core.Logic.{◌⊎◌, inl, inr, ⊎_elim, ◌↔◌}
use mathlib.Core.Bool.{Bool, true, false, cond, not, ◌||◌}
use mathlib.Core.List.{List, [], ◌∷◌, ◌++◌}
use native.Mathlib.Nat.{le_refl}
use native.Mathlib.Omega.{arith}
use native.Mathlib.Decide.{dec_le}
use lib.Dec.{T, eqb, eqb→eq, eqb_refl}
use Rattle.calculus.specs.Answer.{Refusal, good, refused, ◌>>=◌, numbered, need}
use Rattle.calculus.proofs.Answers.{refused≢good, refused-inj}
use Rattle.calculus.specs.Terms.{part_at}
use Rattle.calculus.specs.Net.{part_side, Element, point, part, Net}
use Rattle.calculus.specs.Record.{Among, here, there}
use Rattle.trace_calculus.specs.Trace.{Feeds, by_wire, by_point, by_gate, Leads, one_step, then, OnRing, Source, looks, before, up_from, terminals, inputs, rounds, on_ring, none_on_ring}
use Rattle.calculus.specs.Inputs.{ins, made_at_lem, targets}
use Rattle.circuit_theorems.specs.Terminals.{has}
use Rattle.circuit_theorems.specs.Formed.{Rising, Formed}
use Rattle.laws.proofs.Tests.{by_eqb, or_left, or_right, or_elim}
use Rattle.circuit_theorems.proofs.Terminals.{each_target}
use Rattle.trace_theorems.proofs.Lists.{Up, up_low, up_weaken}
use Rattle.trace_theorems.proofs.Graph.{Back, last, step, longer, reach-back, back-reach}
use Rattle.trace_theorems.proofs.Sources.{in_all, at_point, at_part, at-wire, Decided, is-pin, is-wire, is-point, is-part, decided, closed, looks-at, at-looks, ins_range, has_left, has_right, up_has}

-- ---- the relation and the table of looks say the same

module _ (m : Net) (ok : Formed m) where
  feeds-before : {x y : ℕ} → Feeds m x y → T (has (before m y) x)
  feeds-before (by_wire w h) = subst (λ (s : Source). T (has (looks s) w.from)) (sym (at-wire m ok h)) (or_left (eqb w.from w.from) false (eqb_refl w.from))
  feeds-before (by_point i h) = subst (λ (s : Source). T (has (looks s) i)) (sym (at_point m ok h)) (or_left (eqb i i) false (eqb_refl i))
  feeds-before (by_gate p i x h n l k) = subst (λ (s : Source). T (has (looks s) x)) (sym (at_part m ok h)) (at-looks p i x n l k)

  one_of : (a y : ℕ) → T (has (a ∷ []) y) → a ≡ y
  one_of a y t = or_elim (eqb a y) false t (λ u. eqb→eq a y u) (λ u. absurd u)

  before-feeds : (x y : ℕ) → T (has (terminals m.elements) y) → T (has (before m y) x) → Feeds m x y
  before-feeds x y t h = go (decided m ok y t) h
    where
      go : {s : Source} → Decided m ok y s → T (has (looks s) x) → Feeds m x y
      go (is-pin _) h = absurd h
      go (is-wire w k e) h = subst (λ (a : ℕ). Feeds m a y) (one_of w.from x h) (subst (λ (b : ℕ). Feeds m w.from b) e (by_wire w k))
      go (is-point i k e) h = subst (λ (a : ℕ). Feeds m a y) (one_of i x h) (subst (λ (b : ℕ). Feeds m i b) e (by_point i k))
      go (is-part p i k e) h = let r = looks-at p i x h in subst (λ (b : ℕ). Feeds m x b) e (by_gate p i x k r.0 r.1 r.2)

  joined : {x y z : ℕ} → Leads m x y → Leads m y z → Leads m x z
  joined (one_step f) q = then f q
  joined (then f p) q = then f (joined p q)

  leads-back : {x y : ℕ} → Leads m x y → Back (before m) y x
  leads-back (one_step f) = last (feeds-before f)
  leads-back (then f p) = longer (before m) (leads-back p) (last (feeds-before f))

  back-leads : {y x : ℕ} → T (has (terminals m.elements) y) → Back (before m) y x → Leads m x y
  back-leads {y} {x} t (last h) = one_step (before-feeds x y t h)
  back-leads {y} t (step {y = z} h p) = joined (back-leads (closed m ok y z h) p) (one_step (before-feeds z y t h))

  ring_back : (x : ℕ) → OnRing m x → Back (before m) x x
  ring_back x r = leads-back r

  -- a ring's terminals are looked at
  back-terminal : {x y : ℕ} → Back (before m) x y → T (has (terminals m.elements) y)
  back-terminal {x} {y} (last h) = closed m ok x y h
  back-terminal (step h p) = back-terminal p

  pub back_ring : (x : ℕ) → Back (before m) x x → OnRing m x
  back_ring x b = back-leads (back-terminal b) b

  -- ---- the test decides it

  pub on_ring_lem : (x : ℕ) → T (on_ring m x) ↔ OnRing m x
  unfolding on_ring
  on_ring_lem x = (
    (λ t. back_ring x (reach-back (before m) (rounds m) x x t)),
    (λ r. back-reach (before m) (terminals m.elements) (closed m ok) (ring_back x r)),
  )

  -- ---- every ring passes through an input terminal

  input-has : {i : ℕ} {es : List Element} → Among (point i) es → T (has (inputs es) i)
  input-has {i = i} (here {xs = es}) = or_left (eqb i i) (has (inputs es) i) (eqb_refl i)
  input-has {i = i} (there {y = point j} {xs = es} h) = or_right (eqb j i) (has (inputs es) i) (input-has h)
  input-has {i = i} (there {y = part p j} {xs = es} h) = has_right (up_from (part_at p).inputs j) (inputs es) i (input-has h)

  part-has : {p i : ℕ} {es : List Element} (x : ℕ) → Among (part p i) es → i ≤ x → x < i + (part_at p).inputs → T (has (inputs es) x)
  part-has {p = p} {i = i} x (here {xs = es}) l k = has_left (up_from (part_at p).inputs i) (inputs es) x (up_has (part_at p).inputs i x l k)
  part-has x (there {y = point j} {xs = es} h) l k = or_right (eqb j x) (has (inputs es) x) (part-has x h l k)
  part-has x (there {y = part q j} {xs = es} h) l k = has_right (up_from (part_at q).inputs j) (inputs es) x (part-has x h l k)

  made-has : (es : List Element) (x : ℕ) → 1 ≤ made_at_lem es x → T (has (inputs es) x)
  made-has [] x h = absurd (omega arith)
  made-has (point i ∷ es) x h = by_eqb (λ b. 1 ≤ cond b 1 0 + made_at_lem es x → T (b || has (inputs es) x)) i x (λ e _. tt) (λ d l. made-has es x (omega arith)) h
  made-has (part p i ∷ es) x h = elim (dec_le 1 (ins (part_side (part_at p).inputs i) x)) [
    | yes l ↦ let r = ins_range (part_at p).inputs i x l in has_left (up_from (part_at p).inputs i) (inputs es) x (up_has (part_at p).inputs i x r.0 r.1)
    | no l ↦ has_right (up_from (part_at p).inputs i) (inputs es) x (made-has es x (omega arith))
  ]

  -- what feeds and what is fed: one of the two is an input
  feeds-input : {x y : ℕ} → Feeds m x y → T (has (inputs m.elements) x) ⊎ T (has (inputs m.elements) y)
  feeds-input (by_wire w h) = inr (made-has m.elements w.to (let l : 1 ≤ targets m.wires w.to = in_all (λ v. 1 ≤ targets m.wires v.to) h (each_target m.wires) in omega (arith, ok.reached w.to)))
  feeds-input (by_point i h) = inl (input-has h)
  feeds-input (by_gate p i x h n l k) = inl (part-has x h l k)

  ring-input : {x : ℕ} → OnRing m x → (i : ℕ) × T (has (inputs m.elements) i) × OnRing m i
  ring-input {x} (one_step f) = ⊎_elim (λ t. (x, t, one_step f)) (λ t. (x, t, one_step f)) (feeds-input f)
  ring-input {x} (then {y = y} f p) = ⊎_elim (λ t. (x, t, then f p)) (λ t. (y, t, joined p (one_step f))) (feeds-input f)

  -- ---- the refusal

  no-ring-good : (is : List ℕ) → none_on_ring m is ≡ good tt → (i : ℕ) → T (has is i) → OnRing m i → ⊥
  no-ring-good [] e i t r = t
  no-ring-good (j ∷ is) e i t r = go (on_ring m j) refl e (λ q. no-ring-good is q i)
    where
      go : (b : Bool) → on_ring m j ≡ b → (need (not b) 19 j >>= λ _. none_on_ring m is) ≡ good tt → (none_on_ring m is ≡ good tt → T (has is i) → OnRing m i → ⊥) → ⊥
      go true q e ih = refused≢good e
      go false q e ih = or_elim (eqb j i) (has is i) t (λ u. subst (λ (b : Bool). T b) q ((on_ring_lem j).1 (subst (λ (z : ℕ). OnRing m z) (sym (eqb→eq j i u)) r))) (λ u. ih e u r)

  pub accepted : none_on_ring m (inputs m.elements) ≡ good tt → (x : ℕ) → OnRing m x → ⊥
  accepted e x r = let (i, t, s) = ring-input r in no-ring-good (inputs m.elements) e i t s

  free-good : (is : List ℕ) → ((i : ℕ) → T (has is i) → OnRing m i → ⊥) → none_on_ring m is ≡ good tt
  free-good [] f = refl
  free-good (j ∷ is) f = go (on_ring m j) refl (free-good is (λ i t. f i (or_right (eqb j i) (has is i) t)))
    where
      go : (b : Bool) → on_ring m j ≡ b → none_on_ring m is ≡ good tt → (need (not b) 19 j >>= λ _. none_on_ring m is) ≡ good tt
      go true q ih = absurd (f j (or_left (eqb j j) (has is j) (eqb_refl j)) ((on_ring_lem j).0 (subst (λ (b : Bool). T b) (sym q) tt)))
      go false q ih = ih

  -- it may be run exactly when there is no ring
  pub runs_iff : (none_on_ring m (inputs m.elements) ≡ good tt) ↔ ((x : ℕ) → OnRing m x → ⊥)
  runs_iff = (accepted, (λ f. free-good (inputs m.elements) (λ i _. f i)))

  -- a refusal is 19, at an input terminal on a ring, and no lower input terminal is on one
  pub record Lowest (is : List ℕ) (why : Refusal) : Type 0 where
    pub nineteen : why ≡ numbered 19 why.place
    pub listed : T (has is why.place)
    pub ring : OnRing m why.place
    pub lowest : (i : ℕ) → T (has is i) → OnRing m i → why.place ≤ i

  refused-lowest : (is : List ℕ) (n : ℕ) → Up is n → (why : Refusal) → none_on_ring m is ≡ refused why → Lowest is why
  refused-lowest [] n u why e = absurd (refused≢good (sym e))
  refused-lowest (j ∷ is) n u why e = go (on_ring m j) refl e (λ q. refused-lowest is (j + 1) u.1 why q)
    where
      go : (c : Bool) → on_ring m j ≡ c → (need (not c) 19 j >>= λ _. none_on_ring m is) ≡ refused why → (none_on_ring m is ≡ refused why → Lowest is why) → Lowest (j ∷ is) why
      go true q e ih =
          let e₀ : numbered 19 j ≡ why = refused-inj e in
          let e₁ : why.place ≡ j = sym (ap (λ (r : Refusal). r.place) e₀) in record {
            nineteen = sym e₀ ∙ ap (numbered 19) (sym e₁);
            listed = rw e₁ (or_left (eqb j j) (has is j) (eqb_refl j));
            ring = rw e₁ ((on_ring_lem j).0 (subst (λ (c : Bool). T c) (sym q) tt));
            lowest = λ i t _. rw e₁ (up_low (j ∷ is) j i (le_refl j, u.1) t);
          }
      go false q e ih =
          let r = ih e in record {
            nineteen = r.nineteen;
            listed = or_right (eqb j why.place) (has is why.place) r.listed;
            ring = r.ring;
            lowest = λ i t s. or_elim (eqb j i) (has is i) t (λ v. absurd (subst (λ (c : Bool). T c) q ((on_ring_lem j).1 (subst (λ (z : ℕ). OnRing m z) (sym (eqb→eq j i v)) s)))) (λ v. r.lowest i v s);
          }

  up-append : (k i n : ℕ) (is : List ℕ) → n ≤ i → Up is (i + k) → Up (up_from k i ++ is) n
  up-append zero i n is l u = up_weaken is (i + 0) n (omega arith) u
  up-append (suc k) i n is l u = (l, up-append k (i + 1) (i + 1) is (le_refl (i + 1)) (let e : i + suc k ≡ i + 1 + k = omega arith in subst (λ (z : ℕ). Up is z) e u))

  rising-up : (es : List Element) (n e : ℕ) → Rising es n e → Up (inputs es) n
  rising-up [] n e r = tt
  rising-up (point i ∷ es) n e r = (r.0, up_weaken (inputs es) (i + 2) (i + 1) (omega arith) (rising-up es (i + 2) e r.1))
  rising-up (part p i ∷ es) n e r = up-append (part_at p).inputs i n (inputs es) r.0 (up_weaken (inputs es) (i + (part_at p).inputs + 1) (i + (part_at p).inputs) (omega arith) (rising-up es (i + (part_at p).inputs + 1) e r.1))

  pub ring_place : (why : Refusal) → none_on_ring m (inputs m.elements) ≡ refused why → Lowest (inputs m.elements) why
  ring_place why e = refused-lowest (inputs m.elements) 0 (rising-up m.elements 0 ok.end ok.rising) why e
