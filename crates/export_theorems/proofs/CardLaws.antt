-- A netlist is refused by the card's profile exactly when one of its three rules is broken, and the places are the lowest. Assumes nothing.
use Prim.Native.Nat.{ℕ, ◌+◌, ◌≤◌}
use mathlib.Core.Path.{◌≡◌, refl, sym, ap, ◌∙◌, subst}
use mathlib.Core.Logic.{inl, inr, ⊎_elim, ◌↔◌}
use mathlib.Core.Bool.{Bool, true, false, ◌||◌}
use mathlib.Core.List.{List, [], ◌∷◌}
use native.Mathlib.Nat.{le_refl}
use native.Mathlib.Omega.{arith}
use lib.Dec.{T, eqb, eqb→eq, eqb_refl}
use Rattle.laws.proofs.Tests.{or_left, or_right, or_elim, is_false}
use Rattle.calculus.specs.Answer.{Refusal, Answer, good, refused, ◌>>=◌, numbered, need}
use Rattle.calculus.proofs.Answers.{refused≢good, refused-inj, on-bind, on-need}
use Rattle.calculus.specs.Types.{Ty, bit, prod, arrow, lolli, sharable}
use Rattle.calculus.specs.Terms.{part_at}
use Rattle.calculus.specs.Net.{inp, out, Interface, Element, point, part, Wire, Net}
use Rattle.calculus.specs.Record.{Among, here, there}
use Rattle.circuit_theorems.specs.Formed.{Rising, Formed}
use Rattle.export_calculus.specs.Card.{need_all, chain, no_ring, drives, is_out_pin, is_read, input_place, output_place, profiled, profile}
use Rattle.export_theorems.specs.Broken.{Chain, ends, goes, KeptRing, Unread, Breaks, Broken, root_type_lem, ring, unread}

-- ---- the first that fails

pub record FirstFail {A : Type 0} (ok : A → Bool) (place : A → ℕ) (xs : List A) (at : ℕ) : Type 0 where
  pub item : A
  pub listed : Among item xs
  pub fails : ok item ≡ false
  pub here_at : place item ≡ at

module _ {A : Type 0} (ok : A → Bool) (n : ℕ) (place : A → ℕ) where
  pub all_good : (xs : List A) → need_all ok n place xs ≡ good tt → (x : A) → Among x xs → T (ok x)
  all_good [] e x x4 = elim x4 [ ]
  all_good (y ∷ xs) e x here = go (ok x) e
    where
      go : (b : Bool) → (need b n (place x) >>= λ _. need_all ok n place xs) ≡ good tt → T b
      go true e = tt
      go false e = absurd (refused≢good e)
  all_good (y ∷ xs) e x (there h) = all_good xs (go (ok y) e) x h
    where
      go : (b : Bool) → (need b n (place y) >>= λ _. need_all ok n place xs) ≡ good tt → need_all ok n place xs ≡ good tt
      go true e = e
      go false e = absurd (refused≢good e)

  pub good_all : (xs : List A) → ((x : A) → Among x xs → T (ok x)) → need_all ok n place xs ≡ good tt
  good_all [] f = refl
  good_all (y ∷ xs) f = go (ok y) (f y here) (good_all xs (λ x h. f x (there h)))
    where
      go : (b : Bool) → T b → need_all ok n place xs ≡ good tt → (need b n (place y) >>= λ _. need_all ok n place xs) ≡ good tt
      go true t e = e
      go false t e = absurd t

  -- places rise along the list, from k on
  abbrev pub Rises : List A → ℕ → Type 0
  Rises [] k = Unit {0}
  Rises (x ∷ xs) k = (k ≤ place x) × Rises xs (place x)

  rises-low : {x : A} (xs : List A) (k : ℕ) → Rises xs k → Among x xs → k ≤ place x
  rises-low {x = x} [] k r x3 = elim x3 [ ]
  rises-low (y ∷ xs) k r here = r.0
  rises-low {x} (y ∷ xs) k r (there h) = let l = rises-low {x = x} xs (place y) r.1 h in omega (arith, r.0)

  pub record Lowest (xs : List A) (why : Refusal) : Type 0 where
    pub at : ℕ
    pub said : why ≡ numbered n at
    pub first : FirstFail ok place xs at
    pub lowest : (x : A) → Among x xs → ok x ≡ false → at ≤ place x

  pub refused_all : (xs : List A) (k : ℕ) → Rises xs k → (why : Refusal) → need_all ok n place xs ≡ refused why → Lowest xs why
  refused_all [] k r why e = absurd (refused≢good (sym e))
  refused_all (y ∷ xs) k r why e = go (ok y) refl e (refused_all xs (place y) r.1 why)
    where
      go : (c : Bool) → ok y ≡ c → (need c n (place y) >>= λ _. need_all ok n place xs) ≡ refused why → (need_all ok n place xs ≡ refused why → Lowest xs why) → Lowest (y ∷ xs) why
      go true q e ih =
          let l = ih e in record {
            at = l.at;
            said = l.said;
            first = record { item = l.first.item; listed = there l.first.listed; fails = l.first.fails; here_at = l.first.here_at };
            lowest = later l;
          }
        where
          later : (l : Lowest xs why) (x : A) → Among x (y ∷ xs) → ok x ≡ false → l.at ≤ place x
          later l x here f = absurd (subst (λ (c : Bool). T c) (sym q ∙ f) tt)
          later l x (there h) f = l.lowest x h f
      go false q e ih = record {
        at = place y;
        said = sym (refused-inj e);
        first = record { item = y; listed = here; fails = q; here_at = refl };
        lowest = λ x h _. rises-low {x = x} (y ∷ xs) (place y) (le_refl (place y), r.1) h;
      }

-- ---- the rules and the tests

chain_of : (τ : Ty) → T (chain τ) → Chain τ
chain_of bit t = ends tt
chain_of (prod a b) t = ends t
chain_of (arrow a b) t = goes (chain_of b t)
chain_of (lolli a b) t = absurd t

of_chain : (τ : Ty) → Chain τ → T (chain τ)
of_chain bit c = tt
of_chain (prod a b) c = go c
  where
    go : Chain (prod a b) → T (sharable (prod a b))
    go (ends t) = t
of_chain (arrow a b) c = go c (of_chain b)
  where
    go : Chain (arrow a b) → (Chain b → T (chain b)) → T (chain b)
    go (ends t) f = absurd t
    go (goes d) f = f d
of_chain (lolli a b) c = go c
  where
    go : Chain (lolli a b) → ⊥
    go (ends t) = t

drives_in : (ws : List Wire) (o : ℕ) → T (drives ws o) → (w : Wire) × Among w ws × (w.from ≡ o)
drives_in [] o t = absurd t
drives_in (w ∷ ws) o t = or_elim (eqb w.from o) (drives ws o) t (λ u. (w, here, eqb→eq w.from o u)) (λ u. let r = drives_in ws o u in (r.0, there r.1, r.2))

in_drives : (ws : List Wire) (w : Wire) → Among w ws → T (drives ws w.from)
in_drives [] w x' = elim x' [ ]
in_drives (v ∷ ws) w here = or_left (eqb w.from w.from) (drives ws w.from) (eqb_refl w.from)
in_drives (v ∷ ws) w (there h) = or_right (eqb v.from w.from) (drives ws w.from) (in_drives ws w h)

pin_in : (ps : Interface) (o : ℕ) → T (is_out_pin ps o) → Among (out o) ps
pin_in [] o t = absurd t
pin_in (inp i ∷ ps) o t = there (pin_in ps o t)
pin_in (out x ∷ ps) o t = or_elim (eqb x o) (is_out_pin ps o) t (λ u. subst (λ (z : ℕ). Among (out o) (out z ∷ ps)) (sym (eqb→eq x o u)) here) (λ u. there (pin_in ps o u))

in_pin : (ps : Interface) (o : ℕ) → Among (out o) ps → T (is_out_pin ps o)
in_pin [] o x' = elim x' [ ]
in_pin (out x ∷ ps) o here = or_left (eqb o o) (is_out_pin ps o) (eqb_refl o)
in_pin (inp i ∷ ps) o (there h) = in_pin ps o h
in_pin (out x ∷ ps) o (there h) = or_right (eqb x o) (is_out_pin ps o) (in_pin ps o h)

-- ---- the tests at one element

module _ (m : Net) where
  ring-fails : (e : Element) → Among e m.elements → no_ring m.pins e ≡ false → KeptRing m (input_place e)
  ring-fails (point i) h f = record { kept = h; inner = f }
  ring-fails (part p i) h f = absurd (subst (λ (c : Bool). T c) f tt)

  unread-fails : (e : Element) → Among e m.elements → is_read m e ≡ false → Unread m (output_place e)
  unread-fails (point i) h f = absurd (subst (λ (c : Bool). T c) f tt)
  unread-fails (part p i) h f = record {
    part_number = p;
    first = i;
    made = h;
    output = refl;
    no_wire = λ w k q. subst (λ (c : Bool). T c) f (or_left (drives m.wires (i + (part_at p).inputs)) (is_out_pin m.pins (i + (part_at p).inputs)) (subst (λ (z : ℕ). T (drives m.wires z)) q (in_drives m.wires w k)));
    no_pin = λ k. subst (λ (c : Bool). T c) f (or_right (drives m.wires (i + (part_at p).inputs)) (is_out_pin m.pins (i + (part_at p).inputs)) (in_pin m.pins (i + (part_at p).inputs) k));
  }

  unread-test : (o : ℕ) (u : Unread m o) → is_read m (part u.part_number u.first) ≡ false
  unread-test o u =
      let x = u.first + (part_at u.part_number).inputs in
      is_false (drives m.wires x || is_out_pin m.pins x) λ t. or_elim (drives m.wires x) (is_out_pin m.pins x) t
      (λ v. let r = drives_in m.wires x v in u.no_wire r.0 r.1 (r.2 ∙ u.output))
      (λ v. u.no_pin (subst (λ (z : ℕ). Among (out z) m.pins) u.output (pin_in m.pins x v)))

  is_true : (b : Bool) → (b ≡ false → ⊥) → T b
  is_true true f = tt
  is_true false f = absurd (f refl)

  -- ---- the profile

  pub profile_good : (τ : Ty) → (profile τ m ≡ good tt) ↔ (Chain τ × ((i : ℕ) → KeptRing m i → ⊥) × ((o : ℕ) → Unread m o → ⊥))
  unfolding profiled
  profile_good τ = (
    (λ e. on-need (chain τ) 27 0 _ tt e λ h₁ e₁.
        on-bind (need_all (no_ring m.pins) 28 input_place m.elements) _ tt e₁ λ u h₂ e₂. (
          chain_of τ h₁,
          (λ i l. subst (λ (c : Bool). T c) l.inner (all_good (no_ring m.pins) 28 input_place m.elements h₂ (point i) l.kept)),
          (λ o l. subst (λ (c : Bool). T c) (unread-test o l) (all_good (is_read m) 29 output_place m.elements e₂ (part l.part_number l.first) l.made)),
        )),
    (λ h. back (chain τ) (of_chain τ h.0) (good_all (no_ring m.pins) 28 input_place m.elements (λ e k. is_true (no_ring m.pins e) (λ f. h.1 (input_place e) (ring-fails e k f))))
        (good_all (is_read m) 29 output_place m.elements (λ e k. is_true (is_read m e) (λ f. h.2 (output_place e) (unread-fails e k f))))),
  )
    where
      back : (c : Bool) → T c → need_all (no_ring m.pins) 28 input_place m.elements ≡ good tt → need_all (is_read m) 29 output_place m.elements ≡ good tt
          → (need c 27 0 >>= λ _. need_all (no_ring m.pins) 28 input_place m.elements >>= λ _. need_all (is_read m) 29 output_place m.elements) ≡ good tt
      back true t e f = rw e f
      back false t e f = absurd t

  weaken-in : (n : ℕ) (es : List Element) (a b : ℕ) → a ≤ b → Rises (no_ring m.pins) n input_place es b → Rises (no_ring m.pins) n input_place es a
  weaken-in n [] a b l r = tt
  weaken-in n (x ∷ es) a b l r = (omega (arith, r.0), r.1)

  rises-in : (n : ℕ) (es : List Element) (k e : ℕ) → Rising es k e → Rises (no_ring m.pins) n input_place es k
  rises-in n [] k e r = tt
  rises-in n (point i ∷ es) k e r = (r.0, weaken-in n es i (i + 2) (omega arith) (rises-in n es (i + 2) e r.1))
  rises-in n (part p i ∷ es) k e r = (r.0, weaken-in n es i (i + (part_at p).inputs + 1) (omega arith) (rises-in n es (i + (part_at p).inputs + 1) e r.1))

  weaken-out : (es : List Element) (a b : ℕ) → a ≤ b → Rises (is_read m) 29 output_place es b → Rises (is_read m) 29 output_place es a
  weaken-out [] a b l r = tt
  weaken-out (x ∷ es) a b l r = (omega (arith, r.0), r.1)

  rises-out : (es : List Element) (k e : ℕ) → Rising es k e → Rises (is_read m) 29 output_place es k
  rises-out [] k e r = tt
  rises-out (point i ∷ es) k e r = (omega (arith, r.0), weaken-out es (i + 1) (i + 2) (omega arith) (rises-out es (i + 2) e r.1))
  rises-out (part p i ∷ es) k e r = (omega (arith, r.0), weaken-out es (i + (part_at p).inputs) (i + (part_at p).inputs + 1) (omega arith) (rises-out es (i + (part_at p).inputs + 1) e r.1))

  -- a kept ring point by itself, under any number: 18 of L1, 28 here
  pub record Ringed (number : ℕ) (why : Refusal) : Type 0 where
    pub at : ℕ
    pub said : why ≡ numbered number at
    pub point-there : KeptRing m at
    pub lowest : (j : ℕ) → KeptRing m j → at ≤ j

  pub ring_refused : Formed m → (n : ℕ) (why : Refusal) → need_all (no_ring m.pins) n input_place m.elements ≡ refused why → Ringed n why
  ring_refused ok n why e =
      let l = refused_all (no_ring m.pins) n input_place m.elements 0 (rises-in n m.elements 0 ok.end ok.rising) why e in record {
        at = l.at;
        said = l.said;
        point-there = subst (KeptRing m) l.first.here_at (ring-fails l.first.item l.first.listed l.first.fails);
        lowest = λ j k. l.lowest (point j) k.kept k.inner;
      }

  pub ring_free : (n : ℕ) → (need_all (no_ring m.pins) n input_place m.elements ≡ good tt) ↔ ((i : ℕ) → KeptRing m i → ⊥)
  ring_free n = (
    (λ e i l. subst (λ (c : Bool). T c) l.inner (all_good (no_ring m.pins) n input_place m.elements e (point i) l.kept)),
    (λ h. good_all (no_ring m.pins) n input_place m.elements (λ e k. is_true (no_ring m.pins e) (λ f. h (input_place e) (ring-fails e k f)))),
  )

  module _ (ok : Formed m) (τ : Ty) where
    ring_place : {why : Refusal} → Chain τ → Ringed 28 why → Broken τ m why
    ring_place c l = subst (Broken τ m) (sym l.said) (ring c l.point-there l.lowest)

    unread-place : {why : Refusal} → Chain τ → ((j : ℕ) → KeptRing m j → ⊥) → Lowest (is_read m) 29 output_place m.elements why → Broken τ m why
    unread-place c n l =
        subst (Broken τ m) (sym l.said)
        (unread c n (subst (Unread m) l.first.here_at (unread-fails l.first.item l.first.listed l.first.fails))
        (λ x k. subst (λ (z : ℕ). l.at ≤ z) k.output (l.lowest (part k.part_number k.first) k.made (unread-test x k))))

    pub profile-refused : (why : Refusal) → profile τ m ≡ refused why → Broken τ m why
    unfolding profiled
    profile-refused why e = root (chain τ) refl e
      where
        root : (c : Bool) → chain τ ≡ c → (need c 27 0 >>= λ _. need_all (no_ring m.pins) 28 input_place m.elements >>= λ _. need_all (is_read m) 29 output_place m.elements) ≡ refused why → Broken τ m why
        root false q e = subst (Broken τ m) (refused-inj e) (root_type_lem (λ k. subst (λ (c : Bool). T c) q (of_chain τ k)))
        root true q e = rings (need_all (no_ring m.pins) 28 input_place m.elements) refl e
          where
            typed : Chain τ
            typed = chain_of τ (subst (λ (c : Bool). T c) (sym q) tt)

            rings : (r : Answer (Unit {0})) → need_all (no_ring m.pins) 28 input_place m.elements ≡ r → (r >>= λ _. need_all (is_read m) 29 output_place m.elements) ≡ refused why → Broken τ m why
            rings (refused x) q e = ring_place typed (ring_refused ok 28 why (q ∙ ap refused (refused-inj e)))
            rings (good tt) q e =
                unread-place typed ((ring_free 28).0 q) (refused_all (is_read m) 29 output_place m.elements 0 (rises-out m.elements 0 ok.end ok.rising) why e)

    -- refused exactly when one of the three rules is broken
    pub profile-exact : ((why : Refusal) × (profile τ m ≡ refused why)) ↔ Breaks τ m
    profile-exact = (
      (λ r. which (profile-refused r.0 r.1)),
      (λ h. answer (profile τ m) refl h),
    )
      where
        which : {why : Refusal} → Broken τ m why → Breaks τ m
        which (root_type_lem f) = inl f
        which (ring {i = i} c l h) = inr (inl (i, l))
        which (unread {o = o} c n u h) = inr (inr (o, u))

        answer : (r : Answer (Unit {0})) → profile τ m ≡ r → Breaks τ m → (why : Refusal) × (profile τ m ≡ refused why)
        answer (refused why) q h = (why, q)
        answer (good tt) q h =
            let g = (profile_good τ).0 q in
            absurd (⊎_elim (λ f. f g.0) (λ k. ⊎_elim (λ (x : (i : ℕ) × KeptRing m i). g.1 x.0 x.1) (λ (x : (o : ℕ) × Unread m o). g.2 x.0 x.1) k) h)
