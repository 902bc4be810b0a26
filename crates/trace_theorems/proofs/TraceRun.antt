-- The run of a formed netlist without rings is a possible record with the bits and starts given, and the only one. Assumes nothing.
use Prim.Native.Nat.{ℕ, zero, suc, ◌+◌, ◌<◌}
use mathlib.Core.Path.{◌≡◌, refl, sym, ap, ap₂, ◌∙◌, subst}
use mathlib.Core.Bool.{Bool, not, ◌&&◌, ◌||◌, xor}
use mathlib.Core.List.{List, [], ◌∷◌}
use native.Mathlib.Nat.{le_refl}
use native.Mathlib.Omega.{arith}
use lib.Dec.{T, eqb, eqb→eq, eqb_refl}
use Rattle.calculus.specs.Terms.{part_at}
use Rattle.calculus.specs.Net.{Element, point, part, Net}
use Rattle.calculus.specs.Record.{Bits, streams, Delayed, part_law, Works, Joined, Possible, Among}
use Rattle.circuit_theorems.specs.Terminals.{has}
use Rattle.circuit_theorems.specs.Formed.{Formed}
use Rattle.trace_calculus.specs.Trace.{StartsWith, Has, OnRing, Source, pin, from, made_part as made_by, source, looks, before, terminals, rounds, gate, bit, settle, tick, run}
use Rattle.laws.proofs.Tests.{or_left, or_right}
use Rattle.trace_theorems.proofs.Graph.{settled, all-at, all_settled}
use Rattle.trace_theorems.proofs.Sources.{all_in, in_all, at_point, at_part, at-wire, at_pin, Decided, is-pin, is-wire, is-point, is-part, decided, closed, part_terminal}
use Rattle.trace_theorems.proofs.TraceRings.{back_ring}

-- ---- a bit depends on what its source looks at, and on what the register holds

here_at : (a : ℕ) (xs : List ℕ) → T (has (a ∷ xs) a)
here_at a xs = or_left (eqb a a) (has xs a) (eqb_refl a)

second_at : (a b : ℕ) → T (has (a ∷ b ∷ []) b)
second_at a b = or_right (eqb a b) (has (b ∷ []) b) (here_at b [])

bit-same : (s : Source) (x : ℕ) (g h h' β β' : ℕ → Bool) → ((i : ℕ) → s ≡ made_by 1 i → h i ≡ h' i) → ((y : ℕ) → T (has (looks s) y) → β y ≡ β' y) → bit s x g h β ≡ bit s x g h' β'
bit-same pin x g h h' β β' e f = refl
bit-same (from y) x g h h' β β' e f = f y (here_at y [])
bit-same (made_by zero i) x g h h' β β' e f = refl
bit-same (made_by (suc zero) i) x g h h' β β' e f = e i refl
bit-same (made_by (suc (suc zero)) i) x g h h' β β' e f = ap₂ ◌&&◌ (f i (here_at i ((i + 1) ∷ []))) (f (i + 1) (second_at i (i + 1)))
bit-same (made_by (suc (suc (suc zero))) i) x g h h' β β' e f = ap₂ ◌||◌ (f i (here_at i ((i + 1) ∷ []))) (f (i + 1) (second_at i (i + 1)))
bit-same (made_by (suc (suc (suc (suc zero)))) i) x g h h' β β' e f = ap₂ xor (f i (here_at i ((i + 1) ∷ []))) (f (i + 1) (second_at i (i + 1)))
bit-same (made_by (suc (suc (suc (suc (suc zero))))) i) x g h h' β β' e f = ap not (f i (here_at i []))
bit-same (made_by (suc (suc (suc (suc (suc (suc p)))))) i) x g h h' β β' e f = refl

-- what the registers hold at a tick
abbrev pub held_at : (ℕ → Bool) → Bits → ℕ → ℕ → Bool
held_at starts β zero i = starts i
held_at starts β (suc t) i = β i t

-- a part's law is what the run computes at each tick ..
law_gives : (p i n : ℕ) (starts : ℕ → Bool) (β : Bits) → ((t : ℕ) → t < n → β (i + (part_at p).inputs) t ≡ gate p i (held_at starts β t) (λ y. β y t))
    → part_law p n (streams (part_at p).inputs i β) (β (i + (part_at p).inputs))
law_gives zero i n starts β f = f
law_gives (suc zero) i n starts β f = delayed
  where
    delayed : (t : ℕ) → t < n → Delayed (β i) (β (i + 1)) t
    delayed zero l = tt
    delayed (suc t) l = f (suc t) l
law_gives (suc (suc zero)) i n starts β f = f
law_gives (suc (suc (suc zero))) i n starts β f = f
law_gives (suc (suc (suc (suc zero)))) i n starts β f = f
law_gives (suc (suc (suc (suc (suc zero))))) i n starts β f = f
law_gives (suc (suc (suc (suc (suc (suc p)))))) i n starts β f = f

-- .. where a register wakes up as told
law_takes : (p i n : ℕ) (starts : ℕ → Bool) (β : Bits) → part_law p n (streams (part_at p).inputs i β) (β (i + (part_at p).inputs)) → (T (eqb p 1) → 0 < n → β (i + (part_at p).inputs) 0 ≡ starts i)
    → (t : ℕ) → t < n → β (i + (part_at p).inputs) t ≡ gate p i (held_at starts β t) (λ y. β y t)
law_takes zero i n starts β h s t l = h t l
law_takes (suc zero) i n starts β h s zero l = s tt l
law_takes (suc zero) i n starts β h s (suc t) l = h (suc t) l
law_takes (suc (suc zero)) i n starts β h s t l = h t l
law_takes (suc (suc (suc zero))) i n starts β h s t l = h t l
law_takes (suc (suc (suc (suc zero)))) i n starts β h s t l = h t l
law_takes (suc (suc (suc (suc (suc zero))))) i n starts β h s t l = h t l
law_takes (suc (suc (suc (suc (suc (suc p)))))) i n starts β h s t l = h t l

module _ (m : Net) (ok : Formed m) (free : (x : ℕ) → OnRing m x → ⊥) where
  pub calm : (x : ℕ) → T (settled (before m) (rounds m) x)
  calm = all_settled (before m) (terminals m.elements) (closed m ok) (λ y b. free y (back_ring m ok y b))

  -- ---- one tick

  module _ (g h : ℕ → Bool) where
    settle-same : (k x : ℕ) → T (settled (before m) k x) → settle (suc k) m g h x ≡ settle k m g h x
    settle-same zero x t = absurd t
    settle-same (suc k) x t =
        bit-same (source m x) x g h h (settle (suc k) m g h) (settle k m g h) (λ i e. refl) (λ y u. settle-same k y (all-at (settled (before m) k) (before m x) t y u))

    steady : (x : ℕ) → settle (rounds m) m g h x ≡ bit (source m x) x g h (settle (rounds m) m g h)
    steady x = sym (settle-same (rounds m) x (calm x))

    -- bits that agree with their sources are the settled ones
    pub only : (h' β : ℕ → Bool) → ((i : ℕ) → Among (part 1 i) m.elements → h' i ≡ h i) → ((x : ℕ) → T (has (terminals m.elements) x) → β x ≡ bit (source m x) x g h' β)
        → (k x : ℕ) → T (has (terminals m.elements) x) → T (settled (before m) k x) → β x ≡ settle k m g h x
    only h' β e s zero x i t = absurd t
    only h' β e s (suc k) x i t =
        s x i ∙ bit-same (source m x) x g h' h β (settle k m g h) (λ j q. e j (register j q)) (λ y u. only h' β e s k y (closed m ok x y u) (all-at (settled (before m) k) (before m x) t y u))
      where
        register : (j : ℕ) → source m x ≡ made_by 1 j → Among (part 1 j) m.elements
        register j q = go (decided m ok x i) q
          where
            go : {r : Source} → Decided m ok x r → r ≡ made_by 1 j → Among (part 1 j) m.elements
            go (is-part p k a _) q = let e₁ : p ≡ 1 = cc in let e₂ : k ≡ j = cc in subst (λ (z : ℕ). Among (part 1 z) m.elements) e₂ (subst (λ (z : ℕ). Among (part z k) m.elements) e₁ a)
            go (is-pin _) q = absurd (let z : ◌≡◌ {A = ℕ} 0 1 = cc in omega arith)
            go (is-wire w _ _) q = absurd (let z : ◌≡◌ {A = ℕ} 0 1 = cc in omega arith)
            go (is-point k _ _) q = absurd (let z : ◌≡◌ {A = ℕ} 0 1 = cc in omega arith)

  -- ---- all ticks

  module _ (given : Bits) (starts : ℕ → Bool) where
    abbrev β₀ : Bits
    β₀ = run m given starts

    pub solved : (t x : ℕ) → β₀ x t ≡ bit (source m x) x (λ y. given y t) (held_at starts β₀ t) (λ y. β₀ y t)
    unfolding run
    solved zero x = steady (λ y. given y 0) starts x
    solved (suc t) x = steady (λ y. given y (suc t)) (λ i. tick m given starts t i) x

    at : (t x : ℕ) (s : Source) → source m x ≡ s → β₀ x t ≡ bit s x (λ y. given y t) (held_at starts β₀ t) (λ y. β₀ y t)
    at t x s e = solved t x ∙ ap (λ (r : Source). bit r x (λ y. given y t) (held_at starts β₀ t) (λ y. β₀ y t)) e

    pub run-possible : (n : ℕ) → Possible part_law m n β₀
    run-possible n = record {
      elements = all_in (Works part_law n β₀) m.elements works;
      wires = all_in (Joined n β₀) m.wires (λ w h t l. sym (at t w.to (from w.from) (at-wire m ok h)));
    }
      where
        works : (e : Element) → Among e m.elements → Works part_law n β₀ e
        works (point i) h = λ t l. sym (at t (i + 1) (from i) (at_point m ok h))
        works (part p i) h = law_gives p i n starts β₀ (λ t l. at t (i + (part_at p).inputs) (made_by p i) (at_part m ok h))

    pub run-has : (n : ℕ) → Has m n given starts β₀
    run-has n = record {
      pins = λ i h t l. at t i pin (at_pin m ok i h);
      registers = λ _. all_in (StartsWith starts β₀) m.elements woken;
    }
      where
        woken : (e : Element) → Among e m.elements → StartsWith starts β₀ e
        woken (point i) h = tt
        woken (part p i) h = λ t. at 0 (i + (part_at p).inputs) (made_by p i) (at_part m ok h) ∙ (let e = eqb→eq p 1 t in ap (λ (q : ℕ). gate q i starts (λ y. β₀ y 0)) e)

    -- ---- any possible record with these bits and starts is the run

    module _ (n : ℕ) (β : Bits) (p : Possible part_law m n β) (has-these : Has m n given starts β) where
      obeys : (t : ℕ) → t < n → (x : ℕ) → T (has (terminals m.elements) x) → β x t ≡ bit (source m x) x (λ y. given y t) (held_at starts β t) (λ y. β y t)
      obeys t l x i = go (decided m ok x i)
        where
          waking : (s : ℕ) → s < n → (q j : ℕ) → Among (part q j) m.elements → β (j + (part_at q).inputs) s ≡ gate q j (held_at starts β s) (λ y. β y s)
          waking s l q j h = law_takes q j n starts β (in_all (Works part_law n β) h p.elements) (λ t k. in_all (StartsWith starts β) h (has-these.registers k) t) s l

          go : {s : Source} → Decided m ok x s → β x t ≡ bit s x (λ y. given y t) (held_at starts β t) (λ y. β y t)
          go (is-pin h) = has-these.pins x h t l
          go (is-wire w h e) = subst (λ (z : ℕ). β z t ≡ β w.from t) e (sym (in_all (Joined n β) h p.wires t l))
          go (is-point j h e) = subst (λ (z : ℕ). β z t ≡ β j t) e (sym (in_all (Works part_law n β) h p.elements t l))
          go (is-part q j h e) = subst (λ (z : ℕ). β z t ≡ gate q j (held_at starts β t) (λ y. β y t)) e (waking t l q j h)

      pub run_only : (t : ℕ) → t < n → (x : ℕ) → T (has (terminals m.elements) x) → β x t ≡ β₀ x t
      unfolding run
      run_only zero l x i = only (λ y. given y 0) starts starts (λ y. β y 0) (λ j h. refl) (obeys 0 l) (rounds m) x i (calm x)
      run_only (suc t) l x i =
          only (λ y. given y (suc t)) (λ j. tick m given starts t j) (λ j. β j t) (λ y. β y (suc t)) (λ j h. run_only t (omega arith) j (part_terminal j h (le_refl j) (omega arith))) (obeys (suc t) l) (rounds m) x i (calm x)

    -- for code: bits of one tick that agree with their sources are the run's at that tick
    pub tick_is : (t : ℕ) (β : ℕ → Bool) → ((x : ℕ) → T (has (terminals m.elements) x) → β x ≡ bit (source m x) x (λ y. given y t) (held_at starts β₀ t) β)
        → (x : ℕ) → T (has (terminals m.elements) x) → β x ≡ β₀ x t
    unfolding run
    tick_is zero β s x i = only (λ y. given y 0) starts starts β (λ j h. refl) s (rounds m) x i (calm x)
    tick_is (suc t) β s x i = only (λ y. given y (suc t)) (λ j. tick m given starts t j) (λ j. tick m given starts t j) β (λ j h. refl) s (rounds m) x i (calm x)
