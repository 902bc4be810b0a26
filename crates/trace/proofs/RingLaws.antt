-- After the sweeps: with none left there is no ring, and with some left the lowest input that has its own output behind it is the lowest on any.
-- Assumes nothing.
use Prim.Native.Nat.{ℕ, zero, suc, ◌+◌, ◌-◌, ◌≤◌, ◌<◌}
use mathlib.Core.Path.{◌≡◌, refl, sym, ap, ◌∙◌, subst}
use mathlib.Core.Logic.{◌⊎◌, inl, inr, ⊎_elim}
use mathlib.Core.Bool.{Bool, true, false, cond, ◌&&◌, ◌||◌}
use mathlib.Core.List.{List, [], ◌∷◌}
use native.Mathlib.Omega.{arith}
use native.Mathlib.Decide.{ℕ_discrete, dec_le}
use lib.ListN.{get_or}
use lib.Dec.{T, eqb, ltb, eqb→eq, eqb_refl}
use borrow.Author.Tests.{eq-eqb, ne_eqb, eqb-false}
use Rattle.laws.proofs.Tests.{or_elim, or_left, or_right, and_of, and_both}
use Rattle.calculus.specs.Answer.{Answer, good, refused, refuse}
use Rattle.calculus.specs.Net.{Element, point, part, Net}
use Rattle.calculus.specs.Terms.{part_at}
use Rattle.calculus.specs.Inputs.{made_at_lem, targets, is_out}
use Rattle.calculus.specs.Record.{Among, here as in_here, there as in-there}
use Rattle.circuit_theorems.specs.Terminals.{has}
use Rattle.circuit_theorems.specs.Formed.{Formed}
use Rattle.trace_calculus.specs.Trace.{Source, looks, before, terminals, up_from, inputs, rounds, OnRing, on_ring, none_on_ring, bit_byte_lem}
use Rattle.trace_theorems.proofs.Graph.{Back, last, step, longer, settled, settled_up, settled_free, all_of, all-at, all_settled, reach-back}
use Rattle.trace_theorems.proofs.Sources.{closed, terminal_is, out_terminal, Decided, is-pin, is-wire, is-point, is-part, decided, in_all, looks-at, has_left, has_right, has-append, up_has, has_up}
use Rattle.trace_theorems.proofs.TraceRings.{on_ring_lem, back_ring, runs_iff, accepted, ring_place}
use Rattle.trace_theorems.proofs.Owners as owners
use Rattle.circuit_theorems.proofs.Terminals.{each_target}
use Rattle.lean.specs.Layout.{kinds_from}
use Rattle.trace_steps.specs.Map.{register_entry, inverter_entry, one_entry, point_entry}
use Rattle.trace_steps.specs.Steps.{lit, first_in, free_in}
use Rattle.trace_steps.proofs.SweepLaws.{looks-table}
use Rattle.trace_rings.specs.Rings.{mark, rest, met, InputOf, Behind, first, further, Rest, Fresh, First, here, none}
use Rattle.trace.specs.Tables.{Tabled, Looking}
use Rattle.trace.proofs.ElementLaws.{in_terminal, made-within, within-made, input-not_out}
use Rattle.trace.proofs.GateLaws.{Input, at-a-pin, at-a-wire, input, input-low, input-before, Gate, gate-at, input-made, gate-looks, before-input, input-look, out_cases}
use Rattle.trace.proofs.OrderLaws.{OrderStart, Stage, End}

ring_back : (m : Net) (ok : Formed m) (x : ℕ) → OnRing m x → Back (before m) x x
unfolding on_ring
ring_back m ok x r = reach-back (before m) (rounds m) x x ((on_ring_lem m ok x).1 r)

-- ---- settled within some rounds

module _ (back : ℕ → List ℕ) where
  abbrev pub Calm : ℕ → Type 0
  Calm x = (n : ℕ) × T (settled back n x)

  settled-more : (j k x : ℕ) → T (settled back k x) → T (settled back (j + k) x)
  settled-more zero k x t = let e : 0 + k ≡ k = omega arith in subst (λ (z : ℕ). T (settled back z x)) (sym e) t
  settled-more (suc j) k x t = let e : suc (j + k) ≡ suc j + k = omega arith in subst (λ (z : ℕ). T (settled back z x)) e (settled_up back (j + k) x (settled-more j k x t))

  calm-all : (xs : List ℕ) → ((y : ℕ) → T (has xs y) → Calm y) → (n : ℕ) × T (all_of (settled back n) xs)
  calm-all [] f = (0, tt)
  calm-all (x ∷ xs) f =
      let a = f x (or_left (eqb x x) (has xs x) (eqb_refl x)) in
      let b = calm-all xs (λ y t. f y (or_right (eqb x y) (has xs y) t)) in
      let e : a.0 + b.0 ≡ b.0 + a.0 = omega arith in
      (b.0 + a.0, and_of (settled back (b.0 + a.0) x) (all_of (settled back (b.0 + a.0)) xs) (settled-more b.0 a.0 x a.1) (up a.0 b.0 e xs b.1))
    where
      up : (j k : ℕ) → j + k ≡ k + j → (xs : List ℕ) → T (all_of (settled back k) xs) → T (all_of (settled back (k + j)) xs)
      up j k e [] t = tt
      up j k e (x ∷ xs) t =
          let r = and_both (settled back k x) (all_of (settled back k) xs) t in
          and_of (settled back (k + j) x) (all_of (settled back (k + j)) xs) (subst (λ (z : ℕ). T (settled back z x)) e (settled-more j k x r.0)) (up j k e xs r.1)

  pub calm_of : (x : ℕ) → ((y : ℕ) → T (has (back x) y) → Calm y) → Calm x
  calm_of x f = let r = calm-all (back x) f in (suc r.0, r.1)

  pub calm-back : (x y : ℕ) → Calm x → T (has (back x) y) → Calm y
  calm-back x y (zero, t) h = absurd t
  calm-back x y (suc n, t) h = (n, all-at (settled back n) (back x) t y h)

  pub calm_free : (x : ℕ) → Calm x → Back back x x → ⊥
  calm_free x (n, t) b = settled_free back n x t b

  -- what holds of all that x looks at, and goes back with each look
  pub behind-all : (P : ℕ → Type 0) → ((y z : ℕ) → P y → T (has (back y) z) → P z) → (x : ℕ) → ((z : ℕ) → T (has (back x) z) → P z) → (y : ℕ) → Back back x y → P y
  behind-all P f x g y (last h) = g y h
  behind-all P f x g y (step {y = u} h b) = behind-all P f u (λ z k. f u z (g u h) k) y b

-- ---- inputs

inputs-within : (es : List Element) (x : ℕ) → T (has (inputs es) x) → (a : Element) × Among a es × (owners.start a ≤ x) × (x < owners.last a)
inputs-within [] x t = absurd t
inputs-within (point i ∷ es) x t =
    or_elim (eqb i x) (has (inputs es) x) t (λ v. let e = eqb→eq i x v in (point i, in_here, omega arith, omega arith)) (λ v. let r = inputs-within es x v in (r.0, in-there r.1, r.2, r.3))
inputs-within (part p i ∷ es) x t =
    ⊎_elim (λ v. let r = has_up (part_at p).inputs i x v in (part p i, in_here, r.0, r.1)) (λ v. let r = inputs-within es x v in (r.0, in-there r.1, r.2, r.3)) (has-append (up_from (part_at p).inputs i) (inputs es) x t)

within-inputs : (a : Element) {es : List Element} (x : ℕ) → Among a es → owners.start a ≤ x → x < owners.last a → T (has (inputs es) x)
within-inputs (point i) x (in_here {xs = es}) l h = let e : i ≡ x = omega arith in or_left (eqb i x) (has (inputs es) x) (subst (λ (z : ℕ). T (eqb i z)) e (eqb_refl i))
within-inputs (part p i) x (in_here {xs = es}) l h = has_left (up_from (part_at p).inputs i) (inputs es) x (up_has (part_at p).inputs i x l h)
within-inputs a x (in-there {y = point j} {xs = es} g) l h = or_right (eqb j x) (has (inputs es) x) (within-inputs a x g l h)
within-inputs a x (in-there {y = part q j} {xs = es} g) l h = has_right (up_from (part_at q).inputs j) (inputs es) x (within-inputs a x g l h)

-- an output that looks at z has it among its own inputs
owner_of : (m : Net) (ok : Formed m) (o z : ℕ) → T (is_out m.elements o) → T (has (before m o) z) → (a : Element) × Among a m.elements × (owners.last a ≡ o) × (owners.start a ≤ z)
owner_of m ok o z t h = go (decided m ok o (out_terminal m.elements o t)) h
  where
    go : {s : Source} → Decided m ok o s → T (has (looks s) z) → (a : Element) × Among a m.elements × (owners.last a ≡ o) × (owners.start a ≤ z)
    go (is-pin a) h = absurd h
    go (is-wire v a e) h =
        let l : 1 ≤ targets m.wires v.to = in_all (λ v. 1 ≤ targets m.wires v.to) a (each_target m.wires) in
        let k : 1 ≤ made_at_lem m.elements o = subst (λ (x : ℕ). 1 ≤ made_at_lem m.elements x) e (let q = ok.reached v.to in omega arith) in
        absurd (subst T (input-not_out m.elements 0 ok.end o ok.rising k) t)
    go (is-point i a e) h = (point i, a, e, (let q = or_elim (eqb i z) false h (λ u. eqb→eq i z u) (λ u. absurd u) in omega arith))
    go (is-part p i a e) h = (part p i, a, e, (looks-at p i z h).1)

-- ---- the memory before the sweeps

pub record Ground (u : List ℕ) (m : Net) (end pins total : ℕ) : Type 0 where
  pub tabled : Tabled u m end pins
  pub few : total ≤ 4096
  pub each : (k : ℕ) → k < total → T (has (terminals m.elements) (rest u k)) × Looking (get_or u (rest u k) 0)
  pub all : (x : ℕ) → T (has (terminals m.elements) x) → Looking (get_or u x 0) → (k : ℕ) × (k < total) × (rest u k ≡ x)
  pub falling : (i k : ℕ) → i < k → k < total → rest u k < rest u i
  pub marks : (x : ℕ) → x < end → mark u x ≡ bit_byte_lem (free_in u x)
  pub past : (x : ℕ) → end ≤ x → x < 8192 → mark u x ≡ 0

module _ (u : List ℕ) (m : Net) (end pins total : ℕ) (g : Ground u m end pins total) where
  abbrev es : List Element
  es = m.elements

  abbrev t : Tabled u m end pins
  t = g.tabled

  abbrev ok : Formed m
  ok = g.tabled.formed

  gate : (k : ℕ) → k < total → Gate u m end pins t (rest u k)
  gate k l = gate-at u m end pins t (rest u k) (g.each k l).0 (g.each k l).1

  low : (x : ℕ) → T (has (terminals es) x) → x < 8192
  low x h = let a = t.low x h in let b = t.few in omega arith

  not_free : (x : ℕ) → x < 8192 → Looking (get_or u x 0) → free_in u x ≡ false
  not_free x l h =
      let v = get_or u x 0 in
      let high : register_entry < v = ⊎_elim (λ (e : v ≡ point_entry). omega arith) (λ r. r.0) h in
      let six : v ≡ one_entry → ⊥ = λ e. ⊎_elim (λ (f : v ≡ point_entry). omega arith) (λ r. omega (arith, r.1)) h in
      ap (λ (b : Bool). b || (eqb v kinds_from || (eqb v register_entry || eqb v one_entry))) (ne_eqb v x (λ e. omega arith))
      ∙ ap (λ (b : Bool). b || (eqb v register_entry || eqb v one_entry)) (ne_eqb v kinds_from (λ e. omega arith))
      ∙ ap (λ (b : Bool). b || eqb v one_entry) (ne_eqb v register_entry (λ e. omega arith)) ∙ ne_eqb v one_entry six

  loose : (x : ℕ) → T (has (terminals es) x) → Looking (get_or u x 0) → mark u x ≡ 1 → ⊥
  loose x h l e = let z = g.marks x (t.low x h) ∙ ap bit_byte_lem (not_free x (low x h) l) in omega arith

  pub start : OrderStart u total
  start = record {
    size = t.size;
    few = g.few;
    looks = λ k l. gate-looks u m end pins t (rest u k) (low (rest u k) (g.each k l).0) (gate k l);
    falling = g.falling;
    loose = λ k l. loose (rest u k) (g.each k l).0 (g.each k l).1;
  }

  -- what a gate looks at is settled from the start, or listed
  sourced : (k z : ℕ) → k < total → InputOf u (rest u k) z → (mark u (get_or u z 0) ≡ 1) ⊎ ((i : ℕ) × (i < total) × (rest u i ≡ get_or u z 0))
  sourced k z l i = go (input u m end pins t z h)
    where
      h : 1 ≤ made_at_lem es z
      h = input-made u m end pins t (rest u k) z (gate k l) i

      z-low : z < end
      z-low = let r = made-within es z h in t.low z (in_terminal r.0 z r.1 r.2 (let k = r.3 in omega arith))

      go : Input u m end pins t z → (mark u (get_or u z 0) ≡ 1) ⊎ ((i : ℕ) × (i < total) × (rest u i ≡ get_or u z 0))
      go (at-a-pin a e) = inl (ap (mark u) e ∙ g.marks z z-low ∙ ap bit_byte_lem (ap (λ (b : Bool). b || (eqb (get_or u z 0) kinds_from || (eqb (get_or u z 0) register_entry || eqb (get_or u z 0) one_entry))) (eq-eqb (get_or u z 0) z e)))
      go (at-a-wire a b) = ⊎_elim (λ c. inr (g.all (get_or u z 0) (out_terminal es (get_or u z 0) b) c)) (λ c. inl (g.marks (get_or u z 0) (t.low (get_or u z 0) (out_terminal es (get_or u z 0) b)) ∙ ap bit_byte_lem c.0)) (out_cases u m end pins t (get_or u z 0) b)

  -- an output that is settled from the start looks at nothing
  free-calm : (y : ℕ) → T (is_out es y) → mark u y ≡ 1 → Calm (before m) y
  free-calm y h e =
      ⊎_elim (λ c. absurd (loose y (out_terminal es y h) c e))
      (λ c. calm_of (before m) y (λ z k. absurd (subst (λ (l : List ℕ). T (has l z)) c.1 k))) (out_cases u m end pins t y h)

  -- ---- after the sweeps

  module _ (w : List ℕ) (left done : ℕ) (c : End u total start w left done) where
    abbrev s : Stage u total left 0 w 0 done
    s = c.stage

    in_rest : (i : ℕ) → i < left → (k : ℕ) × (k < total) × (rest u k ≡ rest w i)
    in_rest i l = s.known i (inr (omega arith, l))

    left-gate : (i : ℕ) → i < left → Gate u m end pins t (rest w i)
    left-gate i l = let k = in_rest i l in subst (λ (x : ℕ). Gate u m end pins t x) k.2 (gate k.0 k.1)

    left-terminal : (i : ℕ) → i < left → T (has (terminals es) (rest w i))
    left-terminal i l = let k = in_rest i l in subst (λ (x : ℕ). T (has (terminals es) x)) k.2 (g.each k.0 k.1).0

    -- inputs by u's table and by w's are the same
    input-u : (o z : ℕ) → o < 8192 → InputOf w o z → InputOf u o z
    input-u o z l (inl e) = inl (e ∙ ap (λ (a : ℕ). cond (ltb a inverter_entry) (o - 2) (o - 1)) (s.table o l))
    input-u o z l (inr e) = inr e

    input-w : (o z : ℕ) → o < 8192 → InputOf u o z → InputOf w o z
    input-w o z l (inl e) = inl (e ∙ sym (ap (λ (a : ℕ). cond (ltb a inverter_entry) (o - 2) (o - 1)) (s.table o l)))
    input-w o z l (inr e) = inr e

    source-same : (z : ℕ) → 1 ≤ made_at_lem es z → get_or w z 0 ≡ get_or u z 0
    source-same z h = let r = made-within es z h in s.table z (low z (in_terminal r.0 z r.1 r.2 (let k = r.3 in omega arith)))

    still : (y : ℕ) → mark u y ≡ 1 → mark w y ≡ 1
    still y e = ⊎_elim (λ q. q ∙ e) (λ q. q.0) (s.marks y)

    held : (i : ℕ) → ((i < 0) ⊎ ((0 ≤ i) × (i < left))) → i < left
    held i (inl l) = absurd (omega arith)
    held i (inr (a, b)) = b

    -- a listed output is left, or settled
    listed : (k : ℕ) → k < total → ((i : ℕ) × (i < left) × (rest w i ≡ rest u k)) ⊎ ((j : ℕ) × (j < done) × (met w j ≡ rest u k))
    listed k l = ⊎_elim (λ r. inl (r.0, held r.0 r.1, r.2)) inr (s.cover k l)

    -- ---- what is settled is calm

    order-terminal : (j : ℕ) → j < done → (k : ℕ) × (k < total) × (rest u k ≡ met w j)
    order-terminal j l = s.order j l

    order-calm : (n j : ℕ) → j < n → j < done → Calm (before m) (met w j)
    order-calm zero j a b = absurd (omega arith)
    order-calm (suc n) j a b = calm_of (before m) (met w j) (λ z h. calm_of (before m) z (λ y k. source-calm z y (input_of z h) k (order-calm n)))
      where
        k₀ : (k : ℕ) × (k < total) × (rest u k ≡ met w j)
        k₀ = order-terminal j b

        gate-j : Gate u m end pins t (met w j)
        gate-j = subst (λ (x : ℕ). Gate u m end pins t x) k₀.2 (gate k₀.0 k₀.1)

        input_of : (z : ℕ) → T (has (before m (met w j)) z) → InputOf u (met w j) z
        input_of z h = before-input u m end pins t (met w j) z gate-j h

        source-calm : (z y : ℕ) → InputOf u (met w j) z → T (has (before m z) y) → ((i : ℕ) → i < n → i < done → Calm (before m) (met w i)) → Calm (before m) y
        source-calm z y i k ih =
            let r = input-before u m end pins t z y (input-made u m end pins t (met w j) z gate-j i) k in
            ⊎_elim (λ e. free-calm y r.1 (ap (mark u) r.0 ∙ e))
            (λ f. subst (λ (x : ℕ). Calm (before m) x) (f.2 ∙ sym r.0) (ih f.0 (let q = f.1 in omega arith) (let q = f.1 in omega arith))) (s.sourced j z b i)

    mark-calm : (y : ℕ) → T (is_out es y) → mark w y ≡ 1 → Calm (before m) y
    mark-calm y h e =
        ⊎_elim (λ q. free-calm y h (sym q ∙ e)) (λ q. let f = q.1 in subst (λ (x : ℕ). Calm (before m) x) f.2 (order-calm (suc f.0) f.0 (omega arith) f.1)) (s.marks y)

    -- ---- none left

    out-calm : left ≡ 0 → (y : ℕ) → T (is_out es y) → Calm (before m) y
    out-calm e y h = ⊎_elim
        (λ a. let k = g.all y (out_terminal es y h) a in
        ⊎_elim (λ r. absurd (let q = r.1 in omega arith)) (λ r. subst (λ (x : ℕ). Calm (before m) x) (r.2 ∙ k.2) (order-calm (suc r.0) r.0 (omega arith) r.1)) (listed k.0 k.1))
        (λ a. calm_of (before m) y (λ z k. absurd (subst (λ (l : List ℕ). T (has l z)) a.1 k))) (out_cases u m end pins t y h)

    pub none_left : left ≡ 0 → none_on_ring m (inputs es) ≡ good tt
    none_left e = (runs_iff m ok).1 (λ x r. calm_free (before m) x (calm-at x (terminal x r)) (ring-behind x r))
      where
        ring-behind : (x : ℕ) → OnRing m x → Back (before m) x x
        ring-behind x r = ring_back m ok x r

        terminal : (x : ℕ) → OnRing m x → T (has (terminals es) x)
        terminal x r = met-terminal (ring-behind x r)
          where
            met-terminal : {a b : ℕ} → Back (before m) a b → T (has (terminals es) b)
            met-terminal {a} {b} (last h) = closed m ok a b h
            met-terminal (step h p) = met-terminal p

        calm-at : (x : ℕ) → T (has (terminals es) x) → Calm (before m) x
        calm-at x h = ⊎_elim (λ o. out-calm e x o) (λ i. calm_of (before m) x (λ y k. out-calm e y (input-before u m end pins t x y i k).1)) (terminal_is es x h)

    -- ---- some left

    pub left-rest : Rest w left
    left-rest = record {
      size = let a = s.size in let b = t.size in omega arith;
      few = let a = g.few in let b = s.bound in omega arith;
      looks = λ i l. looks-table s.size s.table (gate-looks u m end pins t (rest w i) (low (rest w i) (left-terminal i l)) (left-gate i l));
      shut = λ i z l h.
          let k = in_rest i l in
          let h₁ = input-u (rest w i) z (low (rest w i) (left-terminal i l)) h in
          let e = source-same z (input-made u m end pins t (rest w i) z (left-gate i l) h₁) in
          ⊎_elim (λ q. inl (ap (mark w) e ∙ still (get_or u z 0) q))
          (λ q. ⊎_elim (λ r. inr (r.0, r.1, r.2 ∙ q.2 ∙ sym e)) (λ r. inl (ap (mark w) (e ∙ sym q.2 ∙ sym r.2) ∙ s.marked r.0 r.1)) (listed q.0 q.1))
          (sourced k.0 z k.1 (subst (λ (x : ℕ). InputOf u x z) (sym k.2) h₁));
    }

    pub left-fresh : Fresh w 2
    left-fresh = (omega arith, λ y l. ⊎_elim (λ q. (let b = bit-low y l in omega arith)) (λ q. (let e = q.0 in omega arith)) (s.marks y))
      where
        byte_low : (b : Bool) → bit_byte_lem b < 2
        byte_low true = omega arith
        byte_low false = omega arith

        bit-low : (y : ℕ) → y < 8192 → mark u y < 2
        bit-low y l = elim (dec_le end y) [ yes h ↦ (let e = g.past y h l in omega arith) | no h ↦ subst (λ (n : ℕ). n < 2) (sym (g.marks y (omega arith))) (byte_low (free_in u y)) ]

    -- what is behind an input of an output that is left
    module _ (x i : ℕ) (l : i < left) (h : InputOf w (rest w i) x) where
      h₁ : InputOf u (rest w i) x
      h₁ = input-u (rest w i) x (low (rest w i) (left-terminal i l)) h

      x-made : 1 ≤ made_at_lem es x
      x-made = input-made u m end pins t (rest w i) x (left-gate i l) h₁

      -- the source of an input that is not settled is what it looks at
      look-source : (z : ℕ) → 1 ≤ made_at_lem es z → (mark w (get_or w z 0) ≡ 1 → ⊥) → T (has (before m z) (get_or w z 0))
      look-source z a d = go (input u m end pins t z a)
        where
          go : Input u m end pins t z → T (has (before m z) (get_or w z 0))
          go (at-a-pin p e) = absurd (d (ap (mark w) (source-same z a ∙ e) ∙ still z (ap (mark u) (sym e) ∙ pin-marked)))
            where
              pin-marked : mark u (get_or u z 0) ≡ 1
              pin-marked =
                  let r = made-within es z a in
                  ap (mark u) e ∙ g.marks z (t.low z (in_terminal r.0 z r.1 r.2 (let k = r.3 in omega arith))) ∙ ap bit_byte_lem (ap (λ (b : Bool). b || (eqb (get_or u z 0) kinds_from || (eqb (get_or u z 0) register_entry || eqb (get_or u z 0) one_entry))) (eq-eqb (get_or u z 0) z e))
          go (at-a-wire p q) = subst (λ (y : ℕ). T (has (before m z) y)) (sym (source-same z a)) (subst (λ (v : Source). T (has (looks v) (get_or u z 0))) (sym p) (or_left (eqb (get_or u z 0) (get_or u z 0)) false (eqb_refl (get_or u z 0))))

      behind-gate : (o : ℕ) → Behind w x o → (j : ℕ) × (j < left) × (rest w j ≡ o)
      behind-gate o (first y e d) = ⊎_elim (λ q. absurd (d (ap (mark w) e ∙ q))) (λ r. (r.0, r.1, r.2 ∙ sym e)) (left-rest.shut i x l h)
      behind-gate o (further p z y b k e d) = go (behind-gate p b)
        where
          go : (j : ℕ) × (j < left) × (rest w j ≡ p) → (j : ℕ) × (j < left) × (rest w j ≡ o)
          go (j, a, q) = ⊎_elim (λ v. absurd (d (ap (mark w) e ∙ v))) (λ r. (r.0, r.1, r.2 ∙ sym e)) (left-rest.shut j z a (subst (λ (c : ℕ). InputOf w c z) (sym q) k))

      behind-back : (o : ℕ) → Behind w x o → Back (before m) x o
      behind-back o (first y e d) = last (subst (λ (v : ℕ). T (has (before m x) v)) (sym e) (look-source x x-made (subst (λ (v : ℕ). mark w v ≡ 1 → ⊥) e d)))
      behind-back o (further p z y b k e d) =
          let r = behind-gate p b in
          let a = left-gate r.0 r.1 in
          let k₁ = input-u (rest w r.0) z (low (rest w r.0) (left-terminal r.0 r.1)) (subst (λ (c : ℕ). InputOf w c z) (sym r.2) k) in
          let z-made = input-made u m end pins t (rest w r.0) z a k₁ in
          longer (before m) (behind-back p b) (step (subst (λ (c : ℕ). T (has (before m c) z)) r.2 (input-look u m end pins t (rest w r.0) z a k₁)) (last (subst (λ (v : ℕ). T (has (before m z) v)) (sym e) (look-source z z-made (subst (λ (v : ℕ). mark w v ≡ 1 → ⊥) e d)))))

      pub on-ring-of : Behind w x (rest w i) → OnRing m x
      on-ring-of b = back_ring m ok x (longer (before m) (behind-back (rest w i) b) (last (input-look u m end pins t (rest w i) x (left-gate i l) h₁)))

    -- ---- an input on a ring has its own output behind it

    looking-out : (o : ℕ) → T (has (terminals es) o) → Looking (get_or u o 0) → T (is_out es o)
    looking-out o h l = ⊎_elim (λ a. a) (λ a. absurd (let z = input-low u m end pins t o a in ⊎_elim (λ (e : get_or u o 0 ≡ point_entry). omega arith) (λ r. omega (arith, r.0)) l)) (terminal_is es o h)

    left_out : (i : ℕ) → i < left → T (is_out es (rest w i))
    left_out i l = let k = in_rest i l in subst (λ (x : ℕ). T (is_out es x)) k.2 (looking-out (rest u k.0) (g.each k.0 k.1).0 (g.each k.0 k.1).1)

    left-or-marked : (z : ℕ) → T (is_out es z) → (mark w z ≡ 1) ⊎ ((i : ℕ) × (i < left) × (rest w i ≡ z))
    left-or-marked z h = ⊎_elim
        (λ a. let k = g.all z (out_terminal es z h) a in
        ⊎_elim (λ r. inr (r.0, r.1, r.2 ∙ k.2)) (λ r. inl (ap (mark w) (sym k.2 ∙ sym r.2) ∙ s.marked r.0 r.1)) (listed k.0 k.1))
        (λ a. inl (still z (g.marks z (t.low z (out_terminal es z h)) ∙ ap bit_byte_lem a.0))) (out_cases u m end pins t z h)

    module _ (x : ℕ) (made-x : 1 ≤ made_at_lem es x) (b : Back (before m) x x) where
      abbrev P : ℕ → Type 0
      P z = Calm (before m) z ⊎ (((i : ℕ) × (i < left) × ((rest w i ≡ z) × Behind w x z)) ⊎ ((i : ℕ) × (i < left) × (Behind w x (rest w i) × T (has (before m (rest w i)) z))))

      first-look : (z : ℕ) → T (has (before m x) z) → P z
      first-look z h =
          let r = input-before u m end pins t x z made-x h in
          let e : z ≡ get_or w x 0 = r.0 ∙ sym (source-same x made-x) in
          elim (ℕ_discrete (mark w z) 1) [
            | yes q ↦ inl (mark-calm z r.1 q)
            | no q ↦ ⊎_elim (λ a. absurd (q a)) (λ a. inr (inl (a.0, a.1, (a.2, first z e q)))) (left-or-marked z r.1)
          ]

      more-look : (y z : ℕ) → P y → T (has (before m y) z) → P z
      more-look y z (inl a) h = inl (calm-back (before m) y z a h)
      more-look y z (inr (inl (i, l, (e, a)))) h = inr (inr (i, l, (subst (λ (v : ℕ). Behind w x v) (sym e) a, subst (λ (v : ℕ). T (has (before m v) z)) (sym e) h)))
      more-look y z (inr (inr (i, l, (a, k)))) h =
          let gt = left-gate i l in
          let k₁ = before-input u m end pins t (rest w i) y gt k in
          let made-y = input-made u m end pins t (rest w i) y gt k₁ in
          let r = input-before u m end pins t y z made-y h in
          let e : z ≡ get_or w y 0 = r.0 ∙ sym (source-same y made-y) in
          elim (ℕ_discrete (mark w z) 1) [
            | yes q ↦ inl (mark-calm z r.1 q)
            | no q ↦ ⊎_elim (λ c. absurd (q c)) (λ c. inr (inl (c.0, c.1, (c.2, further (rest w i) y z a (input-w (rest w i) y (low (rest w i) (left-terminal i l)) k₁) e q)))) (left-or-marked z r.1)
          ]

      pub own_behind : (i : ℕ) × (i < left) × (InputOf w (rest w i) x × Behind w x (rest w i))
      own_behind = go (behind-all (before m) P more-look x first-look x b)
        where
          go : P x → (i : ℕ) × (i < left) × (InputOf w (rest w i) x × Behind w x (rest w i))
          go (inl a) = absurd (calm_free (before m) x a b)
          go (inr (inl (i, l, (e, a)))) = absurd (subst T (input-not_out es 0 ok.end x ok.rising made-x) (subst (λ (v : ℕ). T (is_out es v)) e (left_out i l)))
          go (inr (inr (i, l, (a, k)))) = (i, l, (input-w (rest w i) x (low (rest w i) (left-terminal i l)) (before-input u m end pins t (rest w i) x (left-gate i l) k), a))

    input-ring : (x : ℕ) → T (has (inputs es) x) → OnRing m x → (i : ℕ) × (i < left) × (InputOf w (rest w i) x × Behind w x (rest w i))
    input-ring x h r = let a = inputs-within es x h in own_behind x (within-made a.0 x a.1 a.2 a.3) (ring_back m ok x r)

    -- ---- what is left is never settled

    waits : (i : ℕ) → i < left → (z : ℕ) × (InputOf w (rest w i) z × (mark w (get_or w z 0) ≡ 1 → ⊥))
    waits i l = by (lit w (get_or w (first_in w (rest w i)) 0)) (lit w (get_or w (rest w i - 1) 0)) refl refl (c.stuck i l)
      where
        by : (a b : Bool) → lit w (get_or w (first_in w (rest w i)) 0) ≡ a → lit w (get_or w (rest w i - 1) 0) ≡ b → a && b ≡ false → (z : ℕ) × (InputOf w (rest w i) z × (mark w (get_or w z 0) ≡ 1 → ⊥))
        by false b p q e = (first_in w (rest w i), (inl refl, eqb-false (mark w (get_or w (first_in w (rest w i)) 0)) 1 p))
        by true false p q e = (rest w i - 1, (inr refl, eqb-false (mark w (get_or w (rest w i - 1) 0)) 1 q))
        by true true p q e = absurd (subst T e tt)

    waits-for : (i : ℕ) → i < left → (z : ℕ) × (j : ℕ) × (j < left) × (T (has (before m (rest w i)) z) × T (has (before m z) (rest w j)))
    waits-for i l =
        let r = waits i l in
        let z = r.0 in
        let gt = left-gate i l in
        let k₁ = input-u (rest w i) z (low (rest w i) (left-terminal i l)) r.1.0 in
        let made-z = input-made u m end pins t (rest w i) z gt k₁ in
        let b = look-source z i l r.1.0 z made-z r.1.1 in
        let o = input-before u m end pins t z (get_or w z 0) made-z b in
        ⊎_elim (λ a. absurd (r.1.1 a)) (λ a. (z, a.0, a.1, (input-look u m end pins t (rest w i) z gt k₁, subst (λ (v : ℕ). T (has (before m z) v)) (sym a.2) b))) (left-or-marked (get_or w z 0) o.1)

    never-settled : (k i : ℕ) → i < left → T (settled (before m) k (rest w i)) → ⊥
    never-settled zero i l h = h
    never-settled (suc zero) i l h = let r = waits-for i l in all-at (settled (before m) 0) (before m (rest w i)) h r.0 r.3.0
    never-settled (suc (suc k)) i l h =
        let r = waits-for i l in
        let a = all-at (settled (before m) (suc k)) (before m (rest w i)) h r.0 r.3.0 in
        never-settled k r.1 r.2 (all-at (settled (before m) k) (before m r.0) a (rest w r.1) r.3.1)

    -- ---- the refusal

    pub place_is : (x : ℕ) → 1 ≤ left → First w left x → none_on_ring m (inputs es) ≡ refuse 19 x
    place_is x l (none f) = go (none_on_ring m (inputs es)) refl
      where
        go : (a : Answer (Unit {0})) → none_on_ring m (inputs es) ≡ a → none_on_ring m (inputs es) ≡ refuse 19 0
        go (good tt) q = absurd (never-settled (rounds m) 0 l (all_settled (before m) (terminals es) (closed m ok) (λ y b. accepted m ok q y (back_ring m ok y b)) (rest w 0)))
        go (refused why) q =
            let r = ring_place m ok why q in
            let i = input-ring why.place r.listed r.ring in
            absurd (f i.0 i.1 why.place i.2.0 i.2.1)
    place_is x l (here j y lj i b clear below) = owners.ring_is m ok x is-input (on-ring-of x j lj i b) least
      where
        is-input : T (has (inputs es) x)
        is-input =
            let k = input-u (rest w j) x (low (rest w j) (left-terminal j lj)) i in
            let r = made-within es x (input-made u m end pins t (rest w j) x (left-gate j lj) k) in
            within-inputs r.0 x r.1 r.2 r.3

        owner : (k z : ℕ) → k < left → InputOf w (rest w k) z → (a : Element) × Among a es × (owners.last a ≡ rest w k) × (owners.start a ≤ z)
        owner k z lk h =
            owner_of m ok (rest w k) z (left_out k lk) (input-look u m end pins t (rest w k) z (left-gate k lk) (input-u (rest w k) z (low (rest w k) (left-terminal k lk)) h))

        x_below : x < rest w j
        x_below = by i
          where
            some : 1 ≤ rest w j
            some = (left-rest.looks j lj).some

            by : InputOf w (rest w j) x → x < rest w j
            by (inl e) = let k = some in omega (arith, first-last)
              where
                first-last : first_in w (rest w j) ≤ rest w j - 1
                first-last = on (ltb (get_or w (rest w j) 0) inverter_entry)
                  where
                    on : (b : Bool) → cond b (rest w j - 2) (rest w j - 1) ≤ rest w j - 1
                    on true = omega arith
                    on false = omega arith
            by (inr e) = let k = some in omega arith

        least : (z : ℕ) → T (has (inputs es) z) → OnRing m z → x ≤ z
        least z h r = at (input-ring z h r)
          where
            at : (k : ℕ) × (k < left) × (InputOf w (rest w k) z × Behind w z (rest w k)) → x ≤ z
            at (k, lk, (ik, bk)) = elim (dec_le x z) [
              | yes v ↦ v
              | no v ↦ (elim (ℕ_discrete k j) [
                | yes q ↦ absurd (below z (omega arith) (subst (λ (n : ℕ). InputOf w (rest w n) z) q ik) (subst (λ (n : ℕ). Behind w z (rest w n)) q bk))
                | no q ↦ (elim (dec_le k j) [
                  | yes p ↦ absurd (
                      let f = s.falling k j (omega arith) (inr (omega arith, lk)) (inr (omega arith, lj)) in
                      let a = owner k z lk ik in
                      let c = owner j x lj i in
                      let d = x_below in
                      let e : a.0 ≡ c.0 = owners.same_owner 0 ok.end (rest w j) ok.rising a.1 c.1 (omega (arith, a.3)) (omega (arith, a.2)) (omega (arith, c.3)) (omega (arith, c.2)) in
                      let o = ap owners.last e in
                      omega (arith, a.2, c.2))
                  | no p ↦ absurd (clear k (omega arith) lk z ik bk)
                ])
              ])
            ]
