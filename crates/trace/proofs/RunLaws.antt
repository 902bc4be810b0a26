-- One tick after the other: the bits in the memory are those of the definition's run. Assumes nothing.
use Prim.Native.Nat.{ℕ, zero, suc, ◌+◌, ◌-◌, ◌*◌, ◌/◌, ◌%◌, ◌≤◌, ◌<◌}
use mathlib.Core.Path.{◌≡◌, refl, sym, ap, ◌∙◌, subst}
use mathlib.Core.Logic.{◌⊎◌, inl, inr, ⊎_elim}
use mathlib.Core.Bool.{Bool, true, false, cond, not, ◌&&◌, ◌||◌, xor}
use mathlib.Core.List.{List, [], ◌∷◌, ◌++◌}
use native.Mathlib.Omega.{arith}
use native.Mathlib.Decide.{ℕ_discrete}
use lib.ListN.{length, get_or, set}
use lib.Seq.{sets}
use lib.Dec.{T, eqb}
use Rattle.laws.proofs.Tests.{T-is}
use Rattle.laws.proofs.Regions.{sets-append}
use Rattle.calculus.specs.Terms.{part_at}
use Rattle.calculus.specs.Net.{Interface, Element, point, part, Net}
use Rattle.calculus.specs.Lean.{is_pin}
use Rattle.calculus.specs.Record.{Bits, All, Among}
use Rattle.calculus.specs.Inputs.{made_at_lem, is_out}
use Rattle.circuit_theorems.specs.Terminals.{has}
use Rattle.circuit_theorems.specs.Formed.{Shown, Formed}
use Rattle.circuit_theorems.proofs.Terminals.{pin_ins}
use Rattle.memory.specs.Map.{memory_size}
use Rattle.lean.specs.Table.{Within, entry}
use Rattle.lean.proofs.TableLaws.{within_none, within_then, within-set, entry-same, entry_other}
use Rattle.trace_calculus.specs.Trace.{Source, pin, from, made_part as made_by, source, terminals, bit, gate, run, OnRing, in_pins, out_pins, registers, place, given_bits, start_bits, bit_byte_lem, row}
use Rattle.trace_theorems.proofs.Sources.{at_pin, at_point, at_part, out_terminal, terminal_is}
use Rattle.trace_theorems.proofs.TraceRun.{held_at, tick_is}
use Rattle.trace_theorems.proofs.Owners.{last}
use Rattle.lean.specs.Layout.{kinds_from}
use Rattle.trace_steps.specs.Map.{registers_at, order_at, pins_at, bits_at, register_entry, one_entry, point_entry}
use Rattle.trace_steps.specs.Turns.{take_turns}
use Rattle.trace_steps.specs.Steps.{lit, first_in, gate_bit, pass_one, hold_one, turn_one}
use Rattle.trace_steps.specs.Pins.{Counted, counted, pin_is_in, in_pin_count, out_pin_count, load_one, store_one}
use Rattle.trace_steps.specs.Ticks.{InOrder, due, OrderAgrees}
use Rattle.trace_steps.proofs.Laws.{first_two, first_one}
use Rattle.trace_steps.proofs.PassLaws.{pass_agrees}
use Rattle.trace_steps.proofs.TickLaws.{ordered_within}
use Rattle.trace_steps.proofs.Laws.{first_low, first-same}
use Rattle.trace_rings.specs.Rings.{met}
use Rattle.trace.specs.Tables.{TableEntry, of_pin, of_wire, of_point, of_part, Tabled, Looking}
use Rattle.trace.proofs.Turning.{turns-keep}
use Rattle.trace.proofs.ElementLaws.{in_out_lem, within-made, in_terminal, made-within, input-not_out}
use Rattle.trace.proofs.GateLaws.{Input, at-a-pin, at-a-wire, input, input-low}
use Rattle.trace_theorems.proofs.Lending.{row-length}
use Rattle.trace.proofs.PinLists.{pin_at_lem, up_to, upto_is, outs-length, pin_number, number_pin, place_is, pins_apart, row_snoc, out_last, out_same, out_shown}
use Rattle.trace.proofs.RegisterLists.{element_entry}

and_same : (b : Bool) → b && b ≡ b
and_same true = refl
and_same false = refl

-- what stands below the bits during a run
pub record RunStood (b : List ℕ) (m : Net) (end pins total regs : ℕ) : Type 0 where
  pub tabled : Tabled b m end pins
  pub order : InOrder b total
  pub listed : (j : ℕ) → j < total → T (has (terminals m.elements) (met b j)) × Looking (get_or b (met b j) 0)
  pub all : (x : ℕ) → T (has (terminals m.elements) x) → Looking (get_or b x 0) → (j : ℕ) × (j < total) × (met b j ≡ x)
  pub few_registers : regs ≤ 5120
  pub count : length (registers m.elements) ≡ regs
  pub register_at_lem : (j : ℕ) → j < regs → Among (part 1 (get_or (registers m.elements) j 0)) m.elements × (get_or b (registers_at + j) 0 ≡ get_or (registers m.elements) j 0 + 1)
  pub register_number : (i : ℕ) → Among (part 1 i) m.elements → (place (registers m.elements) i < regs) × (get_or (registers m.elements) (place (registers m.elements) i) 0 ≡ i)
  pub apart : (i j : ℕ) → i < regs → j < regs → get_or (registers m.elements) i 0 ≡ get_or (registers m.elements) j 0 → i ≡ j

module _ (b : List ℕ) (m : Net) (end pins total regs : ℕ) (s : RunStood b m end pins total regs) where
  abbrev es : List Element
  es = m.elements

  abbrev t : Tabled b m end pins
  t = s.tabled

  abbrev ok : Formed m
  ok = s.tabled.formed

  abbrev rs : List ℕ
  rs = registers m.elements

  pub shown : up_to b pins ≡ m.pins
  shown = let a = t.few_pins in let c = t.size in upto_is b pins (omega arith) ∙ t.shown

  low : (x : ℕ) → T (has (terminals es) x) → x < 8192
  low x h = let a = t.low x h in let c = t.few in omega arith

  out_low : (x : ℕ) → T (is_out es x) → x < 8192
  out_low x h = low x (out_terminal es x h)

  input-out : (x : ℕ) → 1 ≤ made_at_lem es x → is_out es x ≡ false
  input-out x h = input-not_out es 0 ok.end x ok.rising h

  -- ---- loading

  pub record Loaded (bits : List ℕ) (w : List ℕ) (at k : ℕ) (c : Counted) : Type 0 where
    pub within : Within w c.mem
    pub count : c.count ≡ at + in_pin_count b k
    pub done : (j : ℕ) → j < k → pin_is_in b j ≡ true → entry c.mem (pin_at_lem b j) ≡ get_or bits (at + in_pin_count b j) 0
    pub others : (x : ℕ) → ((j : ℕ) → j < k → pin_is_in b j ≡ true → pin_at_lem b j ≡ x → ⊥) → entry c.mem x ≡ entry w x

  pub pin_is : (j : ℕ) → j < pins → pin_is_in b j ≡ true → T (is_pin m.pins (pin_at_lem b j))
  pin_is j l e = subst (λ (ps : Interface). T (is_pin ps (pin_at_lem b j))) shown (number_pin b pins j l e)

  pub pin_made : (x : ℕ) → T (is_pin m.pins x) → 1 ≤ made_at_lem es x
  pin_made x h = let a = pin_ins m.pins x h in let c = ok.reached x in omega arith

  pub made_terminal : (z : ℕ) → 1 ≤ made_at_lem es z → T (has (terminals es) z)
  made_terminal z h = let g = made-within es z h in in_terminal g.0 z g.1 g.2 (let k = g.3 in omega arith)

  pin_low : (j : ℕ) → j < pins → pin_is_in b j ≡ true → pin_at_lem b j < 8192
  pin_low j l e = low (pin_at_lem b j) (made_terminal (pin_at_lem b j) (pin_made (pin_at_lem b j) (pin_is j l e)))

  load-all : (bits w : List ℕ) (at : ℕ) → Within b w → Loaded bits w at pins (take_turns (load_one bits) pins 0 (counted w at))
  load-all bits w at i = turns-keep (load_one bits) (Loaded bits w at) (counted w at)
      (record { within = within_none w; count = let z : at ≡ at + 0 = omega arith in z; done = λ j l. absurd (omega arith); others = λ x f. refl }) pins step
    where
      step : (k : ℕ) (c : Counted) → k < pins → Loaded bits w at k c → Loaded bits w at (suc k) (load_one bits k c)
      step k c l q = by (pin_is_in b k) refl
        where
          same : get_or c.mem (pins_at + k) 0 ≡ get_or b (pins_at + k) 0
          same = let f = t.few_pins in q.within.below (pins_at + k) (omega arith) ∙ i.below (pins_at + k) (omega arith)

          big : memory_size ≤ length c.mem
          big = let x = q.within.size in let y = i.size in let z = t.size in omega arith

          yes-case : pin_is_in b k ≡ true → Loaded bits w at (suc k) (counted (set c.mem (bits_at + pin_at_lem b k) (get_or bits c.count 0)) (c.count + 1))
          yes-case e =
              let v = get_or bits c.count 0 in
              let lo = pin_low k l e in
              record {
                within = within_then q.within (within-set c.mem (pin_at_lem b k) v lo);
                count = (let z = q.count in let y : in_pin_count b (suc k) ≡ in_pin_count b k + 1 = ap (λ (x : Bool). in_pin_count b k + cond x 1 0) e in omega arith);
                done = λ j h f. elim (ℕ_discrete j k) [
                  | yes p ↦ ap (λ (x : ℕ). entry (set c.mem (bits_at + pin_at_lem b k) v) (pin_at_lem b x)) p ∙ entry-same c.mem (pin_at_lem b k) v big lo ∙ ap (λ (x : ℕ). get_or bits x 0) q.count ∙ ap (λ (x : ℕ). get_or bits (at + in_pin_count b x) 0) (sym p)
                  | no d ↦ entry_other c.mem (pin_at_lem b k) (pin_at_lem b j) v (pins_apart b pins m ok shown j k (omega arith) l f e) ∙ q.done j (omega arith) f
                ];
                others = λ x f. entry_other c.mem (pin_at_lem b k) x v (λ p. f k (omega arith) e (sym p)) ∙ q.others x (λ j h g. f j (omega arith) g);
              }

          no-case : pin_is_in b k ≡ false → Loaded bits w at (suc k) c
          no-case e = record {
            within = q.within;
            count = (let z = q.count in let y : in_pin_count b (suc k) ≡ in_pin_count b k + 0 = ap (λ (x : Bool). in_pin_count b k + cond x 1 0) e in omega arith);
            done = λ j h f. elim (ℕ_discrete j k) [
              | yes p ↦ absurd (subst T (sym f ∙ ap (pin_is_in b) p ∙ e) tt)
              | no d ↦ q.done j (omega arith) f
            ];
            others = λ x f. q.others x (λ j h g. f j (omega arith) g);
          }

          by : (x : Bool) → pin_is_in b k ≡ x → Loaded bits w at (suc k) (load_one bits k c)
          by true e =
              subst (Loaded bits w at (suc k))
              (sym (ap (λ (n : ℕ). cond (eqb (n % 2) 0) (counted (set c.mem (bits_at + n / 2) (get_or bits c.count 0)) (c.count + 1)) c) same
              ∙ ap (λ (x : Bool). cond x (counted (set c.mem (bits_at + pin_at_lem b k) (get_or bits c.count 0)) (c.count + 1)) c) e)) (yes-case e)
          by false e =
              subst (Loaded bits w at (suc k))
              (sym (ap (λ (n : ℕ). cond (eqb (n % 2) 0) (counted (set c.mem (bits_at + n / 2) (get_or bits c.count 0)) (c.count + 1)) c) same
              ∙ ap (λ (x : Bool). cond x (counted (set c.mem (bits_at + pin_at_lem b k) (get_or bits c.count 0)) (c.count + 1)) c) e)) (no-case e)

  -- ---- the order stays

  order-within : (w : List ℕ) → Within b w → InOrder w total
  order-within w i =
      let q = s.order in
      let f = q.ordered.few in
      record {
        ordered = ordered_within i q.ordered;
        apart = λ j k l h e. q.apart j k l h (sym (same w i j l) ∙ e ∙ same w i k h);
        first = λ j k l h e. q.first j k l h (sym (ap (λ (x : ℕ). get_or b x 0) (refl)) ∙ sym (first-at w i j (omega arith)) ∙ e ∙ same w i k h);
        last = λ j k l h e. q.last j k l h (sym (last-at w i j (omega arith)) ∙ e ∙ same w i k h);
      }
    where
      same : (w : List ℕ) → Within b w → (j : ℕ) → j < total → met w j ≡ met b j
      same w i j l = let f = s.order.ordered.few in i.below (order_at + j) (omega arith)

      first-at : (w : List ℕ) → Within b w → (j : ℕ) → j < total → get_or w (first_in w (met w j)) 0 ≡ get_or b (first_in b (met b j)) 0
      first-at w i j l =
          let o = (s.order.ordered.looks j l).low in
          ap (λ (x : ℕ). get_or w (first_in w x) 0) (same w i j l) ∙ ap (λ (x : ℕ). get_or w x 0) (first-same i (met b j) o) ∙ i.below (first_in b (met b j)) (omega (arith, first_low b (met b j) o))

      last-at : (w : List ℕ) → Within b w → (j : ℕ) → j < total → get_or w (met w j - 1) 0 ≡ get_or b (met b j - 1) 0
      last-at w i j l =
          let o = (s.order.ordered.looks j l).low in
          ap (λ (x : ℕ). get_or w (x - 1) 0) (same w i j l) ∙ i.below (met b j - 1) (omega arith)

  -- ---- a gate's bit

  module _ (v : List ℕ) where
    due-two : (o i p : ℕ) → get_or b o 0 ≡ kinds_from + p → p < 5 → i + 2 ≡ o → due b v o ≡ gate_bit p (lit v (get_or b i 0)) (lit v (get_or b (i + 1) 0))
    due-two o i p e l q =
        let k : get_or b o 0 - kinds_from ≡ p = omega arith in
        let f : first_in b o ≡ i = (let z : o - 2 ≡ i = omega arith in sym (first_two b o (omega arith)) ∙ z) in
        let g : o - 1 ≡ i + 1 = omega arith in
        ap (λ (x : ℕ). gate_bit x (lit v (get_or b (first_in b o) 0)) (lit v (get_or b (o - 1) 0))) k
        ∙ ap (λ (x : ℕ). gate_bit p (lit v (get_or b x 0)) (lit v (get_or b (o - 1) 0))) f ∙ ap (λ (x : ℕ). gate_bit p (lit v (get_or b i 0)) (lit v (get_or b x 0))) g

    due-one : (o i p : ℕ) → get_or b o 0 ≡ kinds_from + p → 5 ≤ p → i + 1 ≡ o → due b v o ≡ gate_bit p (lit v (get_or b i 0)) (lit v (get_or b i 0))
    due-one o i p e l q =
        let k : get_or b o 0 - kinds_from ≡ p = omega arith in
        let f : first_in b o ≡ i = (let z : o - 1 ≡ i = omega arith in sym (first_one b o (omega arith)) ∙ z) in
        let g : o - 1 ≡ i = omega arith in
        ap (λ (x : ℕ). gate_bit x (lit v (get_or b (first_in b o) 0)) (lit v (get_or b (o - 1) 0))) k
        ∙ ap (λ (x : ℕ). gate_bit p (lit v (get_or b x 0)) (lit v (get_or b (o - 1) 0))) f ∙ ap (λ (x : ℕ). gate_bit p (lit v (get_or b i 0)) (lit v (get_or b x 0))) g

  -- ---- a tick

  module _ (free : (x : ℕ) → OnRing m x → ⊥) (bits starts : List ℕ) where
    abbrev given : Bits
    given = given_bits m.pins bits

    abbrev woken : ℕ → Bool
    woken = start_bits m.elements starts

    abbrev pub β₀ : Bits
    β₀ = run m given woken

    pub record State (n : ℕ) (w : List ℕ) : Type 0 where
      pub within : Within b w
      pub holds : (i : ℕ) → Among (part 1 i) es → lit w (i + 1) ≡ held_at woken β₀ n i
      pub zeros : (i : ℕ) → Among (part 0 i) es → lit w i ≡ false
      pub ones : (i : ℕ) → Among (part 6 i) es → lit w i ≡ true

    module _ (n : ℕ) (w : List ℕ) (c : State n w) where
      abbrev at : ℕ
      at = n * length (in_pins m.pins)

      loaded : Loaded bits w at pins (take_turns (load_one bits) pins 0 (counted w at))
      loaded = load-all bits w at c.within

      abbrev w₁ : List ℕ
      w₁ = (take_turns (load_one bits) pins 0 (counted w at)).mem

      abbrev v : List ℕ
      v = take_turns pass_one total 0 w₁

      in-w₁ : Within b w₁
      in-w₁ = within_then c.within loaded.within

      agrees : OrderAgrees w₁ total v
      agrees = pass_agrees w₁ total (order-within w₁ in-w₁)

      pub in-v : Within b v
      in-v = within_then in-w₁ agrees.within

      -- what no pin and no gate has stays
      stays : (x : ℕ) → T (is_out es x) → (Looking (get_or b x 0) → ⊥) → entry v x ≡ entry w x
      stays x h d =
          agrees.others x (λ j l e. (let f = s.order.ordered.few in let q = s.listed j l in d (subst (λ (z : ℕ). Looking (get_or b z 0)) (sym (in-w₁.below (order_at + j) (omega arith)) ∙ e) q.1)))
          ∙ loaded.others x (λ j l e p. absurd (subst T (input-out x (subst (λ (z : ℕ). 1 ≤ made_at_lem es z) p (pin_made (pin_at_lem b j) (pin_is j l e)))) h))

      -- a gate has what is due
      due-at : (x : ℕ) → T (has (terminals es) x) → Looking (get_or b x 0) → lit v x ≡ due b v x
      due-at x h l =
          let r = s.all x h l in
          let f = s.order.ordered.few in
          let e : met w₁ r.0 ≡ x = in-w₁.below (order_at + r.0) (omega (arith, r.1)) ∙ r.2 in
          subst (λ (z : ℕ). lit v z ≡ due w₁ v z) e (agrees.bits r.0 r.1) ∙ due-same x (low x h)
        where
          due-same : (o : ℕ) → o < 8192 → due w₁ v o ≡ due b v o
          due-same o l =
              let k = in-w₁.below o (omega arith) in
              let f = ap (λ (y : ℕ). get_or w₁ y 0) (first-same in-w₁ o l) ∙ in-w₁.below (first_in b o) (omega (arith, first_low b o l)) in
              let g = in-w₁.below (o - 1) (omega arith) in
              ap (λ (x : ℕ). gate_bit (x - kinds_from) (lit v (get_or w₁ (first_in w₁ o) 0)) (lit v (get_or w₁ (o - 1) 0))) k
              ∙ ap (λ (x : ℕ). gate_bit (get_or b o 0 - kinds_from) (lit v x) (lit v (get_or w₁ (o - 1) 0))) f ∙ ap (λ (x : ℕ). gate_bit (get_or b o 0 - kinds_from) (lit v (get_or b (first_in b o) 0)) (lit v x)) g

      -- a pin has the bit given
      pin-bit : (x : ℕ) → T (is_pin m.pins x) → lit v x ≡ given x n
      pin-bit x h =
          let r = pin_number b pins x (subst (λ (ps : Interface). T (is_pin ps x)) (sym shown) h) in
          let j = r.0 in
          let e = r.2.1 in
          let f = s.order.ordered.few in
          ap (λ (k : ℕ). eqb k 1)
          (agrees.others x (λ i l q. (let y = s.listed i l in not_out x h (subst (λ (z : ℕ). T (is_out es z)) (sym (in-w₁.below (order_at + i) (omega arith)) ∙ q) (looking-out (met b i) y.0 y.1))))
          ∙ ap (entry w₁) (sym e) ∙ loaded.done j r.1 r.2.0 ∙ ap (λ (k : ℕ). get_or bits (at + k) 0) (sym (ap (place (in_pins m.pins)) (sym e) ∙ place_is b pins m ok shown j r.1 r.2.0)))
        where
          not_out : (x : ℕ) → T (is_pin m.pins x) → T (is_out es x) → ⊥
          not_out x h o = subst T (input-out x (pin_made x h)) o

          looking-out : (o : ℕ) → T (has (terminals es) o) → Looking (get_or b o 0) → T (is_out es o)
          looking-out o h l = ⊎_elim (λ a. a) (λ a. absurd (let z = input-low b m end pins t o a in ⊎_elim (λ (e : get_or b o 0 ≡ point_entry). omega arith) (λ r. omega (arith, r.0)) l)) (terminal_is es o h)

      -- the bit of each terminal
      abbrev pub β : ℕ → Bool
      β x = cond (is_out es x) (lit v x) (lit v (get_or b x 0))

      β-out : (x : ℕ) → T (is_out es x) → β x ≡ lit v x
      β-out x h = ap (λ (c : Bool). cond c (lit v x) (lit v (get_or b x 0))) (T-is (is_out es x) h)

      pub β-in : (x : ℕ) → is_out es x ≡ false → β x ≡ lit v (get_or b x 0)
      β-in x h = ap (λ (c : Bool). cond c (lit v x) (lit v (get_or b x 0))) h

      made_in : (x : ℕ) → 1 ≤ made_at_lem es x → β x ≡ lit v (get_or b x 0)
      made_in x h = β-in x (input-out x h)

      quiet : (x k : ℕ) → get_or b x 0 ≡ k → (k ≡ kinds_from) ⊎ ((k ≡ register_entry) ⊎ (k ≡ one_entry)) → Looking (get_or b x 0) → ⊥
      quiet x k e (inl q) l = ⊎_elim (λ (f : get_or b x 0 ≡ point_entry). omega arith) (λ r. omega (arith, r.0)) l
      quiet x k e (inr (inl q)) l = ⊎_elim (λ (f : get_or b x 0 ≡ point_entry). omega arith) (λ r. omega (arith, r.0)) l
      quiet x k e (inr (inr q)) l = ⊎_elim (λ (f : get_or b x 0 ≡ point_entry). omega arith) (λ r. omega (arith, r.1)) l

      two-bit : (p i : ℕ) → Among (part p i) es → (part_at p).inputs ≡ 2 → 2 ≤ p → p < 5 → lit v (i + (part_at p).inputs) ≡ gate_bit p (lit v (get_or b i 0)) (lit v (get_or b (i + 1) 0))
      two-bit p i h e l k =
          let q = element_entry b m end pins t (part p i) h in
          due-at (i + (part_at p).inputs) (out_terminal es (i + (part_at p).inputs) (in_out_lem (part p i) h)) (inr (omega arith, omega arith)) ∙ due-two v (i + (part_at p).inputs) i p q k (omega arith)

      both_bits : (f : Bool → Bool → Bool) (i : ℕ) → 1 ≤ made_at_lem es i → 1 ≤ made_at_lem es (i + 1) → f (β i) (β (i + 1)) ≡ f (lit v (get_or b i 0)) (lit v (get_or b (i + 1) 0))
      both_bits f i h k = ap (λ (x : Bool). f x (β (i + 1))) (made_in i h) ∙ ap (λ (x : Bool). f (lit v (get_or b i 0)) x) (made_in (i + 1) k)

      part-bit : (p i : ℕ) → Among (part p i) es → p < 7 → lit v (i + (part_at p).inputs) ≡ gate p i (held_at woken β₀ n) β
      part-bit zero i h l = let z : i + 0 ≡ i = omega arith in ap (lit v) z ∙ ap (λ (k : ℕ). eqb k 1) (stays i (subst (λ (x : ℕ). T (is_out es x)) z (in_out_lem (part 0 i) h)) (λ q. quiet i kinds_from (subst (λ (x : ℕ). get_or b x 0 ≡ kinds_from) z (element_entry b m end pins t (part 0 i) h)) (inl refl) q)) ∙ c.zeros i h
      part-bit (suc zero) i h l = ap (λ (k : ℕ). eqb k 1) (stays (i + 1) (in_out_lem (part 1 i) h) (λ q. quiet (i + 1) register_entry (element_entry b m end pins t (part 1 i) h) (inr (inl refl)) q)) ∙ c.holds i h
      part-bit (suc (suc zero)) i h l = two-bit 2 i h refl (omega arith) (omega arith) ∙ sym (both_bits ◌&&◌ i (within-made (part 2 i) i h (omega arith) (omega arith)) (within-made (part 2 i) (i + 1) h (omega arith) (omega arith)))
      part-bit (suc (suc (suc zero))) i h l = two-bit 3 i h refl (omega arith) (omega arith) ∙ sym (both_bits ◌||◌ i (within-made (part 3 i) i h (omega arith) (omega arith)) (within-made (part 3 i) (i + 1) h (omega arith) (omega arith)))
      part-bit (suc (suc (suc (suc zero)))) i h l = two-bit 4 i h refl (omega arith) (omega arith) ∙ sym (both_bits xor i (within-made (part 4 i) i h (omega arith) (omega arith)) (within-made (part 4 i) (i + 1) h (omega arith) (omega arith)))
      part-bit (suc (suc (suc (suc (suc zero))))) i h l =
          due-at (i + 1) (out_terminal es (i + 1) (in_out_lem (part 5 i) h)) (inr (let e = element_entry b m end pins t (part 5 i) h in (omega arith, omega arith)))
          ∙ due-one v (i + 1) i 5 (element_entry b m end pins t (part 5 i) h) (omega arith) refl ∙ ap not (sym (made_in i (within-made (part 5 i) i h (omega arith) (omega arith))))
      part-bit (suc (suc (suc (suc (suc (suc zero)))))) i h l = let z : i + 0 ≡ i = omega arith in ap (lit v) z ∙ ap (λ (k : ℕ). eqb k 1) (stays i (subst (λ (x : ℕ). T (is_out es x)) z (in_out_lem (part 6 i) h)) (λ q. quiet i one_entry (subst (λ (x : ℕ). get_or b x 0 ≡ one_entry) z (element_entry b m end pins t (part 6 i) h)) (inr (inr refl)) q)) ∙ c.ones i h
      part-bit (suc (suc (suc (suc (suc (suc (suc p))))))) i h l = absurd (omega arith)

      agree : (x : ℕ) → T (has (terminals es) x) → β x ≡ bit (source m x) x (λ y. given y n) (held_at woken β₀ n) β
      agree x h = go (t.entries x h) refl
        where
          on : (r : Source) → source m x ≡ r → β x ≡ bit r x (λ y. given y n) (held_at woken β₀ n) β → β x ≡ bit (source m x) x (λ y. given y n) (held_at woken β₀ n) β
          on r e q = q ∙ ap (λ (z : Source). bit z x (λ y. given y n) (held_at woken β₀ n) β) (sym e)

          go : {k : ℕ} → TableEntry m x k → k ≡ get_or b x 0 → β x ≡ bit (source m x) x (λ y. given y n) (held_at woken β₀ n) β
          go (of_pin a d) e = on pin (at_pin m ok x a) (β-in x d ∙ ap (lit v) (sym e) ∙ pin-bit x a)
          go (of_wire y a d o) e = on (from y) a (β-in x d ∙ ap (lit v) (sym e) ∙ sym (β-out y o))
          go (of_point i a q) e =
              on (from i) (subst (λ (z : ℕ). source m z ≡ from i) q (at_point m ok a))
              (β-out x (subst (λ (z : ℕ). T (is_out es z)) q (in_out_lem (point i) a)) ∙ due-at x h (inl (sym e)) ∙ due-one v x i 7 (sym e) (omega arith) q ∙ and_same (lit v (get_or b i 0)) ∙ sym (made_in i (within-made (point i) i a (omega arith) (omega arith))))
          go (of_part p i a q l) e =
              on (made_by p i) (subst (λ (z : ℕ). source m z ≡ made_by p i) q (at_part m ok a))
              (β-out x (subst (λ (z : ℕ). T (is_out es z)) q (in_out_lem (part p i) a)) ∙ ap (lit v) (sym q) ∙ part-bit p i a l)

      -- the bits are those of the run
      pub run-bit : (x : ℕ) → T (has (terminals es) x) → β x ≡ β₀ x n
      run-bit x h = tick_is m ok free given woken n β agree x h

      pub out-bit : (x : ℕ) → T (is_out es x) → lit v x ≡ β₀ x n
      out-bit x h = sym (β-out x h) ∙ run-bit x (out_terminal es x h)

      -- ---- the registers go on

      reg-made : (j : ℕ) → j < regs → 1 ≤ made_at_lem es (get_or rs j 0)
      reg-made j l = within-made (part 1 (get_or rs j 0)) (get_or rs j 0) (s.register_at_lem j l).0 (omega arith) (omega arith)

      reg-low : (j : ℕ) → j < regs → get_or rs j 0 < 8192
      reg-low j l = low (get_or rs j 0) (made_terminal (get_or rs j 0) (reg-made j l))

      reg-out : (j : ℕ) → j < regs → T (is_out es (get_or rs j 0 + 1))
      reg-out j l = in_out_lem (part 1 (get_or rs j 0)) (s.register_at_lem j l).0

      reg_at : (x : List ℕ) → Within b x → (j : ℕ) → j < regs → get_or x (registers_at + j) 0 ≡ get_or rs j 0 + 1
      reg_at x i j l = let f = s.few_registers in i.below (registers_at + j) (omega arith) ∙ (s.register_at_lem j l).1

      out-not-input : (y z : ℕ) → T (is_out es y) → 1 ≤ made_at_lem es z → z ≡ y → ⊥
      out-not-input y z h k e = subst T (input-out z k) (subst (λ (x : ℕ). T (is_out es x)) (sym e) h)

      record Holding (k : ℕ) (x : List ℕ) : Type 0 where
        pub within : Within v x
        pub done : (j : ℕ) → j < k → entry x (get_or rs j 0) ≡ entry v (get_or b (get_or rs j 0) 0)
        pub others : (y : ℕ) → ((j : ℕ) → j < k → get_or rs j 0 ≡ y → ⊥) → entry x y ≡ entry v y

      hold-all : Holding regs (take_turns hold_one regs 0 v)
      hold-all = turns-keep hold_one Holding v (record { within = within_none v; done = λ j l. absurd (omega arith); others = λ y f. refl }) regs step
        where
          step : (j : ℕ) (x : List ℕ) → j < regs → Holding j x → Holding (suc j) (hold_one j x)
          step j x l q = subst (Holding (suc j)) (sym shape) next
            where
              r : ℕ
              r = get_or rs j 0

              i : Within b x
              i = within_then in-v q.within

              y : ℕ
              y = get_or b (get_or rs j 0) 0

              value : entry x (get_or b (get_or rs j 0) 0) ≡ entry v (get_or b (get_or rs j 0) 0)
              value = q.others (get_or b (get_or rs j 0) 0) (λ k h e. go (input b m end pins t (get_or rs j 0) (reg-made j l)) k h e)
                where
                  go : Input b m end pins t (get_or rs j 0) → (k : ℕ) → k < j → get_or rs k 0 ≡ get_or b (get_or rs j 0) 0 → ⊥
                  go (at-a-pin a e) k h f = let z = s.apart k j (omega arith) l (f ∙ e) in omega arith
                  go (at-a-wire a o) k h f = out-not-input (get_or b (get_or rs j 0) 0) (get_or rs k 0) o (reg-made k (omega arith)) f

              shape : hold_one j x ≡ set x (bits_at + get_or rs j 0) (entry x (get_or b (get_or rs j 0) 0))
              shape =
                  let e = reg_at x i j l in
                  let f : get_or rs j 0 + 1 - 1 ≡ get_or rs j 0 = omega arith in
                  let lo = reg-low j l in
                  ap (λ (o : ℕ). set x (bits_at + (o - 1)) (get_or x (bits_at + get_or x (o - 1) 0) 0)) e
                  ∙ ap (λ (z : ℕ). set x (bits_at + z) (get_or x (bits_at + get_or x z 0) 0)) f
                  ∙ ap (λ (z : ℕ). set x (bits_at + get_or rs j 0) (get_or x (bits_at + z) 0)) (i.below (get_or rs j 0) (omega arith))

              big : memory_size ≤ length x
              big = let a = i.size in let c = t.size in omega arith

              next : Holding (suc j) (set x (bits_at + get_or rs j 0) (entry x (get_or b (get_or rs j 0) 0)))
              next = let lo = reg-low j l in record {
                within = within_then q.within (within-set x (get_or rs j 0) _ lo);
                done = λ k h. elim (ℕ_discrete k j) [
                  | yes e ↦ subst (λ (z : ℕ). entry (set x (bits_at + get_or rs j 0) (entry x (get_or b (get_or rs j 0) 0))) (get_or rs z 0) ≡ entry v (get_or b (get_or rs z 0) 0)) (sym e) (entry-same x (get_or rs j 0) (entry x (get_or b (get_or rs j 0) 0)) big lo ∙ value)
                  | no d ↦ entry_other x (get_or rs j 0) (get_or rs k 0) _ (λ e. d (s.apart k j (omega arith) l e)) ∙ q.done k (omega arith)
                ];
                others = λ z f. entry_other x (get_or rs j 0) z _ (λ e. f j (omega arith) (sym e)) ∙ q.others z (λ k h. f k (omega arith));
              }

      abbrev v₁ : List ℕ
      v₁ = take_turns hold_one regs 0 v

      record Turned (k : ℕ) (x : List ℕ) : Type 0 where
        pub within : Within v₁ x
        pub done : (j : ℕ) → j < k → entry x (get_or rs j 0 + 1) ≡ entry v₁ (get_or rs j 0)
        pub others : (y : ℕ) → ((j : ℕ) → j < k → get_or rs j 0 + 1 ≡ y → ⊥) → entry x y ≡ entry v₁ y

      turn-all : Turned regs (take_turns turn_one regs 0 v₁)
      turn-all = turns-keep turn_one Turned v₁ (record { within = within_none v₁; done = λ j l. absurd (omega arith); others = λ y f. refl }) regs step
        where
          step : (j : ℕ) (x : List ℕ) → j < regs → Turned j x → Turned (suc j) (turn_one j x)
          step j x l q = subst (Turned (suc j)) (sym shape) next
            where
              i : Within b x
              i = within_then in-v (within_then hold-all.within q.within)

              big : memory_size ≤ length x
              big = let a = i.size in let c = t.size in omega arith

              shape : turn_one j x ≡ set x (bits_at + (get_or rs j 0 + 1)) (entry x (get_or rs j 0))
              shape =
                  let f : get_or rs j 0 + 1 - 1 ≡ get_or rs j 0 = omega arith in
                  ap (λ (o : ℕ). set x (bits_at + o) (get_or x (bits_at + (o - 1)) 0)) (reg_at x i j l) ∙ ap (λ (z : ℕ). set x (bits_at + (get_or rs j 0 + 1)) (get_or x (bits_at + z) 0)) f

              value : entry x (get_or rs j 0) ≡ entry v₁ (get_or rs j 0)
              value = q.others (get_or rs j 0) (λ k h e. out-not-input (get_or rs k 0 + 1) (get_or rs j 0) (reg-out k (omega arith)) (reg-made j l) (sym e))

              next : Turned (suc j) (set x (bits_at + (get_or rs j 0 + 1)) (entry x (get_or rs j 0)))
              next = let lo = out_low (get_or rs j 0 + 1) (reg-out j l) in record {
                within = within_then q.within (within-set x (get_or rs j 0 + 1) _ lo);
                done = λ k h. elim (ℕ_discrete k j) [
                  | yes e ↦ subst (λ (z : ℕ). entry (set x (bits_at + (get_or rs j 0 + 1)) (entry x (get_or rs j 0))) (get_or rs z 0 + 1) ≡ entry v₁ (get_or rs z 0)) (sym e) (entry-same x (get_or rs j 0 + 1) (entry x (get_or rs j 0)) big lo ∙ value)
                  | no d ↦ entry_other x (get_or rs j 0 + 1) (get_or rs k 0 + 1) _ (λ e. d (s.apart k j (omega arith) l (omega arith))) ∙ q.done k (omega arith)
                ];
                others = λ z f. entry_other x (get_or rs j 0 + 1) z _ (λ e. f j (omega arith) (sym e)) ∙ q.others z (λ k h. f k (omega arith));
              }

      -- an output that is no register's and no gate's
      constant : (a : Element) → Among a es → (get_or b (last a) 0 ≡ kinds_from) ⊎ (get_or b (last a) 0 ≡ one_entry) → entry (take_turns turn_one regs 0 v₁) (last a) ≡ entry w (last a)
      constant a h e =
          turn-all.others (last a) (λ j l q. not_register j l q)
          ∙ hold-all.others (last a) (λ j l q. out-not-input (last a) (get_or rs j 0) (in_out_lem a h) (reg-made j l) q)
          ∙ stays (last a) (in_out_lem a h) not-looking
        where
          not_register : (j : ℕ) → j < regs → get_or rs j 0 + 1 ≡ last a → ⊥
          not_register j l q =
              let z = element_entry b m end pins t (part 1 (get_or rs j 0)) (s.register_at_lem j l).0 in
              let y = ap (λ (k : ℕ). get_or b k 0) q in
              ⊎_elim (λ (f : get_or b (last a) 0 ≡ kinds_from). omega arith) (λ (f : get_or b (last a) 0 ≡ one_entry). omega arith) e

          not-looking : Looking (get_or b (last a) 0) → ⊥
          not-looking l = ⊎_elim (λ f. quiet (last a) kinds_from f (inl refl) l) (λ f. quiet (last a) one_entry f (inr (inr refl)) l) e

      pub state-next : State (suc n) (take_turns turn_one regs 0 v₁)
      state-next = record {
        within = within_then in-v (within_then hold-all.within turn-all.within);
        holds = λ i h.
            let r = s.register_number i h in
            let k = place rs i in
            ap (λ (x : ℕ). eqb x 1)
            (subst (λ (x : ℕ). entry (take_turns turn_one regs 0 v₁) (x + 1) ≡ entry v₁ x) r.1 (turn-all.done k r.0) ∙ subst (λ (x : ℕ). entry v₁ x ≡ entry v (get_or b x 0)) r.1 (hold-all.done k r.0))
            ∙ sym (made_in i (within-made (part 1 i) i h (omega arith) (omega arith))) ∙ run-bit i (in_terminal (part 1 i) i h (omega arith) (omega arith));
        zeros = λ i h.
            let z : i + 0 ≡ i = omega arith in
            subst (λ (x : ℕ). lit (take_turns turn_one regs 0 v₁) x ≡ lit w x) z (ap (λ (x : ℕ). eqb x 1) (constant (part 0 i) h (inl (element_entry b m end pins t (part 0 i) h)))) ∙ c.zeros i h;
        ones = λ i h.
            let z : i + 0 ≡ i = omega arith in
            subst (λ (x : ℕ). lit (take_turns turn_one regs 0 v₁) x ≡ lit w x) z (ap (λ (x : ℕ). eqb x 1) (constant (part 6 i) h (inr (element_entry b m end pins t (part 6 i) h)))) ∙ c.ones i h;
      }

      -- ---- the output pins

      record Stored (out : List ℕ) (to k : ℕ) (q : Counted) : Type 0 where
        pub count : q.count ≡ to + out_pin_count b k
        pub mem : q.mem ≡ sets out to (row β₀ n (out_pins (up_to b k)))

      store-all : (out : List ℕ) (to : ℕ) → Stored out to pins (take_turns (store_one v) pins 0 (counted out to))
      store-all out to = turns-keep (store_one v) (Stored out to) (counted out to) (record { count = let z : to ≡ to + 0 = omega arith in z; mem = refl }) pins step
        where
          step : (k : ℕ) (q : Counted) → k < pins → Stored out to k q → Stored out to (suc k) (store_one v k q)
          step k q l g = subst (Stored out to (suc k)) (sym shape) (by (pin_is_in b k) refl)
            where
              same : get_or v (pins_at + k) 0 ≡ get_or b (pins_at + k) 0
              same = let f = t.few_pins in in-v.below (pins_at + k) (omega arith)

              shape : store_one v k q ≡ cond (pin_is_in b k) q (counted (set q.mem q.count (bit_byte_lem (lit v (pin_at_lem b k)))) (q.count + 1))
              shape = ap (λ (x : ℕ). cond (eqb (x % 2) 0) q (counted (set q.mem q.count (bit_byte_lem (lit v (x / 2)))) (q.count + 1))) same

              by : (x : Bool) → pin_is_in b k ≡ x → Stored out to (suc k) (cond x q (counted (set q.mem q.count (bit_byte_lem (lit v (pin_at_lem b k)))) (q.count + 1)))
              by true e = record {
                count = g.count ∙ (let y : out_pin_count b (suc k) ≡ out_pin_count b k + 0 = ap (λ (x : Bool). out_pin_count b k + cond x 0 1) e in omega arith);
                mem = g.mem ∙ ap (λ (os : List ℕ). sets out to (row β₀ n os)) (sym (out_same b k e));
              }
              by false e =
                  let o = out_shown es b pins k l e (subst (λ (ps : Interface). All (Shown es) ps) (sym shown) ok.shown) in
                  let r = row β₀ n (out_pins (up_to b k)) in
                  let len : length r ≡ out_pin_count b k = row-length β₀ n (out_pins (up_to b k)) ∙ outs-length b k in
                  let z = g.count in
                  let at-end : q.count ≡ to + length r = omega arith in
                  record {
                    count = (let y : out_pin_count b (suc k) ≡ out_pin_count b k + 1 = ap (λ (x : Bool). out_pin_count b k + cond x 0 1) e in omega arith);
                    mem =
                        ap (λ (x : List ℕ). set x q.count (bit_byte_lem (lit v (pin_at_lem b k)))) g.mem
                        ∙ ap (λ (x : ℕ). set (sets out to r) x (bit_byte_lem (lit v (pin_at_lem b k)))) at-end
                        ∙ sets-append r (bit_byte_lem (lit v (pin_at_lem b k)) ∷ []) out to
                        ∙ ap (λ (x : Bool). sets out to (r ++ bit_byte_lem x ∷ [])) (out-bit (pin_at_lem b k) o)
                        ∙ ap (sets out to) (sym (ap (row β₀ n) (out_last b k e) ∙ row_snoc β₀ n (out_pins (up_to b k)) (pin_at_lem b k)));
                  }

      pub row-stored : (out : List ℕ) (to : ℕ) → (take_turns (store_one v) pins 0 (counted out to)).mem ≡ sets out to (row β₀ n (out_pins m.pins))
      row-stored out to = (store-all out to).mem ∙ ap (λ (ps : Interface). sets out to (row β₀ n (out_pins ps))) shown
