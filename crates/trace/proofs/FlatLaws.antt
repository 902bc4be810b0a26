-- A netlist without rings, run over the flat layout: the table has what the layout asks, so that what is written is what a run by terminal writes.
-- Assumes nothing.
use Prim.Native.Nat.{ℕ, ◌-◌, ◌*◌, ◌≤◌, ◌<◌}
use mathlib.Core.Path.{◌≡◌, refl, sym, ap, ◌∙◌, subst}
use mathlib.Core.Logic.{inl, inr, ⊎_elim}
use mathlib.Core.Bool.{true, false}
use mathlib.Core.List.{List}
use native.Mathlib.Omega.{arith}
use lib.ListN.{length, get_or}
use lib.Dec.{T}
use Rattle.calculus.specs.Net.{Interface, Element, part, Net}
use Rattle.calculus.specs.Record.{All}
use Rattle.calculus.specs.Inputs.{made_at_lem, is_out}
use Rattle.circuit_theorems.specs.Formed.{Shown}
use Rattle.memory.specs.Map.{memory_size}
use Rattle.trace_calculus.specs.Trace.{registers}
use Rattle.trace_theorems.proofs.Sources.{out_terminal}
use Rattle.trace_steps.specs.Map.{order_at, register_entry, one_entry, point_entry}
use Rattle.trace_steps.specs.Turns.{take_turns, Looped}
use Rattle.trace_steps.specs.Steps.{first_in, Registers, wake_one}
use Rattle.trace_steps.specs.Words.{word_at, word_begin, keep_one, lane_zero, entire}
use Rattle.trace_steps.specs.Pins.{pin_is_in, in_pin_count, out_pin_count, RegistersListed}
use Rattle.trace_steps.specs.Ticks.{sizes, Ran}
use Rattle.trace_steps.proofs.TickLaws.{ins-within, outs-within}
use Rattle.trace_flat.specs.Flat.{flat_most, shown_at, Stretched}
use Rattle.trace_flat.specs.FlatTicks.{Layable, FlatLaid, Flat, WrittenBy, flat_wake, flat_keep, counts, Counts, FlatFits, FlatRan}
use Rattle.trace_flat.specs.Shows.{gate_at, register_at, Unheld, Places, Reads, PinReads}
use Rattle.trace_flat.proofs.CellLaws.{flat_cells, cells_shown}
use Rattle.trace_flat.proofs.ReadyLaws.{laid_ready}
use Rattle.trace_flat.proofs.PlaceLaws.{own-place}
use Rattle.trace_flat.proofs.StartLaws.{places, begin-is, wake_is, start_agrees}
use Rattle.trace_flat.proofs.RunShows.{Agree, RanSo, ran-is, keep-shows}
use Rattle.trace_rings.specs.Rings.{met}
use Rattle.std.specs.Prelude.{Ok}
use Rattle.trace.specs.Tables.{Tabled, Looking}
use Rattle.trace.specs.Said.{Above, lent_in, lanes_lent, Safe, Runnable, Freed, LanesFreed}
use Rattle.trace.proofs.ElementLaws.{in_out_lem, within-made, input-not_out}
use Rattle.trace.proofs.GateLaws.{Gate, gate-at, Input, at-a-pin, at-a-wire, input, input-low, input-made}
use Rattle.trace.proofs.PinLists.{pin_at_lem, ins-outs, out_shown}
use Rattle.trace.proofs.RegisterLists.{element_entry}
use Rattle.trace.proofs.RunLaws.{RunStood, shown, pin_is, pin_made, made_terminal}
use Rattle.trace.proofs.StageLaws.{above_then}
use Rattle.trace.proofs.FreeLaws.{stood, listed_above, pins₁, order_ready}
use Rattle.trace.proofs.FreeLaws as free
use Rattle.trace.proofs.LanesLaws.{Words16}
use Rattle.trace.proofs.LanesLaws as lanes

-- ---- what stands in the table

module _ (b : List ℕ) (m : Net) (end pins total regs : ℕ) (s : RunStood b m end pins total regs) where
  abbrev es : List Element
  es = m.elements

  abbrev rs : List ℕ
  rs = registers m.elements

  abbrev t : Tabled b m end pins
  t = s.tabled

  low : (x : ℕ) → 1 ≤ made_at_lem es x → x < end
  low x h = t.low x (made_terminal b m end pins total regs s x h)

  gate-is : (j : ℕ) → j < total → Gate b m end pins t (met b j)
  gate-is j l = let q = s.listed j l in gate-at b m end pins t (met b j) q.0 q.1

  register-made : (j : ℕ) → j < regs → 1 ≤ made_at_lem es (register_at b j - 1)
  register-made j l =
      let r = s.register_at_lem j l in
      let e : get_or rs j 0 ≡ register_at b j - 1 = (let q = r.1 in omega arith) in
      subst (λ (z : ℕ). 1 ≤ made_at_lem es z) e (within-made (part 1 (get_or rs j 0)) (get_or rs j 0) r.0 (omega arith) (omega arith))

  register-out : (j : ℕ) → j < regs → T (is_out es (register_at b j))
  register-out j l = let r = s.register_at_lem j l in subst (λ (z : ℕ). T (is_out es z)) (sym r.1) (in_out_lem (part 1 (get_or rs j 0)) r.0)

  pub register-low : (j : ℕ) → j < regs → register_at b j < end
  register-low j l = t.low (register_at b j) (out_terminal es (register_at b j) (register-out j l))

  out_not_made : (x : ℕ) → T (is_out es x) → 1 ≤ made_at_lem es x → ⊥
  out_not_made x o h = subst T (input-not_out es 0 t.formed.end x t.formed.rising h) o

  -- an output is no register's input
  out-unheld : (x : ℕ) → T (is_out es x) → Unheld b regs x
  out-unheld x o j l e = absurd (out_not_made x o (subst (λ (z : ℕ). 1 ≤ made_at_lem es z) (sym e) (register-made j l)))

  source_low : (z : ℕ) → 1 ≤ made_at_lem es z → get_or b z 0 < end
  source_low z h = go (input b m end pins t z h)
    where
      go : Input b m end pins t z → get_or b z 0 < end
      go (at-a-pin a e) = subst (λ (y : ℕ). y < end) (sym e) (low z h)
      go (at-a-wire a o) = t.low (get_or b z 0) (out_terminal es (get_or b z 0) o)

  source-unheld : (z : ℕ) → 1 ≤ made_at_lem es z → Unheld b regs (get_or b z 0)
  source-unheld z h = go (input b m end pins t z h)
    where
      go : Input b m end pins t z → Unheld b regs (get_or b z 0)
      go (at-a-pin a e) = λ j l f. ap (λ (y : ℕ). get_or b y 0) e
      go (at-a-wire a o) = out-unheld (get_or b z 0) o

  first_made : (j : ℕ) → j < total → 1 ≤ made_at_lem es (first_in b (gate_at b j))
  first_made j l = input-made b m end pins t (met b j) (first_in b (met b j)) (gate-is j l) (inl refl)

  last_made : (j : ℕ) → j < total → 1 ≤ made_at_lem es (gate_at b j - 1)
  last_made j l = input-made b m end pins t (met b j) (met b j - 1) (gate-is j l) (inr refl)

  -- ---- each is there once

  pub registers-once : (i j : ℕ) → i < regs → j < regs → register_at b i ≡ register_at b j → i ≡ j
  registers-once i j h l e = s.apart i j h l (let p = (s.register_at_lem i h).1 in let q = (s.register_at_lem j l).1 in omega arith)

  quiet : (x : ℕ) → (get_or b x 0 ≡ register_entry) → Looking (get_or b x 0) → ⊥
  quiet x e l = ⊎_elim (λ (f : get_or b x 0 ≡ point_entry). omega arith) (λ r. omega (arith, r.0)) l

  pub none_both : (i j : ℕ) → i < total → j < regs → gate_at b i ≡ register_at b j → ⊥
  none_both i j h l e =
      let r = s.register_at_lem j l in
      quiet (gate_at b i) (ap (λ (x : ℕ). get_or b x 0) (e ∙ r.1) ∙ element_entry b m end pins t (part 1 (get_or rs j 0)) r.0) (s.listed i h).1

  pub none_one : (j : ℕ) → j < total → get_or b (gate_at b j) 0 ≡ one_entry → ⊥
  none_one j h e = ⊎_elim (λ (f : get_or b (gate_at b j) 0 ≡ point_entry). omega arith) (λ r. omega (arith, r.1)) (s.listed j h).1

  module _ (rg : Registers b regs) (few : total ≤ flat_most) (few_registers : regs ≤ flat_most) where
    pub reads : Reads b total regs end
    reads = record {
      low = t.few;
      order = s.order.ordered;
      few = few;
      registers = rg;
      few_registers = few_registers;
      gate_low = λ j l. t.low (met b j) (s.listed j l).0;
      first_low = λ j l. source_low (first_in b (gate_at b j)) (first_made j l);
      first_shown = λ j l. source-unheld (first_in b (gate_at b j)) (first_made j l);
      last_low = λ j l. source_low (gate_at b j - 1) (last_made j l);
      last_shown = λ j l. source-unheld (gate_at b j - 1) (last_made j l);
      source_low = λ j l. source_low (register_at b j - 1) (register-made j l);
      source_shown = λ j l. source-unheld (register_at b j - 1) (register-made j l);
      apart = registers-once;
      no_input = λ i j h l e. out_not_made (register_at b i) (register-out i h) (subst (λ (z : ℕ). 1 ≤ made_at_lem es z) (sym e) (register-made j l));
    }

    -- ---- the pins

    in-made : (k : ℕ) → k < pins → pin_is_in b k ≡ true → 1 ≤ made_at_lem es (pin_at_lem b k)
    in-made k h e = pin_made b m end pins total regs s (pin_at_lem b k) (pin_is b m end pins total regs s k h e)

    out-is : (k : ℕ) → k < pins → pin_is_in b k ≡ false → T (is_out es (pin_at_lem b k))
    out-is k h e = out_shown es b pins k h e (subst (λ (ps : Interface). All (Shown es) ps) (sym (shown b m end pins total regs s)) t.formed.shown)

    -- an input is no gate's output
    not-gate : (x : ℕ) → 1 ≤ made_at_lem es x → (j : ℕ) → j < total → gate_at b j ≡ x → ⊥
    not-gate x h j l e =
        let z = input-low b m end pins t x h in
        ⊎_elim (λ (f : get_or b x 0 ≡ point_entry). omega arith) (λ r. omega (arith, r.0)) (subst (λ (y : ℕ). Looking (get_or b y 0)) e (s.listed j l).1)

    pub pin-reads : (l : Layable b end total regs pins) (v : List ℕ) (d : FlatLaid b end total regs pins v) → PinReads b regs end pins (word_at d.m)
    pin-reads l v d = record {
      few = t.few_pins;
      in_low = λ k h e. low (pin_at_lem b k) (in-made k h e);
      in_own = λ k h e.
          let made = in-made k h e in
          let f = t.few in
          let g = low (pin_at_lem b k) made in
          own-place b total regs t.size few few_registers (λ j q. (l.order.looks j q).low) (λ j q. (rg.each j q).low) s.order.apart registers-once none_both d.m d.placed (pin_at_lem b k) (omega arith) (not-gate (pin_at_lem b k) made)
          (λ j q y. out_not_made (register_at b j) (register-out j q) (subst (λ (z : ℕ). 1 ≤ made_at_lem es z) (sym y) made));
      out_low = λ k h e. t.low (pin_at_lem b k) (out_terminal es (pin_at_lem b k) (out-is k h e));
      out_shown = λ k h e. out-unheld (pin_at_lem b k) (out-is k h e);
    }

-- ---- as code has it

-- a run over the flat layout, as a run by terminal: `mem` is the memory that it would leave
pub record RanFlat (g : ℕ → ℕ) (w₁ : List ℕ) (end settled regs pins i n : ℕ) (bits starts out after v : List ℕ) : Type 0 where
  pub mem : List ℕ
  pub begun : Looped word_begin end w₁ (take_turns word_begin end 0 w₁)
  pub woken : Looped (wake_one starts) regs (take_turns word_begin end 0 w₁) (take_turns (wake_one starts) regs 0 (take_turns word_begin end 0 w₁))
  pub ran : Ran g (sizes settled regs pins) bits i (pins - i) n (take_turns (wake_one starts) regs 0 (take_turns word_begin end 0 w₁)) out mem after
  pub kept : (st : List ℕ) → take_turns (flat_keep v) regs 0 st ≡ take_turns (keep_one mem) regs 0 st

module _ (u : List ℕ) (end settled pins n : ℕ) (bits starts out : List ℕ) (sf : Safe u end settled pins n) (w₁ : List ℕ) (regs : ℕ) (ls : RegistersListed u end w₁ regs) (i : ℕ) (ei : i ≡ in_pin_count w₁ pins) (few : (settled ≤ flat_most) × (regs ≤ flat_most)) where
  pub layable : Layable w₁ end settled regs pins
  layable = record {
    size = let a = ls.size in let c = sf.size in omega arith;
    few_terminals = sf.few;
    order = order_ready u end settled pins n bits starts out sf w₁ regs ls i ei;
    few_gates = few.0;
    registers = ls.registers;
    few_registers = few.1;
    pins = pins₁ u end settled pins n bits starts out sf w₁ regs ls i ei;
  }

  module _ (v : List ℕ) (d : FlatLaid w₁ end settled regs pins v) where
    large : memory_size ≤ length v
    large = let a = d.size in let c = layable.size in omega arith

    pub flat-wake-ready : length starts ≡ regs → (memory_size ≤ length v) × ((regs ≤ flat_most) × (regs ≤ length starts))
    flat-wake-ready e = (large, (few.1, omega arith))

    module _ (v₂ : List ℕ) (wk : Stretched shown_at order_at (flat_wake starts) regs v v₂) where
      pins-same : (i ≡ in_pin_count d.m pins) × (pins - i ≡ out_pin_count d.m pins)
      pins-same =
          let a = ins-within w₁ d.m d.within pins sf.pins_low.few in
          let c = outs-within w₁ d.m d.within pins sf.pins_low.few in
          let s = ins-outs w₁ pins in
          (omega arith, omega arith)

      pub flat-run-ready : length bits ≡ n * i → n * (pins - i) ≤ length out → Flat v₂ settled regs i (pins - i) × FlatFits (length bits) (length out) i (pins - i) n
      flat-run-ready e room = (
        subst (λ (x : ℕ). Flat v₂ settled regs x (pins - i)) (sym pins-same.0) (subst (λ (x : ℕ). Flat v₂ settled regs (in_pin_count d.m pins) x) (sym pins-same.1)
            (flat_cells (cells_shown wk.between) (laid_ready w₁ end settled regs pins v layable d))),
        record { few = sf.short; lent = omega arith; room = room },
      )

      module _ (g : ℕ → ℕ) (v₃ after : List ℕ) (r : FlatRan g (counts settled regs i (pins - i)) bits n v₂ out v₃ after) where
        pub flat-keep-ready : length starts ≡ regs → (memory_size ≤ length v₃) × ((regs ≤ flat_most) × (regs ≤ length starts))
        flat-keep-ready e = ((let a = r.cells.size in let c = wk.between.size in let z = large in omega arith), (few.1, omega arith))

        pub above-flat : Above u v₃
        above-flat = above_then (listed_above u end w₁ regs ls) (record {
          size = r.cells.size ∙ wk.between.size ∙ d.size;
          above = λ j l. r.cells.above j (omega arith) ∙ wk.between.above j (omega arith) ∙ d.above j l;
        })

        -- where all numbers have 16 bits
        module _ (lb : Words16 bits) (lv : Words16 v₂) (m : Net) (rn : Runnable u m end settled pins) where
          abbrev s : RunStood w₁ m end pins settled regs
          s = stood u m end settled pins rn w₁ regs ls

          asks : Reads w₁ settled regs end
          asks = reads w₁ m end pins settled regs s ls.registers few.0 few.1

          at-pins : PinReads w₁ regs end pins (word_at d.m)
          at-pins = pin-reads w₁ m end pins settled regs s ls.registers few.0 few.1 layable v d

          abbrev stand : Places w₁ settled regs end (word_at d.m)
          stand = places w₁ end settled regs pins v starts layable d s.order.apart (registers-once w₁ m end pins settled regs s) (none_both w₁ m end pins settled regs s) (none_one w₁ m end pins settled regs s)

          abbrev awake : List ℕ
          awake = take_turns (wake_one starts) regs 0 (take_turns word_begin end 0 w₁)

          agree : Agree w₁ settled regs end pins (word_at d.m) stand asks at-pins awake v₂
          agree = subst (λ (x : List ℕ). Agree w₁ settled regs end pins (word_at d.m) stand asks at-pins awake x) (sym wk.whole)
              (start_agrees w₁ end settled regs pins v starts layable d s.order.apart (registers-once w₁ m end pins settled regs s) (none_both w₁ m end pins settled regs s) (none_one w₁ m end pins settled regs s) asks at-pins
              (λ j. subst (λ (x : List ℕ). get_or x j 0 < 65536) wk.whole (lv j)))

          outs_are : pins - i ≡ out_pin_count w₁ pins
          outs_are = let a = ins-outs w₁ pins in omega arith

          so : RanSo w₁ settled regs end pins (word_at d.m) stand asks at-pins bits lb g n awake out v₃ after
          so = ran-is w₁ settled regs end pins (word_at d.m) stand asks at-pins bits lb g n awake v₂ out v₃ after agree
              (subst (λ (z : Counts). FlatRan g z bits n v₂ out v₃ after) (ap (λ (x : ℕ). counts settled regs x (pins - i)) ei ∙ ap (λ (x : ℕ). counts settled regs (in_pin_count w₁ pins) x) outs_are) r)

          pub ran-flat : RanFlat g w₁ end settled regs pins i n bits starts out after v₃
          ran-flat = record {
            mem = so.mem;
            begun = record { within = (begin-is w₁ end settled regs pins v starts layable d s.order.apart (registers-once w₁ m end pins settled regs s) (none_both w₁ m end pins settled regs s) (none_one w₁ m end pins settled regs s)).0; whole = refl };
            woken = record { within = (wake_is w₁ end settled regs pins v starts layable d s.order.apart (registers-once w₁ m end pins settled regs s) (none_both w₁ m end pins settled regs s) (none_one w₁ m end pins settled regs s)).within; whole = refl };
            ran = subst (λ (x : ℕ). Ran g (sizes settled regs pins) bits x (pins - i) n awake out so.mem after) (sym ei)
                (subst (λ (x : ℕ). Ran g (sizes settled regs pins) bits (in_pin_count w₁ pins) x n awake out so.mem after) (sym outs_are) so.ran);
            kept = λ st. keep-shows w₁ settled regs end pins (word_at d.m) stand asks at-pins so.mem v₃ st (register-low w₁ m end pins settled regs s) so.agree;
          }

      pub flat-written : (e : lent_in bits starts (n * i) regs ≡ true) (room : n * (pins - i) ≤ length out) (v₃ after : List ℕ) → FlatRan lane_zero (counts settled regs i (pins - i)) bits n v₂ out v₃ after → Words16 bits → Words16 v₂
          → Freed u end settled pins n bits starts out v₃ after (Ok (n * (pins - i)))
      flat-written e room v₃ after r lb lv = record {
        kept = above-flat lane_zero v₃ after r;
        says = λ m rn. (let f = ran-flat lane_zero v₃ after r lb lv m rn in free.ran_says u end settled pins n bits starts out sf w₁ regs ls i ei e room _ f.begun _ f.woken f.mem after f.ran m rn);
      }

      pub flat-lanes : (e : lanes_lent bits starts (n * i) regs ≡ true) (room : n * (pins - i) ≤ length out) (v₃ after : List ℕ) → FlatRan entire (counts settled regs i (pins - i)) bits n v₂ out v₃ after → Words16 bits → Words16 v₂
          → (left : List ℕ) → WrittenBy (flat_keep v₃) regs starts left → Words16 out → Words16 after → Words16 starts → Words16 left → LanesFreed u end settled pins n bits starts out v₃ left after (Ok (n * (pins - i)))
      flat-lanes e room v₃ after r lb lv left k lo la ls' ll = record {
        kept = above-flat entire v₃ after r;
        says = λ m rn. (let f = ran-flat entire v₃ after r lb lv m rn in
            lanes.ran_says u end settled pins n bits starts out sf w₁ regs ls i ei e room _ f.begun _ f.woken f.mem after f.ran left (record { size = k.size; whole = k.whole ∙ f.kept starts }) lo la ls' ll m rn);
      }
