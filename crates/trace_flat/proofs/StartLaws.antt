-- Before the first tick the flat memory agrees with the memory by terminal. Assumes nothing.
use Prim.Native.Nat.{ℕ, zero, suc, ◌+◌, ◌-◌, ◌/◌, ◌%◌, ◌≤◌, ◌<◌}
use mathlib.Core.Path.{◌≡◌, refl, sym, ap, ◌∙◌, subst}
use mathlib.Core.Logic.{⊎_elim}
use mathlib.Core.List.{List}
use native.Mathlib.Omega.{arith}
use native.Mathlib.Decide.{ℕ_discrete}
use lib.Dec.{eqb}
use lib.ListN.{length, get_or}
use lib.Seq.{get_or-set_same}
use borrow.Author.Tests.{ne_eqb}
use Rattle.memory.specs.Map.{memory_size}
use Rattle.lean.specs.Table.{Within}
use Rattle.lean.proofs.TableLaws.{within_then}
use Rattle.trace_steps.specs.Map.{registers_at, order_at, pins_at, bits_at, one_entry}
use Rattle.trace_steps.specs.Turns.{take_turns}
use Rattle.trace_steps.specs.Steps.{first_in, wake_one}
use Rattle.trace_steps.specs.Words.{word_at, input_word, every_lane, word_begin}
use Rattle.trace_steps.specs.Pins.{in_pin_count, out_pin_count}
use Rattle.trace_steps.proofs.Laws.{turns_next, set_other, first_low, first-same}
use Rattle.trace_steps.proofs.TickLaws.{ins-within, outs-within}
use Rattle.trace_flat.specs.Flat.{OnlyBetween, flat_most, sources_at, shown_at, first_at, second_at_lem, third_at, gates_at, ins_at, outs_at, zero_at, one_at, second_for, third_for, first_place, last_place}
use Rattle.trace_flat.specs.FlatTicks.{FlatLaid, Layable, flat_wake}
use Rattle.trace_flat.specs.Shows.{gate_at, register_at, Places, Reads, Lists, PinReads, PinLists}
use Rattle.trace_flat.proofs.Laws.{between_none, between_then, between-set}
use Rattle.trace_flat.proofs.LayLaws.{begin-at}
use Rattle.trace_flat.proofs.PlaceLaws.{Side, side_all, case, places-are}
use Rattle.trace_flat.proofs.RunShows.{Agree}

wake_at : (st v : List ℕ) (r : ℕ) → memory_size ≤ length v → r ≤ flat_most → (k : ℕ) → k ≤ r → OnlyBetween shown_at order_at v (take_turns (flat_wake st) k 0 v) × ((j : ℕ) → j < k → get_or (take_turns (flat_wake st) k 0 v) (shown_at + j) 0 ≡ get_or st j 0)
wake_at st v r z few zero h = (between_none shown_at order_at v, λ j q. absurd (omega arith))
wake_at st v r z few (suc k) h =
    let s = wake_at st v r z few k (omega arith) in
    let w = take_turns (flat_wake st) k 0 v in
    let e : k + 1 ≡ suc k = omega arith in
    let y = s.0.size in
    subst (λ (t : List ℕ). OnlyBetween shown_at order_at v t × ((j : ℕ) → j < suc k → get_or t (shown_at + j) 0 ≡ get_or st j 0)) (turns_next (flat_wake st) k v w refl ∙ ap (λ (m : ℕ). take_turns (flat_wake st) m 0 v) e) (
      between_then s.0 (between-set shown_at order_at w (shown_at + k) _ (omega arith) (omega arith)),
      λ j q. elim (ℕ_discrete j k) [
        | yes d ↦ ap (λ (x : ℕ). get_or (flat_wake st k w) (shown_at + x) 0) d ∙ get_or-set_same w (shown_at + k) _ 0 (omega arith) ∙ ap (λ (x : ℕ). get_or st x 0) (sym d)
        | no d ↦ set_other w (shown_at + k) (shown_at + j) _ (λ x. d (omega arith)) ∙ s.1 j (omega arith)
      ],
    )

-- what is asked of order and registers: each is there once, and none is both; no gate is a part one
module _ (u : List ℕ) (end n r p : ℕ) (v st : List ℕ) (l : Layable u end n r p) (d : FlatLaid u end n r p v) (gates-apart : (i j : ℕ) → i < n → j < n → gate_at u i ≡ gate_at u j → i ≡ j)
    (registers-apart : (i j : ℕ) → i < r → j < r → register_at u i ≡ register_at u j → i ≡ j) (both : (i j : ℕ) → i < n → j < r → gate_at u i ≡ register_at u j → ⊥) (no_one : (j : ℕ) → j < n → get_or u (gate_at u j) 0 ≡ one_entry → ⊥) where
  abbrev pub place_of : ℕ → ℕ
  place_of = word_at d.m

  gate_low : (j : ℕ) → j < n → gate_at u j < 8192
  gate_low j h = (l.order.looks j h).low

  register-low : (j : ℕ) → j < r → register_at u j < 8192
  register-low j h = (l.registers.each j h).low

  pub places : Places u n r end place_of
  places = places-are u n r l.size l.few_gates l.few_registers gate_low register-low gates-apart registers-apart both d.m d.placed end l.few_terminals

  -- by terminal
  abbrev pub begun : List ℕ
  begun = take_turns word_begin end 0 u

  abbrev pub awake : List ℕ
  awake = take_turns (wake_one st) r 0 (take_turns word_begin end 0 u)

  pub begin-is : Within u begun × ((x : ℕ) → x < end → word_at begun x ≡ every_lane (eqb (get_or u x 0) one_entry))
  begin-is = begin-at u end l.size l.few_terminals end (omega arith)

  register-same : (j : ℕ) → j < r → get_or begun (registers_at + j) 0 ≡ register_at u j
  register-same j h = let few = l.few_registers in begin-is.0.below (registers_at + j) (omega arith)

  pub wake_is : Side registers_at (λ j. get_or st j 0) begun r awake
  wake_is =
      let z = begin-is.0.size in
      let y = l.size in
      let few = l.few_registers in
      side_all registers_at (λ j. get_or st j 0) r begun (omega arith) (omega arith) (λ j h. subst (λ (x : ℕ). x < 8192) (sym (register-same j h)) (register-low j h))
      (λ i j h k e. registers-apart i j h k (sym (register-same i h) ∙ e ∙ register-same j k)) r (omega arith)

  -- over the flat layout
  abbrev pub shown : List ℕ
  shown = take_turns (flat_wake st) r 0 v

  flat-wake : OnlyBetween shown_at order_at v shown × ((j : ℕ) → j < r → get_or shown (shown_at + j) 0 ≡ get_or st j 0)
  flat-wake = let z = d.size in let y = l.size in wake_at st v r (omega arith) l.few_registers r (omega arith)

  not_register : (x : ℕ) → x < end → ((j : ℕ) → j < r → register_at u j ≡ x → ⊥) → word_at awake x ≡ every_lane (eqb (get_or u x 0) one_entry)
  not_register x h f = wake_is.others x (λ j k e. f j k (sym (register-same j k) ∙ e)) ∙ begin-is.1 x h

  -- the table and the lists that the places were read by
  order-m : (j : ℕ) → j < n → get_or d.m (order_at + j) 0 ≡ gate_at u j
  order-m j h = let few = l.few_gates in d.within.below (order_at + j) (omega arith)

  first-m : (j : ℕ) → j < n → first_place d.m (get_or d.m (order_at + j) 0) ≡ place_of (get_or u (first_in u (gate_at u j)) 0)
  first-m j h =
      let o = gate_at u j in
      let lo = gate_low j h in
      ap (first_place d.m) (order-m j h) ∙ ap (input_word d.m) (first-same d.within o lo) ∙ ap place_of (d.within.below (first_in u o) (omega (arith, first_low u o lo)))

  last-m : (j : ℕ) → j < n → last_place d.m (get_or d.m (order_at + j) 0) ≡ place_of (get_or u (gate_at u j - 1) 0)
  last-m j h = let lo = gate_low j h in ap (last_place d.m) (order-m j h) ∙ ap place_of (d.within.below (gate_at u j - 1) (omega arith))

  entry-m : (j : ℕ) → j < n → get_or d.m (get_or d.m (order_at + j) 0) 0 ≡ get_or u (gate_at u j) 0
  entry-m j h = let lo = gate_low j h in ap (λ (x : ℕ). get_or d.m x 0) (order-m j h) ∙ d.within.below (gate_at u j) (omega arith)

  source-m : (j : ℕ) → j < r → last_place d.m (get_or d.m (registers_at + j) 0) ≡ place_of (get_or u (register_at u j - 1) 0)
  source-m j h = let few = l.few_registers in let lo = register-low j h in ap (last_place d.m) (d.within.below (registers_at + j) (omega arith)) ∙ ap place_of (d.within.below (register_at u j - 1) (omega arith))

  pub lists_are : Lists u n r place_of shown
  lists_are =
      let b = flat-wake.0 in
      let few = l.few_gates in
      let rfew = l.few_registers in
      record {
        size = let s = b.size in let z = d.size in let y = l.size in omega arith;
        first = λ j h. b.above (first_at + j) (omega arith) ∙ d.first j h ∙ first-m j h;
        second = λ j h. b.above (second_at_lem + j) (omega arith) ∙ d.second j h ∙ ap (λ (e : ℕ). second_for e (last_place d.m (get_or d.m (order_at + j) 0))) (entry-m j h) ∙ ap (second_for (get_or u (gate_at u j) 0)) (last-m j h);
        third = λ j h. b.above (third_at + j) (omega arith) ∙ d.third j h ∙ ap (λ (e : ℕ). third_for e (first_place d.m (get_or d.m (order_at + j) 0)) (last_place d.m (get_or d.m (order_at + j) 0))) (entry-m j h)
            ∙ ap (λ (x : ℕ). third_for (get_or u (gate_at u j) 0) x (last_place d.m (get_or d.m (order_at + j) 0))) (first-m j h) ∙ ap (third_for (get_or u (gate_at u j) 0) (place_of (get_or u (first_in u (gate_at u j)) 0))) (last-m j h);
        source = λ j h. b.below (sources_at + j) (omega arith) ∙ d.source j h ∙ source-m j h;
        dark = b.above zero_at (omega arith) ∙ d.zero_is;
        bright = b.above one_at (omega arith) ∙ d.one_is;
      }

  pub pin_lists_are : PinLists u p place_of shown
  pin_lists_are =
      let b = flat-wake.0 in
      let few = l.pins.few in
      record {
        ins = λ k h e. let pin = d.within.below (pins_at + k) (omega arith) in
            ap (λ (x : ℕ). get_or shown (ins_at + x) 0) (sym (ins-within u d.m d.within k (omega arith))) ∙ b.above (ins_at + in_pin_count d.m k) (omega arith)
            ∙ d.ins k h (ap (λ (x : ℕ). eqb (x % 2) 0) pin ∙ e) ∙ ap (λ (x : ℕ). place_of (x / 2)) pin;
        outs = λ k h e. let pin = d.within.below (pins_at + k) (omega arith) in
            ap (λ (x : ℕ). get_or shown (outs_at + x) 0) (sym (outs-within u d.m d.within k (omega arith))) ∙ b.above (outs_at + out_pin_count d.m k) (omega arith)
            ∙ d.outs k h (ap (λ (x : ℕ). eqb (x % 2) 0) pin ∙ e) ∙ ap (λ (x : ℕ). place_of (x / 2)) pin;
      }

  same_bits : (x : ℕ) → x < end → get_or shown (place_of x) 0 ≡ word_at awake x
  same_bits x h =
      let few = l.few_terminals in
      let gfew = l.few_gates in
      let b = flat-wake.0 in
      ⊎_elim
      (λ (a : (j : ℕ) × (j < n) × (gate_at u j ≡ x)). (let j = a.0 in let k = a.1 in
      ap (λ (y : ℕ). get_or shown y 0) (ap place_of (sym a.2) ∙ places.gate j k) ∙ b.above (gates_at + j) (omega arith) ∙ d.dark j k
      ∙ sym (not_register x h (λ i q e. both j i k q (a.2 ∙ sym e)) ∙ ap every_lane (ne_eqb (get_or u x 0) one_entry (λ e. no_one j k (ap (λ (y : ℕ). get_or u y 0) a.2 ∙ e))))))
      (λ z. ⊎_elim
      (λ (a : (j : ℕ) × (j < r) × (register_at u j ≡ x)). (let j = a.0 in let k = a.1 in
      ap (λ (y : ℕ). get_or shown y 0) (ap place_of (sym a.2) ∙ places.register j k) ∙ flat-wake.1 j k ∙ sym (ap (word_at awake) (sym (register-same j k ∙ a.2)) ∙ wake_is.listed j k)))
      (λ (e : place_of x ≡ bits_at + x).
      ap (λ (y : ℕ). get_or shown y 0) e ∙ b.above (bits_at + x) (omega arith) ∙ d.begun x h ∙ ap (λ (y : ℕ). every_lane (eqb y one_entry)) (d.within.below x (omega arith))
      ∙ sym (not_register x h (λ i q f. let s = sym (ap place_of f ∙ e) ∙ places.register i q in let rfew = l.few_registers in omega arith))) z)
      (case u n r l.size l.few_gates l.few_registers gate_low register-low gates-apart registers-apart both d.m d.placed x (omega arith))

  -- what the slice has are numbers of 16 bits
  pub start_agrees : (reads : Reads u n r end) (pins : PinReads u r end p place_of) → ((i : ℕ) → get_or shown i 0 < 65536) → Agree u n r end p place_of places reads pins awake shown
  start_agrees reads pins fits = record { within = within_then begin-is.0 wake_is.within; lists = lists_are; pin-lists = pin_lists_are; shows = record { same = λ x h q. same_bits x h; fits = fits } }
