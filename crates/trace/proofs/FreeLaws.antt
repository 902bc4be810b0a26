-- A netlist without rings: the tests, the start, all ticks. Assumes nothing.
use Prim.Native.Nat.{ℕ, zero, suc, ◌+◌, ◌-◌, ◌*◌, ◌/◌, ◌≤◌, ◌<◌}
use mathlib.Core.Path.{◌≡◌, refl, sym, ap, ◌∙◌, subst}
use mathlib.Core.Bool.{Bool, true, false, cond, not, ◌&&◌}
use mathlib.Core.List.{List, [], ◌∷◌, ◌++◌, append_assoc}
use native.Mathlib.Omega.{arith}
use native.Mathlib.Decide.{ℕ_discrete}
use native.Mathlib.Nat.{mul-le-mul_right}
use lib.ListN.{length, get_or, set}
use lib.Seq.{sets}
use lib.Dec.{T, eqb, ltb, leb, eqb→eq}
use borrow.Author.Tests.{not-true, not-false, le-leb, lt-leb}
use Rattle.laws.proofs.Regions.{sets-append, sets-front}
use Rattle.calculus.specs.Answer.{Answer, good, refuse, ◌>>=◌, need}
use Rattle.calculus.specs.Net.{Interface, Element, part, Net}
use Rattle.calculus.specs.Record.{Bits, Among}
use Rattle.calculus.specs.Translate.{said_of, out_of}
use Rattle.circuit_theorems.specs.Terminals.{has}
use Rattle.memory.specs.Map.{memory_size}
use Rattle.lean.specs.Table.{Within, entry}
use Rattle.lean.proofs.TableLaws.{within_none, within_then, within-set, entry-same, entry_other}
use Rattle.trace_calculus.specs.Trace.{terminals, OnRing, run, in_pins, out_pins, registers, place, given_bits, start_bits, row, rows, all_bits}
use Rattle.trace_calculus.specs.Lanes.{lane_bit, lane}
use Rattle.trace_calculus.proofs.LaneBits.{lane_zero_lem, lane_ones, lane-at, lane-bytes}
use Rattle.trace_theorems.proofs.Lending.{rows-length}
use Rattle.trace_theorems.proofs.Sources.{out_terminal}
use Rattle.trace_theorems.proofs.Owners.{last}
use Rattle.trace_steps.specs.Map.{registers_at, order_at, pins_at, bits_at, register_entry, inverter_entry, one_entry}
use Rattle.trace_steps.specs.Turns.{take_turns, Looped}
use Rattle.trace_steps.specs.Steps.{lit, first_in, Looks, Ordered, wake_one}
use Rattle.trace_steps.specs.Words.{every_lane, word_begin, lane_zero, lane_mem}
use Rattle.trace_steps.specs.Pins.{counted, in_pin_count, out_pin_count, PinsLow, RegistersListed}
use Rattle.trace_steps.specs.Ticks.{sizes, lighted, ticked, shown_bits, Runs, Running, running, tick_one, Ran, TraceFits, InOrder}
use Rattle.trace_steps.proofs.LaneLaws.{mem_within, lit-lane, run_lane}
use Rattle.trace_steps.proofs.Laws.{first_low}
use Rattle.trace_steps.proofs.SweepLaws.{looks-table}
use Rattle.trace_steps.proofs.TickLaws.{ordered_within, registers-within, pins_within, ins-within, outs-within}
use Rattle.trace_rings.specs.Rings.{met}
use Rattle.trace.specs.Tables.{Tabled, Looking}
use Rattle.translator.specs.Said.{said_answer, AnswerSays}
use Rattle.trace.specs.Said.{Above, lent_in, freed, Safe, Runnable, Freed}
use Rattle.std.specs.Prelude.{Result, Ok, Err}
use Rattle.answers.specs.declared.Refusal.{Refusal}
use Rattle.answers.specs.declared.Reason.{Reason}
use Rattle.answers.specs.Refusals.{refusal_at}
use Rattle.trace.proofs.Turning.{turns-keep}
use Rattle.trace.proofs.ElementLaws.{in_out_lem}
use Rattle.trace.proofs.PinLists.{up_to, upto_is, ins-length, outs-length, ins-outs}
use Rattle.trace.proofs.RegisterLists.{Collected, collect, element_entry, registers-length, register_at_lem, register_number, registers-apart}
use Rattle.trace.proofs.RunLaws.{RunStood, State, state-next, row-stored}
use Rattle.trace.proofs.StageLaws.{tabled_same}

-- a test, and what it says
pub said_no : {x : Bool} (r : Bool) → r ≡ x → not r ≡ true → x ≡ false
said_no r e q = sym e ∙ not-true r q

pub said_yes : {x : Bool} (r : Bool) → r ≡ x → not r ≡ false → x ≡ true
said_yes r e q = sym e ∙ not-false r q

-- ---- what is lent

module _ (bits starts : List ℕ) (reads regs : ℕ) where
  by_tests : (a b c d : Bool) → eqb (length bits) reads ≡ a → eqb (length starts) regs ≡ b → all_bits bits ≡ c → all_bits starts ≡ d → lent_in bits starts reads regs ≡ (a && b && (c && d))
  by_tests a b c d p q r s =
      ap (λ (x : Bool). x && eqb (length starts) regs && (all_bits bits && all_bits starts)) p ∙ ap (λ (x : Bool). a && x && (all_bits bits && all_bits starts)) q
      ∙ ap (λ (x : Bool). a && b && (x && all_bits starts)) r ∙ ap (λ (x : Bool). a && b && (c && x)) s

  pub lent-counts : lent_in bits starts reads regs ≡ true → (length bits ≡ reads) × (length starts ≡ regs)
  lent-counts e = by (eqb (length bits) reads) (eqb (length starts) regs) refl refl e
    where
      by : (a b : Bool) → eqb (length bits) reads ≡ a → eqb (length starts) regs ≡ b → a && b && (all_bits bits && all_bits starts) ≡ true → (length bits ≡ reads) × (length starts ≡ regs)
      by true true p q e = (eqb→eq (length bits) reads (subst T (sym p) tt), eqb→eq (length starts) regs (subst T (sym q) tt))
      by true false p q e = absurd (subst T (sym e) tt)
      by false b p q e = absurd (subst T (sym e) tt)

  pub lent_bits : lent_in bits starts reads regs ≡ true → (all_bits bits ≡ true) × (all_bits starts ≡ true)
  lent_bits e = by (eqb (length bits) reads && eqb (length starts) regs) (all_bits bits) (all_bits starts) refl refl e
    where
      by : (a c d : Bool) → all_bits bits ≡ c → all_bits starts ≡ d → a && (c && d) ≡ true → (all_bits bits ≡ true) × (all_bits starts ≡ true)
      by true true true p q e = (p, q)
      by true true false p q e = absurd (subst T (sym e) tt)
      by true false d p q e = absurd (subst T (sym e) tt)
      by false c d p q e = absurd (subst T (sym e) tt)

pub mul_few : (a b : ℕ) → a ≤ 65535 → b ≤ 128 → a * b ≤ 8388480
mul_few a b h l = omega (arith, mul-le-mul_right {m = a} {n = 65535} b h)

-- ---- rows

rows_snoc : (β : Bits) (os : List ℕ) (t n : ℕ) → rows β os t (suc n) ≡ rows β os t n ++ row β (t + n) os
rows_snoc β os t zero = append-nil-both (row β t os) ∙ ap (λ (k : ℕ). row β k os) zero_right
  where
    append-nil-both : (xs : List ℕ) → xs ++ [] ≡ xs
    append-nil-both [] = refl
    append-nil-both (x ∷ xs) = ap (λ (l : List ℕ). x ∷ l) (append-nil-both xs)

    zero_right : t ≡ t + 0
    zero_right = omega arith
rows_snoc β os t (suc n) =
    let e : t + 1 + n ≡ t + suc n = omega arith in
    ap (λ (l : List ℕ). row β t os ++ l) (rows_snoc β os (t + 1) n ∙ ap (λ (k : ℕ). rows β os (t + 1) n ++ row β k os) e) ∙ sym (append_assoc (row β t os) (rows β os (t + 1) n) (row β (t + suc n) os))

-- ---- all ticks

module _ (b : List ℕ) (m : Net) (end pins total regs : ℕ) (s : RunStood b m end pins total regs) (free : (x : ℕ) → OnRing m x → ⊥) (bits starts out₀ : List ℕ) where
  abbrev β : Bits
  β = run m (given_bits m.pins bits) (start_bits m.elements starts)

  pub record Going (n : ℕ) (r : Running) : Type 0 where
    pub state : State b m end pins total regs s free bits starts n r.mem
    pub wrote : r.out ≡ sets out₀ 0 (rows β (out_pins m.pins) 0 n)

  pub all_ticks : (w : List ℕ) (i o N : ℕ) → i ≡ length (in_pins m.pins) → o ≡ length (out_pins m.pins) → State b m end pins total regs s free bits starts 0 w
      → Going N (take_turns (tick_one (sizes total regs pins) bits i o) N 0 (running w out₀))
  unfolding lighted ticked shown_bits
  all_ticks w i o N ei eo c = turns-keep (tick_one (sizes total regs pins) bits i o) Going (running w out₀) (record { state = c; wrote = refl }) N step
    where
      step : (n : ℕ) (r : Running) → n < N → Going n r → Going (suc n) (tick_one (sizes total regs pins) bits i o n r)
      step n r l q = record {
        state = subst (λ (k : ℕ). State b m end pins total regs s free bits starts (suc n) (ticked (sizes total regs pins) bits (n * k) r.mem)) (sym ei) (state-next b m end pins total regs s free bits starts n r.mem q.state);
        wrote =
            ap (λ (k : ℕ). shown_bits (sizes total regs pins) bits (n * k) (n * o) r.mem r.out) ei
            ∙ row-stored b m end pins total regs s free bits starts n r.mem q.state r.out (n * o)
            ∙ ap (λ (x : List ℕ). sets x (n * o) (row β n (out_pins m.pins))) q.wrote
            ∙ ap (λ (k : ℕ). sets (sets out₀ 0 (rows β (out_pins m.pins) 0 n)) k (row β n (out_pins m.pins))) place_of
            ∙ sets-append (rows β (out_pins m.pins) 0 n) (row β n (out_pins m.pins)) out₀ 0
            ∙ ap (sets out₀ 0) (sym (rows_snoc β (out_pins m.pins) 0 n ∙ ap (λ (k : ℕ). rows β (out_pins m.pins) 0 n ++ row β k (out_pins m.pins)) zero_left));
      }
        where
          place_of : n * o ≡ 0 + length (rows β (out_pins m.pins) 0 n)
          place_of = ap (λ (k : ℕ). n * k) eo ∙ sym (rows-length β (out_pins m.pins) 0 n) ∙ (let z : length (rows β (out_pins m.pins) 0 n) ≡ 0 + length (rows β (out_pins m.pins) 0 n) = omega arith in z)

          zero_left : 0 + n ≡ n
          zero_left = omega arith

-- ---- what is said

abbrev answers : Bool → Bool → ℕ → List ℕ → Answer (List ℕ)
answers a c l r = do
  _ ← need a 20 0
  _ ← need c 17 l
  good r

module _ (m : Net) (n : ℕ) (bits starts out : List ℕ) where
  abbrev bytes : List ℕ
  bytes = rows (run m (given_bits m.pins bits) (start_bits m.elements starts)) (out_pins m.pins) 0 n

  abbrev needed : ℕ
  needed = n * length (out_pins m.pins)

  freed-is : (a c : Bool) → lent_in bits starts (n * length (in_pins m.pins)) (length (registers m.elements)) ≡ a → leb (n * length (out_pins m.pins)) (length out) ≡ c
      → freed m n bits starts (length out) ≡ answers a c needed bytes
  unfolding freed
  freed-is a c e f = ap (λ (x : Bool). answers x (leb needed (length out)) needed bytes) e ∙ ap (λ (x : Bool). answers a x needed bytes) f

  says_of : (r : Result ℕ Refusal) (after : List ℕ) (a : Answer (List ℕ)) → freed m n bits starts (length out) ≡ a → said_answer r ≡ said_of a → after ≡ out_of a out → AnswerSays r out after (freed m n bits starts (length out))
  says_of r after a e f g = record { said = f ∙ sym (ap said_of e); wrote = g ∙ sym (ap (λ (x : Answer (List ℕ)). out_of x out) e) }

  module _ (reads writes regs : ℕ) (er : reads ≡ n * length (in_pins m.pins)) (ew : writes ≡ n * length (out_pins m.pins)) (eg : regs ≡ length (registers m.elements)) where
    lent_is : (x : Bool) → lent_in bits starts reads regs ≡ x → lent_in bits starts (n * length (in_pins m.pins)) (length (registers m.elements)) ≡ x
    lent_is x e = ap (λ (k : ℕ). lent_in bits starts k (length (registers m.elements))) (sym er) ∙ ap (lent_in bits starts reads) (sym eg) ∙ e

    pub says-20 : lent_in bits starts reads regs ≡ false → AnswerSays (Err (refusal_at Reason.WrongBits 0)) out out (freed m n bits starts (length out))
    says-20 e = says_of (Err (refusal_at Reason.WrongBits 0)) out (refuse 20 0) (freed-is false (leb needed (length out)) (lent_is false e) refl) refl refl

    pub says-17 : lent_in bits starts reads regs ≡ true → length out < writes → AnswerSays (Err (refusal_at Reason.ShortOutput writes)) out out (freed m n bits starts (length out))
    says-17 e l = says_of (Err (refusal_at Reason.ShortOutput writes)) out (refuse 17 needed) (freed-is true false (lent_is true e) (lt-leb needed (length out) (subst (λ (k : ℕ). length out < k) ew l))) (ap (λ (k : ℕ). refuse 17 k) ew) refl

    pub says-written : lent_in bits starts reads regs ≡ true → writes ≤ length out → (after : List ℕ) → after ≡ sets out 0 bytes → AnswerSays (Ok writes) out after (freed m n bits starts (length out))
    says-written e l after q =
        let k = rows-length (run m (given_bits m.pins bits) (start_bits m.elements starts)) (out_pins m.pins) 0 n in
        says_of (Ok writes) after (good bytes) (freed-is true true (lent_is true e) (le-leb needed (length out) (subst (λ (k : ℕ). k ≤ length out) ew l)))
        (ap (λ (k : ℕ). good k) (ew ∙ sym k)) (q ∙ sets-front bytes out (omega arith))

-- ---- the start

module _ (u : List ℕ) (m : Net) (end settled pins : ℕ) (rn : Runnable u m end settled pins) (w₁ : List ℕ) (regs : ℕ) (ls : RegistersListed u end w₁ regs) where
  abbrev t : Tabled u m end pins
  t = rn.tabled

  col : Collected u end (counted w₁ regs)
  col = subst (Collected u end) (sym ls.whole) (collect u end t.size t.few)

  tabled₁ : Tabled w₁ m end pins
  tabled₁ = tabled_same u w₁ m end pins ls.size ls.table (λ x a c. ls.above x (omega arith)) t

  few : settled ≤ 5120
  few = rn.order.ordered.few

  met-same : (j : ℕ) → j < settled → met w₁ j ≡ met u j
  met-same j l = ls.above (order_at + j) (omega arith)

  met-low : (j : ℕ) → j < settled → met u j < 8192
  met-low j l = (rn.order.ordered.looks j l).low

  first-at : (j : ℕ) → j < settled → get_or w₁ (first_in w₁ (met w₁ j)) 0 ≡ get_or u (first_in u (met u j)) 0
  first-at j l =
      let o = met-low j l in
      ap (λ (x : ℕ). get_or w₁ (first_in w₁ x) 0) (met-same j l) ∙ ap (λ (k : ℕ). get_or w₁ (cond (ltb k inverter_entry) (met u j - 2) (met u j - 1)) 0) (ls.table (met u j) o) ∙ ls.table (first_in u (met u j)) (first_low u (met u j) o)

  last-at : (j : ℕ) → j < settled → get_or w₁ (met w₁ j - 1) 0 ≡ get_or u (met u j - 1) 0
  last-at j l = let o = met-low j l in ap (λ (x : ℕ). get_or w₁ (x - 1) 0) (met-same j l) ∙ ls.table (met u j - 1) (omega arith)

  order₁ : InOrder w₁ settled
  order₁ = record {
    ordered = record { size = tabled₁.size; few = few; looks = λ j l. subst (λ (x : ℕ). Looks w₁ x) (sym (met-same j l)) (looks-table ls.size ls.table (rn.order.ordered.looks j l)) };
    apart = λ i j a c e. rn.order.apart i j a c (sym (met-same i a) ∙ e ∙ met-same j c);
    first = λ j i l h e. rn.order.first j i l h (sym (first-at j (omega arith)) ∙ e ∙ met-same i h);
    last = λ j i l h e. rn.order.last j i l h (sym (last-at j (omega arith)) ∙ e ∙ met-same i h);
  }

  pub stood : RunStood w₁ m end pins settled regs
  stood = record {
    tabled = tabled₁;
    order = order₁;
    listed = λ j l. (let r = rn.listed j l in subst (λ (x : ℕ). T (has (terminals m.elements) x) × Looking (get_or w₁ x 0)) (sym (met-same j l)) (r.0, subst Looking (sym (ls.table (met u j) (met-low j l))) r.1));
    all = λ x h q. (let lo = t.low x h in let f = t.few in let r = rn.all x h (subst Looking (ls.table x (omega arith)) q) in (r.0, r.1, met-same r.0 r.1 ∙ r.2));
    few_registers = ls.registers.few;
    count = registers-length u m end pins t (counted w₁ regs) col;
    register_at_lem = register_at_lem u m end pins t (counted w₁ regs) col;
    register_number = register_number u m end pins t (counted w₁ regs) col;
    apart = registers-apart u m end pins t (counted w₁ regs) col;
  }

  shown-pins : up_to w₁ pins ≡ m.pins
  shown-pins = let a = tabled₁.few_pins in let c = tabled₁.size in upto_is w₁ pins (omega arith) ∙ tabled₁.shown

  pub ins_are : in_pin_count w₁ pins ≡ length (in_pins m.pins)
  ins_are = sym (ins-length w₁ pins) ∙ ap (λ (ps : Interface). length (in_pins ps)) shown-pins

  pub outs_are : pins - in_pin_count w₁ pins ≡ length (out_pins m.pins)
  outs_are = (let a = ins-outs w₁ pins in let z : pins - in_pin_count w₁ pins ≡ out_pin_count w₁ pins = omega arith in z) ∙ sym (outs-length w₁ pins) ∙ ap (λ (ps : Interface). length (out_pins ps)) shown-pins

  pub regs_are : regs ≡ length (registers m.elements)
  regs_are = sym (registers-length u m end pins t (counted w₁ regs) col)

  -- ---- zeros and ones, and the start bits

  record Begun (j : ℕ) (w : List ℕ) : Type 0 where
    pub within : Within w₁ w
    pub done : (x : ℕ) → x < j → entry w x ≡ every_lane (eqb (get_or w₁ x 0) one_entry)

  begin-all : (n : ℕ) → n ≤ 8192 → Begun n (take_turns word_begin n 0 w₁)
  begin-all n few = turns-keep word_begin Begun w₁ (record { within = within_none w₁; done = λ x l. absurd (omega arith) }) n step
    where
      step : (j : ℕ) (w : List ℕ) → j < n → Begun j w → Begun (suc j) (word_begin j w)
      step j w l q =
          let e = q.within.below j (omega arith) in
          let z = q.within.size in
          let y = tabled₁.size in
          let v = every_lane (eqb (get_or w j 0) one_entry) in
          record {
            within = within_then q.within (within-set w j v (omega arith));
            done = λ x h. elim (ℕ_discrete x j) [
              | yes a ↦ ap (entry (word_begin j w)) a ∙ entry-same w j v (omega arith) (omega arith) ∙ ap (λ (k : ℕ). every_lane (eqb k one_entry)) e ∙ ap (λ (k : ℕ). every_lane (eqb (get_or w₁ k 0) one_entry)) (sym a)
              | no d ↦ entry_other w j x v d ∙ q.done x (omega arith)
            ];
          }

  pub begun_bits : (w₂ : List ℕ) → Looped word_begin end w₁ w₂ → (x : ℕ) → x < end → entry w₂ x ≡ every_lane (eqb (get_or w₁ x 0) one_entry)
  begun_bits w₂ bg = (subst (Begun end) (sym bg.whole) (begin-all end t.few)).done

  module _ (starts : List ℕ) (w₂ : List ℕ) (bg : Looped word_begin end w₁ w₂) (w₃ : List ℕ) (wk : Looped (wake_one starts) regs w₂ w₃) where
    begun : Begun end w₂
    begun = subst (Begun end) (sym bg.whole) (begin-all end t.few)

    abbrev rs : List ℕ
    rs = registers m.elements

    record Woken (j : ℕ) (w : List ℕ) : Type 0 where
      pub within : Within w₂ w
      pub done : (k : ℕ) → k < j → entry w (get_or rs k 0 + 1) ≡ get_or starts k 0
      pub others : (x : ℕ) → ((k : ℕ) → k < j → get_or rs k 0 + 1 ≡ x → ⊥) → entry w x ≡ entry w₂ x

    wake-all : Woken regs (take_turns (wake_one starts) regs 0 w₂)
    wake-all = turns-keep (wake_one starts) Woken w₂ (record { within = within_none w₂; done = λ k l. absurd (omega arith); others = λ x f. refl }) regs step
      where
        step : (j : ℕ) (w : List ℕ) → j < regs → Woken j w → Woken (suc j) (wake_one starts j w)
        step j w l q = subst (Woken (suc j)) (sym shape) next
          where
            i : Within w₁ w
            i = within_then bg.within q.within

            at_j : Among (part 1 (get_or rs j 0)) m.elements × (get_or w₁ (registers_at + j) 0 ≡ get_or rs j 0 + 1)
            at_j = stood.register_at_lem j l

            shape : wake_one starts j w ≡ set w (bits_at + (get_or rs j 0 + 1)) (get_or starts j 0)
            shape = let f = stood.few_registers in ap (λ (o : ℕ). set w (bits_at + o) (get_or starts j 0)) (i.below (registers_at + j) (omega arith) ∙ at_j.1)

            lo : get_or rs j 0 + 1 < 8192
            lo = let a = t.low (get_or rs j 0 + 1) (out_terminal m.elements (get_or rs j 0 + 1) (in_out_lem (part 1 (get_or rs j 0)) at_j.0)) in let f = t.few in omega arith

            big : memory_size ≤ length w
            big = let a = i.size in let c = tabled₁.size in omega arith

            next : Woken (suc j) (set w (bits_at + (get_or rs j 0 + 1)) (get_or starts j 0))
            next = record {
              within = within_then q.within (within-set w (get_or rs j 0 + 1) (get_or starts j 0) lo);
              done = λ k h. elim (ℕ_discrete k j) [
                | yes e ↦ subst (λ (z : ℕ). entry (set w (bits_at + (get_or rs j 0 + 1)) (get_or starts j 0)) (get_or rs z 0 + 1) ≡ get_or starts z 0) (sym e) (entry-same w (get_or rs j 0 + 1) (get_or starts j 0) big lo)
                | no d ↦ entry_other w (get_or rs j 0 + 1) (get_or rs k 0 + 1) (get_or starts j 0) (λ e. d (stood.apart k j (omega arith) l (omega arith))) ∙ q.done k (omega arith)
              ];
              others = λ x f. entry_other w (get_or rs j 0 + 1) x (get_or starts j 0) (λ e. f j (omega arith) (sym e)) ∙ q.others x (λ k h. f k (omega arith));
            }

    woken : Woken regs w₃
    woken = subst (Woken regs) (sym wk.whole) wake-all

    -- a constant's output
    still : (a : Element) → Among a m.elements → (get_or w₁ (last a) 0 ≡ register_entry → ⊥) → entry w₃ (last a) ≡ every_lane (eqb (get_or w₁ (last a) 0) one_entry)
    still a h d =
        woken.others (last a) (λ k l e. d (ap (λ (z : ℕ). get_or w₁ z 0) (sym e) ∙ element_entry w₁ m end pins tabled₁ (part 1 (get_or rs k 0)) (stood.register_at_lem k l).0))
        ∙ begun.done (last a) (t.low (last a) (out_terminal m.elements (last a) (in_out_lem a h)))

    out_low : (x : ℕ) → (a : Element) → Among a m.elements → last a ≡ x → x < 8192
    out_low x a h e = let l = t.low (last a) (out_terminal m.elements (last a) (in_out_lem a h)) in let f = t.few in omega arith

    -- each lane begins with its own bits
    pub state₀ : (k : ℕ) → k < 16 → (bits : List ℕ) → State w₁ m end pins settled regs stood rn.free (lane k bits) (lane k starts) 0 (lane_mem k w₃)
    state₀ k l bits = record {
      within = within_then (within_then bg.within wk.within) (mem_within k w₃);
      holds = λ i h.
          let r = stood.register_number i h in
          lit-lane k w₃ (i + 1) (out_low (i + 1) (part 1 i) h refl)
          ∙ ap (λ (x : ℕ). eqb x 1) (ap (lane_bit k) (subst (λ (x : ℕ). entry w₃ (x + 1) ≡ get_or starts (place rs i) 0) r.1 (woken.done (place rs i) r.0)) ∙ sym (lane-at k starts (place rs i)));
      zeros = λ i h.
          let z : i + 0 ≡ i = omega arith in
          let e = element_entry w₁ m end pins tabled₁ (part 0 i) h in
          subst (λ (x : ℕ). lit (lane_mem k w₃) x ≡ false) z
          (lit-lane k w₃ (i + 0) (out_low (i + 0) (part 0 i) h refl) ∙ ap (λ (x : ℕ). eqb x 1) (ap (lane_bit k) (still (part 0 i) h (λ d. omega arith) ∙ ap (λ (x : ℕ). every_lane (eqb x one_entry)) e) ∙ lane_zero_lem k));
      ones = λ i h.
          let z : i + 0 ≡ i = omega arith in
          let e = element_entry w₁ m end pins tabled₁ (part 6 i) h in
          subst (λ (x : ℕ). lit (lane_mem k w₃) x ≡ true) z
          (lit-lane k w₃ (i + 0) (out_low (i + 0) (part 6 i) h refl) ∙ ap (λ (x : ℕ). eqb x 1) (ap (lane_bit k) (still (part 6 i) h (λ d. omega arith) ∙ ap (λ (x : ℕ). every_lane (eqb x one_entry)) e) ∙ lane_ones k l));
    }

    -- all ticks, as lane k sees them: of a number v that is written as `g v`, `L` of what is written shows bit k
    module _ (runs : Runs w₃ settled regs pins) (bits out₀ : List ℕ) (i o n : ℕ) (ei : i ≡ length (in_pins m.pins)) (eo : o ≡ length (out_pins m.pins)) (w₄ out : List ℕ) where
      pub ran-lane : (g : ℕ → ℕ) → Ran g (sizes settled regs pins) bits i o n w₃ out₀ w₄ out → (k : ℕ) → k < 16
          → (L : List ℕ → List ℕ) → ((xs : List ℕ) (j v : ℕ) → L (set xs j (g v)) ≡ set (L xs) j (lane_bit k v))
          → Going w₁ m end pins settled regs stood rn.free (lane k bits) (lane k starts) (L out₀) n (running (lane_mem k w₄) (L out))
      ran-lane g r k l L put =
          subst (Going w₁ m end pins settled regs stood rn.free (lane k bits) (lane k starts) (L out₀) n)
          (sym (ap (λ (x : Running). running (lane_mem k x.mem) (L x.out)) r.whole ∙ run_lane k g L put l bits w₃ settled regs pins runs i o n out₀))
          (all_ticks w₁ m end pins settled regs stood rn.free (lane k bits) (lane k starts) (L out₀) (lane_mem k w₃) i o n ei eo (state₀ k l bits))

      -- of bits, lane 0 is all
      pub ran-bytes : all_bits bits ≡ true → all_bits starts ≡ true → Ran lane_zero (sizes settled regs pins) bits i o n w₃ out₀ w₄ out
          → out ≡ sets out₀ 0 (rows (run m (given_bits m.pins bits) (start_bits m.elements starts)) (out_pins m.pins) 0 n)
      ran-bytes a c r =
          (ran-lane lane_zero r 0 (omega arith) (λ xs. xs) (λ xs j v. refl)).wrote
          ∙ ap (λ (xs : List ℕ). sets out₀ 0 (rows (run m (given_bits m.pins xs) (start_bits m.elements (lane 0 starts))) (out_pins m.pins) 0 n)) (lane-bytes bits a)
          ∙ ap (λ (xs : List ℕ). sets out₀ 0 (rows (run m (given_bits m.pins bits) (start_bits m.elements xs)) (out_pins m.pins) 0 n)) (lane-bytes starts c)

-- ---- as code has it

pub listed_above : (u : List ℕ) (end : ℕ) (w₁ : List ℕ) (regs : ℕ) → RegistersListed u end w₁ regs → Above u w₁
listed_above u end w₁ regs ls = record { size = ls.size; above = λ j l. ls.above j (omega arith) }

module _ (u : List ℕ) (end settled pins n : ℕ) (bits starts out : List ℕ) (sf : Safe u end settled pins n) (w₁ : List ℕ) (regs : ℕ) (ls : RegistersListed u end w₁ regs) (i : ℕ) (ei : i ≡ in_pin_count w₁ pins) where
  pub pins₁ : PinsLow w₁ pins
  pins₁ = record {
    size = let a = ls.size in let c = sf.size in omega arith;
    few = sf.pins_low.few;
    low = λ k l. (let f = sf.pins_low.few in subst (λ (x : ℕ). x / 2 < 8192) (sym (ls.above (pins_at + k) (omega arith))) (sf.pins_low.low k l));
  }

  pub ins_few₁ : i ≤ pins
  ins_few₁ = omega (arith, ins-outs w₁ pins)

  pub order_ready : Ordered w₁ settled
  order_ready = let f = sf.order.few in record {
    size = let a = ls.size in let c = sf.size in omega arith;
    few = sf.order.few;
    looks = λ j l. subst (λ (x : ℕ). Looks w₁ x) (sym (ls.above (order_at + j) (omega arith))) (looks-table ls.size ls.table (sf.order.looks j l));
  }

  pub freed_20 : lent_in bits starts (n * i) regs ≡ false → Freed u end settled pins n bits starts out w₁ out (Err (refusal_at Reason.WrongBits 0))
  freed_20 e = record {
    kept = listed_above u end w₁ regs ls;
    says = λ m rn. says-20 m n bits starts out (n * i) (n * (pins - i)) regs (reads-are m rn) (writes_are m rn) (regs_are u m end settled pins rn w₁ regs ls) e;
  }
    where
      reads-are : (m : Net) → Runnable u m end settled pins → n * i ≡ n * length (in_pins m.pins)
      reads-are m rn = ap (λ (k : ℕ). n * k) (ei ∙ ins_are u m end settled pins rn w₁ regs ls)

      writes_are : (m : Net) → Runnable u m end settled pins → n * (pins - i) ≡ n * length (out_pins m.pins)
      writes_are m rn = ap (λ (k : ℕ). n * k) (ap (λ (k : ℕ). pins - k) ei ∙ outs_are u m end settled pins rn w₁ regs ls)

  pub freed_17 : lent_in bits starts (n * i) regs ≡ true → length out < n * (pins - i) → Freed u end settled pins n bits starts out w₁ out (Err (refusal_at Reason.ShortOutput (n * (pins - i))))
  freed_17 e l = record {
    kept = listed_above u end w₁ regs ls;
    says = λ m rn. says-17 m n bits starts out (n * i) (n * (pins - i)) regs (ap (λ (k : ℕ). n * k) (ei ∙ ins_are u m end settled pins rn w₁ regs ls)) (ap (λ (k : ℕ). n * k) (ap (λ (k : ℕ). pins - k) ei ∙ outs_are u m end settled pins rn w₁ regs ls)) (regs_are u m end settled pins rn w₁ regs ls) e l;
  }

  module _ (w₂ : List ℕ) (bg : Looped word_begin end w₁ w₂) (w₃ : List ℕ) (wk : Looped (wake_one starts) regs w₂ w₃) where
    pub all₃ : Within w₁ w₃
    all₃ = within_then bg.within wk.within

    pub runs-ready : length bits ≡ n * i → n * (pins - i) ≤ length out → Runs w₃ settled regs pins × TraceFits w₃ (length bits) (length out) pins i (pins - i) n
    runs-ready c room = (
      record { order = ordered_within all₃ order_ready; registers = registers-within all₃ ls.registers; pins = pins_within all₃ pins₁ },
      record {
        reads = ei ∙ sym (ins-within w₁ w₃ all₃ pins sf.pins_low.few);
        writes = (let a = ins-outs w₁ pins in let c = outs-within w₁ w₃ all₃ pins sf.pins_low.few in omega arith);
        few = sf.short;
        lent = omega arith;
        room = room;
      },
    )

  module _ (e : lent_in bits starts (n * i) regs ≡ true) (room : n * (pins - i) ≤ length out) (w₂ : List ℕ) (bg : Looped word_begin end w₁ w₂) (w₃ : List ℕ) (wk : Looped (wake_one starts) regs w₂ w₃) where
    run_ready : Runs w₃ settled regs pins × TraceFits w₃ (length bits) (length out) pins i (pins - i) n
    run_ready = runs-ready w₂ bg w₃ wk (lent-counts bits starts (n * i) regs e).0 room

    pub ran_says : (w₄ after : List ℕ) → Ran lane_zero (sizes settled regs pins) bits i (pins - i) n w₃ out w₄ after → (m : Net) → Runnable u m end settled pins
        → AnswerSays (Ok (n * (pins - i))) out after (freed m n bits starts (length out))
    ran_says w₄ after r m rn =
        let a = ei ∙ ins_are u m end settled pins rn w₁ regs ls in
        let c = ap (λ (k : ℕ). pins - k) ei ∙ outs_are u m end settled pins rn w₁ regs ls in
        let q = lent_bits bits starts (n * i) regs e in
        says-written m n bits starts out (n * i) (n * (pins - i)) regs (ap (λ (k : ℕ). n * k) a) (ap (λ (k : ℕ). n * k) c) (regs_are u m end settled pins rn w₁ regs ls) e room after
        (ran-bytes u m end settled pins rn w₁ regs ls starts w₂ bg w₃ wk run_ready.0 bits out i (pins - i) n a c w₄ after q.0 q.1 r)
