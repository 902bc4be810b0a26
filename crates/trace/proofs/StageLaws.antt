-- From the table to an order, or to the lowest input on a ring: what each stage leaves is what the next one asks. Assumes nothing.
use Prim.Native.Nat.{ℕ, suc, ◌+◌, ◌-◌, ◌≤◌, ◌<◌}
use mathlib.Core.Path.{◌≡◌, refl, sym, ap, ◌∙◌, subst}
use mathlib.Core.Logic.{◌⊎◌, inl, inr, ⊎_elim}
use mathlib.Core.Bool.{Bool, true, false, cond, ◌||◌}
use mathlib.Core.List.{List, map}
use native.Mathlib.Omega.{arith}
use native.Mathlib.Decide.{ℕ_discrete, dec_le}
use lib.ListN.{length, get_or}
use lib.Dec.{T, eqb, ltb}
use Rattle.laws.proofs.Regions.{region_ext}
use Rattle.calculus.specs.Answer.{Answer, good, refuse, refused, ◌>>=◌}
use Rattle.calculus.specs.Net.{Interface, Net}
use Rattle.calculus.specs.Lean.{lean}
use Rattle.calculus.specs.Translate.{said_of, out_of}
use Rattle.circuit_theorems.proofs.Terminals.{pin_ins}
use Rattle.calculus.specs.Lean.{is_pin}
use Rattle.calculus.specs.Record.{All}
use Rattle.calculus.specs.Inputs.{made_at_lem}
use Rattle.circuit_theorems.specs.Formed.{Shown}
use Rattle.trace_theorems.proofs.Sources.{out_terminal}
use Rattle.lean.specs.Layout.{kinds_from, left_out}
use Rattle.trace_steps.specs.Map.{rest_at, pins_at, bits_at, register_entry, inverter_entry, one_entry}
use Rattle.trace_steps.specs.Pins.{pin_is_in}
use Rattle.memory.specs.Map.{roots_at, memory_size, terminal_of, net_in}
use Rattle.circuit_theorems.specs.Terminals.{has}
use Rattle.lean.specs.Table.{Within}
use Rattle.lean.proofs.TableLaws.{within_none, within_then, within-set, entry-same, entry_other}
use Rattle.trace_calculus.specs.Trace.{terminals, inputs, none_on_ring, bit_byte_lem, ran}
use Rattle.trace_calculus.specs.Lanes.{LanesEnd, lanes_ran, outs, state_of}
use Rattle.trace_theorems.proofs.TraceRings.{accepted}
use Rattle.trace_steps.specs.Turns.{take_turns, Looped}
use Rattle.trace_steps.specs.Steps.{first_in, free_in, mark_one, Looks, Register}
use Rattle.trace_steps.specs.Sweeps.{Sweepable, AllSwept}
use Rattle.trace_steps.specs.Ticks.{InOrder}
use Rattle.trace_steps.proofs.Laws.{first_low}
use Rattle.trace_steps.proofs.SweepLaws.{looks-table}
use Rattle.trace_rings.specs.Lists.{Choosable, Chosen}
use Rattle.trace_rings.specs.Rings.{mark, rest, met, InputOf, Rest, Fresh, RingFound}
use Rattle.trace.specs.Tables.{TableEntry, Tabled, Looking}
use Rattle.translator.specs.Made.{Keeps}
use Rattle.translator.proofs.Keeping.{above_keeps}
use Rattle.translator.specs.Said.{AnswerSays}
use Rattle.trace.specs.Said.{Above, TablesMade, freed, Runnable, Safe, Freed, lanes_free, LanesSay, LanesFreed}
use Rattle.trace.specs.Ordering.{PutInOrder}
use Rattle.trace.specs.declared.ordering.Order.{Order}
use Rattle.answers.specs.declared.Reason.{Reason}
use Rattle.answers.specs.Refusals.{refusal_at, said_why}
use Rattle.std.specs.Prelude.{Result, Ok, Err}
use Rattle.answers.specs.declared.Refusal.{Refusal}
use Rattle.trace.proofs.Turning.{turns-keep}
use Rattle.trace.proofs.GateLaws.{gate-at, gate-looks, looks_looking, looking_looks, input-low}
use Rattle.trace.proofs.OrderLaws.{Stage, End, settled-end}
use Rattle.trace.proofs.RingLaws.{Ground, start, none_left, left-rest, left-fresh, place_is}
use Rattle.trace.proofs.RegisterLists.{register_of}
use Rattle.trace.proofs.PinLists.{up_to, upto_is, pin_at_lem, number_pin, out_shown}
use Rattle.trace.proofs.ElementLaws.{within-made, made-within, in_terminal}

-- ---- what stays

pub above_then : {u v w : List ℕ} → Above u v → Above v w → Above u w
above_then a b = record { size = b.size ∙ a.size; above = λ j l. b.above j l ∙ a.above j l }

pub above_within : {u w : List ℕ} → Within u w → Above u w
above_within i = record { size = i.size; above = λ j l. i.above j (omega arith) }

-- the table and the pins stay
pub tabled_same : (u w : List ℕ) (m : Net) (end pins : ℕ) → length w ≡ length u → ((x : ℕ) → x < 8192 → get_or w x 0 ≡ get_or u x 0) → ((x : ℕ) → pins_at ≤ x → x < bits_at → get_or w x 0 ≡ get_or u x 0)
    → Tabled u m end pins → Tabled w m end pins
tabled_same u w m end pins z f g t =
    let few = t.few in
    let size = t.size in
    let fp = t.few_pins in
    record {
      size = omega arith;
      formed = t.formed;
      few = t.few;
      low = t.low;
      entries = λ x h. (let l = t.low x h in subst (λ (v : ℕ). TableEntry m x v) (sym (f x (omega arith))) (t.entries x h));
      others = λ x l. ⊎_elim inl (λ h. inr (subst (λ (v : ℕ). (v < 8192) ⊎ (left_out ≤ v)) (sym (f x (omega arith))) h)) (t.others x l);
      few_pins = t.few_pins;
      shown = ap (map terminal_of) (region_ext pins_at pins u w (omega arith) (omega arith) (λ j l h. g j l (omega arith))) ∙ t.shown;
    }

-- a pin's terminal is below 8,192
pub pin_below : (w : List ℕ) (m : Net) (end pins : ℕ) → Tabled w m end pins → (j : ℕ) → j < pins → pin_at_lem w j < 8192
pin_below w m end pins t j l = by (pin_is_in w j) refl
  where
    shown : up_to w pins ≡ m.pins
    shown = let a = t.few_pins in let c = t.size in upto_is w pins (omega arith) ∙ t.shown

    low : T (has (terminals m.elements) (pin_at_lem w j)) → pin_at_lem w j < 8192
    low h = let a = t.low (pin_at_lem w j) h in let c = t.few in omega arith

    by : (b : Bool) → pin_is_in w j ≡ b → pin_at_lem w j < 8192
    by true e =
        let h : T (is_pin m.pins (pin_at_lem w j)) = subst (λ (ps : Interface). T (is_pin ps (pin_at_lem w j))) shown (number_pin w pins j l e) in
        let k : 1 ≤ made_at_lem m.elements (pin_at_lem w j) = (let a = pin_ins m.pins (pin_at_lem w j) h in let c = t.formed.reached (pin_at_lem w j) in omega arith) in
        let r = made-within m.elements (pin_at_lem w j) k in
        low (in_terminal r.0 (pin_at_lem w j) r.1 r.2 (let c = r.3 in omega arith))
    by false e = low (out_terminal m.elements (pin_at_lem w j) (out_shown m.elements w pins j l e (subst (λ (ps : Interface). All (Shown m.elements) ps) (sym shown) t.formed.shown)))

-- ---- the list and the marks

module _ (w₃ : List ℕ) (m : Net) (end pins : ℕ) (t : Tabled w₃ m end pins) where
  pub choosable : Choosable w₃ end
  choosable = record {
    size = t.size;
    few = t.few;
    looks = λ x l e. (let r = looks_looking w₃ m end pins t x l e in let f = t.few in gate-looks w₃ m end pins t x (omega arith) (gate-at w₃ m end pins t x r.0 r.1));
  }

  module _ (w₄ : List ℕ) (total : ℕ) (c : Chosen w₃ end w₄ total) where
    pub marking-size : memory_size ≤ length w₄
    marking-size = let a = c.size in let b = t.size in omega arith

    record Marking (j : ℕ) (w : List ℕ) : Type 0 where
      pub within : Within w₄ w
      pub done : (x : ℕ) → x < j → mark w x ≡ bit_byte_lem (free_in w₄ x)
      pub others : (x : ℕ) → j ≤ x → mark w x ≡ mark w₄ x

    mark-all : (n : ℕ) → n ≤ 8192 → Marking n (take_turns mark_one n 0 w₄)
    mark-all n few = turns-keep mark_one Marking w₄ (record { within = within_none w₄; done = λ x l. absurd (omega arith); others = λ x l. refl }) n step
      where
        step : (j : ℕ) (w : List ℕ) → j < n → Marking j w → Marking (suc j) (mark_one j w)
        step j w l q =
            let e = q.within.below j (omega arith) in
            let s = q.within.size in
            let b = marking-size in
            let same : free_in w j ≡ free_in w₄ j = ap (λ (v : ℕ). eqb v j || (eqb v kinds_from || (eqb v register_entry || eqb v one_entry))) e in
            record {
              within = within_then q.within (within-set w j (bit_byte_lem (free_in w j)) (omega arith));
              done = λ x h. elim (ℕ_discrete x j) [
                | yes z ↦ ap (mark (mark_one j w)) z ∙ entry-same w j (bit_byte_lem (free_in w j)) (omega arith) (omega arith) ∙ ap bit_byte_lem same ∙ ap (λ (y : ℕ). bit_byte_lem (free_in w₄ y)) (sym z)
                | no d ↦ entry_other w j x (bit_byte_lem (free_in w j)) d ∙ q.done x (omega arith)
              ];
              others = λ x h. entry_other w j x (bit_byte_lem (free_in w j)) (λ z. omega arith) ∙ q.others x (omega arith);
            }

    module _ (past : (x : ℕ) → end ≤ x → x < 8192 → mark w₃ x ≡ 0) (u : List ℕ) (l : Looped mark_one end w₄ u) where
      marked : Marking end u
      marked = subst (Marking end) (sym l.whole) (mark-all end t.few)

      same : (x : ℕ) → x < 8192 → get_or u x 0 ≡ get_or w₃ x 0
      same x h = l.within.below x (omega arith) ∙ c.table x h

      list_same : (i : ℕ) → i < total → rest u i ≡ rest w₄ i
      list_same i h = let f = c.few in l.within.below (rest_at + i) (omega arith)

      pub tabled-u : Tabled u m end pins
      tabled-u = tabled_same w₃ u m end pins (l.within.size ∙ c.size) same (λ x a b. l.within.below x b ∙ c.above x (omega arith)) t

      listed_at : (i : ℕ) → i < total → T (has (terminals m.elements) (rest u i)) × Looking (get_or u (rest u i) 0)
      listed_at i h =
          let a = c.each i h in
          let r = looks_looking w₃ m end pins t (rest w₄ i) a.0 a.1 in
          let f = t.few in
          subst (λ (x : ℕ). T (has (terminals m.elements) x) × Looking (get_or u x 0)) (sym (list_same i h)) (r.0, subst Looking (sym (same (rest w₄ i) (omega (arith, a.0)))) r.1)

      pub ground : Ground u m end pins total
      ground = record {
        tabled = tabled-u;
        few = c.few;
        each = listed_at;
        all = λ x h g. (let lo = t.low x h in let f = t.few in let r = c.all x lo (looking_looks (get_or w₃ x 0) (subst Looking (same x (omega arith)) g)) in (r.0, r.1, list_same r.0 r.1 ∙ r.2));
        falling = λ i j a b. (let p = list_same i (omega arith) in let q = list_same j b in let z = c.falling i j a b in omega arith);
        marks = λ x h. (let f = t.few in marked.done x h ∙ ap bit_byte_lem (ap (λ (v : ℕ). eqb v x || (eqb v kinds_from || (eqb v register_entry || eqb v one_entry))) (sym (l.within.below x (omega arith)))));
        past = λ x h g. marked.others x h ∙ c.above (roots_at + x) (omega arith) ∙ past x h g;
      }

      pub sweepable : Sweepable u total total
      sweepable = record { size = tabled-u.size; few = let f = c.few in omega arith; some = omega arith; looks = (start u m end pins total ground).looks }

      pub above-u : Above w₃ u
      above-u = record { size = l.within.size ∙ c.size; above = λ j a. l.within.above j (omega arith) ∙ c.above j (omega arith) }

-- ---- after the sweeps

module _ (u : List ℕ) (m : Net) (end pins total : ℕ) (g : Ground u m end pins total) (w : List ℕ) (left : ℕ) (s : AllSwept u total w left) where
  abbrev ended : End u total (start u m end pins total g) w left (total - left)
  ended = settled-end u total (start u m end pins total g) w left s.whole

  pub above_w : Above u w
  above_w = record { size = ended.stage.size; above = λ j a. ended.stage.above j (omega arith) }

  tabled-w : Tabled w m end pins
  tabled-w = tabled_same u w m end pins ended.stage.size ended.stage.table ended.stage.pins g.tabled

  -- ---- none left

  module _ (z : left ≡ 0) where
    abbrev st : Stage u total left 0 w 0 (total - left)
    st = ended.stage

    all_done : total - left ≡ total
    all_done = omega arith

    in_list : (j : ℕ) → j < total → (n : ℕ) × (n < total) × (rest u n ≡ met w j)
    in_list j l = st.order j (let a = all_done in omega arith)

    met-low : (j : ℕ) → j < total → met w j < 8192
    met-low j l = let r = in_list j l in subst (λ (x : ℕ). x < 8192) r.2 ((start u m end pins total g).looks r.0 r.1).low

    met-looks : (j : ℕ) → j < total → Looks u (met w j)
    met-looks j l = let r = in_list j l in subst (λ (x : ℕ). Looks u x) r.2 ((start u m end pins total g).looks r.0 r.1)

    apart-all : (i j : ℕ) → i < total → j < total → met w i ≡ met w j → i ≡ j
    apart-all i j a b e = elim (ℕ_discrete i j) [
      | yes q ↦ q
      | no d ↦ (elim (dec_le i j) [ yes l ↦ absurd (st.apart i j (omega arith) (let v = all_done in omega arith) e) | no l ↦ absurd (st.apart j i (omega arith) (let v = all_done in omega arith) (sym e)) ])
    ]

    -- what an output looks at does not come at its place or later
    before : (j i x : ℕ) → j ≤ i → i < total → InputOf u (met w j) x → get_or u x 0 ≡ met w i → ⊥
    before j i x l h n e =
        let v = all_done in
        ⊎_elim
        (λ q. let r = in_list i h in (start u m end pins total g).loose r.0 r.1 (ap (mark u) (r.2 ∙ sym e) ∙ q))
        (λ q. let y = apart-all q.0 i (omega (arith, q.1)) h (q.2 ∙ e) in omega (arith, q.1)) (st.sourced j x (omega arith) n)

    first-at : (j : ℕ) → j < total → get_or w (first_in w (met w j)) 0 ≡ get_or u (first_in u (met w j)) 0
    first-at j l =
        let o = met-low j l in
        let e : first_in w (met w j) ≡ first_in u (met w j) = ap (λ (a : ℕ). cond (ltb a inverter_entry) (met w j - 2) (met w j - 1)) (st.table (met w j) o) in
        ap (λ (a : ℕ). get_or w a 0) e ∙ st.table (first_in u (met w j)) (first_low u (met w j) o)

    in_order : InOrder w total
    in_order = record {
      ordered = record { size = tabled-w.size; few = let f = g.few in omega arith; looks = λ j l. looks-table st.size st.table (met-looks j l) };
      apart = apart-all;
      first = λ j i l h e. before j i (first_in u (met w j)) l h (inl refl) (sym (first-at j (omega arith)) ∙ e);
      last = λ j i l h e. (let o = met-low j (omega arith) in before j i (met w j - 1) l h (inr refl) (sym (st.table (met w j - 1) (omega arith)) ∙ e));
    }

    pub runnable : Runnable w m end total pins
    runnable = record {
      tabled = tabled-w;
      order = in_order;
      listed = λ j l. (let r = in_list j l in let a = subst (λ (x : ℕ). T (has (terminals m.elements) x) × Looking (get_or u x 0)) r.2 (g.each r.0 r.1) in (a.0, subst Looking (sym (st.table (met w j) (met-low j l))) a.1));
      all = λ x h q.
          let lo = g.tabled.low x h in
          let f = g.tabled.few in
          let r = g.all x h (subst Looking (st.table x (omega arith)) q) in
          let v = all_done in
          ⊎_elim (λ a. absurd (none a.0 a.1)) (λ a. (a.0, omega (arith, a.1), a.2 ∙ r.2)) (st.cover r.0 r.1);
      free = accepted m g.tabled.formed (none_left u m end pins total g w left (total - left) ended z);
    }
      where
        none : (i : ℕ) → (i < 0) ⊎ ((0 ≤ i) × (i < left)) → ⊥
        none i (inl l) = omega arith
        none i (inr (a, b)) = omega arith

    pub safe : (n : ℕ) → n ≤ 65535 → Safe w end total pins n
    safe n h = record {
      size = tabled-w.size;
      few = tabled-w.few;
      order = in_order.ordered;
      registers = record { size = tabled-w.size; few = tabled-w.few; register = λ x l e. register x l e };
      pins_low = record { size = tabled-w.size; few = tabled-w.few_pins; low = λ j l. pin_below w m end pins tabled-w j l };
      short = h;
    }
      where
        register : (x : ℕ) → x < end → get_or w x 0 ≡ register_entry → Register w x
        register x l e =
            let r = register_of w m end pins tabled-w x l e in
            let i : r.0 ≡ x - 1 = omega (arith, r.2) in
            let f = tabled-w.few in
            record {
              low = omega arith;
              some = omega (arith, r.2);
              source = subst (λ (y : ℕ). get_or w y 0 < 8192) i (input-low w m end pins tabled-w r.0 (within-made _ r.0 r.1 (omega arith) (omega arith)));
            }

    pub no-ring : none_on_ring m (inputs m.elements) ≡ good tt
    no-ring = none_left u m end pins total g w left (total - left) ended z

  -- ---- some left

  module _ (some : 1 ≤ left) where
    pub rest-ready : Rest w left × Fresh w 2
    rest-ready = (left-rest u m end pins total g w left (total - left) ended, left-fresh u m end pins total g w left (total - left) ended)

    pub ring-found : (v : List ℕ) (x : ℕ) → RingFound w left v x → none_on_ring m (inputs m.elements) ≡ refuse 19 x
    ring-found v x f = place_is u m end pins total g w left (total - left) ended x some f.place

-- ---- what is said

stop : {A : Type 0} (a : Answer (Unit {0})) (k : Unit {0} → Answer A) (why : Refusal) → a ≡ refused (said_why why) → (a >>= k) ≡ refused (said_why why)
stop a k why e = ap (λ (z : Answer (Unit {0})). z >>= k) e

go_on : {A : Type 0} (a : Answer (Unit {0})) (k : Unit {0} → Answer A) → a ≡ good tt → (a >>= k) ≡ k tt
go_on a k e = ap (λ (z : Answer (Unit {0})). z >>= k) e

pub ring_says : (m : Net) (n : ℕ) (bits starts out : List ℕ) (why : Refusal) → none_on_ring m (inputs m.elements) ≡ refused (said_why why) → AnswerSays (Err why) out out (ran m n bits starts (length out))
unfolding ran
ring_says m n bits starts out why e =
    let f = stop (none_on_ring m (inputs m.elements)) _ why e in
    record { said = sym (ap said_of f); wrote = sym (ap (λ (a : Answer (List ℕ)). out_of a out) f) }

pub ran-freed : (m : Net) (n : ℕ) (bits starts : List ℕ) (room : ℕ) → none_on_ring m (inputs m.elements) ≡ good tt → ran m n bits starts room ≡ freed m n bits starts room
unfolding ran freed
ran-freed m n bits starts room e = go_on (none_on_ring m (inputs m.elements)) _ e

pub lanes_ring : (m : Net) (n : ℕ) (bits state out : List ℕ) (why : Refusal) → none_on_ring m (inputs m.elements) ≡ refused (said_why why) → LanesSay (Err why) out out state state (lanes_ran m n bits state (length out))
unfolding lanes_ran
lanes_ring m n bits state out why e =
    let f = stop (none_on_ring m (inputs m.elements)) _ why e in
    record {
      answer = record { said = sym (ap (λ (a : Answer LanesEnd). said_of (outs a)) f); wrote = sym (ap (λ (a : Answer LanesEnd). out_of (outs a) out) f) };
      left = sym (ap (λ (a : Answer LanesEnd). state_of a state) f);
    }

pub lanes_free_lem : (m : Net) (n : ℕ) (bits state : List ℕ) (room : ℕ) → none_on_ring m (inputs m.elements) ≡ good tt → lanes_ran m n bits state room ≡ lanes_free m n bits state room
unfolding lanes_ran lanes_free
lanes_free_lem m n bits state room e = go_on (none_on_ring m (inputs m.elements)) _ e

-- ---- all stages

module _ (u : List ℕ) (e k p : ℕ) (w₃ : List ℕ) (end : ℕ) (md : TablesMade u e k p w₃ end) (w₄ : List ℕ) (total : ℕ) (ch : Chosen w₃ end w₄ total) (w₅ : List ℕ) (mk : Looped mark_one end w₄ w₅) where
  abbrev L : Net
  L = lean (net_in u e k p)

  grounded : Ground w₅ L end p total
  grounded = ground w₃ L end p md.tabled w₄ total ch md.past w₅ mk

  pub settle_ready : Sweepable w₅ total total
  settle_ready = sweepable w₃ L end p md.tabled w₄ total ch md.past w₅ mk

  module _ (w₆ : List ℕ) (left : ℕ) (st : AllSwept w₅ total w₆ left) where
    kept₆ : Above u w₆
    kept₆ = above_then md.kept (above_then (above-u w₃ L end p md.tabled w₄ total ch md.past w₅ mk) (above_w w₅ L end p total grounded w₆ left st))

    pub lowest-ready : 1 ≤ left → Rest w₆ left × Fresh w₆ 2
    lowest-ready l = rest-ready w₅ L end p total grounded w₆ left st l

    pub ring-ordered : 1 ≤ left → (w₇ : List ℕ) (x : ℕ) → RingFound w₆ left w₇ x → PutInOrder u e k p w₇ (Err (refusal_at Reason.RingWithoutRegister x))
    ring-ordered l w₇ x f = record { kept = above_then kept₆ (record { size = f.kept.size; above = λ j a. f.kept.above j (omega arith) }); given = tt; says = ring-found w₅ L end p total grounded w₆ left st l w₇ x f }

    pub free-ordered : left ≡ 0 → PutInOrder u e k p w₆ (Ok (record { end = end; settled = total; pins = p }))
    free-ordered z = record { kept = kept₆; given = refl; says = (no-ring w₅ L end p total grounded w₆ left st z, runnable w₅ L end p total grounded w₆ left st z, safe w₅ L end p total grounded w₆ left st z) }

-- ---- put in order, the netlist is run

module _ (u : List ℕ) (e k p : ℕ) (large : memory_size ≤ length u) (n : ℕ) (bits starts out₀ : List ℕ) where
  pub ring_ran : (w : List ℕ) (why : Refusal) → PutInOrder u e k p w (Err why) → AnswerSays (Err why) out₀ out₀ (ran (lean (net_in u e k p)) n bits starts (length out₀)) × Keeps u w
  ring_ran w why o = (ring_says (lean (net_in u e k p)) n bits starts out₀ why o.says, above_keeps u w large o.kept.size o.kept.above)

  pub free_ran : (w : List ℕ) (order : Order) → PutInOrder u e k p w (Ok order) → (w₇ out : List ℕ) (r : Result ℕ Refusal) → Freed w order.end order.settled order.pins n bits starts out₀ w₇ out r
      → AnswerSays r out₀ out (ran (lean (net_in u e k p)) n bits starts (length out₀)) × Keeps u w₇
  free_ran w order o w₇ out r f = (
    subst (AnswerSays r out₀ out) (sym (ran-freed (lean (net_in u e k p)) n bits starts (length out₀) o.says.0)) (f.says (lean (net_in u e k p)) o.says.1),
    (let h = above_then o.kept f.kept in above_keeps u w₇ large h.size h.above),
  )

module _ (u : List ℕ) (e k p : ℕ) (large : memory_size ≤ length u) (n : ℕ) (bits state₀ out₀ : List ℕ) where
  pub lanes_ring-ran : (w : List ℕ) (why : Refusal) → PutInOrder u e k p w (Err why) → LanesSay (Err why) out₀ out₀ state₀ state₀ (lanes_ran (lean (net_in u e k p)) n bits state₀ (length out₀)) × Keeps u w
  lanes_ring-ran w why o = (lanes_ring (lean (net_in u e k p)) n bits state₀ out₀ why o.says, above_keeps u w large o.kept.size o.kept.above)

  pub lanes_free-ran : (w : List ℕ) (order : Order) → PutInOrder u e k p w (Ok order) → (w₇ state out : List ℕ) (r : Result ℕ Refusal) → LanesFreed w order.end order.settled order.pins n bits state₀ out₀ w₇ state out r
      → LanesSay r out₀ out state₀ state (lanes_ran (lean (net_in u e k p)) n bits state₀ (length out₀)) × Keeps u w₇
  lanes_free-ran w order o w₇ state out r f = (
    subst (LanesSay r out₀ out state₀ state) (sym (lanes_free_lem (lean (net_in u e k p)) n bits state₀ (length out₀) o.says.0)) (f.says (lean (net_in u e k p)) o.says.1),
    (let h = above_then o.kept f.kept in above_keeps u w₇ large h.size h.above),
  )
