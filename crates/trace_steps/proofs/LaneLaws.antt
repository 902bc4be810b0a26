-- What lane k sees of the steps over whole numbers is the steps over bits, of which specs/Steps speaks: bit k of a step is the step of the bits k.
-- Assumes nothing.
use Prim.Native.Nat.{ℕ, zero, suc, ◌+◌, ◌-◌, ◌*◌, ◌/◌, ◌%◌, ◌≤◌, ◌<◌}
use mathlib.Core.Path.{◌≡◌, refl, sym, ap, ap₂, ◌∙◌, subst}
use mathlib.Core.Bool.{Bool, true, false, cond, not, ◌&&◌, ◌||◌, xor}
use mathlib.Core.List.{List, [], ◌∷◌}
use native.Mathlib.Omega.{arith}
use lib.Bits.{bit_and, bit_or, bit_xor}
use lib.Dec.{eqb, ltb}
use lib.ListN.{length, get_or, set}
use borrow.Author.Tests.{le-leb, lt-leb, lt-ltb, le-ltb}
use Rattle.lean.specs.Table.{Within}
use Rattle.lean.proofs.TableLaws.{within_none, within_then, within-set}
use Rattle.trace_calculus.specs.Trace.{bit_byte_lem}
use Rattle.trace_calculus.specs.Lanes.{lane_bit, lane}
use Rattle.trace_calculus.proofs.LaneBits.{lane_zero_lem, lane-at, bit_at, and_bit, or_bit, xor_bit, not_bit, bit_is}
use Rattle.lean.specs.Layout.{kinds_from}
use Rattle.trace_steps.specs.Map.{registers_at, order_at, pins_at, bits_at, bits_end}
use Rattle.trace_steps.specs.Turns.{take_turns}
use Rattle.trace_steps.specs.Steps.{lit, first_in, input_bit, gate_bit, step_in, pass_one, Looks, Ordered, Register, Registers, hold_at, hold_one, turn_at, turn_one}
use Rattle.trace_steps.specs.Words.{gate_word, word_at, input_word, word_step, word_pass, in_bits, lane_from, lane_mem}
use Rattle.trace_steps.specs.Pins.{Counted, counted, pin_is_in, PinsLow, load_one, store_one, word_store}
use Rattle.trace_steps.specs.Ticks.{Sizes, sizes, lighted, ticked, shown_bits, word_lighted, word_ticked, word_shown, Runs, Running, running, tick_one, word_tick}
use Rattle.trace_steps.proofs.Laws.{first_low, first-same, turns_next, ordered_at, register_at_lem, hold_within, turn_within, pass_within}
use Rattle.trace_steps.proofs.TickLaws.{ordered_within, registers-within, pins_within}

-- ---- the memory as lane k sees it

from_at : (k i : ℕ) (w : List ℕ) (j : ℕ) → get_or (lane_from k i w) j 0 ≡ cond (in_bits (i + j)) (lane_bit k (get_or w j 0)) (get_or w j 0)
from_at k i [] j = by (in_bits (i + j))
  where
    by : (b : Bool) → 0 ≡ cond b (lane_bit k 0) 0
    by true = sym (lane_zero_lem k)
    by false = refl
from_at k i (x ∷ xs) zero = let e : i ≡ i + 0 = omega arith in ap (λ (n : ℕ). cond (in_bits n) (lane_bit k x) x) e
from_at k i (x ∷ xs) (suc j) = let e : suc i + j ≡ i + suc j = omega arith in from_at k (suc i) xs j ∙ ap (λ (n : ℕ). cond (in_bits n) (lane_bit k (get_or xs j 0)) (get_or xs j 0)) e

from-set : (k i : ℕ) (w : List ℕ) (j v : ℕ) → lane_from k i (set w j v) ≡ set (lane_from k i w) j (cond (in_bits (i + j)) (lane_bit k v) v)
from-set k i [] j v = refl
from-set k i (x ∷ xs) zero v = let e : i ≡ i + 0 = omega arith in ap (λ (n : ℕ). cond (in_bits n) (lane_bit k v) v ∷ lane_from k (suc i) xs) e
from-set k i (x ∷ xs) (suc j) v =
    let e : suc i + j ≡ i + suc j = omega arith in
    ap (λ (l : List ℕ). cond (in_bits i) (lane_bit k x) x ∷ l) (from-set k (suc i) xs j v ∙ ap (λ (n : ℕ). set (lane_from k (suc i) xs) j (cond (in_bits n) (lane_bit k v) v)) e)

from-length : (k i : ℕ) (w : List ℕ) → length (lane_from k i w) ≡ length w
from-length k i [] = refl
from-length k i (x ∷ xs) = ap suc (from-length k (suc i) xs)

low_out : (j : ℕ) → j < bits_at → in_bits (0 + j) ≡ false
low_out j h = ap (λ (b : Bool). b && ltb (0 + j) bits_end) (lt-leb bits_at (0 + j) (omega arith))

high_out : (j : ℕ) → bits_end ≤ j → in_bits (0 + j) ≡ false
high_out j h = ap₂ ◌&&◌ (le-leb bits_at (0 + j) (omega arith)) (le-ltb (0 + j) bits_end (omega arith))

bit_in : (x : ℕ) → x < 8192 → in_bits (0 + (bits_at + x)) ≡ true
bit_in x h = ap₂ ◌&&◌ (le-leb bits_at (0 + (bits_at + x)) (omega arith)) (lt-ltb (0 + (bits_at + x)) bits_end (omega arith))

pub mem_low : (k : ℕ) (w : List ℕ) (j : ℕ) → j < bits_at → get_or (lane_mem k w) j 0 ≡ get_or w j 0
unfolding lane_mem
mem_low k w j h = from_at k 0 w j ∙ ap (λ (b : Bool). cond b (lane_bit k (get_or w j 0)) (get_or w j 0)) (low_out j h)

pub mem_bit : (k : ℕ) (w : List ℕ) (x : ℕ) → x < 8192 → get_or (lane_mem k w) (bits_at + x) 0 ≡ lane_bit k (word_at w x)
unfolding lane_mem
mem_bit k w x h = from_at k 0 w (bits_at + x) ∙ ap (λ (b : Bool). cond b (lane_bit k (word_at w x)) (word_at w x)) (bit_in x h)

pub mem_set : (k : ℕ) (w : List ℕ) (x v : ℕ) → x < 8192 → lane_mem k (set w (bits_at + x) v) ≡ set (lane_mem k w) (bits_at + x) (lane_bit k v)
unfolding lane_mem
mem_set k w x v h = from-set k 0 w (bits_at + x) v ∙ ap (λ (b : Bool). set (lane_from k 0 w) (bits_at + x) (cond b (lane_bit k v) v)) (bit_in x h)

pub mem_within : (k : ℕ) (w : List ℕ) → Within w (lane_mem k w)
unfolding lane_mem
mem_within k w = record {
  size = from-length k 0 w;
  below = λ j h. mem_low k w j h;
  above = λ j h. from_at k 0 w j ∙ ap (λ (b : Bool). cond b (lane_bit k (get_or w j 0)) (get_or w j 0)) (high_out j h);
}

pub lit-lane : (k : ℕ) (w : List ℕ) (x : ℕ) → x < 8192 → lit (lane_mem k w) x ≡ bit_at k (word_at w x)
lit-lane k w x h = ap (λ (n : ℕ). eqb n 1) (mem_bit k w x h)

-- ---- a loop that lane k sees as a loop

turns-lane : {S R : Type 0} (h : S → R) (f : ℕ → S → S) (f' : ℕ → R → R) (P : S → Type 0) (n : ℕ) (s : S) → P s → ((j : ℕ) (t : S) → j < n → P t → P (f j t) × (h (f j t) ≡ f' j (h t)))
    → P (take_turns f n 0 s) × (h (take_turns f n 0 s) ≡ take_turns f' n 0 (h s))
turns-lane h f f' P zero s p step = (p, refl)
turns-lane h f f' P (suc n) s p step =
    let r = turns-lane h f f' P n s p (λ j t l q. step j t (omega arith) q) in
    let q = step n (take_turns f n 0 s) (omega arith) r.0 in
    let e : n + 1 ≡ suc n = omega arith in
    let a = turns_next f n s (take_turns f n 0 s) refl ∙ ap (λ (k : ℕ). take_turns f k 0 s) e in
    let b = turns_next f' n (h s) (h (take_turns f n 0 s)) r.1 ∙ ap (λ (k : ℕ). take_turns f' k 0 (h s)) e in
    (subst P a q.0, ap h (sym a) ∙ q.1 ∙ b)

-- ---- a gate

pub gate-lane : (k p a b : ℕ) → k < 16 → bit_at k (gate_word p a b) ≡ gate_bit p (bit_at k a) (bit_at k b)
gate-lane k p a b h = by (eqb p 3) (eqb p 4) (eqb p 5)
  where
    by : (c d e : Bool) → bit_at k (cond c (bit_or a b) (cond d (bit_xor a b) (cond e (bit_xor a 65535) (bit_and a b))))
        ≡ cond c (bit_at k a || bit_at k b) (cond d (xor (bit_at k a) (bit_at k b)) (cond e (not (bit_at k a)) (bit_at k a && bit_at k b)))
    by true d e = or_bit k a b
    by false true e = xor_bit k a b
    by false false true = not_bit k a h
    by false false false = and_bit k a b

input-lane : (k : ℕ) (w : List ℕ) (x : ℕ) → x < 8192 → get_or w x 0 < 8192 → input_bit (lane_mem k w) x ≡ bit_at k (input_word w x)
input-lane k w x h l = ap (lit (lane_mem k w)) (mem_low k w x (omega arith)) ∙ lit-lane k w (get_or w x 0) l

-- bit k of a step is the step of the bits k
pub step-lane : (k : ℕ) (w : List ℕ) (o : ℕ) → k < 16 → Looks w o → lane_mem k (word_step w o) ≡ step_in (lane_mem k w) o
step-lane k w o h l =
    let lo = l.low in
    let W = lane_mem k w in
    let p = get_or w o 0 - kinds_from in
    let x = first_in w o in
    let a = input_word w x in
    let b = input_word w (o - 1) in
    let kind : get_or w o 0 ≡ get_or W o 0 = sym (mem_low k w o (omega arith)) in
    let first : bit_at k a ≡ input_bit W (first_in W o) = sym (ap (input_bit W) (first-same (mem_within k w) o lo) ∙ input-lane k w x (first_low w o lo) l.first) in
    let last : bit_at k b ≡ input_bit W (o - 1) = sym (input-lane k w (o - 1) (omega arith) l.last) in
    mem_set k w o (gate_word p a b) lo
    ∙ ap (set W (bits_at + o))
    (bit_is k (gate_word p a b) (gate_bit p (bit_at k a) (bit_at k b)) (gate-lane k p a b h)
    ∙ ap (λ (n : ℕ). bit_byte_lem (gate_bit (n - kinds_from) (bit_at k a) (bit_at k b))) kind
    ∙ ap₂ (λ (c d : Bool). bit_byte_lem (gate_bit (get_or W o 0 - kinds_from) c d)) first last)

module _ (k : ℕ) (h : k < 16) where
  pub pass_lane : (u : List ℕ) (n : ℕ) → Ordered u n → Within u (take_turns word_pass n 0 u) × (lane_mem k (take_turns word_pass n 0 u) ≡ take_turns pass_one n 0 (lane_mem k u))
  pass_lane u n q = turns-lane (lane_mem k) word_pass pass_one (Within u) n u (within_none u) step
    where
      step : (j : ℕ) (w : List ℕ) → j < n → Within u w → Within u (word_pass j w) × (lane_mem k (word_pass j w) ≡ pass_one j (lane_mem k w))
      step j w l i =
          let f = q.few in
          let r = ordered_at i q j l in
          let e = mem_low k w (order_at + j) (omega arith) in
          (within_then i (pass_within w j r), step-lane k w (get_or w (order_at + j) 0) h r ∙ ap (step_in (lane_mem k w)) (sym e))

-- ---- registers

module _ (k : ℕ) where
  hold-one : (w : List ℕ) (o : ℕ) → Register w o → lane_mem k (hold_at w o) ≡ hold_at (lane_mem k w) o
  hold-one w o r =
      let lo = r.low in
      let W = lane_mem k w in
      let y = get_or w (o - 1) 0 in
      mem_set k w (o - 1) (word_at w y) (omega arith)
      ∙ ap (set W (bits_at + (o - 1))) (sym (mem_bit k w y r.source) ∙ ap (λ (n : ℕ). get_or W (bits_at + n) 0) (sym (mem_low k w (o - 1) (omega arith))))

  turn_one_lem : (w : List ℕ) (o : ℕ) → Register w o → lane_mem k (turn_at w o) ≡ turn_at (lane_mem k w) o
  turn_one_lem w o r =
      let lo = r.low in
      mem_set k w o (word_at w (o - 1)) lo ∙ ap (set (lane_mem k w) (bits_at + o)) (sym (mem_bit k w (o - 1) (omega arith)))

  pub hold_lane : (u : List ℕ) (n : ℕ) → Registers u n → Within u (take_turns hold_one n 0 u) × (lane_mem k (take_turns hold_one n 0 u) ≡ take_turns hold_one n 0 (lane_mem k u))
  hold_lane u n q = turns-lane (lane_mem k) hold_one hold_one (Within u) n u (within_none u) step
    where
      step : (j : ℕ) (w : List ℕ) → j < n → Within u w → Within u (hold_one j w) × (lane_mem k (hold_one j w) ≡ hold_one j (lane_mem k w))
      step j w l i =
          let f = q.few in
          let r = register_at_lem i q j l in
          (within_then i (hold_within w j r), hold-one w (get_or w (registers_at + j) 0) r ∙ ap (hold_at (lane_mem k w)) (sym (mem_low k w (registers_at + j) (omega arith))))

  pub turn_lane : (u : List ℕ) (n : ℕ) → Registers u n → Within u (take_turns turn_one n 0 u) × (lane_mem k (take_turns turn_one n 0 u) ≡ take_turns turn_one n 0 (lane_mem k u))
  turn_lane u n q = turns-lane (lane_mem k) turn_one turn_one (Within u) n u (within_none u) step
    where
      step : (j : ℕ) (w : List ℕ) → j < n → Within u w → Within u (turn_one j w) × (lane_mem k (turn_one j w) ≡ turn_one j (lane_mem k w))
      step j w l i =
          let f = q.few in
          let r = register_at_lem i q j l in
          (within_then i (turn_within w j r), turn_one_lem w (get_or w (registers_at + j) 0) r ∙ ap (turn_at (lane_mem k w)) (sym (mem_low k w (registers_at + j) (omega arith))))

  -- ---- pins

  laneCounted : Counted → Counted
  laneCounted c = counted (lane_mem k c.mem) c.count

  pub load_lane : (bits u : List ℕ) (from n : ℕ) → PinsLow u n
      → Within u (take_turns (load_one bits) n 0 (counted u from)).mem × (lane_mem k (take_turns (load_one bits) n 0 (counted u from)).mem ≡ (take_turns (load_one (lane k bits)) n 0 (counted (lane_mem k u) from)).mem)
  unfolding laneCounted
  load_lane bits u from n p =
      let r = turns-lane laneCounted (load_one bits) (load_one (lane k bits)) (λ (c : Counted). Within u c.mem) n (counted u from) (within_none u) step in
      (r.0, ap (λ (c : Counted). c.mem) r.1)
    where
      step : (j : ℕ) (c : Counted) → j < n → Within u c.mem → Within u (load_one bits j c).mem × (laneCounted (load_one bits j c) ≡ load_one (lane k bits) j (laneCounted c))
      step j c l i = by (pin_is_in c.mem j) refl
        where
          same : get_or (lane_mem k c.mem) (pins_at + j) 0 ≡ get_or c.mem (pins_at + j) 0
          same = let f = p.few in mem_low k c.mem (pins_at + j) (omega arith)

          pin_low : get_or c.mem (pins_at + j) 0 / 2 < 8192
          pin_low = (pins_within i p).low j l

          there : load_one (lane k bits) j (counted (lane_mem k c.mem) c.count)
              ≡ cond (pin_is_in c.mem j) (counted (set (lane_mem k c.mem) (bits_at + get_or c.mem (pins_at + j) 0 / 2) (lane_bit k (get_or bits c.count 0))) (c.count + 1)) (counted (lane_mem k c.mem) c.count)
          there =
              ap (λ (n : ℕ). cond (eqb (n % 2) 0) (counted (set (lane_mem k c.mem) (bits_at + n / 2) (get_or (lane k bits) c.count 0)) (c.count + 1)) (counted (lane_mem k c.mem) c.count)) same
              ∙ ap (λ (v : ℕ). cond (pin_is_in c.mem j) (counted (set (lane_mem k c.mem) (bits_at + get_or c.mem (pins_at + j) 0 / 2) v) (c.count + 1)) (counted (lane_mem k c.mem) c.count)) (lane-at k bits c.count)

          by : (b : Bool) → pin_is_in c.mem j ≡ b → Within u (load_one bits j c).mem × (laneCounted (load_one bits j c) ≡ load_one (lane k bits) j (laneCounted c))
          by true e =
              let v = get_or bits c.count 0 in
              let x = get_or c.mem (pins_at + j) 0 / 2 in
              let here : counted (set c.mem (bits_at + x) v) (c.count + 1) ≡ load_one bits j c = ap (λ (b : Bool). cond b (counted (set c.mem (bits_at + x) v) (c.count + 1)) c) (sym e) in (
                subst (λ (d : Counted). Within u d.mem) here (within_then i (within-set c.mem x v pin_low)),
                ap (λ (d : Counted). counted (lane_mem k d.mem) d.count) (sym here) ∙ ap (λ (m : List ℕ). counted m (c.count + 1)) (mem_set k c.mem x v pin_low)
                    ∙ ap (λ (b : Bool). cond b (counted (set (lane_mem k c.mem) (bits_at + x) (lane_bit k v)) (c.count + 1)) (counted (lane_mem k c.mem) c.count)) (sym e) ∙ sym there,
              )
          by false e =
              let v = get_or bits c.count 0 in
              let x = get_or c.mem (pins_at + j) 0 / 2 in
              let here : c ≡ load_one bits j c = ap (λ (b : Bool). cond b (counted (set c.mem (bits_at + x) v) (c.count + 1)) c) (sym e) in (
                subst (λ (d : Counted). Within u d.mem) here i,
                ap (λ (d : Counted). counted (lane_mem k d.mem) d.count) (sym here)
                    ∙ ap (λ (b : Bool). cond b (counted (set (lane_mem k c.mem) (bits_at + x) (lane_bit k v)) (c.count + 1)) (counted (lane_mem k c.mem) c.count)) (sym e) ∙ sym there,
              )

-- ---- what is written: lane k sees `L` of it

module _ (k : ℕ) (g : ℕ → ℕ) (L : List ℕ → List ℕ) (put : (out : List ℕ) (j v : ℕ) → L (set out j (g v)) ≡ set (L out) j (lane_bit k v)) where
  seen : Counted → Counted
  seen c = counted (L c.mem) c.count

  pub store_lane : (w out : List ℕ) (to n : ℕ) → PinsLow w n → L (take_turns (word_store g w) n 0 (counted out to)).mem ≡ (take_turns (store_one (lane_mem k w)) n 0 (counted (L out) to)).mem
  unfolding seen
  store_lane w out to n p = ap (λ (c : Counted). c.mem) (turns-lane seen (word_store g w) (store_one (lane_mem k w)) (λ (c : Counted). Unit {0}) n (counted out to) tt (λ j c l i. (tt, step j c l))).1
    where
      step : (j : ℕ) (c : Counted) → j < n → seen (word_store g w j c) ≡ store_one (lane_mem k w) j (seen c)
      step j c l = by (pin_is_in w j) ∙ sym there
        where
          same : get_or (lane_mem k w) (pins_at + j) 0 ≡ get_or w (pins_at + j) 0
          same = let f = p.few in mem_low k w (pins_at + j) (omega arith)

          there : store_one (lane_mem k w) j (counted (L c.mem) c.count) ≡ cond (pin_is_in w j) (counted (L c.mem) c.count) (counted (set (L c.mem) c.count (lane_bit k (word_at w (get_or w (pins_at + j) 0 / 2)))) (c.count + 1))
          there =
              ap (λ (n : ℕ). cond (eqb (n % 2) 0) (counted (L c.mem) c.count) (counted (set (L c.mem) c.count (bit_byte_lem (lit (lane_mem k w) (n / 2)))) (c.count + 1))) same
              ∙ ap (λ (v : ℕ). cond (pin_is_in w j) (counted (L c.mem) c.count) (counted (set (L c.mem) c.count v) (c.count + 1)))
              (ap bit_byte_lem (lit-lane k w (get_or w (pins_at + j) 0 / 2) (p.low j l)) ∙ sym (bit_is k (word_at w (get_or w (pins_at + j) 0 / 2)) _ refl))

          by : (b : Bool) → seen (cond b c (counted (set c.mem c.count (g (word_at w (get_or w (pins_at + j) 0 / 2)))) (c.count + 1)))
              ≡ cond b (counted (L c.mem) c.count) (counted (set (L c.mem) c.count (lane_bit k (word_at w (get_or w (pins_at + j) 0 / 2)))) (c.count + 1))
          by true = refl
          by false = ap (λ (m : List ℕ). counted m (c.count + 1)) (put c.mem c.count (word_at w (get_or w (pins_at + j) 0 / 2)))

  -- ---- ticks

  module _ (h : k < 16) (bits u : List ℕ) (s r p : ℕ) (q : Runs u s r p) where
    abbrev z : Sizes
    z = sizes s r p

    lighted-lane : (w : List ℕ) (from : ℕ) → Within u w → Within u (word_lighted (sizes s r p) bits from w) × (lane_mem k (word_lighted (sizes s r p) bits from w) ≡ lighted (sizes s r p) (lane k bits) from (lane_mem k w))
    unfolding word_lighted lighted
    lighted-lane w from i =
        let a = load_lane k bits w from p (pins_within i q.pins) in
        let j = within_then i a.0 in
        let b = pass_lane k h (take_turns (load_one bits) p 0 (counted w from)).mem s (ordered_within j q.order) in
        (within_then j b.0, b.1 ∙ ap (take_turns pass_one s 0) a.1)

    ticked-lane : (w : List ℕ) (from : ℕ) → Within u w → Within u (word_ticked (sizes s r p) bits from w) × (lane_mem k (word_ticked (sizes s r p) bits from w) ≡ ticked (sizes s r p) (lane k bits) from (lane_mem k w))
    unfolding word_ticked ticked
    ticked-lane w from i =
        let a = lighted-lane w from i in
        let v = word_lighted (sizes s r p) bits from w in
        let b = hold_lane k v r (registers-within a.0 q.registers) in
        let j = within_then a.0 b.0 in
        let c = turn_lane k (take_turns hold_one r 0 v) r (registers-within j q.registers) in
        (within_then j c.0, c.1 ∙ ap (take_turns turn_one r 0) (b.1 ∙ ap (take_turns hold_one r 0) a.1))

    shown-lane : (w out : List ℕ) (from to : ℕ) → Within u w → L (word_shown g (sizes s r p) bits from to w out) ≡ shown_bits (sizes s r p) (lane k bits) from to (lane_mem k w) (L out)
    unfolding word_shown shown_bits
    shown-lane w out from to i =
        let a = lighted-lane w from i in
        store_lane (word_lighted (sizes s r p) bits from w) out to p (pins_within a.0 q.pins) ∙ ap (λ (m : List ℕ). (take_turns (store_one m) p 0 (counted (L out) to)).mem) a.1

    abbrev seenRun : Running → Running
    seenRun x = running (lane_mem k x.mem) (L x.out)

    -- what lane k sees of a run is the run over its bits
    pub run_lane : (i o n : ℕ) (out : List ℕ)
        → seenRun (take_turns (word_tick g (sizes s r p) bits i o) n 0 (running u out)) ≡ take_turns (tick_one (sizes s r p) (lane k bits) i o) n 0 (running (lane_mem k u) (L out))
    run_lane i o n out = (turns-lane seenRun (word_tick g (sizes s r p) bits i o) (tick_one (sizes s r p) (lane k bits) i o) (λ (x : Running). Within u x.mem) n (running u out) (within_none u) step).1
      where
        step : (t : ℕ) (x : Running) → t < n → Within u x.mem → Within u (word_tick g (sizes s r p) bits i o t x).mem × (seenRun (word_tick g (sizes s r p) bits i o t x) ≡ tick_one (sizes s r p) (lane k bits) i o t (seenRun x))
        step t x l e =
            let a = ticked-lane x.mem (t * i) e in
            (a.0, ap₂ running a.1 (shown-lane x.mem x.out (t * i) (t * o) e))
