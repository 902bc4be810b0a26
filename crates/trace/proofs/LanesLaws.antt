-- Sixteen traces at once: what the run leaves is, in each lane, what the definition says of the lane's bits; and the numbers are no more than
-- their lanes. Assumes nothing.
use Prim.Native.Nat.{ℕ, zero, suc, ◌+◌, ◌-◌, ◌*◌, ◌≤◌, ◌<◌}
use mathlib.Core.Path.{◌≡◌, refl, sym, ap, ◌∙◌, subst}
use mathlib.Core.Bool.{Bool, true, false, ◌&&◌}
use mathlib.Core.List.{List, [], ◌∷◌, ◌++◌}
use native.Mathlib.Omega.{arith}
use native.Mathlib.Decide.{ℕ_discrete}
use lib.ListN.{length, get_or, set, length-set}
use lib.Seq.{sets, length-sets, ext_get_or, get_or-set_same, get_or-set_other}
use lib.Dec.{T, eqb, leb, eqb→eq}
use borrow.Author.Tests.{le-leb, lt-leb}
use mathlib.Core.Logic.{◌≢◌}
use Rattle.laws.proofs.Regions.{sets-front}
use Rattle.calculus.specs.Answer.{Answer, good, refuse, ◌>>=◌, need}
use Rattle.calculus.specs.Net.{Net}
use Rattle.calculus.specs.Record.{Bits}
use Rattle.calculus.specs.Translate.{said_of, out_of}
use Rattle.lean.proofs.TableLaws.{within_then}
use Rattle.trace_calculus.specs.Trace.{in_pins, out_pins, registers, place, start_bits, bit_byte_lem}
use Rattle.trace_calculus.specs.Lanes.{lane_bit, lane, lane_run, lane_row, lane_rows, lane_held, LanesEnd, went, outs, state_of}
use Rattle.trace_calculus.specs.LanesPromise.{held_bits}
use Rattle.trace_calculus.proofs.LaneBits.{lane-length, lane-at, lane-set, word_low, lists_only, bit_is}
use Rattle.trace_theorems.proofs.Lending.{row_at}
use Rattle.trace_theorems.proofs.TraceRun.{held_at}
use Rattle.trace_theorems.proofs.LaneRuns.{lane-rows, lane-held}
use Rattle.trace_theorems.proofs.LaneJoin.{rows-count, held-count}
use Rattle.trace_steps.specs.Map.{registers_at}
use Rattle.trace_steps.specs.Turns.{take_turns, Looped}
use Rattle.trace_steps.specs.Steps.{wake_one}
use Rattle.trace_steps.specs.Words.{word_at, word_begin, keep_one, entire, lane_mem}
use Rattle.trace_steps.specs.Pins.{in_pin_count, RegistersListed}
use Rattle.trace_steps.specs.Ticks.{sizes, Runs, running, Ran, TraceFits, StateKept}
use Rattle.trace_steps.proofs.LaneLaws.{lit-lane}
use Rattle.translator.specs.Said.{said_answer}
use Rattle.trace.specs.Said.{lanes_lent, lanes_free, LanesSay, Safe, Runnable, LanesFreed}
use Rattle.std.specs.Prelude.{Result, Ok, Err}
use Rattle.answers.specs.declared.Refusal.{Refusal}
use Rattle.answers.specs.declared.Reason.{Reason}
use Rattle.answers.specs.Refusals.{refusal_at}
use Rattle.trace.proofs.Turning.{turns-keep}
use Rattle.trace.proofs.FreeLaws.{stood, ins_are, outs_are, regs_are, Going, ran-lane, listed_above, runs-ready}

-- ---- 16-bit numbers

abbrev pub Words16 : List ℕ → Type 0
Words16 xs = (j : ℕ) → get_or xs j 0 < 65536

low-append : (xs ys : List ℕ) → Words16 xs → Words16 ys → (j : ℕ) → get_or (xs ++ ys) j 0 < 65536
low-append [] ys a b j = b j
low-append (x ∷ xs) ys a b zero = a 0
low-append (x ∷ xs) ys a b (suc j) = low-append xs ys (λ i. a (suc i)) b j

low-set : (xs : List ℕ) (i v : ℕ) → Words16 xs → v < 65536 → (j : ℕ) → get_or (set xs i v) j 0 < 65536
low-set [] i v a h j = a j
low-set (x ∷ xs) zero v a h zero = h
low-set (x ∷ xs) zero v a h (suc j) = a (suc j)
low-set (x ∷ xs) (suc i) v a h zero = a 0
low-set (x ∷ xs) (suc i) v a h (suc j) = low-set xs i v (λ n. a (suc n)) h j

low-sets : (vs xs : List ℕ) (i : ℕ) → Words16 xs → Words16 vs → (j : ℕ) → get_or (sets xs i vs) j 0 < 65536
low-sets [] xs i a b j = a j
low-sets (v ∷ vs) xs i a b j = low-sets vs (set xs i v) (suc i) (low-set xs i v a (b 0)) (λ n. b (suc n)) j

low-row : (β : ℕ → Bits) (t : ℕ) (xs : List ℕ) (j : ℕ) → get_or (lane_row β t xs) j 0 < 65536
low-row β t [] j = omega arith
low-row β t (x ∷ xs) zero = word_low (λ k. β k x t)
low-row β t (x ∷ xs) (suc j) = low-row β t xs j

low_rows : (β : ℕ → Bits) (xs : List ℕ) (t n j : ℕ) → get_or (lane_rows β xs t n) j 0 < 65536
low_rows β xs t zero j = omega arith
low_rows β xs t (suc n) j = low-append (lane_row β t xs) (lane_rows β xs (t + 1) n) (low-row β t xs) (low_rows β xs (t + 1) n) j

low_held : (β : ℕ → Bits) (rs state : List ℕ) (n : ℕ) → Words16 state → (j : ℕ) → get_or (lane_held β rs state n) j 0 < 65536
low_held β rs state zero a j = a j
low_held β rs state (suc t) a j = low-row β t rs j

lane-sets : (k : ℕ) (vs xs : List ℕ) (i : ℕ) → lane k (sets xs i vs) ≡ sets (lane k xs) i (lane k vs)
lane-sets k [] xs i = refl
lane-sets k (v ∷ vs) xs i = lane-sets k vs (set xs i v) (suc i) ∙ ap (λ (l : List ℕ). sets l (suc i) (lane k vs)) (lane-set k xs i v)

-- ---- what is kept

record Keeping (w state₀ : List ℕ) (n : ℕ) (state : List ℕ) : Type 0 where
  pub size : length state ≡ length state₀
  pub done : (j : ℕ) → j < n → get_or state j 0 ≡ word_at w (get_or w (registers_at + j) 0)

keep_all : (w state₀ : List ℕ) (n : ℕ) → n ≤ length state₀ → Keeping w state₀ n (take_turns (keep_one w) n 0 state₀)
keep_all w state₀ n few = turns-keep (keep_one w) (Keeping w state₀) state₀ (record { size = refl; done = λ j l. absurd (omega arith) }) n step
  where
    step : (i : ℕ) (s : List ℕ) → i < n → Keeping w state₀ i s → Keeping w state₀ (suc i) (keep_one w i s)
    step i s l q =
        let v = word_at w (get_or w (registers_at + i) 0) in
        let z = q.size in
        record {
          size = length-set s i v ∙ z;
          done = λ j h. elim (ℕ_discrete j i) [
            | yes e ↦ subst (λ (x : ℕ). get_or (set s i v) x 0 ≡ word_at w (get_or w (registers_at + x) 0)) (sym e) (get_or-set_same s i v 0 (omega arith))
            | no d ↦ (let ne : j ≢ i = d in get_or-set_other s i j v 0 ne ∙ q.done j (omega arith))
          ];
        }

-- ---- what the run leaves

module _ (u : List ℕ) (m : Net) (end settled pins : ℕ) (rn : Runnable u m end settled pins) (w₁ : List ℕ) (regs : ℕ) (ls : RegistersListed u end w₁ regs) (state : List ℕ) (w₂ : List ℕ) (bg : Looped word_begin end w₁ w₂) (w₃ : List ℕ) (wk : Looped (wake_one state) regs w₂ w₃)
    (runs : Runs w₃ settled regs pins) (bits out₀ : List ℕ) (i o n : ℕ) (ei : i ≡ length (in_pins m.pins)) (eo : o ≡ length (out_pins m.pins)) (w₄ out : List ℕ) (r : Ran entire (sizes settled regs pins) bits i o n w₃ out₀ w₄ out) where
  abbrev rs : List ℕ
  rs = registers m.elements

  going : (k : ℕ) (l : k < 16) → Going w₁ m end pins settled regs (stood u m end settled pins rn w₁ regs ls) rn.free (lane k bits) (lane k state) (lane k out₀) n (running (lane_mem k w₄) (lane k out))
  going k l = ran-lane u m end settled pins rn w₁ regs ls state w₂ bg w₃ wk runs bits out₀ i o n ei eo w₄ out entire r k l (lane k) (λ xs j v. lane-set k xs j v)

  pub out_left : Words16 out → Words16 out₀ → out ≡ sets out₀ 0 (lane_rows (lane_run m bits state) (out_pins m.pins) 0 n)
  out_left a b =
      let R = lane_rows (lane_run m bits state) (out_pins m.pins) 0 n in
      lists_only out (sets out₀ 0 R) (r.size ∙ sym (length-sets out₀ 0 R)) a (low-sets R out₀ 0 b (low_rows (lane_run m bits state) (out_pins m.pins) 0 n))
      (λ k l. (going k l).wrote ∙ sym (lane-sets k R out₀ 0 ∙ ap (sets (lane k out₀) 0) (lane-rows (lane_run m bits state) (out_pins m.pins) 0 n k l)))

  module _ (exact : length state ≡ regs) (after : List ℕ) (kp : StateKept w₄ regs state after) where
    keeping : Keeping w₄ state regs after
    keeping = subst (Keeping w₄ state regs) (sym kp.whole) (keep_all w₄ state regs (omega arith))

    count : length (registers m.elements) ≡ regs
    count = (stood u m end settled pins rn w₁ regs ls).count

    -- the number of the j-th register
    at_register : (j : ℕ) → j < regs → get_or after j 0 ≡ word_at w₄ (get_or rs j 0 + 1)
    at_register j l =
        let s = stood u m end settled pins rn w₁ regs ls in
        let f = s.few_registers in
        keeping.done j l ∙ ap (word_at w₄) ((within_then (within_then bg.within wk.within) r.within).below (registers_at + j) (omega arith) ∙ (s.register_at_lem j l).1)

    module _ (k : ℕ) (l : k < 16) where
      abbrev β : Bits
      β = lane_run m bits state k

      held-at : (t j : ℕ) → j < regs → bit_byte_lem (held_at (start_bits m.elements (lane k state)) β t (get_or rs j 0)) ≡ get_or (held_bits m (lane k bits) (lane k state) t) j 0
      held-at zero j h =
          let s = stood u m end settled pins rn w₁ regs ls in
          let a = (s.register_at_lem j h).0 in
          let p = s.register_number (get_or rs j 0) a in
          let e : place rs (get_or rs j 0) ≡ j = s.apart (place rs (get_or rs j 0)) j p.0 h p.1 in
          ap (λ (x : ℕ). bit_byte_lem (eqb (get_or (lane k state) x 0) 1)) e ∙ ap (λ (x : ℕ). bit_byte_lem (eqb x 1)) (lane-at k state j) ∙ sym (bit_is k (get_or state j 0) _ refl) ∙ sym (lane-at k state j)
      held-at (suc t) j h = let c = count in sym (row_at β t rs j (omega arith))

      lane-left : lane k after ≡ held_bits m (lane k bits) (lane k state) n
      lane-left = ext_get_or 0 (lane k after) (held_bits m (lane k bits) (lane k state) n) size each
        where
          size : length (lane k after) ≡ length (held_bits m (lane k bits) (lane k state) n)
          size =
              let c = count in
              let z = kp.size in
              let h = held-count (lane_run m bits state) rs state n (omega arith) in
              let y = lane-length k after in
              let x = ap length (sym (lane-held m bits state n k l)) ∙ lane-length k (lane_held (lane_run m bits state) rs state n) in
              omega arith

          each : (j : ℕ) → j < length (lane k after) → get_or (lane k after) j 0 ≡ get_or (held_bits m (lane k bits) (lane k state) n) j 0
          each j h =
              let s = stood u m end settled pins rn w₁ regs ls in
              let y = lane-length k after in
              let z = kp.size in
              let q : j < regs = omega arith in
              let a = (s.register_at_lem j q).0 in
              lane-at k after j ∙ ap (lane_bit k) (at_register j q)
              ∙ bit_is k (word_at w₄ (get_or rs j 0 + 1)) _ (sym (lit-lane k w₄ (get_or rs j 0 + 1) (register-low j q)) ∙ (going k l).state.holds (get_or rs j 0) a) ∙ held-at n j q
            where
              register-low : (j : ℕ) → j < regs → get_or rs j 0 + 1 < 8192
              register-low j q = let e = ((stood u m end settled pins rn w₁ regs ls).register_at_lem j q).1 in let o = (ls.registers.each j q).low in omega arith

    pub state-left : Words16 after → Words16 state → after ≡ lane_held (lane_run m bits state) rs state n
    state-left a b =
        let c = count in
        let z = kp.size in
        let h = held-count (lane_run m bits state) rs state n (omega arith) in
        lists_only after (lane_held (lane_run m bits state) rs state n) (omega arith) a (low_held (lane_run m bits state) rs state n b)
        (λ k l. lane-left k l ∙ sym (lane-held m bits state n k l))

-- ---- what is said

abbrev answers : Bool → Bool → ℕ → LanesEnd → Answer LanesEnd
answers a c l w = do
  _ ← need a 20 0
  _ ← need c 17 l
  good w

module _ (m : Net) (n : ℕ) (bits state out : List ℕ) where
  abbrev needed : ℕ
  needed = n * length (out_pins m.pins)

  free-is : (a c : Bool) → lanes_lent bits state (n * length (in_pins m.pins)) (length (registers m.elements)) ≡ a → leb (n * length (out_pins m.pins)) (length out) ≡ c
      → lanes_free m n bits state (length out) ≡ answers a c needed (went m n bits state)
  unfolding lanes_free
  free-is a c e f = ap (λ (x : Bool). answers x (leb needed (length out)) needed (went m n bits state)) e ∙ ap (λ (x : Bool). answers a x needed (went m n bits state)) f

  says_of : (r : Result ℕ Refusal) (after left : List ℕ) (a : Answer LanesEnd) → lanes_free m n bits state (length out) ≡ a → said_answer r ≡ said_of (outs a) → after ≡ out_of (outs a) out → left ≡ state_of a state
      → LanesSay r out after state left (lanes_free m n bits state (length out))
  says_of r after left a e f g h = record {
    answer = record { said = f ∙ sym (ap (λ (x : Answer LanesEnd). said_of (outs x)) e); wrote = g ∙ sym (ap (λ (x : Answer LanesEnd). out_of (outs x) out) e) };
    left = h ∙ sym (ap (λ (x : Answer LanesEnd). state_of x state) e);
  }

  module _ (reads writes regs : ℕ) (er : reads ≡ n * length (in_pins m.pins)) (ew : writes ≡ n * length (out_pins m.pins)) (eg : regs ≡ length (registers m.elements)) where
    lent_is : (x : Bool) → lanes_lent bits state reads regs ≡ x → lanes_lent bits state (n * length (in_pins m.pins)) (length (registers m.elements)) ≡ x
    lent_is x e = ap (λ (k : ℕ). lanes_lent bits state k (length (registers m.elements))) (sym er) ∙ ap (lanes_lent bits state reads) (sym eg) ∙ e

    pub says-20 : lanes_lent bits state reads regs ≡ false → LanesSay (Err (refusal_at Reason.WrongBits 0)) out out state state (lanes_free m n bits state (length out))
    says-20 e = says_of (Err (refusal_at Reason.WrongBits 0)) out state (refuse 20 0) (free-is false (leb needed (length out)) (lent_is false e) refl) refl refl refl

    pub says-17 : lanes_lent bits state reads regs ≡ true → length out < writes → LanesSay (Err (refusal_at Reason.ShortOutput writes)) out out state state (lanes_free m n bits state (length out))
    says-17 e l = says_of (Err (refusal_at Reason.ShortOutput writes)) out state (refuse 17 needed) (free-is true false (lent_is true e) (lt-leb needed (length out) (subst (λ (k : ℕ). length out < k) ew l))) (ap (λ (k : ℕ). refuse 17 k) ew) refl refl

    pub says-written : lanes_lent bits state reads regs ≡ true → writes ≤ length out → (after left : List ℕ) → after ≡ sets out 0 (went m n bits state).out → left ≡ (went m n bits state).state
        → LanesSay (Ok writes) out after state left (lanes_free m n bits state (length out))
    says-written e l after left q h =
        let k = rows-count (lane_run m bits state) (out_pins m.pins) 0 n in
        says_of (Ok writes) after left (good (went m n bits state)) (free-is true true (lent_is true e) (le-leb needed (length out) (subst (λ (k : ℕ). k ≤ length out) ew l)))
        (ap (λ (k : ℕ). good k) (ew ∙ sym k)) (q ∙ sets-front (went m n bits state).out out (omega arith)) h

pub lent-counts : (bits state : List ℕ) (reads regs : ℕ) → lanes_lent bits state reads regs ≡ true → (length bits ≡ reads) × (length state ≡ regs)
lent-counts bits state reads regs e = by (eqb (length bits) reads) (eqb (length state) regs) refl refl e
  where
    by : (a b : Bool) → eqb (length bits) reads ≡ a → eqb (length state) regs ≡ b → (a && b) ≡ true → (length bits ≡ reads) × (length state ≡ regs)
    by true true p q e = (eqb→eq (length bits) reads (subst T (sym p) tt), eqb→eq (length state) regs (subst T (sym q) tt))
    by true false p q e = absurd (subst T (sym e) tt)
    by false b p q e = absurd (subst T (sym e) tt)

-- ---- as code has it

module _ (u : List ℕ) (end settled pins n : ℕ) (bits state out : List ℕ) (sf : Safe u end settled pins n) (w₁ : List ℕ) (regs : ℕ) (ls : RegistersListed u end w₁ regs) (i : ℕ) (ei : i ≡ in_pin_count w₁ pins) where
  reads-are : (m : Net) → Runnable u m end settled pins → n * i ≡ n * length (in_pins m.pins)
  reads-are m rn = ap (λ (k : ℕ). n * k) (ei ∙ ins_are u m end settled pins rn w₁ regs ls)

  writes_are : (m : Net) → Runnable u m end settled pins → n * (pins - i) ≡ n * length (out_pins m.pins)
  writes_are m rn = ap (λ (k : ℕ). n * k) (ap (λ (k : ℕ). pins - k) ei ∙ outs_are u m end settled pins rn w₁ regs ls)

  pub freed_20 : lanes_lent bits state (n * i) regs ≡ false → LanesFreed u end settled pins n bits state out w₁ state out (Err (refusal_at Reason.WrongBits 0))
  freed_20 e = record {
    kept = listed_above u end w₁ regs ls;
    says = λ m rn. says-20 m n bits state out (n * i) (n * (pins - i)) regs (reads-are m rn) (writes_are m rn) (regs_are u m end settled pins rn w₁ regs ls) e;
  }

  pub freed_17 : lanes_lent bits state (n * i) regs ≡ true → length out < n * (pins - i) → LanesFreed u end settled pins n bits state out w₁ state out (Err (refusal_at Reason.ShortOutput (n * (pins - i))))
  freed_17 e l = record {
    kept = listed_above u end w₁ regs ls;
    says = λ m rn. says-17 m n bits state out (n * i) (n * (pins - i)) regs (reads-are m rn) (writes_are m rn) (regs_are u m end settled pins rn w₁ regs ls) e l;
  }

  module _ (e : lanes_lent bits state (n * i) regs ≡ true) (room : n * (pins - i) ≤ length out) (w₂ : List ℕ) (bg : Looped word_begin end w₁ w₂) (w₃ : List ℕ) (wk : Looped (wake_one state) regs w₂ w₃) where
    run_ready : Runs w₃ settled regs pins × TraceFits w₃ (length bits) (length out) pins i (pins - i) n
    run_ready = runs-ready u end settled pins n bits state out sf w₁ regs ls i ei w₂ bg w₃ wk (lent-counts bits state (n * i) regs e).0 room

    module _ (w₄ after : List ℕ) (r : Ran entire (sizes settled regs pins) bits i (pins - i) n w₃ out w₄ after) where
      pub ran_says : (left : List ℕ) → StateKept w₄ regs state left → Words16 out → Words16 after → Words16 state → Words16 left → (m : Net) → Runnable u m end settled pins
          → LanesSay (Ok (n * (pins - i))) out after state left (lanes_free m n bits state (length out))
      ran_says left kp lo la ls' ll m rn =
          let a = ei ∙ ins_are u m end settled pins rn w₁ regs ls in
          let c = ap (λ (k : ℕ). pins - k) ei ∙ outs_are u m end settled pins rn w₁ regs ls in
          says-written m n bits state out (n * i) (n * (pins - i)) regs (reads-are m rn) (writes_are m rn) (regs_are u m end settled pins rn w₁ regs ls) e room after left
          (out_left u m end settled pins rn w₁ regs ls state w₂ bg w₃ wk run_ready.0 bits out i (pins - i) n a c w₄ after r la lo)
          (state-left u m end settled pins rn w₁ regs ls state w₂ bg w₃ wk run_ready.0 bits out i (pins - i) n a c w₄ after r (lent-counts bits state (n * i) regs e).1 left kp ll ls')

-- ---- the test
