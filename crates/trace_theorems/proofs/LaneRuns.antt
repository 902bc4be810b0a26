-- Sixteen traces at once: each lane has what `run` answers and writes for the lane's bits, and its registers hold what they hold in the lane's
-- record. Assumes nothing.
use Prim.Native.Nat.{ℕ, zero, suc, ◌+◌, ◌*◌, ◌<◌, ◌≤◌}
use mathlib.Core.Path.{◌≡◌, refl, sym, ap, ap₂, ◌∙◌}
use mathlib.Core.Bool.{Bool, true, false, ◌&&◌}
use mathlib.Core.List.{List, [], ◌∷◌, ◌++◌}
use native.Mathlib.Omega.{arith}
use lib.Dec.{T, eqb, leb, eqb→eq, leb→le}
use lib.ListN.{length}
use Rattle.laws.proofs.Tests.{and_both}
use Rattle.calculus.specs.Answer.{Answer, good, refused, ◌>>=◌, need}
use Rattle.calculus.specs.Net.{Net}
use Rattle.calculus.specs.Lean.{lean}
use Rattle.calculus.specs.Record.{Bits}
use Rattle.calculus.specs.Translate.{full}
use Rattle.calculus.proofs.Answers.{good-inj, on-bind, on-need}
use Rattle.trace_calculus.specs.Trace.{none_on_ring, inputs, in_pins, out_pins, registers, row, rows, all_bits, ran, trace}
use Rattle.trace_calculus.specs.Lanes.{lane, lane_run, lane_row, lane_rows, lane_held, LanesEnd, went, lanes_ran, lanes_trace}
use Rattle.trace_calculus.specs.LanesPromise.{held_bits, lane_out, LanesExact, LanesRun}
use Rattle.trace_calculus.proofs.LaneBits.{lane_word, lane-length, lane-append, lane_bits, lane-bytes}

-- ---- rows

pub lane-row : (β : ℕ → Bits) (t : ℕ) (xs : List ℕ) (k : ℕ) → k < 16 → lane k (lane_row β t xs) ≡ row (β k) t xs
lane-row β t [] k h = refl
lane-row β t (x ∷ xs) k h = ap₂ (λ (y : ℕ) (ys : List ℕ). y ∷ ys) (lane_word (λ j. β j x t) k h) (lane-row β t xs k h)

pub lane-rows : (β : ℕ → Bits) (xs : List ℕ) (t n k : ℕ) → k < 16 → lane k (lane_rows β xs t n) ≡ rows (β k) xs t n
lane-rows β xs t zero k h = refl
lane-rows β xs t (suc n) k h = lane-append k (lane_row β t xs) (lane_rows β xs (t + 1) n) ∙ ap₂ ◌++◌ (lane-row β t xs k h) (lane-rows β xs (t + 1) n k h)

pub lane-held : (m : Net) (bits state : List ℕ) (n k : ℕ) → k < 16 → lane k (lane_held (lane_run m bits state) (registers m.elements) state n) ≡ held_bits m (lane k bits) (lane k state) n
lane-held m bits state zero k h = refl
lane-held m bits state (suc t) k h = lane-row (lane_run m bits state) t (registers m.elements) k h

-- ---- a netlist

abbrev answers : {A : Type 0} → Answer (Unit {0}) → Bool → Bool → ℕ → A → Answer A
answers ring exact fits l a = do
  _ ← ring
  _ ← need exact 20 0
  _ ← need fits 17 l
  good a

out_answers : (k : ℕ) (a : Answer (Unit {0})) (b c : Bool) (l : ℕ) (w : LanesEnd) → lane_out k (answers a b c l w) ≡ answers a b c l (lane k w.out)
out_answers k (good _) true true l w = refl
out_answers k (good _) true false l w = refl
out_answers k (good _) false c l w = refl
out_answers k (refused why) b c l w = refl

and_true : (b : Bool) → b ≡ b && true
and_true true = refl
and_true false = refl

module _ (m : Net) (n : ℕ) (bits state : List ℕ) (room : ℕ) where
  abbrev counts : List ℕ → List ℕ → Bool
  counts xs ys = eqb (length xs) (n * length (in_pins m.pins)) && eqb (length ys) (length (registers m.elements))

  same_tests : (k : ℕ) → counts bits state ≡ (counts (lane k bits) (lane k state) && (all_bits (lane k bits) && all_bits (lane k state)))
  same_tests k =
      ap₂ (λ (x y : ℕ). eqb x (n * length (in_pins m.pins)) && eqb y (length (registers m.elements))) (sym (lane-length k bits)) (sym (lane-length k state))
      ∙ and_true (counts (lane k bits) (lane k state)) ∙ ap (λ (b : Bool). counts (lane k bits) (lane k state) && b) (sym (ap₂ ◌&&◌ (lane_bits k bits) (lane_bits k state)))

  pub ran-lane : (k : ℕ) → k < 16 → lane_out k (lanes_ran m n bits state room) ≡ ran m n (lane k bits) (lane k state) room
  unfolding lanes_ran ran
  ran-lane k h =
      let ring = none_on_ring m (inputs m.elements) in
      let l = n * length (out_pins m.pins) in
      out_answers k ring (counts bits state) (leb l room) l (went m n bits state)
      ∙ ap₂ (λ (b : Bool) (xs : List ℕ). answers ring b (leb l room) l xs) (same_tests k) (lane-rows (lane_run m bits state) (out_pins m.pins) 0 n k h)

  -- what a run that ends well says
  pub record RanWell (w : LanesEnd) : Type 0 where
    pub ringless : none_on_ring m (inputs m.elements) ≡ good tt
    pub input_count_lem : length bits ≡ n * length (in_pins m.pins)
    pub state-count : length state ≡ length (registers m.elements)
    pub room-enough : n * length (out_pins m.pins) ≤ room
    pub left : w ≡ went m n bits state

  pub ran_well : (w : LanesEnd) → lanes_ran m n bits state room ≡ good w → RanWell w
  unfolding lanes_ran
  ran_well w e =
      on-bind (none_on_ring m (inputs m.elements)) _ w e
      (λ u q f. on-need (counts bits state) 20 0 _ w f
      (λ a g. on-need (leb (n * length (out_pins m.pins)) room) 17 (n * length (out_pins m.pins)) _ w g
      (λ b d. let c = and_both (eqb (length bits) (n * length (in_pins m.pins))) (eqb (length state) (length (registers m.elements))) a in record {
        ringless = q;
        input_count_lem = eqb→eq _ _ c.0;
        state-count = eqb→eq _ _ c.1;
        room-enough = leb→le _ _ b;
        left = sym (good-inj d);
      })))

-- ---- a sheet

out_bind : {A : Type 0} (k : ℕ) (a : Answer A) (f : A → Answer LanesEnd) (g : A → Answer (List ℕ)) → ((x : A) → lane_out k (f x) ≡ g x) → lane_out k (a >>= f) ≡ (a >>= g)
out_bind k (good x) f g e = e x
out_bind k (refused why) f g e = refl

module _ (memory : ℕ) (s : List ℕ) (n : ℕ) (bits state : List ℕ) (room : ℕ) where
  pub record TracedWell (w : LanesEnd) : Type 0 where
    pub memory-enough : T (leb 32768 memory)
    pub net : Net
    pub of_sheet : full s ≡ good net
    pub runs : lanes_ran (lean net) n bits state room ≡ good w

  pub traced_well : (w : LanesEnd) → lanes_trace memory s n bits state room ≡ good w → TracedWell w
  unfolding lanes_trace
  traced_well w e =
      on-need (leb 32768 memory) 1 0 _ w e
      (λ a f. on-bind (full s) _ w f (λ m q r. record { memory-enough = a; net = m; of_sheet = q; runs = r }))

  written : (k : ℕ) → k < 16 → lane_out k (lanes_trace memory s n bits state room) ≡ trace memory s n (lane k bits) (lane k state) room
  unfolding lanes_trace trace
  written k h =
      out_bind k (need (leb 32768 memory) 1 0) _ (λ _. full s >>= λ m. ran (lean m) n (lane k bits) (lane k state) room)
      (λ _. out_bind k (full s) _ (λ m. ran (lean m) n (lane k bits) (lane k state) room) (λ m. ran-lane (lean m) n bits state room k h))

  pub lanes_exact : LanesExact memory s n bits state room
  lanes_exact = record {
    written = written;
    held = λ w e m q k h. (
        let t = traced_well w e in
        let i : t.net ≡ m = good-inj (sym t.of_sheet ∙ q) in
        ap (λ (x : LanesEnd). lane k x.state) (ran_well (lean t.net) n bits state room w t.runs).left
        ∙ lane-held (lean t.net) bits state n k h ∙ ap (λ (x : Net). held_bits (lean x) (lane k bits) (lane k state) n) i);
  }

  pub lanes_run : LanesRun memory s n bits state room
  lanes_run a b = written 0 (omega arith) ∙ ap₂ (λ (xs ys : List ℕ). trace memory s n xs ys room) (lane-bytes bits a) (lane-bytes state b)
