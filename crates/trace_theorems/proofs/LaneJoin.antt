-- A run goes on where the last one ended: n ticks, and then k ticks with the state that was left, are n + k ticks. Assumes nothing.
use Prim.Native.Nat.{ℕ, zero, suc, ◌+◌, ◌*◌, ◌<◌, ◌≤◌}
use mathlib.Core.Path.{◌≡◌, refl, sym, ap, ap₂, ◌∙◌, subst}
use mathlib.Core.Bool.{Bool, true}
use mathlib.Core.List.{List, [], ◌∷◌, ◌++◌, append_assoc}
use native.Mathlib.Omega.{arith}
use native.Mathlib.Nat.{le_refl, suc-mul, add-mul, mul-le-mul_right}
use lib.Dec.{T, eqb, leb}
use lib.ListN.{length, get_or, length-append, get_or-append}
use lib.Seq.{get_or-append-add}
use borrow.Author.Tests.{eq-eqb, le-leb}
use Rattle.calculus.specs.Answer.{good}
use Rattle.calculus.specs.Net.{Interface, inp, out, Element, part, Net}
use Rattle.calculus.specs.Lean.{is_pin, lean}
use Rattle.calculus.specs.Record.{Bits, All, Among, here, there}
use Rattle.calculus.proofs.Answers.{good-inj}
use Rattle.circuit_theorems.specs.Terminals.{has}
use Rattle.circuit_theorems.specs.Formed.{Shown, Formed}
use Rattle.circuit_theorems.proofs.Main.{formed-lean}
use Rattle.trace_calculus.specs.Trace.{OnRing, Source, source, bit, gate, run, terminals, in_pins, out_pins, registers, place, given_bits, start_bits}
use Rattle.trace_calculus.specs.Lanes.{lane, lane_run, lane_row, lane_rows, lane_held, LanesEnd, went, lanes_ran, lanes_trace}
use Rattle.trace_calculus.specs.LanesPromise.{LanesJoin}
use Rattle.trace_calculus.proofs.Bytes.{byte-bit}
use Rattle.trace_calculus.proofs.LaneBits.{word_same, lane-length, lane-append}
use Rattle.trace_theorems.proofs.Lists.{at_place, in_has}
use Rattle.trace_theorems.proofs.Sources.{Decided, is-pin, is-wire, is-point, is-part, decided, part_terminal, out_terminal}
use Rattle.trace_theorems.proofs.TraceRings.{accepted}
use Rattle.trace_theorems.proofs.TraceRun.{held_at, solved, tick_is}
use Rattle.trace_theorems.proofs.Lending.{row_at, pin_has, in_registers, registers_in}
use Rattle.trace_theorems.proofs.LaneRuns.{lane-row, ran_well, traced_well}

-- ---- the same bits from tick n on, where the pins are given them and the registers hold them

module _ (m : Net) (ok : Formed m) (free : (x : ℕ) → OnRing m x → ⊥) (g : Bits) (h : ℕ → Bool) (g' : Bits) (h' : ℕ → Bool) (n N : ℕ)
    (given : (x : ℕ) → T (is_pin m.pins x) → (t : ℕ) → t < N → g' x t ≡ g x (n + t))
    (held : (i : ℕ) → Among (part 1 i) m.elements → h' i ≡ held_at h (run m g h) n i) where
  abbrev β : Bits
  β = run m g h

  abbrev β' : Bits
  β' = run m g' h'

  swap : (t : ℕ) → t < N → ((i : ℕ) → Among (part 1 i) m.elements → held_at h' β' t i ≡ held_at h β (n + t) i) → (x : ℕ) → T (has (terminals m.elements) x)
      → β x (n + t) ≡ bit (source m x) x (λ y. g' y t) (held_at h' β' t) (λ y. β y (n + t))
  swap t l e x i = solved m ok free g h (n + t) x ∙ go (decided m ok x i)
    where
      by_part : (p j : ℕ) → Among (part p j) m.elements → gate p j (held_at h β (n + t)) (λ y. β y (n + t)) ≡ gate p j (held_at h' β' t) (λ y. β y (n + t))
      by_part zero j a = refl
      by_part (suc zero) j a = sym (e j a)
      by_part (suc (suc zero)) j a = refl
      by_part (suc (suc (suc zero))) j a = refl
      by_part (suc (suc (suc (suc zero)))) j a = refl
      by_part (suc (suc (suc (suc (suc zero))))) j a = refl
      by_part (suc (suc (suc (suc (suc (suc p)))))) j a = refl

      go : {s : Source} → Decided m ok x s → bit s x (λ y. g y (n + t)) (held_at h β (n + t)) (λ y. β y (n + t)) ≡ bit s x (λ y. g' y t) (held_at h' β' t) (λ y. β y (n + t))
      go (is-pin p) = sym (given x p t l)
      go (is-wire w a q) = refl
      go (is-point j a q) = refl
      go (is-part p j a q) = by_part p j a

  pub later : (t : ℕ) → t < N → (x : ℕ) → T (has (terminals m.elements) x) → β x (n + t) ≡ β' x t
  later zero l x i =
      let e : n ≡ n + 0 = omega arith in
      tick_is m ok free g' h' 0 (λ y. β y (n + 0)) (swap 0 l (λ j a. held j a ∙ ap (λ (k : ℕ). held_at h β k j) e)) x i
  later (suc t) l x i =
      let e : suc (n + t) ≡ n + suc t = omega arith in
      tick_is m ok free g' h' (suc t) (λ y. β y (n + suc t)) (swap (suc t) l (λ j a. sym (later t (omega arith) j (part_terminal j a (le_refl j) (omega arith))) ∙ ap (λ (k : ℕ). held_at h β k j) e)) x i

-- ---- rows

lane_rows-same : (β β' : ℕ → Bits) (xs : List ℕ) (t t' n : ℕ) → ((s : ℕ) → s < n → lane_row β (t + s) xs ≡ lane_row β' (t' + s) xs) → lane_rows β xs t n ≡ lane_rows β' xs t' n
lane_rows-same β β' xs t t' zero e = refl
lane_rows-same β β' xs t t' (suc n) e =
    let a : t ≡ t + 0 = omega arith in
    let b : t' + 0 ≡ t' = omega arith in
    ap₂ ◌++◌ (ap (λ (k : ℕ). lane_row β k xs) a ∙ e 0 (omega arith) ∙ ap (λ (k : ℕ). lane_row β' k xs) b)
    (lane_rows-same β β' xs (t + 1) (t' + 1) n (λ s l. (let c : t + 1 + s ≡ t + suc s = omega arith in let d : t' + suc s ≡ t' + 1 + s = omega arith in
    ap (λ (k : ℕ). lane_row β k xs) c ∙ e (suc s) (omega arith) ∙ ap (λ (k : ℕ). lane_row β' k xs) d)))

lane_rows-append : (β : ℕ → Bits) (xs : List ℕ) (t n k : ℕ) → lane_rows β xs t (n + k) ≡ lane_rows β xs t n ++ lane_rows β xs (t + n) k
lane_rows-append β xs t zero k =
    let a : 0 + k ≡ k = omega arith in
    let b : t ≡ t + 0 = omega arith in
    ap (lane_rows β xs t) a ∙ ap (λ (j : ℕ). lane_rows β xs j k) b
lane_rows-append β xs t (suc n) k =
    let a : suc n + k ≡ suc (n + k) = omega arith in
    let b : t + 1 + n ≡ t + suc n = omega arith in
    ap (lane_rows β xs t) a
    ∙ ap (λ (l : List ℕ). lane_row β t xs ++ l) (lane_rows-append β xs (t + 1) n k ∙ ap (λ (j : ℕ). lane_rows β xs (t + 1) n ++ lane_rows β xs j k) b)
    ∙ sym (append_assoc (lane_row β t xs) (lane_rows β xs (t + 1) n) (lane_rows β xs (t + suc n) k))

lane_row_same : (es : List Element) (β β' : ℕ → Bits) (t t' : ℕ) (xs : List ℕ) → All (λ (x : ℕ). T (has (terminals es) x)) xs
    → ((k : ℕ) → k < 16 → (x : ℕ) → T (has (terminals es) x) → β k x t ≡ β' k x t') → lane_row β t xs ≡ lane_row β' t' xs
lane_row_same es β β' t t' [] a e = refl
lane_row_same es β β' t t' (x ∷ xs) a e =
    ap₂ (λ (y : ℕ) (ys : List ℕ). y ∷ ys) (word_same (λ k. β k x t) (λ k. β' k x t') (λ k h. e k h x a.0)) (lane_row_same es β β' t t' xs a.1 e)

-- ---- the terminals that are written

outs-made : (es : List Element) (ps : Interface) → All (Shown es) ps → All (λ (x : ℕ). T (has (terminals es) x)) (out_pins ps)
outs-made es [] a = tt
outs-made es (inp i ∷ ps) a = outs-made es ps a.1
outs-made es (out o ∷ ps) a = (out_terminal es o a.0, outs-made es ps a.1)

all-has : (P : ℕ → Type 0) (xs : List ℕ) → ((x : ℕ) → Among x xs → P x) → All P xs
all-has P [] f = tt
all-has P (x ∷ xs) f = (f x here, all-has P xs (λ y a. f y (there a)))

registers-made : (es : List Element) → All (λ (x : ℕ). T (has (terminals es) x)) (registers es)
registers-made es = all-has _ (registers es) (λ x a. part_terminal x (registers_in es x (in_has a)) (le_refl x) (omega arith))

row_count : (β : ℕ → Bits) (t : ℕ) (xs : List ℕ) → length (lane_row β t xs) ≡ length xs
row_count β t [] = refl
row_count β t (x ∷ xs) = ap suc (row_count β t xs)

pub rows-count : (β : ℕ → Bits) (xs : List ℕ) (t n : ℕ) → length (lane_rows β xs t n) ≡ n * length xs
rows-count β xs t zero = let z : 0 ≡ 0 * length xs = omega arith in z
rows-count β xs t (suc n) = length-append (lane_row β t xs) (lane_rows β xs (t + 1) n) ∙ (let a = row_count β t xs in let b = rows-count β xs (t + 1) n in let c = suc-mul n (length xs) in omega arith)

pub held-count : (β : ℕ → Bits) (rs state : List ℕ) (n : ℕ) → length state ≡ length rs → length (lane_held β rs state n) ≡ length rs
held-count β rs state zero e = e
held-count β rs state (suc t) e = row_count β t rs

-- ---- n ticks, then k ticks

module _ (m : Net) (ok : Formed m) (free : (x : ℕ) → OnRing m x → ⊥) (n k : ℕ) (bits more state : List ℕ) (exact : length bits ≡ n * length (in_pins m.pins)) where
  abbrev I : ℕ
  I = length (in_pins m.pins)

  abbrev rs : List ℕ
  rs = registers m.elements

  abbrev β₁ : ℕ → Bits
  β₁ = lane_run m bits state

  abbrev left : List ℕ
  left = lane_held β₁ rs state n

  abbrev β₂ : ℕ → Bits
  β₂ = lane_run m more left

  abbrev β₃ : ℕ → Bits
  β₃ = lane_run m (bits ++ more) state

  pin_low : (x : ℕ) → T (is_pin m.pins x) → place (in_pins m.pins) x < I
  pin_low x h = (at_place (in_pins m.pins) x (pin_has m.pins x h)).0

  -- the first n ticks
  first : (j x t : ℕ) → t < n → T (has (terminals m.elements) x) → β₃ j x t ≡ β₁ j x t
  first j x t l i =
      let z : 0 + t ≡ t = omega arith in
      ap (λ (s : ℕ). β₃ j x s) (sym z)
      ∙ later m ok free (given_bits m.pins (lane j (bits ++ more))) (start_bits m.elements (lane j state)) (given_bits m.pins (lane j bits)) (start_bits m.elements (lane j state)) 0 n given (λ i a. refl) t l x i
    where
      given : (x : ℕ) → T (is_pin m.pins x) → (t : ℕ) → t < n → given_bits m.pins (lane j bits) x t ≡ given_bits m.pins (lane j (bits ++ more)) x (0 + t)
      given x h t l =
          let z : t ≡ 0 + t = omega arith in
          let p = pin_low x h in
          let c = lane-length j bits in
          let at = t * I + place (in_pins m.pins) x in
          let low : t * I + place (in_pins m.pins) x < length (lane j bits) = omega (arith, mul-le-mul_right {m = suc t} {n = n} I l, suc-mul t I) in
          ap (λ (y : ℕ). eqb y 1) (sym (get_or-append (lane j bits) (lane j more) 0 at low) ∙ ap (λ (ys : List ℕ). get_or ys at 0) (sym (lane-append j bits more)))
          ∙ ap (λ (s : ℕ). given_bits m.pins (lane j (bits ++ more)) x s) z

  -- what the registers hold then
  held : (j : ℕ) → j < 16 → (i : ℕ) → Among (part 1 i) m.elements → start_bits m.elements (lane j left) i ≡ held_at (start_bits m.elements (lane j state)) (β₃ j) n i
  held j h i a = by n refl
    where
      by : (t : ℕ) → t ≡ n → start_bits m.elements (lane j (lane_held β₁ rs state t)) i ≡ held_at (start_bits m.elements (lane j state)) (β₃ j) t i
      by zero e = refl
      by (suc t) e =
          let p = at_place rs i (in_registers i a) in
          ap (λ (ys : List ℕ). eqb (get_or ys (place rs i) 0) 1) (lane-row β₁ t rs j h) ∙ ap (λ (y : ℕ). eqb y 1) (row_at (β₁ j) t rs (place rs i) p.0)
          ∙ byte-bit (β₁ j (get_or rs (place rs i) 0) t) ∙ ap (λ (y : ℕ). β₁ j y t) p.1 ∙ sym (first j i t (omega arith) (part_terminal i a (le_refl i) (omega arith)))

  -- the ticks from n on
  second : (j : ℕ) → j < 16 → (x t : ℕ) → T (has (terminals m.elements) x) → β₃ j x (n + t) ≡ β₂ j x t
  second j h x t i =
      later m ok free (given_bits m.pins (lane j (bits ++ more))) (start_bits m.elements (lane j state)) (given_bits m.pins (lane j more)) (start_bits m.elements (lane j left)) n (suc t) (λ x p t l. given x t) (held j h) t (omega arith) x i
    where
      given : (x t : ℕ) → given_bits m.pins (lane j more) x t ≡ given_bits m.pins (lane j (bits ++ more)) x (n + t)
      given x t =
          let c = lane-length j bits in
          let p = place (in_pins m.pins) x in
          let at : length (lane j bits) + (t * I + p) ≡ (n + t) * I + p = omega (arith, add-mul n t I) in
          ap (λ (y : ℕ). eqb y 1)
          (sym (get_or-append-add (lane j bits) (lane j more) (t * I + p) 0) ∙ ap (λ (ys : List ℕ). get_or ys (length (lane j bits) + (t * I + p)) 0) (sym (lane-append j bits more)) ∙ ap (λ (q : ℕ). get_or (lane j (bits ++ more)) q 0) at)

  pub join_out : lane_rows β₃ (out_pins m.pins) 0 (n + k) ≡ lane_rows β₁ (out_pins m.pins) 0 n ++ lane_rows β₂ (out_pins m.pins) 0 k
  join_out =
      let os = outs-made m.elements m.pins ok.shown in
      lane_rows-append β₃ (out_pins m.pins) 0 n k
      ∙ ap₂ ◌++◌ (lane_rows-same β₃ β₁ (out_pins m.pins) 0 0 n (λ s l. lane_row_same m.elements β₃ β₁ (0 + s) (0 + s) (out_pins m.pins) os (λ j h x i. (let z : 0 + s < n = omega arith in first j x (0 + s) z i))))
      (lane_rows-same β₃ β₂ (out_pins m.pins) (0 + n) 0 k (λ s l. lane_row_same m.elements β₃ β₂ (0 + n + s) (0 + s) (out_pins m.pins) os (λ j h x i. (let z : 0 + n + s ≡ n + (0 + s) = omega arith in ap (β₃ j x) z ∙ second j h x (0 + s) i))))

  pub join_state : lane_held β₃ rs state (n + k) ≡ lane_held β₂ rs left k
  join_state = by k
    where
      by_zero : (t : ℕ) → t ≡ n → lane_held β₃ rs state t ≡ lane_held β₁ rs state t
      by_zero zero e = refl
      by_zero (suc t) e = lane_row_same m.elements β₃ β₁ t t rs (registers-made m.elements) (λ j h x i. first j x t (omega arith) i)

      by : (k : ℕ) → lane_held β₃ rs state (n + k) ≡ lane_held β₂ rs left k
      by zero = let z : n + 0 ≡ n = omega arith in ap (lane_held β₃ rs state) z ∙ by_zero n refl
      by (suc t) =
          let z : n + suc t ≡ suc (n + t) = omega arith in
          ap (lane_held β₃ rs state) z ∙ lane_row_same m.elements β₃ β₂ (n + t) t rs (registers-made m.elements) (λ j h x i. second j h x t i)

-- ---- as calls

went-join : (m : Net) → Formed m → (n k : ℕ) (bits more state : List ℕ) (room room' room'' : ℕ) (a b : LanesEnd) → lanes_ran m n bits state room ≡ good a → lanes_ran m k more a.state room' ≡ good b
    → length a.out + length b.out ≤ room'' → lanes_ran m (n + k) (bits ++ more) state room'' ≡ good (record { out = a.out ++ b.out; state = b.state })
unfolding lanes_ran
went-join m ok n k bits more state room room' room'' a b e f enough =
    let p = ran_well m n bits state room a e in
    let q = ran_well m k more a.state room' b f in
    let free = accepted m ok p.ringless in
    let ea : a ≡ went m n bits state = p.left in
    let eb : b ≡ went m k more (went m n bits state).state = q.left ∙ ap (λ (w : LanesEnd). went m k more w.state) ea in
    let lb = length-append bits more in
    let ca = ap (λ (w : LanesEnd). length w.out) ea ∙ rows-count (lane_run m bits state) (out_pins m.pins) 0 n in
    let cb = ap (λ (w : LanesEnd). length w.out) eb ∙ rows-count (lane_run m more (went m n bits state).state) (out_pins m.pins) 0 k in
    let ic = p.input_count_lem in
    let jc = q.input_count_lem in
    let t₁ : eqb (length (bits ++ more)) ((n + k) * length (in_pins m.pins)) ≡ true = eq-eqb (length (bits ++ more)) ((n + k) * length (in_pins m.pins)) (omega (arith, add-mul n k (length (in_pins m.pins)))) in
    let t₂ : eqb (length state) (length (registers m.elements)) ≡ true = eq-eqb _ _ p.state-count in
    let t₃ : leb ((n + k) * length (out_pins m.pins)) room'' ≡ true = le-leb ((n + k) * length (out_pins m.pins)) room'' (omega (arith, add-mul n k (length (out_pins m.pins)))) in
    rw (p.ringless, t₁, t₂, t₃)
    (ap good (both (join_out m ok free n k bits more state ic ∙ ap₂ ◌++◌ (ap (λ (w : LanesEnd). w.out) (sym ea)) (ap (λ (w : LanesEnd). w.out) (sym eb))) (join_state m ok free n k bits more state ic ∙ ap (λ (w : LanesEnd). w.state) (sym eb))))
  where
    both : {a a' b b' : List ℕ} → a ≡ a' → b ≡ b' → ◌≡◌ {A = LanesEnd} (record { out = a; state = b }) (record { out = a'; state = b' })
    both {a} {a'} {b} {b'} p q = ap (λ (x : List ℕ). record { out = x; state = b }) p ∙ ap (λ (y : List ℕ). record { out = a'; state = y }) q

pub lanes_join : (s : List ℕ) (n k : ℕ) (bits more state : List ℕ) → LanesJoin s n k bits more state
unfolding lanes_trace
lanes_join s n k bits more state memory memory' memory'' room room' room'' a b e f large enough =
    let p = traced_well memory s n bits state room a e in
    let q = traced_well memory' s k more a.state room' b f in
    let same : q.net ≡ p.net = good-inj (sym q.of_sheet ∙ p.of_sheet) in
    let t : leb 32768 memory'' ≡ true = le-leb 32768 memory'' large in
    rw (t, p.of_sheet)
    (went-join (lean p.net) (formed-lean s p.net p.of_sheet) n k bits more state room room' room'' a b p.runs
    (subst (λ (m : Net). lanes_ran (lean m) k more a.state room' ≡ good b) same q.runs) enough)
