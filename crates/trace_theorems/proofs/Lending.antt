-- The bits lent and written, one byte a bit: where each stands, and that a possible record has those that were lent exactly when it has
-- what the definition's run is given. Assumes nothing.
use Prim.Native.Nat.{ℕ, zero, suc, ◌+◌, ◌*◌, ◌/◌, ◌%◌, ◌≤◌, ◌<◌}
use mathlib.Core.Path.{◌≡◌, refl, sym, ap, ◌∙◌, subst}
use mathlib.Core.Bool.{Bool, true, false, cond, ◌||◌}
use mathlib.Core.List.{List, [], ◌∷◌, ◌++◌, map}
use native.Mathlib.Omega.{arith}
use native.Mathlib.Decide.{dec_le}
use native.Mathlib.Nat.{suc-mul, mul-zero, mod-lt, div-add-mod', div-lt_iff_lt-mul}
use lib.Dec.{T, eqb, eqb→eq, eqb_refl}
use lib.ListN.{length, get_or, length-append, length-map, get_or-append}
use lib.Seq.{ext_get_or, get_or-append-add}
use Rattle.laws.proofs.Tests.{by_eqb, or_elim, or_left, or_right}
use Rattle.calculus.specs.Terms.{part_at}
use Rattle.calculus.specs.Net.{Interface, inp, out, Element, point, part, Net}
use Rattle.calculus.specs.Lean.{is_pin}
use Rattle.calculus.specs.Record.{Bits, All, Possible, part_law, Among, here, there}
use Rattle.calculus.specs.Inputs.{tally, ins}
use Rattle.circuit_theorems.specs.Terminals.{has}
use Rattle.circuit_theorems.specs.Formed.{Rising, Formed}
use Rattle.circuit_theorems.proofs.Wiring.{input-once}
use Rattle.trace_calculus.specs.Trace.{StartsWith, Has, in_pins, registers, place, given_bits, start_bits, bit_byte_lem, row, rows}
use Rattle.trace_calculus.specs.Promise.{register_outputs, Recorded, ExactBits}
use Rattle.trace_calculus.proofs.Bytes.{byte-bit}
use Rattle.trace_theorems.proofs.Lists.{has-at, Once, place_at, at_place, Up, up_weaken, up_once, up_rises, up_next}
use Rattle.trace_theorems.proofs.Sources.{all_in, in_all}

-- ---- rows of bits

pub row-length : (β : Bits) (t : ℕ) (os : List ℕ) → length (row β t os) ≡ length os
row-length β t [] = refl
row-length β t (x ∷ os) = ap suc (row-length β t os)

pub rows-length : (β : Bits) (os : List ℕ) (t n : ℕ) → length (rows β os t n) ≡ n * length os
rows-length β os t zero = let z : 0 ≡ 0 * length os = omega arith in z
rows-length β os t (suc n) = length-append (row β t os) (rows β os (t + 1) n) ∙ (let a = row-length β t os in let b = rows-length β os (t + 1) n in let c = suc-mul n (length os) in omega arith)

pub row_at : (β : Bits) (t : ℕ) (os : List ℕ) (k : ℕ) → k < length os → get_or (row β t os) k 0 ≡ bit_byte_lem (β (get_or os k 0) t)
row_at β t [] k l = absurd (omega arith)
row_at β t (o ∷ os) zero l = refl
row_at β t (o ∷ os) (suc k) l = row_at β t os k (omega arith)

-- tick by tick, each as many as there are terminals
rows-from : (β : Bits) (os : List ℕ) (a n t k : ℕ) → t < n → k < length os → get_or (rows β os a n) (t * length os + k) 0 ≡ bit_byte_lem (β (get_or os k 0) (a + t))
rows-from β os a zero t k l h = absurd (omega arith)
rows-from β os a (suc n) zero k l h =
    let e : 0 * length os + k ≡ k = omega arith in
    let z : a ≡ a + 0 = omega arith in
    ap (λ (j : ℕ). get_or (row β a os ++ rows β os (a + 1) n) j 0) e ∙ get_or-append (row β a os) (rows β os (a + 1) n) 0 k (let r = row-length β a os in omega arith)
    ∙ row_at β a os k h ∙ ap (λ (j : ℕ). bit_byte_lem (β (get_or os k 0) j)) z
rows-from β os a (suc n) (suc t) k l h =
    let e : suc t * length os + k ≡ length (row β a os) + (t * length os + k) = (let r = row-length β a os in let c = suc-mul t (length os) in omega arith) in
    let z : a + 1 + t ≡ a + suc t = omega arith in
    ap (λ (j : ℕ). get_or (row β a os ++ rows β os (a + 1) n) j 0) e ∙ get_or-append-add (row β a os) (rows β os (a + 1) n) (t * length os + k) 0
    ∙ rows-from β os (a + 1) n t k (omega arith) h ∙ ap (λ (j : ℕ). bit_byte_lem (β (get_or os k 0) j)) z

pub rows_at : (β : Bits) (os : List ℕ) (n t k : ℕ) → t < n → k < length os → get_or (rows β os 0 n) (t * length os + k) 0 ≡ bit_byte_lem (β (get_or os k 0) t)
rows_at β os n t k l h = let z : 0 + t ≡ t = omega arith in rows-from β os 0 n t k l h ∙ ap (λ (j : ℕ). bit_byte_lem (β (get_or os k 0) j)) z

bit_byte : (v : ℕ) → v ≤ 1 → bit_byte_lem (eqb v 1) ≡ v
bit_byte zero h = refl
bit_byte (suc zero) h = refl
bit_byte (suc (suc v)) h = absurd (omega arith)

all-low : (xs : List ℕ) → All (λ b. b ≤ 1) xs → (j : ℕ) → get_or xs j 0 ≤ 1
all-low [] a j = omega arith
all-low (x ∷ xs) a zero = a.0
all-low (x ∷ xs) a (suc j) = all-low xs a.1 j

-- ---- the registers by rising terminal

pub registers_in : (es : List Element) (i : ℕ) → T (has (registers es) i) → Among (part 1 i) es
registers_in [] i t = absurd t
registers_in (point j ∷ es) i t = there (registers_in es i t)
registers_in (part p j ∷ es) i t = by (eqb p 1) refl t (registers_in es i)
  where
    by : (b : Bool) → eqb p 1 ≡ b → T (has (cond b (j ∷ registers es) (registers es)) i) → (T (has (registers es) i) → Among (part 1 i) es) → Among (part 1 i) (part p j ∷ es)
    by true q t f = or_elim (eqb j i) (has (registers es) i) t (λ v. subst (λ (a : ℕ). Among (part 1 i) (part a j ∷ es)) (sym (eqb→eq p 1 (subst T (sym q) tt))) (subst (λ (a : ℕ). Among (part 1 i) (part 1 a ∷ es)) (sym (eqb→eq j i v)) here)) (λ v. there (f v))
    by false q t f = there (f t)

pub in_registers : (i : ℕ) {es : List Element} → Among (part 1 i) es → T (has (registers es) i)
in_registers i (here {xs = es}) = or_left (eqb i i) (has (registers es) i) (eqb_refl i)
in_registers i (there {y = point j} h) = in_registers i h
in_registers i (there {y = part p j} {xs = es} h) = by (eqb p 1) (in_registers i h)
  where
    by : (b : Bool) → T (has (registers es) i) → T (has (cond b (j ∷ registers es) (registers es)) i)
    by true t = or_right (eqb j i) (has (registers es) i) t
    by false t = t

pub registers_up : (es : List Element) (n e : ℕ) → Rising es n e → Up (registers es) n
registers_up [] n e r = tt
registers_up (point j ∷ es) n e r = up_weaken (registers es) (j + 2) n (let l = r.0 in omega arith) (registers_up es (j + 2) e r.1)
registers_up (part p j ∷ es) n e r = by (eqb p 1) (registers_up es (j + (part_at p).inputs + 1) e r.1)
  where
    by : (b : Bool) → Up (registers es) (j + (part_at p).inputs + 1) → Up (cond b (j ∷ registers es) (registers es)) n
    by true u = (r.0, up_weaken (registers es) (j + (part_at p).inputs + 1) (j + 1) (omega arith) u)
    by false u = up_weaken (registers es) (j + (part_at p).inputs + 1) n (let l = r.0 in omega arith) u

-- "a start bit for each register by rising terminal" (document 02, L4): no two stand the wrong way round, nor do their outputs
pub registers_rise : (m : Net) → Formed m → (j k : ℕ) → j < k → k < length (registers m.elements) → get_or (registers m.elements) j 0 < get_or (registers m.elements) k 0
registers_rise m ok = up_rises (registers m.elements) 0 (registers_up m.elements 0 ok.end ok.rising)

pub outputs_rise : (m : Net) → Formed m → (j k : ℕ) → j < k → k < length (register_outputs m) → get_or (register_outputs m) j 0 < get_or (register_outputs m) k 0
outputs_rise m ok = up_rises (register_outputs m) 1 (up_next (registers m.elements) 0 (registers_up m.elements 0 ok.end ok.rising))

-- the outputs of those at xs
outputs-at : (β : Bits) (t : ℕ) (xs : List ℕ) (k : ℕ) → k < length xs → get_or (row β t (map (λ i. i + 1) xs)) k 0 ≡ bit_byte_lem (β (get_or xs k 0 + 1) t)
outputs-at β t [] k l = absurd (omega arith)
outputs-at β t (x ∷ xs) zero l = refl
outputs-at β t (x ∷ xs) (suc k) l = outputs-at β t xs k (omega arith)

-- ---- the input pins in pin order

pins_tally : (ps : Interface) (x : ℕ) → T (has (in_pins ps) x) → 1 ≤ ins ps x
pins_tally [] x t = absurd t
pins_tally (inp i ∷ ps) x t = by_eqb (λ b. T (b || has (in_pins ps) x) → 1 ≤ cond b 1 0 + ins ps x) i x (λ _ _. omega arith) (λ _ u. omega (arith, pins_tally ps x u)) t
pins_tally (out o ∷ ps) x t = pins_tally ps x t

pub pins_once : (ps : Interface) → ((x : ℕ) → ins ps x ≤ 1) → Once (in_pins ps)
pins_once [] h = tt
pins_once (inp i ∷ ps) h = (
  (λ t. let l : tally i i ≡ 1 = by_eqb (λ b. ◌≡◌ {A = ℕ} (cond b 1 0) 1) i i (λ _. refl) (λ d. absurd (d refl)) in omega (arith, h i, pins_tally ps i t)),
  pins_once ps (λ x. let l = h x in omega arith),
)
pins_once (out o ∷ ps) h = pins_once ps h

pub pin_order : (m : Net) → Formed m → (bits : List ℕ) (k t : ℕ) → k < length (in_pins m.pins)
    → given_bits m.pins bits (get_or (in_pins m.pins) k 0) t ≡ eqb (get_or bits (t * length (in_pins m.pins) + k) 0) 1
pin_order m ok bits k t h =
    ap (λ (z : ℕ). eqb (get_or bits (t * length (in_pins m.pins) + z) 0) 1) (place_at (in_pins m.pins) (pins_once m.pins (λ x. omega (arith, ok.reached x, input-once m ok x))) k h)

pub pin_has : (ps : Interface) (x : ℕ) → T (is_pin ps x) → T (has (in_pins ps) x)
pin_has [] x t = absurd t
pin_has (inp i ∷ ps) x t = or_elim (eqb i x) (is_pin ps x) t (λ u. or_left (eqb i x) (has (in_pins ps) x) u) (λ u. or_right (eqb i x) (has (in_pins ps) x) (pin_has ps x u))
pin_has (out o ∷ ps) x t = pin_has ps x t

has_pin : (ps : Interface) (x : ℕ) → T (has (in_pins ps) x) → T (is_pin ps x)
has_pin [] x t = absurd t
has_pin (inp i ∷ ps) x t = or_elim (eqb i x) (has (in_pins ps) x) t (λ u. or_left (eqb i x) (is_pin ps x) u) (λ u. or_right (eqb i x) (is_pin ps x) (has_pin ps x u))
has_pin (out o ∷ ps) x t = has_pin ps x t

-- ---- a record has the bits lent exactly when it has what the run is given

module _ (m : Net) (ok : Formed m) (n : ℕ) (bits starts : List ℕ) (β : Bits) where
  abbrev is : List ℕ
  is = in_pins m.pins

  abbrev rs : List ℕ
  rs = registers m.elements

  abbrev Given : Type 0
  Given = Has m n (given_bits m.pins bits) (start_bits m.elements starts) β

  is-once : Once is
  is-once = pins_once m.pins (λ x. omega (arith, ok.reached x, input-once m ok x))

  rs-once : Once rs
  rs-once = up_once rs 0 (registers_up m.elements 0 ok.end ok.rising)

  pub recorded_has : Recorded m n bits starts β → Given
  recorded_has r = record { pins = at_pin; registers = λ l. all_in (StartsWith (start_bits m.elements starts) β) m.elements (starting l) }
    where
      at_pin : (i : ℕ) → T (is_pin m.pins i) → (t : ℕ) → t < n → β i t ≡ given_bits m.pins bits i t
      at_pin i h t l =
          let a = at_place is i (pin_has m.pins i h) in
          let e : get_or bits (t * length is + place is i) 0 ≡ bit_byte_lem (β i t) =
          ap (λ (xs : List ℕ). get_or xs (t * length is + place is i) 0) (sym r.given) ∙ rows_at β is n t (place is i) l a.0 ∙ ap (λ (z : ℕ). bit_byte_lem (β z t)) a.1 in
          sym (ap (λ (v : ℕ). eqb v 1) e ∙ byte-bit (β i t))

      register : (i : ℕ) → 0 < n → Among (part 1 i) m.elements → β (i + 1) 0 ≡ start_bits m.elements starts i
      register i l h =
          let a = at_place rs i (in_registers i h) in
          let e : get_or starts (place rs i) 0 ≡ bit_byte_lem (β (i + 1) 0) =
          ap (λ (xs : List ℕ). get_or xs (place rs i) 0) (sym (r.woken l)) ∙ outputs-at β 0 rs (place rs i) a.0 ∙ ap (λ (z : ℕ). bit_byte_lem (β (z + 1) 0)) a.1 in
          sym (ap (λ (v : ℕ). eqb v 1) e ∙ byte-bit (β (i + 1) 0))

      starting : 0 < n → (a : Element) → Among a m.elements → StartsWith (start_bits m.elements starts) β a
      starting l (point i) h = tt
      starting l (part p i) h = λ t. subst (λ (q : ℕ). Among (part q i) m.elements → β (i + (part_at q).inputs) 0 ≡ start_bits m.elements starts i) (sym (eqb→eq p 1 t)) (register i l) h

  pub has_recorded : ExactBits m n bits starts → Possible part_law m n β → Given → Recorded m n bits starts β
  has_recorded x p h = record {
    possible = p;
    given = ext_get_or 0 (rows β is 0 n) bits (rows-length β is 0 n ∙ sym x.input_count_lem) bit_at;
    woken = λ l. ext_get_or 0 (row β 0 (register_outputs m)) starts (row-length β 0 (register_outputs m) ∙ length-map rs _ ∙ sym x.start_count) (start-at l);
  }
    where
      at : (t k : ℕ) → t < n → k < length is → get_or (rows β is 0 n) (t * length is + k) 0 ≡ get_or bits (t * length is + k) 0
      at t k l q =
          rows_at β is n t k l q ∙ ap bit_byte_lem (h.pins (get_or is k 0) (has_pin m.pins (get_or is k 0) (has-at is k q)) t l)
          ∙ ap (λ (z : ℕ). bit_byte_lem (eqb (get_or bits (t * length is + z) 0) 1)) (place_at is is-once k q) ∙ bit_byte (get_or bits (t * length is + k) 0) (all-low bits x.input_bits (t * length is + k))

      some : (j : ℕ) → j < n * length is → 0 < length is
      some j l = elim (dec_le 1 (length is)) [
        | yes q ↦ q
        | no q ↦ absurd (let z : length is ≡ 0 = omega arith in let w : n * length is ≡ 0 = ap (λ (k : ℕ). n * k) z ∙ mul-zero n in omega arith)
      ]

      bit_at : (j : ℕ) → j < length (rows β is 0 n) → get_or (rows β is 0 n) j 0 ≡ get_or bits j 0
      bit_at j q =
          let l : j < n * length is = subst (λ (k : ℕ). j < k) (rows-length β is 0 n) q in
          let z = some j l in
          subst (λ (k : ℕ). get_or (rows β is 0 n) k 0 ≡ get_or bits k 0) (div-add-mod' j (length is)) (at (j / length is) (j % length is) ((div-lt_iff_lt-mul z).1 l) (mod-lt j z))

      start-at : 0 < n → (k : ℕ) → k < length (row β 0 (register_outputs m)) → get_or (row β 0 (register_outputs m)) k 0 ≡ get_or starts k 0
      start-at l k q =
          let z : k < length rs = subst (λ (j : ℕ). k < j) (row-length β 0 (register_outputs m) ∙ length-map rs _) q in
          outputs-at β 0 rs k z ∙ ap bit_byte_lem (in_all (StartsWith (start_bits m.elements starts) β) (registers_in m.elements (get_or rs k 0) (has-at rs k z)) (h.registers l) tt)
          ∙ ap (λ (j : ℕ). bit_byte_lem (eqb (get_or starts j 0) 1)) (place_at rs rs-once k z) ∙ bit_byte (get_or starts k 0) (all-low starts x.start_bits_lem k)
