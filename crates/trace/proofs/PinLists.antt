-- The pins by number and as a list: how many are inputs, which is which. Assumes nothing.
use Prim.Native.Nat.{ℕ, zero, suc, ◌+◌, ◌/◌, ◌≤◌, ◌<◌}
use mathlib.Core.Path.{◌≡◌, refl, sym, ap, ◌∙◌, subst}
use mathlib.Core.Logic.{◌⊎◌, inl, inr, ⊎_elim}
use mathlib.Core.Bool.{Bool, true, false, cond}
use mathlib.Core.List.{List, [], ◌∷◌, ◌++◌, map}
use native.Mathlib.Omega.{arith}
use native.Mathlib.Decide.{ℕ_discrete}
use native.Mathlib.Nat.{add-zero}
use lib.ListN.{length, get_or, take, drop, length-append, get_or-append}
use lib.Seq.{get_or-append-add, drop-cons}
use lib.Dec.{T, eqb, eqb→eq, eqb_refl}
use Rattle.laws.proofs.Regions.{region-join}
use Rattle.laws.proofs.Tests.{or_elim, or_left, or_right}
use Rattle.calculus.specs.Net.{inp, out, Interface, Element, Net}
use Rattle.calculus.specs.Lean.{is_pin}
use Rattle.calculus.specs.Record.{Bits, All}
use Rattle.calculus.specs.Inputs.{is_out}
use Rattle.circuit_theorems.specs.Formed.{Shown, Formed}
use Rattle.circuit_theorems.proofs.Wiring.{input-once}
use Rattle.memory.specs.Map.{region, terminal_of}
use Rattle.trace_calculus.specs.Trace.{in_pins, out_pins, place, bit_byte_lem, row}
use Rattle.trace_theorems.proofs.Lists.{Once, place_at}
use Rattle.trace_theorems.proofs.Lending.{pins_once}
use Rattle.trace_steps.specs.Map.{pins_at}
use Rattle.trace_steps.specs.Pins.{pin_is_in, in_pin_count, out_pin_count}
use Rattle.trace_steps.proofs.PinLaws.{ins_up}

-- the terminal of pin k
abbrev pub pin_at_lem : List ℕ → ℕ → ℕ
pin_at_lem w k = get_or w (pins_at + k) 0 / 2

-- the first n pins
abbrev pub up_to : List ℕ → ℕ → Interface
up_to w zero = []
up_to w (suc k) = up_to w k ++ terminal_of (get_or w (pins_at + k) 0) ∷ []

map_snoc : {A B : Type 0} (f : A → B) (xs : List A) (x : A) → map f (xs ++ x ∷ []) ≡ map f xs ++ f x ∷ []
map_snoc f [] x = refl
map_snoc {B = B} f (y ∷ xs) x = ap (λ (l : List B). f y ∷ l) (map_snoc f xs x)

region_snoc : (w : List ℕ) (a n : ℕ) → a + suc n ≤ length w → region w a (suc n) ≡ region w a n ++ get_or w (a + n) 0 ∷ []
region_snoc w a n h =
    let e : suc n ≡ n + 1 = omega arith in
    ap (λ (k : ℕ). take k (drop a w)) e ∙ region-join a n 1 w ∙ ap (λ (l : List ℕ). take n (drop a w) ++ take 1 l) (drop-cons w (a + n) 0 (omega arith))

pub upto_is : (w : List ℕ) (n : ℕ) → pins_at + n ≤ length w → up_to w n ≡ map terminal_of (region w pins_at n)
upto_is w zero h = refl
upto_is w (suc n) h =
    ap (λ (l : Interface). l ++ terminal_of (get_or w (pins_at + n) 0) ∷ []) (upto_is w n (omega arith))
    ∙ sym (ap (map terminal_of) (region_snoc w pins_at n h) ∙ map_snoc terminal_of (region w pins_at n) (get_or w (pins_at + n) 0))

-- ---- inputs and outputs of a list with one pin more

in_append : (xs ys : Interface) → in_pins (xs ++ ys) ≡ in_pins xs ++ in_pins ys
in_append [] ys = refl
in_append (inp i ∷ xs) ys = ap (λ (l : List ℕ). i ∷ l) (in_append xs ys)
in_append (out o ∷ xs) ys = in_append xs ys

out_append : (xs ys : Interface) → out_pins (xs ++ ys) ≡ out_pins xs ++ out_pins ys
out_append [] ys = refl
out_append (inp i ∷ xs) ys = out_append xs ys
out_append (out o ∷ xs) ys = ap (λ (l : List ℕ). o ∷ l) (out_append xs ys)

pin_append : (xs ys : Interface) (x : ℕ) → T (is_pin (xs ++ ys) x) → T (is_pin xs x) ⊎ T (is_pin ys x)
pin_append [] ys x t = inr t
pin_append (inp i ∷ xs) ys x t = or_elim (eqb i x) (is_pin (xs ++ ys) x) t (λ u. inl (or_left (eqb i x) (is_pin xs x) u)) (λ u. ⊎_elim (λ v. inl (or_right (eqb i x) (is_pin xs x) v)) inr (pin_append xs ys x u))
pin_append (out o ∷ xs) ys x t = pin_append xs ys x t

pub ins-length : (w : List ℕ) (n : ℕ) → length (in_pins (up_to w n)) ≡ in_pin_count w n
ins-length w zero = refl
ins-length w (suc n) =
    ap length (in_append (up_to w n) (terminal_of (get_or w (pins_at + n) 0) ∷ [])) ∙ length-append (in_pins (up_to w n)) (in_pins (terminal_of (get_or w (pins_at + n) 0) ∷ []))
    ∙ ap (λ (k : ℕ). k + length (in_pins (terminal_of (get_or w (pins_at + n) 0) ∷ []))) (ins-length w n) ∙ ap (λ (k : ℕ). in_pin_count w n + k) (by (pin_is_in w n))
  where
    by : (b : Bool) → length (in_pins (cond b (inp (pin_at_lem w n)) (out (pin_at_lem w n)) ∷ [])) ≡ cond b 1 0
    by true = refl
    by false = refl

pub outs-length : (w : List ℕ) (n : ℕ) → length (out_pins (up_to w n)) ≡ out_pin_count w n
outs-length w zero = refl
outs-length w (suc n) =
    ap length (out_append (up_to w n) (terminal_of (get_or w (pins_at + n) 0) ∷ [])) ∙ length-append (out_pins (up_to w n)) (out_pins (terminal_of (get_or w (pins_at + n) 0) ∷ []))
    ∙ ap (λ (k : ℕ). k + length (out_pins (terminal_of (get_or w (pins_at + n) 0) ∷ []))) (outs-length w n) ∙ ap (λ (k : ℕ). out_pin_count w n + k) (by (pin_is_in w n))
  where
    by : (b : Bool) → length (out_pins (cond b (inp (pin_at_lem w n)) (out (pin_at_lem w n)) ∷ [])) ≡ cond b 0 1
    by true = refl
    by false = refl

pub ins-outs : (w : List ℕ) (n : ℕ) → in_pin_count w n + out_pin_count w n ≡ n
ins-outs w zero = refl
ins-outs w (suc n) = by (pin_is_in w n) (ins-outs w n)
  where
    by : (b : Bool) → in_pin_count w n + out_pin_count w n ≡ n → in_pin_count w n + cond b 1 0 + (out_pin_count w n + cond b 0 1) ≡ suc n
    by true e = omega arith
    by false e = omega arith

-- ---- input pin j is number `inPinCount w j` of the input pins

in_last : (w : List ℕ) (n : ℕ) → pin_is_in w n ≡ true → in_pins (up_to w (suc n)) ≡ in_pins (up_to w n) ++ pin_at_lem w n ∷ []
in_last w n e = in_append (up_to w n) (terminal_of (get_or w (pins_at + n) 0) ∷ []) ∙ ap (λ (b : Bool). in_pins (up_to w n) ++ in_pins (cond b (inp (pin_at_lem w n)) (out (pin_at_lem w n)) ∷ [])) e

pub in_place : (w : List ℕ) (n j : ℕ) → j < n → pin_is_in w j ≡ true → (get_or (in_pins (up_to w n)) (in_pin_count w j) 0 ≡ pin_at_lem w j) × (in_pin_count w j < in_pin_count w n)
in_place w zero j l e = absurd (omega arith)
in_place w (suc n) j l e = elim (ℕ_discrete j n) [
  | yes q ↦ subst (λ (k : ℕ). pin_is_in w k ≡ true → (get_or (in_pins (up_to w (suc n))) (in_pin_count w k) 0 ≡ pin_at_lem w k) × (in_pin_count w k < in_pin_count w (suc n))) (sym q) at_last e
  | no d ↦ (let r = in_place w n j (omega arith) e in (
    ap (λ (l : List ℕ). get_or l (in_pin_count w j) 0) (in_append (up_to w n) (terminal_of (get_or w (pins_at + n) 0) ∷ []))
        ∙ get_or-append (in_pins (up_to w n)) (in_pins (terminal_of (get_or w (pins_at + n) 0) ∷ [])) 0 (in_pin_count w j) (let a = ins-length w n in omega (arith, r.1)) ∙ r.0,
    omega (arith, r.1, ins_up w n (suc n) (omega arith)),
  ))
]
  where
    at_last : pin_is_in w n ≡ true → (get_or (in_pins (up_to w (suc n))) (in_pin_count w n) 0 ≡ pin_at_lem w n) × (in_pin_count w n < in_pin_count w (suc n))
    at_last e = (
      ap (λ (l : List ℕ). get_or l (in_pin_count w n) 0) (in_last w n e) ∙ ap (λ (k : ℕ). get_or (in_pins (up_to w n) ++ pin_at_lem w n ∷ []) k 0) (sym (ins-length w n) ∙ sym (add-zero (length (in_pins (up_to w n)))))
          ∙ get_or-append-add (in_pins (up_to w n)) (pin_at_lem w n ∷ []) 0 0,
      subst (λ (b : Bool). in_pin_count w n < in_pin_count w n + cond b 1 0) (sym e) (omega arith),
    )

pub pin_number : (w : List ℕ) (n x : ℕ) → T (is_pin (up_to w n) x) → (j : ℕ) × (j < n) × ((pin_is_in w j ≡ true) × (pin_at_lem w j ≡ x))
pin_number w zero x t = absurd t
pin_number w (suc n) x t =
    ⊎_elim (λ u. let r = pin_number w n x u in (r.0, omega (arith, r.1), r.2)) (λ u. by (pin_is_in w n) refl u) (pin_append (up_to w n) (terminal_of (get_or w (pins_at + n) 0) ∷ []) x t)
  where
    by : (b : Bool) → pin_is_in w n ≡ b → T (is_pin (cond b (inp (pin_at_lem w n)) (out (pin_at_lem w n)) ∷ []) x) → (j : ℕ) × (j < suc n) × ((pin_is_in w j ≡ true) × (pin_at_lem w j ≡ x))
    by true e u = (n, omega arith, (e, or_elim (eqb (pin_at_lem w n) x) false u (λ v. eqb→eq (pin_at_lem w n) x v) (λ v. absurd v)))
    by false e u = absurd u

append_pin : (xs ys : Interface) (x : ℕ) → T (is_pin xs x) ⊎ T (is_pin ys x) → T (is_pin (xs ++ ys) x)
append_pin [] ys x (inl t) = absurd t
append_pin [] ys x (inr t) = t
append_pin (inp i ∷ xs) ys x (inl t) = or_elim (eqb i x) (is_pin xs x) t (λ u. or_left (eqb i x) (is_pin (xs ++ ys) x) u) (λ u. or_right (eqb i x) (is_pin (xs ++ ys) x) (append_pin xs ys x (inl u)))
append_pin (inp i ∷ xs) ys x (inr t) = or_right (eqb i x) (is_pin (xs ++ ys) x) (append_pin xs ys x (inr t))
append_pin (out o ∷ xs) ys x t = append_pin xs ys x t

pub number_pin : (w : List ℕ) (n j : ℕ) → j < n → pin_is_in w j ≡ true → T (is_pin (up_to w n) (pin_at_lem w j))
number_pin w zero j l e = absurd (omega arith)
number_pin w (suc n) j l e = append_pin (up_to w n) (terminal_of (get_or w (pins_at + n) 0) ∷ []) (pin_at_lem w j) (elim (ℕ_discrete j n) [
  | yes q ↦ inr (subst (λ (k : ℕ). pin_is_in w k ≡ true → T (is_pin (terminal_of (get_or w (pins_at + n) 0) ∷ []) (pin_at_lem w k))) (sym q)
      (λ f. subst (λ (b : Bool). T (is_pin (cond b (inp (pin_at_lem w n)) (out (pin_at_lem w n)) ∷ []) (pin_at_lem w n))) (sym f) (or_left (eqb (pin_at_lem w n) (pin_at_lem w n)) false (eqb_refl (pin_at_lem w n)))) e)
  | no d ↦ inl (number_pin w n j (omega arith) e)
])

module _ (w : List ℕ) (n : ℕ) (m : Net) (ok : Formed m) (shown : up_to w n ≡ m.pins) where
  once : Once (in_pins (up_to w n))
  once = subst (λ (ps : Interface). Once (in_pins ps)) (sym shown) (pins_once m.pins (λ x. (let a = ok.reached x in let b = input-once m ok x in omega arith)))

  pub place_is : (j : ℕ) → j < n → pin_is_in w j ≡ true → place (in_pins m.pins) (pin_at_lem w j) ≡ in_pin_count w j
  place_is j l e =
      let r = in_place w n j l e in
      subst (λ (ps : Interface). place (in_pins ps) (pin_at_lem w j) ≡ in_pin_count w j) shown
      (ap (place (in_pins (up_to w n))) (sym r.0) ∙ place_at (in_pins (up_to w n)) once (in_pin_count w j) (let a = ins-length w n in omega (arith, r.1)))

  -- no two input pins are one terminal
  pub pins_apart : (i j : ℕ) → i < j → j < n → pin_is_in w i ≡ true → pin_is_in w j ≡ true → pin_at_lem w i ≡ pin_at_lem w j → ⊥
  pins_apart i j l h a b e =
      let p = place_is i (omega arith) a in
      let q = place_is j h b in
      let s = ap (place (in_pins m.pins)) e in
      let r = in_place w j i l a in
      omega (arith, r.1)

-- ---- the output pins' bits

pub row_snoc : (β : Bits) (t : ℕ) (os : List ℕ) (o : ℕ) → row β t (os ++ o ∷ []) ≡ row β t os ++ bit_byte_lem (β o t) ∷ []
row_snoc β t [] o = refl
row_snoc β t (x ∷ os) o = ap (λ (l : List ℕ). bit_byte_lem (β x t) ∷ l) (row_snoc β t os o)

pub out_last : (w : List ℕ) (n : ℕ) → pin_is_in w n ≡ false → out_pins (up_to w (suc n)) ≡ out_pins (up_to w n) ++ pin_at_lem w n ∷ []
out_last w n e = out_append (up_to w n) (terminal_of (get_or w (pins_at + n) 0) ∷ []) ∙ ap (λ (b : Bool). out_pins (up_to w n) ++ out_pins (cond b (inp (pin_at_lem w n)) (out (pin_at_lem w n)) ∷ [])) e

nil_append : (xs : List ℕ) → xs ++ [] ≡ xs
nil_append [] = refl
nil_append (x ∷ xs) = ap (λ (l : List ℕ). x ∷ l) (nil_append xs)

pub out_same : (w : List ℕ) (n : ℕ) → pin_is_in w n ≡ true → out_pins (up_to w (suc n)) ≡ out_pins (up_to w n)
out_same w n e = out_append (up_to w n) (terminal_of (get_or w (pins_at + n) 0) ∷ []) ∙ ap (λ (b : Bool). out_pins (up_to w n) ++ out_pins (cond b (inp (pin_at_lem w n)) (out (pin_at_lem w n)) ∷ [])) e ∙ nil_append (out_pins (up_to w n))

-- an output pin's terminal is an output
pub out_shown : (es : List Element) (w : List ℕ) (n j : ℕ) → j < n → pin_is_in w j ≡ false → All (Shown es) (up_to w n) → T (is_out es (pin_at_lem w j))
out_shown es w zero j l e a = absurd (omega arith)
out_shown es w (suc n) j l e a = elim (ℕ_discrete j n) [
  | yes q ↦ subst (λ (k : ℕ). pin_is_in w k ≡ false → T (is_out es (pin_at_lem w k))) (sym q) (λ f. subst (λ (b : Bool). Shown es (cond b (inp (pin_at_lem w n)) (out (pin_at_lem w n)))) f (last (up_to w n) a)) e
  | no d ↦ out_shown es w n j (omega arith) e (front (up_to w n) a)
]
  where
    last : (xs : Interface) → All (Shown es) (xs ++ terminal_of (get_or w (pins_at + n) 0) ∷ []) → Shown es (terminal_of (get_or w (pins_at + n) 0))
    last [] a = a.0
    last (x ∷ xs) a = last xs a.1

    front : (xs : Interface) → All (Shown es) (xs ++ terminal_of (get_or w (pins_at + n) 0) ∷ []) → All (Shown es) xs
    front [] a = tt
    front (x ∷ xs) a = (a.0, front xs a.1)
