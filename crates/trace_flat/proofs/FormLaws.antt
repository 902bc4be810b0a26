-- One form for all gates: with the right places, (a and not b) xor c is what each kind of gate shows. Assumes nothing.
use Prim.Native.Nat.{ℕ, ◌-◌, ◌≤◌, ◌<◌}
use mathlib.Core.Path.{◌≡◌, refl, sym, ap, ◌∙◌}
use mathlib.Core.Bool.{Bool, true, false, cond, not, ◌&&◌, ◌||◌, xor}
use native.Mathlib.Omega.{arith}
use native.Mathlib.Decide.{ℕ_discrete}
use lib.Bits.{bit_and, bit_or, bit_xor, and_lt, or_lt, xor_lt}
use lib.Dec.{eqb}
use borrow.Author.Tests.{eq-eqb, ne_eqb}
use Rattle.trace_calculus.specs.Lanes.{lane_bit}
use Rattle.trace_calculus.proofs.LaneBits.{lane_zero_lem, number_only, bit_at, and_bit, or_bit, xor_bit, not_bit, bit_is}
use Rattle.lean.specs.Layout.{kinds_from}
use Rattle.trace_steps.specs.Map.{inverter_entry}
use Rattle.trace_steps.specs.Words.{gate_word}
use Rattle.trace_steps.proofs.Laws.{value-is}
use Rattle.trace_flat.specs.Flat.{form_word, or_entry, xor_entry}

form_bit : (k a b c : ℕ) → k < 16 → bit_at k (form_word a b c) ≡ xor (bit_at k a && not (bit_at k b)) (bit_at k c)
form_bit k a b c h = xor_bit k (bit_and a (bit_xor b 65535)) c ∙ ap (λ (t : Bool). xor t (bit_at k c)) (and_bit k a (bit_xor b 65535) ∙ ap (λ (t : Bool). bit_at k a && t) (not_bit k b h))

same_bit : (k x y : ℕ) → bit_at k x ≡ bit_at k y → lane_bit k x ≡ lane_bit k y
same_bit k x y e = bit_is k x (bit_at k y) e ∙ sym (bit_is k y (bit_at k y) refl)

pub form_low : (a b c : ℕ) → a < 65536 → b < 65536 → c < 65536 → form_word a b c < 65536
form_low a b c h k l = xor_lt 16 (bit_and a (bit_xor b 65535)) c (and_lt 16 a (bit_xor b 65535) h (xor_lt 16 b 65535 k (omega arith))) l

-- ---- bit by bit

bit_and_lem : (x y : Bool) → xor (x && not y) x ≡ x && y
unfolding xor
bit_and_lem true true = refl
bit_and_lem true false = refl
bit_and_lem false true = refl
bit_and_lem false false = refl

bit_or_lem : (x y : Bool) → xor (x && not y) y ≡ x || y
unfolding xor
bit_or_lem true true = refl
bit_or_lem true false = refl
bit_or_lem false true = refl
bit_or_lem false false = refl

-- b is 0 where the second place is the one that is always 0
bit-plain : (k a c : ℕ) → k < 16 → bit_at k (form_word a 0 c) ≡ xor (bit_at k a) (bit_at k c)
bit-plain k a c h = xor_bit k (bit_and a 65535) c ∙ ap (λ (t : Bool). xor t (bit_at k c)) (and_bit k a 65535 ∙ by (bit_at k a) (not_bit k 0 h))
  where
    by : (x : Bool) → bit_at k 65535 ≡ not (bit_at k 0) → x && bit_at k 65535 ≡ x
    by true e = e ∙ ap not (zero_bit k)
      where
        zero_bit : (k : ℕ) → bit_at k 0 ≡ false
        zero_bit k = ap (λ (t : ℕ). eqb t 1) (lane_zero_lem k)
    by false e = refl

pub form_and : (a b : ℕ) → a < 65536 → b < 65536 → form_word a b a ≡ bit_and a b
form_and a b h l = number_only (form_word a b a) (bit_and a b) (form_low a b a h l h) (and_lt 16 a b h l) (λ k q. same_bit k (form_word a b a) (bit_and a b) (form_bit k a b a q ∙ bit_and_lem (bit_at k a) (bit_at k b) ∙ sym (and_bit k a b)))

pub form_or : (a b : ℕ) → a < 65536 → b < 65536 → form_word a b b ≡ bit_or a b
form_or a b h l = number_only (form_word a b b) (bit_or a b) (form_low a b b h l l) (or_lt 16 a b h l) (λ k q. same_bit k (form_word a b b) (bit_or a b) (form_bit k a b b q ∙ bit_or_lem (bit_at k a) (bit_at k b) ∙ sym (or_bit k a b)))

pub form_xor : (a b : ℕ) → a < 65536 → b < 65536 → form_word a 0 b ≡ bit_xor a b
form_xor a b h l = number_only (form_word a 0 b) (bit_xor a b) (form_low a 0 b h (omega arith) l) (xor_lt 16 a b h l) (λ k q. same_bit k (form_word a 0 b) (bit_xor a b) (bit-plain k a b q ∙ sym (xor_bit k a b)))

-- ---- a gate by its entry

-- what it reads second and third, once the places are looked up
abbrev pub second_word : ℕ → ℕ → ℕ
second_word e b = cond (eqb e xor_entry) 0 (cond (eqb e inverter_entry) 0 b)

abbrev pub third_word : ℕ → ℕ → ℕ → ℕ
third_word e a b = cond (eqb e inverter_entry) 65535 (cond (eqb e or_entry) b (cond (eqb e xor_entry) b a))

module _ (e a b : ℕ) (l : kinds_from ≤ e) (h : a < 65536) (k : b < 65536) where
  abbrev kind : Bool → Bool → Bool → ℕ
  kind x y z = cond x (bit_or a b) (cond y (bit_xor a b) (cond z (bit_xor a 65535) (bit_and a b)))

  abbrev formed : Bool → Bool → Bool → ℕ
  formed x y z = form_word a (cond y 0 (cond z 0 b)) (cond z 65535 (cond x b (cond y b a)))

  by : (x y z : Bool) → eqb e or_entry ≡ x → eqb e xor_entry ≡ y → eqb e inverter_entry ≡ z → formed x y z ≡ kind x y z → form_word a (second_word e b) (third_word e a b) ≡ gate_word (e - kinds_from) a b
  by x y z p q r f =
      ap (λ (t : Bool). formed (eqb e or_entry) (eqb e xor_entry) t) r ∙ ap (λ (t : Bool). formed (eqb e or_entry) t z) q ∙ ap (λ (t : Bool). formed t y z) p ∙ f
      ∙ sym (ap (λ (t : Bool). kind (eqb e or_entry) (eqb e xor_entry) t) r ∙ ap (λ (t : Bool). kind (eqb e or_entry) t z) q ∙ ap (λ (t : Bool). kind t y z) p)
      ∙ value-is e a b _ _ _ l refl refl refl

  -- the form shows what the gate shows
  pub form_gate : form_word a (second_word e b) (third_word e a b) ≡ gate_word (e - kinds_from) a b
  form_gate = elim (ℕ_discrete e or_entry) [
    | yes q ↦ by true false false (eq-eqb e or_entry q) (ne_eqb e xor_entry (λ z. omega arith)) (ne_eqb e inverter_entry (λ z. omega arith)) (form_or a b h k)
    | no d ↦ elim (ℕ_discrete e xor_entry) [
      | yes q ↦ by false true false (ne_eqb e or_entry d) (eq-eqb e xor_entry q) (ne_eqb e inverter_entry (λ z. omega arith)) (form_xor a b h k)
      | no f ↦ elim (ℕ_discrete e inverter_entry) [
        | yes q ↦ by false false true (ne_eqb e or_entry d) (ne_eqb e xor_entry f) (eq-eqb e inverter_entry q) (form_xor a 65535 h (omega arith))
        | no g ↦ by false false false (ne_eqb e or_entry d) (ne_eqb e xor_entry f) (ne_eqb e inverter_entry g) (form_and a b h k)
      ]
    ]
  ]
