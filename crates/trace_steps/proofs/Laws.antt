-- Laws of loops, and of a memory of which only the marks and bits change. Assumes nothing.
use Prim.Native.Nat.{ℕ, zero, suc, ◌+◌, ◌-◌, ◌≤◌, ◌<◌}
use mathlib.Core.Path.{◌≡◌, sym, ap, ◌∙◌, subst}
use mathlib.Core.Logic.{◌≢◌}
use mathlib.Core.Bool.{Bool, true, false, cond, ◌&&◌}
use mathlib.Core.List.{List}
use native.Mathlib.Omega.{arith}
use native.Mathlib.Numerals.{add-one}
use lib.ListN.{get_or, set}
use lib.Seq.{get_or-set_other}
use lib.Bits.{bit_and, bit_or, bit_xor}
use lib.Dec.{eqb, ltb}
use borrow.Author.Tests.{lt-ltb, le-ltb, eq-eqb, ne_eqb}
use native.Mathlib.Decide.{ℕ_discrete}
use Rattle.lean.specs.Table.{Within}
use Rattle.lean.specs.Layout.{kinds_from}
use Rattle.trace_steps.specs.Map.{registers_at, order_at, bits_at, inverter_entry}
use Rattle.trace_steps.specs.Turns.{take_turns}
use Rattle.trace_steps.specs.Steps.{first_in, input_bit, ready_in, Looks, Ordered, Register, Registers, hold_at, turn_at, clock_at, hold_one, turn_one, clock_one, wake_one}
use Rattle.trace_steps.specs.Words.{chosen_word, input_word, gate_word, word_step, word_pass}
use Rattle.lean.proofs.TableLaws.{within_then, within-set}

-- a store elsewhere
pub set_other : (w : List ℕ) (i j v : ℕ) → (j ≡ i → ⊥) → get_or (set w i v) j 0 ≡ get_or w j 0
set_other w i j v d = let ne : j ≢ i = d in get_or-set_other w i j v 0 ne

turns_snoc : {S : Type 0} (f : ℕ → S → S) (j x : ℕ) (s : S) → take_turns f (suc j) x s ≡ f (x + j) (take_turns f j x s)
turns_snoc f zero x s = let e : x + 0 ≡ x = omega arith in rw e
turns_snoc f (suc j) x s = let e : x + suc j ≡ x + 1 + j = omega arith in rw e (turns_snoc f j (x + 1) (f x s))

-- one turn more
pub turns_next : {S : Type 0} (f : ℕ → S → S) (j : ℕ) (s t : S) → t ≡ take_turns f j 0 s → f j t ≡ take_turns f (j + 1) 0 s
turns_next {S} f j s t q =
    let e : 0 + j ≡ j = omega arith in
    ap (f j) q ∙ sym (ap (λ (k : ℕ). take_turns f k 0 s) (add-one j) ∙ turns_snoc f j 0 s ∙ ap (λ (k : ℕ). f k (take_turns f j 0 s)) e)

-- all turns
pub turns-all : {S : Type 0} (f : ℕ → S → S) (j n : ℕ) (s t : S) → j ≡ n → t ≡ take_turns f j 0 s → t ≡ take_turns f n 0 s
turns-all f j n s t e q = q ∙ ap (λ (k : ℕ). take_turns f k 0 s) e

first_le : (w : List ℕ) (o : ℕ) → first_in w o ≤ o
first_le w o = by (ltb (get_or w o 0) inverter_entry)
  where
    by : (b : Bool) → cond b (o - 2) (o - 1) ≤ o
    by true = omega arith
    by false = omega arith

pub first_low : (w : List ℕ) (o : ℕ) → o < 8192 → first_in w o < 8192
first_low w o h = omega (arith, first_le w o)

pub first-same : {u w : List ℕ} → Within u w → (o : ℕ) → o < 8192 → first_in w o ≡ first_in u o
first-same i o h = ap (λ (k : ℕ). cond (ltb k inverter_entry) (o - 2) (o - 1)) (i.below o (omega arith))

pub looks-within : {u w : List ℕ} → Within u w → {o : ℕ} → Looks u o → Looks w o
looks-within {u} {w} i {o} l =
    let h = l.low in
    let e = i.below o (omega arith) in
    let f = first-same i o h in
    let g = i.below (first_in u o) (omega (arith, first_low u o h)) in
    let q = ap (λ (k : ℕ). get_or w k 0) f in
    let r = i.below (o - 1) (omega arith) in record {
      size = let s = i.size in let z = l.size in omega arith;
      low = h;
      some = l.some;
      kind = let z = l.kind in omega arith;
      two = λ t. l.two (omega arith);
      first = let z = l.first in omega arith;
      last = let z = l.last in omega arith;
    }

pub ordered_at : {u w : List ℕ} {n : ℕ} → Within u w → Ordered u n → (j : ℕ) → j < n → Looks w (get_or w (order_at + j) 0)
ordered_at {u} {w} i o j h = let f = o.few in subst (λ (k : ℕ). Looks w k) (sym (i.below (order_at + j) (omega arith))) (looks-within i (o.looks j h))

pub register-within : {u w : List ℕ} → Within u w → {o : ℕ} → Register u o → Register w o
register-within i {o} r = let h = r.low in let e = i.below (o - 1) (omega arith) in let s = r.source in record { low = h; some = r.some; source = omega arith }

pub register_at_lem : {u w : List ℕ} {n : ℕ} → Within u w → Registers u n → (j : ℕ) → j < n → Register w (get_or w (registers_at + j) 0)
register_at_lem {u} {w} i r j h = let f = r.few in subst (λ (k : ℕ). Register w k) (sym (i.below (registers_at + j) (omega arith))) (register-within i (r.each j h))

pub first_two : (w : List ℕ) (o : ℕ) → get_or w o 0 < inverter_entry → o - 2 ≡ first_in w o
first_two w o h = rw (lt-ltb (get_or w o 0) inverter_entry h)

pub first_one : (w : List ℕ) (o : ℕ) → inverter_entry ≤ get_or w o 0 → o - 1 ≡ first_in w o
first_one w o h = rw (le-ltb (get_or w o 0) inverter_entry h)

-- ---- a conjunction

pub all_yes : (a b : Bool) → a ≡ true → b ≡ a && b
all_yes a b e = rw e

pub all_no : (a b : Bool) → a ≡ false → a ≡ a && b
all_no a b e = rw e

pub both-fed : (w : List ℕ) (o x : ℕ) (a b : Bool) → x ≡ first_in w o → a ≡ input_bit w x → b ≡ input_bit w (o - 1) → a && b ≡ ready_in w o
both-fed w o x a b e f g = rw (f, g, e)

-- a gate's number, chosen kind after kind; the kinds stand from `kinds_from` on
kind_is : (e c : ℕ) → kinds_from ≤ e → eqb e (kinds_from + c) ≡ eqb (e - kinds_from) c
kind_is e c l = elim (ℕ_discrete e (kinds_from + c)) [
  | yes q ↦ eq-eqb e (kinds_from + c) q ∙ sym (eq-eqb (e - kinds_from) c (omega arith))
  | no d ↦ ne_eqb e (kinds_from + c) d ∙ sym (ne_eqb (e - kinds_from) c (λ z. d (omega arith)))
]

pub value-is : (e a b p q r : ℕ) → kinds_from ≤ e → p ≡ chosen_word (eqb e 65525) (bit_xor a 65535) (bit_and a b) → q ≡ chosen_word (eqb e 65524) (bit_xor a b) p → r ≡ chosen_word (eqb e 65523) (bit_or a b) q
    → r ≡ gate_word (e - kinds_from) a b
value-is e a b p q r l f g h =
    h ∙ ap (λ (t : Bool). cond t (bit_or a b) q) (kind_is e 3 l)
    ∙ ap (cond (eqb (e - kinds_from) 3) (bit_or a b)) (g ∙ ap (λ (t : Bool). cond t (bit_xor a b) p) (kind_is e 4 l)
    ∙ ap (cond (eqb (e - kinds_from) 4) (bit_xor a b)) (f ∙ ap (λ (t : Bool). cond t (bit_xor a 65535) (bit_and a b)) (kind_is e 5 l)))

-- the number that output o gets
pub step_is : (w : List ℕ) (o x a b v : ℕ) → x ≡ first_in w o → a ≡ input_word w x → b ≡ input_word w (o - 1) → v ≡ gate_word (get_or w o 0 - kinds_from) a b → set w (bits_at + o) v ≡ word_step w o
step_is w o x a b v e f g h = rw (h, f, g, e)

-- ---- one of four

-- ---- loops over a memory of which only the marks and bits change

pub loop_step : (f : ℕ → List ℕ → List ℕ) (u w v : List ℕ) (j : ℕ) → Within u w → w ≡ take_turns f j 0 u → v ≡ f j w → Within w (f j w)
    → Within u v × (v ≡ take_turns f (j + 1) 0 u)
loop_step f u w v j i q e k = (subst (λ (z : List ℕ). Within u z) (sym e) (within_then i k), e ∙ turns_next f j u w q)

pub hold_within : (w : List ℕ) (j : ℕ) → Register w (get_or w (registers_at + j) 0) → Within w (hold_one j w)
hold_within w j r = let l = r.low in within-set w (get_or w (registers_at + j) 0 - 1) _ (omega arith)

pub turn_within : (w : List ℕ) (j : ℕ) → Register w (get_or w (registers_at + j) 0) → Within w (turn_one j w)
turn_within w j r = within-set w (get_or w (registers_at + j) 0) _ r.low

pub clock_within : (turning : Bool) (w : List ℕ) (j : ℕ) → Register w (get_or w (registers_at + j) 0) → Within w (clock_one turning j w)
clock_within false = hold_within
clock_within true = turn_within

pub clock_is : (turning : Bool) (w : List ℕ) (j o : ℕ) → o ≡ get_or w (registers_at + j) 0 → clock_at turning w o ≡ clock_one turning j w
clock_is false w j o e = ap (hold_at w) e
clock_is true w j o e = ap (turn_at w) e

pub wake_within : (starts w : List ℕ) (j : ℕ) → Register w (get_or w (registers_at + j) 0) → Within w (wake_one starts j w)
wake_within starts w j r = within-set w (get_or w (registers_at + j) 0) _ r.low

pub pass_within : (w : List ℕ) (j : ℕ) → Looks w (get_or w (order_at + j) 0) → Within w (word_pass j w)
pass_within w j r = within-set w (get_or w (order_at + j) 0) _ r.low
