-- A tick, and ticks one after the other. Assumes nothing.
use Prim.Native.Nat.{ℕ, zero, suc, ◌+◌, ◌*◌, ◌/◌, ◌%◌, ◌≤◌, ◌<◌}
use mathlib.Core.Path.{◌≡◌, refl, sym, ap, ◌∙◌, subst}
use mathlib.Core.Bool.{cond}
use mathlib.Core.List.{List}
use native.Mathlib.Omega.{arith}
use native.Mathlib.Nat.{suc-mul, mul-le-mul_right}
use native.Mathlib.Numerals.{add-one}
use lib.Dec.{eqb}
use Rattle.lean.specs.Table.{Within}
use Rattle.lean.proofs.TableLaws.{within_then}
use Rattle.trace_steps.specs.Map.{pins_at}
use Rattle.trace_steps.specs.Turns.{take_turns, Looped}
use Rattle.trace_steps.specs.Steps.{Ordered, Registers, hold_one, turn_one}
use Rattle.trace_steps.specs.Words.{word_pass}
use Rattle.trace_steps.specs.Pins.{Counted, counted, in_pin_count, out_pin_count, PinsLow, load_one, word_store, Loading, Storing}
use Rattle.trace_steps.specs.Ticks.{Sizes, sizes, word_lighted, word_ticked, word_shown, Runs, Ticked, running, word_tick, Ran}
use Rattle.trace_steps.proofs.Laws.{ordered_at, register_at_lem, turns_next}

-- ---- what stays where nothing below the bits changes

pub ordered_within : {u w : List ℕ} {n : ℕ} → Within u w → Ordered u n → Ordered w n
ordered_within i o = record { size = let z = o.size in let s = i.size in omega arith; few = o.few; looks = λ j h. ordered_at i o j h }

pub registers-within : {u w : List ℕ} {n : ℕ} → Within u w → Registers u n → Registers w n
registers-within i r = record { size = let z = r.size in let s = i.size in omega arith; few = r.few; each = λ j h. register_at_lem i r j h }

pub pins_within : {u w : List ℕ} {n : ℕ} → Within u w → PinsLow u n → PinsLow w n
pins_within i p = record {
  size = let z = p.size in let s = i.size in omega arith;
  few = p.few;
  low = λ k h. let f = p.few in subst (λ (x : ℕ). x / 2 < 8192) (sym (i.below (pins_at + k) (omega arith))) (p.low k h);
}

pub runs-within : {u w : List ℕ} {s r p : ℕ} → Within u w → Runs u s r p → Runs w s r p
runs-within i q = record { order = ordered_within i q.order; registers = registers-within i q.registers; pins = pins_within i q.pins }

pub ins-within : (u w : List ℕ) → Within u w → (n : ℕ) → n ≤ 128 → in_pin_count w n ≡ in_pin_count u n
ins-within u w i zero h = refl
ins-within u w i (suc n) h =
    let r = ins-within u w i n (omega arith) in
    let e = ap {B = ℕ} (λ (x : ℕ). cond (eqb (x % 2) 0) 1 0) (i.below (pins_at + n) (omega arith)) in
    omega arith

pub outs-within : (u w : List ℕ) → Within u w → (n : ℕ) → n ≤ 128 → out_pin_count w n ≡ out_pin_count u n
outs-within u w i zero h = refl
outs-within u w i (suc n) h =
    let r = outs-within u w i n (omega arith) in
    let e = ap {B = ℕ} (λ (x : ℕ). cond (eqb (x % 2) 0) 0 1) (i.below (pins_at + n) (omega arith)) in
    omega arith

-- ---- a tick

pub tick_is : (g : ℕ → ℕ) (s r p : ℕ) (bits : List ℕ) (from to : ℕ) (u out₀ a b c d out : List ℕ) (i o : ℕ)
    → Loading bits u from p a i → Looped word_pass s a b → Storing g b out₀ to p out o → Looped hold_one r b c → Looped turn_one r c d
    → Ticked g (sizes s r p) bits from to u out₀ d out
unfolding word_lighted word_ticked word_shown
tick_is g s r p bits from to u out₀ a b c d out i o l m q h t =
    let e : b ≡ take_turns word_pass s 0 (take_turns (load_one bits) p 0 (counted u from)).mem = m.whole ∙ ap (λ (x : Counted). take_turns word_pass s 0 x.mem) l.whole in
    record {
      within = within_then (within_then (within_then l.within m.within) h.within) t.within;
      memory = t.whole ∙ ap (take_turns turn_one r 0) (h.whole ∙ ap (take_turns hold_one r 0) e);
      size = q.size;
      bytes = ap (λ (x : Counted). x.mem) q.whole ∙ ap (λ (x : List ℕ). (take_turns (word_store g x) p 0 (counted out₀ to)).mem) e;
    }

-- ---- ticks one after the other

pub ran-next : (g : ℕ → ℕ) (z : Sizes) (bits : List ℕ) (i o t : ℕ) (u out₀ w out v w' : List ℕ) → Ran g z bits i o t u out₀ w out → Ticked g z bits (t * i) (t * o) w out w' v
    → Ran g z bits i o (t + 1) u out₀ w' v
ran-next g z bits i o t u out₀ w out v w' r k = record {
  within = within_then r.within k.within;
  size = k.size ∙ r.size;
  whole = both k.memory k.bytes ∙ turns_next (word_tick g z bits i o) t (running u out₀) (running w out) r.whole;
}
  where
    both : {a a' b b' : List ℕ} → a ≡ a' → b ≡ b' → running a b ≡ running a' b'
    both {a} {a'} {b} {b'} p q = ap (λ (x : List ℕ). running x b) p ∙ ap (λ (y : List ℕ). running a' y) q

pub fits_next : (t n i a : ℕ) → t < n → n * i ≤ a → t * i + i ≤ a
fits_next t n i a h l = omega (arith, mul-le-mul_right {m = suc t} {n = n} i h, suc-mul t i)

pub next_mul : (t i : ℕ) → t * i + i ≡ (t + 1) * i
next_mul t i = sym (ap (λ (k : ℕ). k * i) (add-one t) ∙ suc-mul t i)

pub zero_mul : (i : ℕ) → 0 ≡ 0 * i
zero_mul i = omega arith
