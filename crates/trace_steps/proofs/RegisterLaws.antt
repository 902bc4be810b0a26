-- The registers' outputs, one after the other. No two are next to each other, so there are few. Assumes nothing.
use Prim.Native.Nat.{ℕ, ◌+◌, ◌-◌, ◌*◌, ◌≤◌, ◌<◌}
use mathlib.Core.Path.{◌≡◌, refl, sym, ap, ◌∙◌, subst}
use mathlib.Core.Bool.{Bool, cond}
use mathlib.Core.List.{List}
use native.Mathlib.Omega.{arith}
use native.Mathlib.Decide.{ℕ_discrete}
use lib.ListN.{length, get_or, set, length-set}
use lib.Seq.{get_or-set_same}
use borrow.Author.Tests.{eq-eqb, ne_eqb}
use Rattle.trace_steps.specs.Map.{registers_at, order_at, register_entry}
use Rattle.trace_steps.specs.Turns.{take_turns}
use Rattle.trace_steps.specs.Steps.{Register}
use Rattle.trace_steps.specs.Pins.{counted, register_one, Listable, RegistersListed}
use Rattle.trace_steps.proofs.Laws.{turns_next, set_other}

pub record Listing (u : List ℕ) (x : ℕ) (w : List ℕ) (n : ℕ) : Type 0 where
  pub size : length w ≡ length u
  pub table : (y : ℕ) → y < 8192 → get_or w y 0 ≡ get_or u y 0
  pub above : (j : ℕ) → order_at ≤ j → get_or w j 0 ≡ get_or u j 0
  pub each : (j : ℕ) → j < n → Register u (get_or w (registers_at + j) 0)
  pub half : 2 * n ≤ x + 1
  pub free : (get_or u (x - 1) 0 ≡ register_entry → ⊥) → 2 * n ≤ x
  pub whole : counted w n ≡ take_turns register_one x 0 (counted u 0)

pub listing_start : (u : List ℕ) → Listing u 0 u 0
listing_start u = record { size = refl; table = λ y l. refl; above = λ j l. refl; each = λ j l. absurd (omega arith); half = omega arith; free = λ d. omega arith; whole = refl }

module _ (u : List ℕ) (end x : ℕ) (w : List ℕ) (n : ℕ) (p : Listable u end) (h : x < end) (l : Listing u x w n) where
  there : get_or w x 0 ≡ get_or u x 0
  there = let f = p.few in l.table x (omega arith)

  apart : Register u x → get_or u (x - 1) 0 ≡ register_entry → ⊥
  apart r e = let z = r.source in omega arith

  pub listing_yes : get_or w x 0 ≡ register_entry → Listing u (x + 1) (set w (registers_at + n) x) (n + 1)
  listing_yes e =
      let f = p.few in
      let z = p.size in
      let s = l.size in
      let r = p.register x h (sym there ∙ e) in
      let k = l.free (apart r) in
      let back : x + 1 - 1 ≡ x = omega arith in
      record {
        size = length-set w (registers_at + n) x ∙ l.size;
        table = λ y m. set_other w (registers_at + n) y x (λ q. omega arith) ∙ l.table y m;
        above = λ j m. set_other w (registers_at + n) j x (λ q. omega arith) ∙ l.above j m;
        each = λ j m. elim (ℕ_discrete j n) [
          | yes q ↦ subst (λ (y : ℕ). Register u y) (sym (ap (λ (i : ℕ). get_or (set w (registers_at + n) x) (registers_at + i) 0) q ∙ get_or-set_same w (registers_at + n) x 0 (omega arith))) r
          | no d ↦ subst (λ (y : ℕ). Register u y) (sym (set_other w (registers_at + n) (registers_at + j) x (λ q. d (omega arith)))) (l.each j (omega arith))
        ];
        half = omega arith;
        free = λ d. absurd (d (ap (λ (y : ℕ). get_or u y 0) back ∙ sym there ∙ e));
        whole = sym (ap (λ (b : Bool). cond b (counted (set w (registers_at + n) x) (n + 1)) (counted w n)) (eq-eqb (get_or w x 0) register_entry e)) ∙ turns_next register_one x (counted u 0) (counted w n) l.whole;
      }

  pub listing_no : (get_or w x 0 ≡ register_entry → ⊥) → Listing u (x + 1) w n
  listing_no d = let k = l.half in record {
    size = l.size;
    table = l.table;
    above = l.above;
    each = l.each;
    half = omega arith;
    free = λ q. omega arith;
    whole = sym (ap (λ (b : Bool). cond b (counted (set w (registers_at + n) x) (n + 1)) (counted w n)) (ne_eqb (get_or w x 0) register_entry d)) ∙ turns_next register_one x (counted u 0) (counted w n) l.whole;
  }

pub listing-end : (u : List ℕ) (end x : ℕ) (w : List ℕ) (n : ℕ) → Listable u end → x ≡ end → Listing u x w n → RegistersListed u end w n
listing-end u end x w n p e l =
    let f = p.few in
    let z = p.size in
    let s = l.size in
    let k = l.half in
    record {
      size = l.size;
      table = l.table;
      above = l.above;
      registers = record {
        size = omega arith;
        few = omega arith;
        each = λ j m. let r = l.each j m in let b = r.low in let t = l.table (get_or w (registers_at + j) 0 - 1) (omega arith) in let c = r.source in record { low = b; some = r.some; source = omega arith };
      };
      whole = l.whole ∙ ap (λ (y : ℕ). take_turns register_one y 0 (counted u 0)) e;
    }
