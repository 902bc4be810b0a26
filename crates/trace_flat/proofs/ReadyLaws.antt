-- A layout that was made is one that a tick can go over. Assumes nothing.
use Prim.Native.Nat.{ℕ, zero, suc, ◌+◌, ◌-◌, ◌≤◌, ◌<◌}
use mathlib.Core.Path.{◌≡◌, refl, sym, ap, ◌∙◌, subst}
use mathlib.Core.Logic.{inl, inr}
use mathlib.Core.Bool.{Bool, true, false, cond}
use mathlib.Core.List.{List}
use native.Mathlib.Omega.{arith}
use native.Mathlib.Decide.{ℕ_discrete}
use lib.Dec.{eqb}
use lib.ListN.{length, get_or, set}
use Rattle.memory.specs.Map.{memory_size}
use Rattle.lean.specs.Table.{Within}
use Rattle.lean.proofs.TableLaws.{within_none, within_then, within-set, entry-same, entry_other}
use Rattle.trace_steps.specs.Map.{registers_at, order_at, bits_at, inverter_entry}
use Rattle.trace_steps.specs.Turns.{take_turns}
use Rattle.trace_steps.specs.Steps.{first_in}
use Rattle.trace_steps.specs.Words.{word_at}
use Rattle.trace_steps.specs.Pins.{pin_is_in, in_pin_count, out_pin_count}
use Rattle.trace_steps.proofs.Laws.{turns_next, ordered_at, register_at_lem}
use Rattle.trace_steps.proofs.TickLaws.{pins_within}
use Rattle.trace_flat.specs.Flat.{shown_at, gates_at, ins_at, outs_at, zero_at, one_at, place_one, place_register, place_gate, or_entry, xor_entry}
use Rattle.trace_flat.specs.FlatTicks.{Place, Flat, FlatLaid, Layable}
use Rattle.trace_flat.proofs.Laws.{ins-few, outs-few}
use Rattle.trace_flat.proofs.CellLaws.{place-low}

-- the first k terminals have places
record Placing (u : List ℕ) (k : ℕ) (w : List ℕ) : Type 0 where
  within : Within u w
  place : (x : ℕ) → x < k → Place (word_at w x)

-- a place more among the bits
placing_set : (u w : List ℕ) (k o y : ℕ) → memory_size ≤ length u → k ≤ 8192 → o < 8192 → Place y → Placing u k w → Placing u k (set w (bits_at + o) y)
placing_set u w k o y z few low q s = let t = s.within.size in record {
  within = within_then s.within (within-set w o y low);
  place = λ x h. elim (ℕ_discrete x o) [
    | yes d ↦ subst Place (sym (ap (word_at (set w (bits_at + o) y)) d ∙ entry-same w o y (omega arith) low)) q
    | no d ↦ subst Place (sym (entry_other w o x y d)) (s.place x h)
  ];
}

own-places : (u : List ℕ) → memory_size ≤ length u → (k : ℕ) → k ≤ 8192 → Placing u k (take_turns place_one k 0 u)
own-places u z zero h = record { within = within_none u; place = λ x q. absurd (omega arith) }
own-places u z (suc k) h =
    let s = own-places u z k (omega arith) in
    let w = take_turns place_one k 0 u in
    let e : k + 1 ≡ suc k = omega arith in
    let t = s.within.size in
    subst (λ (v : List ℕ). Placing u (suc k) v) (turns_next place_one k u w refl ∙ ap (λ (m : ℕ). take_turns place_one m 0 u) e) (record {
      within = within_then s.within (within-set w k _ (omega arith));
      place = λ x q. elim (ℕ_discrete x k) [
        | yes d ↦ subst Place (sym (ap (word_at (place_one k w)) d ∙ entry-same w k _ (omega arith) (omega arith))) (inr (inl (omega arith, omega arith)))
        | no d ↦ subst Place (sym (entry_other w k x _ d)) (s.place x (omega arith))
      ];
    })

module _ (u : List ℕ) (end n r p : ℕ) (l : Layable u end n r p) where
  register-places : (w : List ℕ) → Placing u 8192 w → (k : ℕ) → k ≤ r → Placing u 8192 (take_turns place_register k 0 w)
  register-places w s zero h = s
  register-places w s (suc k) h =
      let a = register-places w s k (omega arith) in
      let v = take_turns place_register k 0 w in
      let e : k + 1 ≡ suc k = omega arith in
      let few = l.few_registers in
      let low = (register_at_lem a.within l.registers k h).low in
      subst (λ (t : List ℕ). Placing u 8192 t) (turns_next place_register k w v refl ∙ ap (λ (m : ℕ). take_turns place_register m 0 w) e)
      (placing_set u v 8192 (get_or v (registers_at + k) 0) (shown_at + k) l.size (omega arith) low (inl (omega arith, omega arith)) a)

  gate-places : (w : List ℕ) → Placing u 8192 w → (k : ℕ) → k ≤ n → Placing u 8192 (take_turns place_gate k 0 w)
  gate-places w s zero h = s
  gate-places w s (suc k) h =
      let a = gate-places w s k (omega arith) in
      let v = take_turns place_gate k 0 w in
      let e : k + 1 ≡ suc k = omega arith in
      let few = l.few_gates in
      let low = (ordered_at a.within l.order k h).low in
      subst (λ (t : List ℕ). Placing u 8192 t) (turns_next place_gate k w v refl ∙ ap (λ (m : ℕ). take_turns place_gate m 0 w) e)
      (placing_set u v 8192 (get_or v (order_at + k) 0) (gates_at + k) l.size (omega arith) low (inr (inr (omega arith, omega arith))) a)

  all-places : (m : List ℕ) → m ≡ take_turns place_gate n 0 (take_turns place_register r 0 (take_turns place_one 8192 0 u)) → Placing u 8192 m
  all-places m e = subst (λ (t : List ℕ). Placing u 8192 t) (sym e) (gate-places _ (register-places _ (own-places u l.size 8192 (omega arith)) r (omega arith)) n (omega arith))

-- ---- the i-th input pin is some pin

in_pin : (w : List ℕ) (p i : ℕ) → i < in_pin_count w p → (k : ℕ) × (k < p) × ((pin_is_in w k ≡ true) × (in_pin_count w k ≡ i))
in_pin w zero i h = absurd (omega arith)
in_pin w (suc p) i h = by (pin_is_in w p) refl h (λ q. in_pin w p i q)
  where
    by : (b : Bool) → pin_is_in w p ≡ b → i < in_pin_count w p + cond b 1 0 → (i < in_pin_count w p → (k : ℕ) × (k < p) × ((pin_is_in w k ≡ true) × (in_pin_count w k ≡ i))) → (k : ℕ) × (k < suc p) × ((pin_is_in w k ≡ true) × (in_pin_count w k ≡ i))
    by true e q f = elim (ℕ_discrete (in_pin_count w p) i) [
      | yes d ↦ (p, omega arith, (e, d))
      | no d ↦ (let s = f (omega arith) in let t = s.1 in (s.0, omega arith, s.2))
    ]
    by false e q f = let s = f (omega arith) in let t = s.1 in (s.0, omega arith, s.2)

out_pin : (w : List ℕ) (p i : ℕ) → i < out_pin_count w p → (k : ℕ) × (k < p) × ((pin_is_in w k ≡ false) × (out_pin_count w k ≡ i))
out_pin w zero i h = absurd (omega arith)
out_pin w (suc p) i h = by (pin_is_in w p) refl h (λ q. out_pin w p i q)
  where
    by : (b : Bool) → pin_is_in w p ≡ b → i < out_pin_count w p + cond b 0 1 → (i < out_pin_count w p → (k : ℕ) × (k < p) × ((pin_is_in w k ≡ false) × (out_pin_count w k ≡ i))) → (k : ℕ) × (k < suc p) × ((pin_is_in w k ≡ false) × (out_pin_count w k ≡ i))
    by false e q f = elim (ℕ_discrete (out_pin_count w p) i) [
      | yes d ↦ (p, omega arith, (e, d))
      | no d ↦ (let s = f (omega arith) in let t = s.1 in (s.0, omega arith, s.2))
    ]
    by true e q f = let s = f (omega arith) in let t = s.1 in (s.0, omega arith, s.2)

chosen-low : (b : Bool) (x y : ℕ) → x < memory_size → y < memory_size → cond b x y < memory_size
chosen-low true x y h k = h
chosen-low false x y h k = k

-- what a tick asks holds after the layout
pub laid_ready : (u : List ℕ) (end n r p : ℕ) (v : List ℕ) → Layable u end n r p → (d : FlatLaid u end n r p v) → Flat v n r (in_pin_count d.m p) (out_pin_count d.m p)
laid_ready u end n r p v l d =
    let s = all-places u end n r p l d.m d.placed in
    let zv = d.size in
    let zl = l.size in
    let few = l.few_gates in
    let pins = pins_within d.within l.pins in
    let pfew = pins.few in
    let fi = ins-few d.m p in
    let fo = outs-few d.m p in
    let place : (x : ℕ) → x < 8192 → word_at d.m x < memory_size = λ x h. place-low (word_at d.m x) (s.place x h) in
    record {
      size = omega arith;
      gates = record {
        size = omega arith;
        few = few;
        each = λ j h.
            let look = ordered_at d.within l.order j h in
            let a = place (get_or d.m (first_in d.m (get_or d.m (order_at + j) 0)) 0) look.first in
            let b = place (get_or d.m (get_or d.m (order_at + j) 0 - 1) 0) look.last in
            let e = get_or d.m (get_or d.m (order_at + j) 0) 0 in
            record {
              size = omega arith;
              few = omega arith;
              first = subst (λ (y : ℕ). y < memory_size) (sym (d.first j h)) a;
              second = subst (λ (y : ℕ). y < memory_size) (sym (d.second j h)) (chosen-low (eqb e xor_entry) zero_at _ (omega arith) (chosen-low (eqb e inverter_entry) zero_at _ (omega arith) b));
              third = subst (λ (y : ℕ). y < memory_size) (sym (d.third j h)) (chosen-low (eqb e inverter_entry) one_at _ (omega arith) (chosen-low (eqb e or_entry) _ _ b (chosen-low (eqb e xor_entry) _ _ b a)));
            };
      };
      sources = record { size = omega arith; few = l.few_registers; each = λ j h. subst (λ (y : ℕ). y < memory_size) (sym (d.source j h)) (place _ (register_at_lem d.within l.registers j h).source) };
      few_in = omega arith;
      few_out = omega arith;
      ins = λ i h. let q = in_pin d.m p i h in subst (λ (y : ℕ). Place (get_or v (ins_at + y) 0)) q.2.1 (subst Place (sym (d.ins q.0 q.1 q.2.0)) (s.place _ (pins.low q.0 q.1)));
      outs = λ i h. let q = out_pin d.m p i h in subst (λ (y : ℕ). get_or v (outs_at + y) 0 < memory_size) q.2.1 (subst (λ (y : ℕ). y < memory_size) (sym (d.outs q.0 q.1 q.2.0)) (place _ (pins.low q.0 q.1)));
    }
