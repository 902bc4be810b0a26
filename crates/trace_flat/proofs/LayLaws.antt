-- The layout, list after list: each stays while the next ones are made. Assumes nothing.
use Prim.Native.Nat.{ℕ, zero, suc, ◌+◌, ◌-◌, ◌/◌, ◌%◌, ◌≤◌, ◌<◌}
use mathlib.Core.Path.{◌≡◌, refl, sym, ap, ◌∙◌, subst}
use mathlib.Core.Bool.{true, false, cond}
use mathlib.Core.List.{List}
use native.Mathlib.Omega.{arith}
use native.Mathlib.Decide.{ℕ_discrete}
use lib.Dec.{eqb}
use lib.ListN.{length, get_or, set, length-set}
use lib.Seq.{get_or-set_same}
use Rattle.memory.specs.Map.{memory_size}
use Rattle.lean.specs.Table.{Within}
use Rattle.lean.proofs.TableLaws.{within_none, within_then, within-set, entry-same, entry_other}
use Rattle.trace_steps.specs.Map.{registers_at, order_at, pins_at, bits_at, one_entry}
use Rattle.trace_steps.specs.Turns.{take_turns, Looped}
use Rattle.trace_steps.specs.Steps.{Ordered, Registers}
use Rattle.trace_steps.specs.Words.{word_at, every_lane, word_begin}
use Rattle.trace_steps.specs.Pins.{pin_is_in, in_pin_count, out_pin_count, PinsLow}
use Rattle.trace_steps.proofs.Laws.{turns_next, set_other}
use Rattle.trace_steps.proofs.TickLaws.{registers-within, pins_within}
use Rattle.trace_flat.specs.Flat.{OnlyBetween, Stretched, Listed, flat_most, sources_at, next_at, first_at, second_at_lem, third_at, gates_at, ins_at, outs_at, zero_at, one_at, place_one, place_register, place_gate, last_place, GatesLaid, SourcesLaid, PinsLaid, dark_one}
use Rattle.trace_flat.specs.FlatTicks.{FlatLaid, Layable}
use Rattle.trace_flat.proofs.Laws.{between_none, between_then, between-set, ins-few, outs-few}

-- ---- what a list asks

pub registers-listed : {w : List ℕ} {n : ℕ} → n ≤ flat_most → Registers w n → Listed w registers_at n
registers-listed h r = record { size = r.size; before = omega arith; low = λ j k. (r.each j k).low }

pub ordered-listed : {w : List ℕ} {n : ℕ} → n ≤ flat_most → Ordered w n → Listed w order_at n
ordered-listed h o = record { size = o.size; before = omega arith; low = λ j k. (o.looks j k).low }

pub listed-low : {u w : List ℕ} {list n : ℕ} → Within u w → Listed u list n → (j : ℕ) → j < n → get_or w (list + j) 0 < 8192
listed-low {u} {w} {list} i a j h = let k = a.before in let e = i.below (list + j) (omega arith) in let l = a.low j h in omega arith

pub registers-laid : {u w : List ℕ} {n : ℕ} → OnlyBetween first_at gates_at u w → Registers u n → Registers w n
registers-laid {u} {w} b r = let s = b.size in let z = r.size in record {
  size = omega arith;
  few = r.few;
  each = λ j h.
      let few = r.few in
      let a = r.each j h in
      let e = b.below (registers_at + j) (omega arith) in
      let lo = a.low in
      let so = a.some in
      let f = b.below (get_or u (registers_at + j) 0 - 1) (omega arith) in
      let g = ap (λ (x : ℕ). get_or w (x - 1) 0) e in
      let k = a.source in
      record { low = omega arith; some = omega arith; source = omega arith };
}

pub pins_laid : {u v w : List ℕ} {n : ℕ} → OnlyBetween first_at gates_at u v → OnlyBetween sources_at next_at v w → PinsLow u n → PinsLow w n
pins_laid {u} {v} {w} a b p = let s = a.size in let t = b.size in let z = p.size in record {
  size = omega arith;
  few = p.few;
  low = λ k h. let few = p.few in subst (λ (x : ℕ). x / 2 < 8192) (sym (b.above (pins_at + k) (omega arith) ∙ a.below (pins_at + k) (omega arith))) (p.low k h);
}

-- ---- loops, seen at one number

pub begin-at : (u : List ℕ) (n : ℕ) → memory_size ≤ length u → n ≤ 8192 → (k : ℕ) → k ≤ n → Within u (take_turns word_begin k 0 u) × ((x : ℕ) → x < k → word_at (take_turns word_begin k 0 u) x ≡ every_lane (eqb (get_or u x 0) one_entry))
begin-at u n z l zero h = (within_none u, λ x q. absurd (omega arith))
begin-at u n z l (suc k) h =
    let r = begin-at u n z l k (omega arith) in
    let w = take_turns word_begin k 0 u in
    let e : k + 1 ≡ suc k = omega arith in
    let a = turns_next word_begin k u w refl ∙ ap (λ (m : ℕ). take_turns word_begin m 0 u) e in
    let s = r.0.size in
    subst (λ (v : List ℕ). Within u v × ((x : ℕ) → x < suc k → word_at v x ≡ every_lane (eqb (get_or u x 0) one_entry))) a (
      within_then r.0 (within-set w k _ (omega arith)),
      λ x q. elim (ℕ_discrete x k) [
        | yes d ↦ ap (word_at (word_begin k w)) d ∙ entry-same w k _ (omega arith) (omega arith) ∙ ap (λ (y : ℕ). every_lane (eqb y one_entry)) (r.0.below k (omega arith) ∙ ap (λ (y : ℕ). get_or u y 0) (sym d))
        | no d ↦ entry_other w k x _ d ∙ r.1 x (omega arith)
      ],
    )

dark-at : (u : List ℕ) (n : ℕ) → memory_size ≤ length u → n ≤ flat_most → (k : ℕ) → k ≤ n → OnlyBetween gates_at ins_at u (take_turns dark_one k 0 u) × ((j : ℕ) → j < k → get_or (take_turns dark_one k 0 u) (gates_at + j) 0 ≡ 0)
dark-at u n z l zero h = (between_none gates_at ins_at u, λ x q. absurd (omega arith))
dark-at u n z l (suc k) h =
    let r = dark-at u n z l k (omega arith) in
    let w = take_turns dark_one k 0 u in
    let e : k + 1 ≡ suc k = omega arith in
    let a = turns_next dark_one k u w refl ∙ ap (λ (m : ℕ). take_turns dark_one m 0 u) e in
    let s = r.0.size in
    subst (λ (v : List ℕ). OnlyBetween gates_at ins_at u v × ((j : ℕ) → j < suc k → get_or v (gates_at + j) 0 ≡ 0)) a (
      between_then r.0 (between-set gates_at ins_at w (gates_at + k) 0 (omega arith) (omega arith)),
      λ j q. elim (ℕ_discrete j k) [
        | yes d ↦ ap (λ (y : ℕ). get_or (dark_one k w) (gates_at + y) 0) d ∙ get_or-set_same w (gates_at + k) 0 0 (omega arith)
        | no d ↦ set_other w (gates_at + k) (gates_at + j) 0 (λ y. d (omega arith)) ∙ r.1 j (omega arith)
      ],
    )

-- ---- pins that stay

ins-same : (u w : List ℕ) → ((k : ℕ) → k < 128 → get_or w (pins_at + k) 0 ≡ get_or u (pins_at + k) 0) → (n : ℕ) → n ≤ 128 → in_pin_count w n ≡ in_pin_count u n
ins-same u w s zero h = refl
ins-same u w s (suc n) h = let r = ins-same u w s n (omega arith) in let e = ap {B = ℕ} (λ (x : ℕ). cond (eqb (x % 2) 0) 1 0) (s n (omega arith)) in omega arith

outs-same : (u w : List ℕ) → ((k : ℕ) → k < 128 → get_or w (pins_at + k) 0 ≡ get_or u (pins_at + k) 0) → (n : ℕ) → n ≤ 128 → out_pin_count w n ≡ out_pin_count u n
outs-same u w s zero h = refl
outs-same u w s (suc n) h = let r = outs-same u w s n (omega arith) in let e = ap {B = ℕ} (λ (x : ℕ). cond (eqb (x % 2) 0) 0 1) (s n (omega arith)) in omega arith

-- ---- all of it

module _ (u : List ℕ) (end n r p : ℕ) (l : Layable u end n r p) (m₁ m₂ m v₁ v₂ v₃ v₄ v₅ v : List ℕ) (a₁ : Looped place_one 8192 u m₁) (a₂ : Looped place_register r m₁ m₂) (a₃ : Looped place_gate n m₂ m)
    (g : GatesLaid m n v₁) (s : SourcesLaid v₁ r v₂) (q : PinsLaid v₂ p v₃) (b : Looped word_begin end v₃ v₄) (d : Stretched gates_at ins_at dark_one n v₄ v₅) (e : v ≡ set (set v₅ zero_at 0) one_at 65535) where
  within-m : Within u m
  within-m = within_then (within_then a₁.within a₂.within) a₃.within

  fits₃ : memory_size ≤ length v₃
  fits₃ = let z = l.size in let a = within-m.size in let b = g.between.size in let c = s.between.size in let f = q.between.size in omega arith

  fits₄ : memory_size ≤ length v₄
  fits₄ = let z = fits₃ in let a = b.within.size in omega arith

  fits₅ : memory_size ≤ length v₅
  fits₅ = let z = fits₄ in let a = d.between.size in omega arith

  -- below the two constants
  last : (j : ℕ) → (j ≡ zero_at → ⊥) → (j ≡ one_at → ⊥) → get_or v j 0 ≡ get_or v₅ j 0
  last j f h = ap (λ (w : List ℕ). get_or w j 0) e ∙ set_other (set v₅ zero_at 0) one_at j 65535 h ∙ set_other v₅ zero_at j 0 f

  in-lists : (j : ℕ) → first_at ≤ j → j < gates_at → get_or v j 0 ≡ get_or v₁ j 0
  in-lists j f h = last j (λ z. omega arith) (λ z. omega arith) ∙ d.between.below j h ∙ b.within.above j f ∙ q.between.below j (omega arith) ∙ s.between.above j (omega arith)

  in-sources : (j : ℕ) → j < next_at → get_or v j 0 ≡ get_or v₂ j 0
  in-sources j h = last j (λ z. omega arith) (λ z. omega arith) ∙ d.between.below j (omega arith) ∙ b.within.below j (omega arith) ∙ q.between.below j (omega arith)

  in-pins : (j : ℕ) → ins_at ≤ j → j < zero_at → get_or v j 0 ≡ get_or v₃ j 0
  in-pins j f h = last j (λ z. omega arith) (λ z. omega arith) ∙ d.between.above j f ∙ b.within.above j (omega arith)

  far : (j : ℕ) → memory_size ≤ j → get_or v j 0 ≡ get_or u j 0
  far j h =
      last j (λ z. omega arith) (λ z. omega arith) ∙ d.between.above j (omega arith) ∙ b.within.above j (omega arith) ∙ q.between.above j (omega arith) ∙ s.between.above j (omega arith)
      ∙ g.between.above j (omega arith) ∙ within-m.above j (omega arith)

  -- what m has below the lists is there until the bits begin
  pin₂ : (k : ℕ) → k < 128 → get_or v₂ (pins_at + k) 0 ≡ get_or m (pins_at + k) 0
  pin₂ k h = s.between.above (pins_at + k) (omega arith) ∙ g.between.below (pins_at + k) (omega arith)

  word₂ : (x : ℕ) → x < 8192 → word_at v₂ x ≡ word_at m x
  word₂ x h = s.between.above (bits_at + x) (omega arith) ∙ g.between.below (bits_at + x) (omega arith)

  table₃ : (x : ℕ) → x < 8192 → get_or v₃ x 0 ≡ get_or m x 0
  table₃ x h = q.between.below x (omega arith) ∙ s.between.below x (omega arith) ∙ g.between.below x (omega arith)

  registers-m : Registers m r
  registers-m = registers-within within-m l.registers

  pins-m : PinsLow m p
  pins-m = pins_within within-m l.pins

  source_is : (j : ℕ) → j < r → get_or v (sources_at + j) 0 ≡ last_place m (get_or m (registers_at + j) 0)
  source_is j h =
      let few = l.few_registers in
      let o = get_or m (registers_at + j) 0 in
      let a = registers-m.each j h in
      let lo = a.low in
      let so = a.source in
      in-sources (sources_at + j) (omega arith) ∙ s.source j h ∙ ap (last_place v₁) (g.between.below (registers_at + j) (omega arith))
      ∙ ap (λ (x : ℕ). word_at v₁ x) (g.between.below (o - 1) (omega arith)) ∙ g.between.below (bits_at + get_or m (o - 1) 0) (omega arith)

  pin-word : (k : ℕ) → k < p → word_at v₂ (get_or v₂ (pins_at + k) 0 / 2) ≡ word_at m (get_or m (pins_at + k) 0 / 2)
  pin-word k h = let few = l.pins.few in ap (λ (x : ℕ). word_at v₂ (x / 2)) (pin₂ k (omega arith)) ∙ word₂ (get_or m (pins_at + k) 0 / 2) (pins-m.low k h)

  kind₂ : (k : ℕ) → k < p → pin_is_in v₂ k ≡ pin_is_in m k
  kind₂ k h = let few = l.pins.few in ap (λ (x : ℕ). eqb (x % 2) 0) (pin₂ k (omega arith))

  in_is : (k : ℕ) → k < p → pin_is_in m k ≡ true → get_or v (ins_at + in_pin_count m k) 0 ≡ word_at m (get_or m (pins_at + k) 0 / 2)
  in_is k h t =
      let few = l.pins.few in
      let lo = ins-few m k in
      in-pins (ins_at + in_pin_count m k) (omega arith) (omega arith) ∙ ap (λ (x : ℕ). get_or v₃ (ins_at + x) 0) (sym (ins-same m v₂ pin₂ k (omega arith))) ∙ q.ins k h (kind₂ k h ∙ t) ∙ pin-word k h

  out-is : (k : ℕ) → k < p → pin_is_in m k ≡ false → get_or v (outs_at + out_pin_count m k) 0 ≡ word_at m (get_or m (pins_at + k) 0 / 2)
  out-is k h t =
      let few = l.pins.few in
      let lo = outs-few m k in
      in-pins (outs_at + out_pin_count m k) (omega arith) (omega arith) ∙ ap (λ (x : ℕ). get_or v₃ (outs_at + x) 0) (sym (outs-same m v₂ pin₂ k (omega arith))) ∙ q.outs k h (kind₂ k h ∙ t) ∙ pin-word k h

  begun-is : (x : ℕ) → x < end → word_at v x ≡ every_lane (eqb (get_or m x 0) one_entry)
  begun-is x h =
      let few = l.few_terminals in
      last (bits_at + x) (λ z. omega arith) (λ z. omega arith) ∙ d.between.below (bits_at + x) (omega arith) ∙ ap (λ (w : List ℕ). word_at w x) b.whole ∙ (begin-at v₃ end fits₃ few end (omega arith)).1 x h
      ∙ ap (λ (y : ℕ). every_lane (eqb y one_entry)) (table₃ x (omega arith))

  dark-is : (j : ℕ) → j < n → get_or v (gates_at + j) 0 ≡ 0
  dark-is j h =
      let few = l.few_gates in
      last (gates_at + j) (λ z. omega arith) (λ z. omega arith) ∙ ap (λ (w : List ℕ). get_or w (gates_at + j) 0) d.whole ∙ (dark-at v₄ n fits₄ few n (omega arith)).1 j h

  pub laid-is : FlatLaid u end n r p v
  laid-is =
      let few = l.few_gates in
      let z₅ = fits₅ in
      let zs = length-set v₅ zero_at 0 in
      record {
        m = m;
        within = within-m;
        placed = a₃.whole ∙ ap (take_turns place_gate n 0) (a₂.whole ∙ ap (take_turns place_register r 0) a₁.whole);
        size = ap (λ (w : List ℕ). length w) e ∙ length-set (set v₅ zero_at 0) one_at 65535 ∙ zs ∙ d.between.size ∙ b.within.size ∙ q.between.size ∙ s.between.size ∙ g.between.size ∙ within-m.size;
        above = far;
        first = λ j h. in-lists (first_at + j) (omega arith) (omega arith) ∙ g.first j h;
        second = λ j h. in-lists (second_at_lem + j) (omega arith) (omega arith) ∙ g.second j h;
        third = λ j h. in-lists (third_at + j) (omega arith) (omega arith) ∙ g.third j h;
        source = source_is;
        ins = in_is;
        outs = out-is;
        begun = begun-is;
        dark = dark-is;
        zero_is = ap (λ (w : List ℕ). get_or w zero_at 0) e ∙ set_other (set v₅ zero_at 0) one_at zero_at 65535 (λ z. omega arith) ∙ get_or-set_same v₅ zero_at 0 0 (omega arith);
        one_is = ap (λ (w : List ℕ). get_or w one_at 0) e ∙ get_or-set_same (set v₅ zero_at 0) one_at 65535 0 (omega arith);
      }
