-- Laws of a memory of which only a stretch changes. Assumes nothing.
use Prim.Native.Nat.{ℕ, zero, suc, ◌+◌, ◌-◌, ◌/◌, ◌%◌, ◌≤◌, ◌<◌}
use mathlib.Core.Path.{◌≡◌, refl, sym, ap, ◌∙◌, subst}
use mathlib.Core.Logic.{◌≢◌}
use mathlib.Core.Bool.{Bool, true, false, cond}
use mathlib.Core.List.{List}
use native.Mathlib.Omega.{arith}
use native.Mathlib.Decide.{ℕ_discrete}
use lib.Dec.{T, ltb}
use borrow.Author.Tests.{eq-eqb, ne_eqb}
use lib.ListN.{length, get_or, set, length-set}
use lib.Seq.{get_or-set_same, get_or-set_other}
use Rattle.memory.specs.Map.{memory_size}
use Rattle.trace_steps.specs.Map.{registers_at, order_at, pins_at, bits_at, inverter_entry}
use Rattle.trace_steps.specs.Turns.{take_turns}
use Rattle.trace_steps.specs.Steps.{first_in, Looks, Ordered, Registers}
use Rattle.trace_steps.specs.Words.{word_at, input_word}
use Rattle.trace_steps.specs.Pins.{pin_is_in, in_pin_count, out_pin_count, PinsLow}
use Rattle.trace_steps.proofs.PinLaws.{ins-next, outs-next, ins_up, outs_up, ins_yes, ins_no, outs_yes, outs_no}
use Rattle.trace_steps.proofs.Laws.{turns_next, first_low, set_other}
use Rattle.trace_flat.specs.Flat.{OnlyBetween, FlatGate, Gates, Sources, GatesLaid, SourcesLaid, PinsLaid, first_at, second_at_lem, third_at, gates_at, ins_at, outs_at, sources_at, next_at, shown_at, zero_at, flat_most, flat_step, second_for, third_for, first_place, last_place, lay_at}

false≢true : false ≡ true → ⊥
false≢true e = subst T (sym e) tt

pub between_none : (lo hi : ℕ) (w : List ℕ) → OnlyBetween lo hi w w
between_none lo hi w = record { size = refl; below = λ j h. refl; above = λ j h. refl }

pub between_then : {lo hi : ℕ} {u v w : List ℕ} → OnlyBetween lo hi u v → OnlyBetween lo hi v w → OnlyBetween lo hi u w
between_then a b = record { size = b.size ∙ a.size; below = λ j h. b.below j h ∙ a.below j h; above = λ j h. b.above j h ∙ a.above j h }

pub between-set : (lo hi : ℕ) (w : List ℕ) (i v : ℕ) → lo ≤ i → i < hi → OnlyBetween lo hi w (set w i v)
between-set lo hi w i v l h = record {
  size = length-set w i v;
  below = λ j k. let ne : j ≢ i = omega arith in get_or-set_other w i j v 0 ne;
  above = λ j k. let ne : j ≢ i = omega arith in get_or-set_other w i j v 0 ne;
}

-- one turn more
pub stretch-step : (lo hi : ℕ) (f : ℕ → List ℕ → List ℕ) (u w v : List ℕ) (j : ℕ) → OnlyBetween lo hi u w → w ≡ take_turns f j 0 u → v ≡ f j w → OnlyBetween lo hi w (f j w)
    → OnlyBetween lo hi u v × (v ≡ take_turns f (j + 1) 0 u)
stretch-step lo hi f u w v j i q e k = (subst (λ (z : List ℕ). OnlyBetween lo hi u z) (sym e) (between_then i k), e ∙ turns_next f j u w q)

-- the gates' places stay where only what they show changes
pub gate-between : {u w : List ℕ} → OnlyBetween gates_at ins_at u w → {j : ℕ} → FlatGate u j → FlatGate w j
gate-between b {j} g =
    let s = b.size in
    let z = g.size in
    let f = g.few in
    let x = b.below (first_at + j) (omega arith) in
    let y = b.below (second_at_lem + j) (omega arith) in
    let t = b.below (third_at + j) (omega arith) in
    let p = g.first in
    let q = g.second in
    let r = g.third in record { size = omega arith; few = f; first = omega arith; second = omega arith; third = omega arith }

pub source-between : {u w : List ℕ} {n : ℕ} → OnlyBetween next_at shown_at u w → Sources u n → (j : ℕ) → j < n → get_or w (sources_at + j) 0 < memory_size
source-between b s j h = let f = s.few in let e = b.below (sources_at + j) (omega arith) in let l = s.each j h in omega arith

-- ---- a pass

-- the first k gates have their bits
pub record Passing (u : List ℕ) (k : ℕ) (w : List ℕ) : Type 0 where
  pub between : OnlyBetween gates_at ins_at u w
  pub whole : w ≡ take_turns flat_step k 0 u

pub passing_gate : (u w : List ℕ) (n k : ℕ) → Gates u n → k < n → Passing u k w → FlatGate w k
passing_gate u w n k g h p = gate-between p.between (g.each k h)

pub passing_next : (u w v : List ℕ) (n i k : ℕ) → Gates u n → i < n → k ≡ i + 1 → Passing u i w → v ≡ flat_step i w → Passing u k v
passing_next u w v n i k g h q p e =
    let few = g.few in
    let r = stretch-step gates_at ins_at flat_step u w v i p.between p.whole e (between-set gates_at ins_at w (gates_at + i) _ (omega arith) (omega arith)) in
    subst (λ (x : ℕ). Passing u x v) (sym q) (record { between = r.0; whole = r.1 })

-- ---- the layout

-- the places that a gate reads are those in u
module _ (u w : List ℕ) (b : OnlyBetween first_at gates_at u w) (o : ℕ) (l : Looks u o) where
  entry-laid : get_or w o 0 ≡ get_or u o 0
  entry-laid = let h = l.low in b.below o (omega arith)

  first-laid : first_in w o ≡ first_in u o
  first-laid = ap (λ (k : ℕ). cond (ltb k inverter_entry) (o - 2) (o - 1)) entry-laid

  source-laid : (x : ℕ) → x < 8192 → get_or u x 0 < 8192 → input_word w x ≡ input_word u x
  source-laid x h k = let e = b.below x (omega arith) in ap (λ (y : ℕ). get_or w (bits_at + y) 0) e ∙ b.below (bits_at + get_or u x 0) (omega arith)

  pub first-place : first_place w o ≡ first_place u o
  first-place = ap (input_word w) first-laid ∙ source-laid (first_in u o) (first_low u o l.low) l.first

  pub last-place : last_place w o ≡ last_place u o
  last-place = let h = l.low in source-laid (o - 1) (omega arith) l.last

  pub second-place : second_for (get_or w o 0) (last_place w o) ≡ second_for (get_or u o 0) (last_place u o)
  second-place = ap (λ (e : ℕ). second_for e (last_place w o)) entry-laid ∙ ap (second_for (get_or u o 0)) last-place

  pub third-place : third_for (get_or w o 0) (first_place w o) (last_place w o) ≡ third_for (get_or u o 0) (first_place u o) (last_place u o)
  third-place = ap (λ (e : ℕ). third_for e (first_place w o) (last_place w o)) entry-laid ∙ ap (λ (x : ℕ). third_for (get_or u o 0) x (last_place w o)) first-place ∙ ap (third_for (get_or u o 0) (first_place u o)) last-place

-- three stores, of which one is asked for
module _ (w : List ℕ) (j a p q : ℕ) (few : j < flat_most) (size : memory_size ≤ length w) where
  abbrev pub stored : List ℕ
  stored = set (set (set w (first_at + j) a) (second_at_lem + j) p) (third_at + j) q

  pub stored-between : OnlyBetween first_at gates_at w stored
  stored-between =
      between_then (between_then (between-set first_at gates_at w (first_at + j) a (omega arith) (omega arith)) (between-set first_at gates_at (set w (first_at + j) a) (second_at_lem + j) p (omega arith) (omega arith)))
      (between-set first_at gates_at (set (set w (first_at + j) a) (second_at_lem + j) p) (third_at + j) q (omega arith) (omega arith))

  elsewhere : (i : ℕ) → (i ≡ second_at_lem + j → ⊥) → (i ≡ third_at + j → ⊥) → get_or stored i 0 ≡ get_or (set w (first_at + j) a) i 0
  elsewhere i d e = set_other (set (set w (first_at + j) a) (second_at_lem + j) p) (third_at + j) i q e ∙ set_other (set w (first_at + j) a) (second_at_lem + j) i p d

  pub stored-first : get_or stored (first_at + j) 0 ≡ a
  stored-first = elsewhere (first_at + j) (λ z. omega arith) (λ z. omega arith) ∙ get_or-set_same w (first_at + j) a 0 (omega arith)

  pub stored-second : get_or stored (second_at_lem + j) 0 ≡ p
  stored-second =
      let s = length-set w (first_at + j) a in
      set_other (set (set w (first_at + j) a) (second_at_lem + j) p) (third_at + j) (second_at_lem + j) q (λ z. omega arith) ∙ get_or-set_same (set w (first_at + j) a) (second_at_lem + j) p 0 (omega arith)

  pub stored-third : get_or stored (third_at + j) 0 ≡ q
  stored-third =
      let s = length-set w (first_at + j) a in
      let t = length-set (set w (first_at + j) a) (second_at_lem + j) p in
      get_or-set_same (set (set w (first_at + j) a) (second_at_lem + j) p) (third_at + j) q 0 (omega arith)

  pub stored_other : (i : ℕ) → (i ≡ first_at + j → ⊥) → (i ≡ second_at_lem + j → ⊥) → (i ≡ third_at + j → ⊥) → get_or stored i 0 ≡ get_or w i 0
  stored_other i c d e = elsewhere i d e ∙ set_other w (first_at + j) i a c

pub order_same : (u w : List ℕ) (n j : ℕ) → OnlyBetween first_at gates_at u w → Ordered u n → j < n → get_or w (order_at + j) 0 ≡ get_or u (order_at + j) 0
order_same u w n j b r h = let f = r.few in b.below (order_at + j) (omega arith)

-- the order looks as it did
pub laid-looks : (u w : List ℕ) (n j : ℕ) → OnlyBetween first_at gates_at u w → Ordered u n → j < n → Looks w (get_or w (order_at + j) 0)
laid-looks u w n j b r h =
    let o = get_or u (order_at + j) 0 in
    let l = r.looks j h in
    let e = entry-laid u w b o l in
    let lo = l.low in
    let s = b.size in
    let z = l.size in
    let k = l.kind in
    let f = first-laid u w b o l in
    let fl = first_low u o lo in
    let x = b.below (first_in u o) (omega arith) in
    let xf = ap (λ (y : ℕ). get_or w y 0) f in
    let y = b.below (o - 1) (omega arith) in
    let lf = l.first in
    let ll = l.last in
    subst (λ (x : ℕ). Looks w x) (sym (order_same u w n j b r h)) (record {
      size = omega arith;
      low = lo;
      some = l.some;
      kind = omega arith;
      two = λ t. l.two (omega arith);
      first = omega arith;
      last = omega arith;
    })

-- one gate more
pub laid_next : (u w v : List ℕ) (n j : ℕ) → Ordered u n → n ≤ flat_most → j < n → GatesLaid u j w → v ≡ lay_at w j (get_or w (order_at + j) 0) → GatesLaid u (j + 1) v
laid_next u w v n j r few h g e = subst (λ (x : List ℕ). GatesLaid u (j + 1) x) (sym (e ∙ ap (lay_at w j) (order_same u w n j g.between r h))) (record {
  between = between_then g.between (stored-between w j a p q below size);
  first = λ i m. elim (ℕ_discrete i j) [
    | yes z ↦ ap (λ (x : ℕ). get_or (lay_at w j o) (first_at + x) 0) z ∙ stored-first w j a p q below size ∙ first-place u w g.between o l ∙ ap (λ (x : ℕ). first_place u (get_or u (order_at + x) 0)) (sym z)
    | no d ↦ stored_other w j a p q below size (first_at + i) (λ z. d (omega arith)) (λ z. omega arith) (λ z. omega arith) ∙ g.first i (omega arith)
  ];
  second = λ i m. elim (ℕ_discrete i j) [
    | yes z ↦ ap (λ (x : ℕ). get_or (lay_at w j o) (second_at_lem + x) 0) z ∙ stored-second w j a p q below size ∙ second-place u w g.between o l
        ∙ ap (λ (x : ℕ). second_for (get_or u (get_or u (order_at + x) 0) 0) (last_place u (get_or u (order_at + x) 0))) (sym z)
    | no d ↦ stored_other w j a p q below size (second_at_lem + i) (λ z. omega arith) (λ z. d (omega arith)) (λ z. omega arith) ∙ g.second i (omega arith)
  ];
  third = λ i m. elim (ℕ_discrete i j) [
    | yes z ↦ ap (λ (x : ℕ). get_or (lay_at w j o) (third_at + x) 0) z ∙ stored-third w j a p q below size ∙ third-place u w g.between o l
        ∙ ap (λ (x : ℕ). third_for (get_or u (get_or u (order_at + x) 0) 0) (first_place u (get_or u (order_at + x) 0)) (last_place u (get_or u (order_at + x) 0))) (sym z)
    | no d ↦ stored_other w j a p q below size (third_at + i) (λ z. omega arith) (λ z. omega arith) (λ z. d (omega arith)) ∙ g.third i (omega arith)
  ];
})
  where
    o : ℕ
    o = get_or u (order_at + j) 0

    a : ℕ
    a = first_place w o

    p : ℕ
    p = second_for (get_or w o 0) (last_place w o)

    q : ℕ
    q = third_for (get_or w o 0) (first_place w o) (last_place w o)

    l : Looks u o
    l = r.looks j h

    below : j < flat_most
    below = omega arith

    size : memory_size ≤ length w
    size = let s = g.between.size in let z = r.size in omega arith

-- ---- the registers' places

module _ (u w : List ℕ) (n j : ℕ) (r : Registers u n) (few : n ≤ flat_most) (h : j < n) (g : SourcesLaid u j w) where
  abbrev pub output : ℕ
  output = get_or u (registers_at + j) 0

  pub register-same : get_or w (registers_at + j) 0 ≡ output
  register-same = g.between.below (registers_at + j) (omega arith)

  -- the table stands below, and the bits above
  pub table_same : get_or w (output - 1) 0 ≡ get_or u (output - 1) 0
  table_same = let l = (r.each j h).low in g.between.below (output - 1) (omega arith)

  pub source_low : get_or w (output - 1) 0 < 8192
  source_low = let e = table_same in let l = (r.each j h).source in omega arith

  pub place_same : last_place w output ≡ last_place u output
  place_same = ap (λ (x : ℕ). get_or w (bits_at + x) 0) table_same ∙ (let l = (r.each j h).source in g.between.above (bits_at + get_or u (output - 1) 0) (omega arith))

  pub sources_next : (v y : ℕ) → v ≡ last_place w y → y ≡ get_or w (registers_at + j) 0 → SourcesLaid u (j + 1) (set w (sources_at + j) v)
  sources_next v y e f = record {
    between = between_then g.between (between-set sources_at next_at w (sources_at + j) v (omega arith) (omega arith));
    source = λ i m. elim (ℕ_discrete i j) [
      | yes z ↦ ap (λ (x : ℕ). get_or (set w (sources_at + j) v) (sources_at + x) 0) z ∙ get_or-set_same w (sources_at + j) v 0 (let s = g.between.size in let q = r.size in omega arith)
          ∙ e ∙ ap (last_place w) (f ∙ register-same) ∙ place_same ∙ ap (λ (x : ℕ). last_place u (get_or u (registers_at + x) 0)) (sym z)
      | no d ↦ set_other w (sources_at + j) (sources_at + i) v (λ z. d (omega arith)) ∙ g.source i (omega arith)
    ];
  }

-- ---- the pins' places

pub ins-few : (u : List ℕ) (k : ℕ) → in_pin_count u k ≤ k
ins-few u zero = omega arith
ins-few u (suc k) = by (pin_is_in u k) (ins-few u k)
  where
    by : (b : Bool) → in_pin_count u k ≤ k → in_pin_count u k + cond b 1 0 ≤ suc k
    by true h = omega arith
    by false h = omega arith

pub outs-few : (u : List ℕ) (k : ℕ) → out_pin_count u k ≤ k
outs-few u zero = omega arith
outs-few u (suc k) = by (pin_is_in u k) (outs-few u k)
  where
    by : (b : Bool) → out_pin_count u k ≤ k → out_pin_count u k + cond b 0 1 ≤ suc k
    by true h = omega arith
    by false h = omega arith

-- the first k pins are laid out
pub record Pinning (u : List ℕ) (k : ℕ) (w : List ℕ) (i o : ℕ) : Type 0 where
  pub laid : PinsLaid u k w
  pub in_count : i ≡ in_pin_count u k
  pub out_count : o ≡ out_pin_count u k
  pub few_in : i ≤ k
  pub few_out : o ≤ k

module _ (u w : List ℕ) (n k i o c y : ℕ) (p : PinsLow u n) (h : k < n) (l : Pinning u k w i o) (q : c ≡ get_or w (pins_at + k) 0) (v : y ≡ get_or w (bits_at + c / 2) 0) where
  pin_same : c ≡ get_or u (pins_at + k) 0
  pin_same = let f = p.few in q ∙ l.laid.between.below (pins_at + k) (omega arith)

  pub pin_low : c / 2 < 8192
  pin_low = subst (λ (x : ℕ). x / 2 < 8192) (sym pin_same) (p.low k h)

  place_is : y ≡ word_at u (get_or u (pins_at + k) 0 / 2)
  place_is = let lo = pin_low in v ∙ l.laid.between.below (bits_at + c / 2) (omega arith) ∙ ap (λ (x : ℕ). word_at u (x / 2)) pin_same

  fits : memory_size ≤ length w
  fits = let s = l.laid.between.size in let z = p.size in omega arith

  pub pinning_in : c % 2 ≡ 0 → Pinning u (k + 1) (set w (ins_at + i) y) (i + 1) o
  pinning_in e =
      let few = p.few in
      let a = l.few_in in
      let b = l.few_out in
      let ic = l.in_count in
      let oc = l.out_count in
      let z = fits in
      let even : get_or u (pins_at + k) 0 % 2 ≡ 0 = rw pin_same at e in
      let yes-in = ins_yes u k even in
      let no-out = outs_no u k even in
      record {
        laid = record {
          between = between_then l.laid.between (between-set ins_at zero_at w (ins_at + i) y (omega arith) (omega arith));
          ins = λ m lt t. elim (ℕ_discrete m k) [
            | yes x ↦ ap (λ (s : ℕ). get_or (set w (ins_at + i) y) (ins_at + in_pin_count u s) 0) x ∙ ap (λ (s : ℕ). get_or (set w (ins_at + i) y) (ins_at + s) 0) (sym ic) ∙ get_or-set_same w (ins_at + i) y 0 (omega arith)
                ∙ place_is ∙ ap (λ (s : ℕ). word_at u (get_or u (pins_at + s) 0 / 2)) (sym x)
            | no d ↦ (let mk : m + 1 ≤ k = omega arith in let up = ins_up u (m + 1) k mk in let st = ins-next u m in let on = ap {B = ℕ} (λ (b : Bool). cond b 1 0) t in
                set_other w (ins_at + i) (ins_at + in_pin_count u m) y (λ x. omega arith) ∙ l.laid.ins m (omega arith) t)
          ];
          outs = λ m lt t. elim (ℕ_discrete m k) [
            | yes x ↦ absurd (false≢true (sym t ∙ ap (pin_is_in u) x ∙ eq-eqb (get_or u (pins_at + k) 0 % 2) 0 even))
            | no d ↦ set_other w (ins_at + i) (outs_at + out_pin_count u m) y (λ x. omega arith) ∙ l.laid.outs m (omega arith) t
          ];
        };
        in_count = omega arith;
        out_count = omega arith;
        few_in = omega arith;
        few_out = omega arith;
      }

  pub pinning_out : (c % 2 ≡ 0 → ⊥) → Pinning u (k + 1) (set w (outs_at + o) y) i (o + 1)
  pinning_out e =
      let few = p.few in
      let a = l.few_in in
      let b = l.few_out in
      let ic = l.in_count in
      let oc = l.out_count in
      let z = fits in
      let odd : get_or u (pins_at + k) 0 % 2 ≡ 0 → ⊥ = λ x. e (ap (λ (s : ℕ). s % 2) pin_same ∙ x) in
      let no-in = ins_no u k odd in
      let yes-out = outs_yes u k odd in
      record {
        laid = record {
          between = between_then l.laid.between (between-set ins_at zero_at w (outs_at + o) y (omega arith) (omega arith));
          ins = λ m lt t. elim (ℕ_discrete m k) [
            | yes x ↦ absurd (false≢true (sym (ne_eqb (get_or u (pins_at + k) 0 % 2) 0 odd) ∙ ap (pin_is_in u) (sym x) ∙ t))
            | no d ↦ (let mk : m ≤ k = omega arith in let up = ins_up u m k mk in set_other w (outs_at + o) (ins_at + in_pin_count u m) y (λ x. omega arith) ∙ l.laid.ins m (omega arith) t)
          ];
          outs = λ m lt t. elim (ℕ_discrete m k) [
            | yes x ↦ ap (λ (s : ℕ). get_or (set w (outs_at + o) y) (outs_at + out_pin_count u s) 0) x ∙ ap (λ (s : ℕ). get_or (set w (outs_at + o) y) (outs_at + s) 0) (sym oc) ∙ get_or-set_same w (outs_at + o) y 0 (omega arith)
                ∙ place_is ∙ ap (λ (s : ℕ). word_at u (get_or u (pins_at + s) 0 / 2)) (sym x)
            | no d ↦ (let mk : m + 1 ≤ k = omega arith in let up = outs_up u (m + 1) k mk in let st = outs-next u m in let on = ap {B = ℕ} (λ (b : Bool). cond b 0 1) t in
                set_other w (outs_at + o) (outs_at + out_pin_count u m) y (λ x. omega arith) ∙ l.laid.outs m (omega arith) t)
          ];
        };
        in_count = omega arith;
        out_count = omega arith;
        few_in = omega arith;
        few_out = omega arith;
      }
