-- Laws of the bits that are lent and written. Assumes nothing.
use Prim.Native.Nat.{ℕ, zero, suc, ◌+◌, ◌/◌, ◌%◌, ◌≤◌, ◌<◌}
use mathlib.Core.Path.{◌≡◌, sym, ap, ◌∙◌, subst}
use mathlib.Core.Bool.{Bool, true, false, cond, ◌&&◌}
use mathlib.Core.List.{List, ◌∷◌}
use mathlib.Core.Logic.{⊎_elim}
use native.Mathlib.Omega.{arith}
use native.Mathlib.Numerals.{add-one}
use native.Mathlib.Nat.{eq-or-lt_of_le, le_of_suc-le-suc}
use lib.ListN.{length, get_or, set, drop, length-set}
use lib.Seq.{drop-cons}
use borrow.Author.Tests.{eq-eqb, ne_eqb, le-leb, lt-leb}
use Rattle.laws.proofs.Regions.{drop_past}
use Rattle.trace_calculus.specs.Trace.{all_bits}
use Rattle.lean.proofs.TableLaws.{within_then, within-set}
use Rattle.trace_steps.specs.Map.{pins_at, bits_at}
use Rattle.trace_steps.specs.Words.{word_at}
use Rattle.trace_steps.specs.Pins.{Loading, Storing, counted, pin_is_in, in_pin_count, out_pin_count, PinsLow, load_one, word_store}
use Rattle.trace_steps.proofs.Laws.{turns_next}

-- ---- counts

pub ins-next : (w : List ℕ) (k : ℕ) → in_pin_count w (k + 1) ≡ in_pin_count w k + cond (pin_is_in w k) 1 0
ins-next w k = ap (in_pin_count w) (add-one k)

pub outs-next : (w : List ℕ) (k : ℕ) → out_pin_count w (k + 1) ≡ out_pin_count w k + cond (pin_is_in w k) 0 1
outs-next w k = ap (out_pin_count w) (add-one k)

pub ins_up : (w : List ℕ) (k n : ℕ) → k ≤ n → in_pin_count w k ≤ in_pin_count w n
ins_up w k zero h = let e : k ≡ 0 = omega arith in rw e (omega arith)
ins_up w k (suc n) h = ⊎_elim (λ (e : k ≡ suc n). rw e (omega arith)) (λ (l : k < suc n). let r = ins_up w k n (le_of_suc-le-suc l) in omega arith) (eq-or-lt_of_le h)

pub outs_up : (w : List ℕ) (k n : ℕ) → k ≤ n → out_pin_count w k ≤ out_pin_count w n
outs_up w k zero h = let e : k ≡ 0 = omega arith in rw e (omega arith)
outs_up w k (suc n) h = ⊎_elim (λ (e : k ≡ suc n). rw e (omega arith)) (λ (l : k < suc n). let r = outs_up w k n (le_of_suc-le-suc l) in omega arith) (eq-or-lt_of_le h)

pub ins_yes : (w : List ℕ) (k : ℕ) → get_or w (pins_at + k) 0 % 2 ≡ 0 → in_pin_count w (k + 1) ≡ in_pin_count w k + 1
ins_yes w k e = ins-next w k ∙ ap (λ (b : Bool). in_pin_count w k + cond b 1 0) (eq-eqb (get_or w (pins_at + k) 0 % 2) 0 e)

pub ins_no : (w : List ℕ) (k : ℕ) → (get_or w (pins_at + k) 0 % 2 ≡ 0 → ⊥) → in_pin_count w (k + 1) ≡ in_pin_count w k
ins_no w k d = ins-next w k ∙ ap (λ (b : Bool). in_pin_count w k + cond b 1 0) (ne_eqb (get_or w (pins_at + k) 0 % 2) 0 d) ∙ (let z : in_pin_count w k + 0 ≡ in_pin_count w k = omega arith in z)

pub outs_yes : (w : List ℕ) (k : ℕ) → (get_or w (pins_at + k) 0 % 2 ≡ 0 → ⊥) → out_pin_count w (k + 1) ≡ out_pin_count w k + 1
outs_yes w k d = outs-next w k ∙ ap (λ (b : Bool). out_pin_count w k + cond b 0 1) (ne_eqb (get_or w (pins_at + k) 0 % 2) 0 d)

pub outs_no : (w : List ℕ) (k : ℕ) → get_or w (pins_at + k) 0 % 2 ≡ 0 → out_pin_count w (k + 1) ≡ out_pin_count w k
outs_no w k e = outs-next w k ∙ ap (λ (b : Bool). out_pin_count w k + cond b 0 1) (eq-eqb (get_or w (pins_at + k) 0 % 2) 0 e) ∙ (let z : out_pin_count w k + 0 ≡ out_pin_count w k = omega arith in z)

-- ---- the input pins, one after the other

pub load_yes : (bits u w : List ℕ) (from at k c : ℕ) → k < 128 → Loading bits u from k w at → c ≡ get_or w (pins_at + k) 0 → c % 2 ≡ 0 → c / 2 < 8192
    → Loading bits u from (k + 1) (set w (bits_at + c / 2) (get_or bits at 0)) (at + 1)
load_yes bits u w from at k c h l q e low =
    let same = l.within.below (pins_at + k) (omega arith) in
    let even : get_or w (pins_at + k) 0 % 2 ≡ 0 = rw q at e in
    let even₀ : get_or u (pins_at + k) 0 % 2 ≡ 0 = rw same at even in
    record {
      within = within_then l.within (within-set w (c / 2) (get_or bits at 0) low);
      whole =
          ap (λ (x : ℕ). counted (set w (bits_at + x / 2) (get_or bits at 0)) (at + 1)) q
          ∙ sym (ap (λ (b : Bool). cond b (counted (set w (bits_at + get_or w (pins_at + k) 0 / 2) (get_or bits at 0)) (at + 1)) (counted w at)) (eq-eqb (get_or w (pins_at + k) 0 % 2) 0 even))
          ∙ turns_next (load_one bits) k (counted u from) (counted w at) l.whole;
      read = let r = l.read in let i = ins_yes u k even₀ in omega arith;
    }

pub load_no : (bits u w : List ℕ) (from at k c : ℕ) → k < 128 → Loading bits u from k w at → c ≡ get_or w (pins_at + k) 0 → (c % 2 ≡ 0 → ⊥) → Loading bits u from (k + 1) w at
load_no bits u w from at k c h l q e =
    let same = l.within.below (pins_at + k) (omega arith) in
    let odd : get_or w (pins_at + k) 0 % 2 ≡ 0 → ⊥ = λ z. e (ap (λ (x : ℕ). x % 2) q ∙ z) in
    let odd₀ : get_or u (pins_at + k) 0 % 2 ≡ 0 → ⊥ = λ z. odd (ap (λ (x : ℕ). x % 2) same ∙ z) in
    record {
      within = l.within;
      whole =
          sym (ap (λ (b : Bool). cond b (counted (set w (bits_at + get_or w (pins_at + k) 0 / 2) (get_or bits at 0)) (at + 1)) (counted w at)) (ne_eqb (get_or w (pins_at + k) 0 % 2) 0 odd))
          ∙ turns_next (load_one bits) k (counted u from) (counted w at) l.whole;
      read = let r = l.read in let i = ins_no u k odd₀ in omega arith;
    }

-- there is a byte for it
pub load_room : (bits u w : List ℕ) (from at k n c : ℕ) → n ≤ 128 → k < n → from + in_pin_count u n ≤ length bits → Loading bits u from k w at → c ≡ get_or w (pins_at + k) 0 → c % 2 ≡ 0 → at < length bits
load_room bits u w from at k n c few h room l q e =
    let same = l.within.below (pins_at + k) (omega arith) in
    let even₀ : get_or u (pins_at + k) 0 % 2 ≡ 0 = rw (q ∙ same) at e in
    let r = l.read in
    omega (arith, ins_yes u k even₀, ins_up u (k + 1) n (omega arith))

-- ---- the output pins, one after the other

pub store_yes : (g : ℕ → ℕ) (w out₀ out : List ℕ) (from at k c b : ℕ) → Storing g w out₀ from k out at → c ≡ get_or w (pins_at + k) 0 → (c % 2 ≡ 0 → ⊥) → b ≡ g (word_at w (c / 2))
    → Storing g w out₀ from (k + 1) (set out at b) (at + 1)
store_yes g w out₀ out from at k c b l q e f =
    let odd : get_or w (pins_at + k) 0 % 2 ≡ 0 → ⊥ = λ z. e (ap (λ (x : ℕ). x % 2) q ∙ z) in
    record {
      size = length-set out at b ∙ l.size;
      whole =
          ap (λ (x : ℕ). counted (set out at x) (at + 1)) (f ∙ ap (λ (x : ℕ). g (word_at w (x / 2))) q)
          ∙ sym (ap (λ (t : Bool). cond t (counted out at) (counted (set out at (g (word_at w (get_or w (pins_at + k) 0 / 2)))) (at + 1))) (ne_eqb (get_or w (pins_at + k) 0 % 2) 0 odd))
          ∙ turns_next (word_store g w) k (counted out₀ from) (counted out at) l.whole;
      written = let r = l.written in let i = outs_yes w k odd in omega arith;
    }

pub store_no : (g : ℕ → ℕ) (w out₀ out : List ℕ) (from at k c : ℕ) → Storing g w out₀ from k out at → c ≡ get_or w (pins_at + k) 0 → c % 2 ≡ 0 → Storing g w out₀ from (k + 1) out at
store_no g w out₀ out from at k c l q e =
    let even : get_or w (pins_at + k) 0 % 2 ≡ 0 = rw q at e in
    record {
      size = l.size;
      whole =
          sym (ap (λ (t : Bool). cond t (counted out at) (counted (set out at (g (word_at w (get_or w (pins_at + k) 0 / 2)))) (at + 1))) (eq-eqb (get_or w (pins_at + k) 0 % 2) 0 even))
          ∙ turns_next (word_store g w) k (counted out₀ from) (counted out at) l.whole;
      written = let r = l.written in let i = outs_no w k even in omega arith;
    }

pub store_room : (g : ℕ → ℕ) (w out₀ out : List ℕ) (from at k n c : ℕ) → k < n → from + out_pin_count w n ≤ length out₀ → Storing g w out₀ from k out at → c ≡ get_or w (pins_at + k) 0 → (c % 2 ≡ 0 → ⊥) → at < length out
store_room g w out₀ out from at k n c h room l q e =
    let odd : get_or w (pins_at + k) 0 % 2 ≡ 0 → ⊥ = λ z. e (ap (λ (x : ℕ). x % 2) q ∙ z) in
    let r = l.written in
    let s = l.size in
    omega (arith, outs_yes w k odd, outs_up w (k + 1) n (omega arith))

-- ---- every byte is a bit

pub bits_more : (bs : List ℕ) (i : ℕ) → i < length bs → all_bits bs ≡ all_bits (drop i bs) → get_or bs i 0 ≤ 1 → all_bits bs ≡ all_bits (drop (i + 1) bs)
bits_more bs i h q l = q ∙ ap all_bits (drop-cons bs i 0 h ∙ ap (λ (k : ℕ). get_or bs i 0 ∷ drop k bs) (sym (add-one i))) ∙ ap (λ (b : Bool). b && all_bits (drop (i + 1) bs)) (le-leb (get_or bs i 0) 1 l)

pub bits_not : (bs : List ℕ) (i : ℕ) → i < length bs → all_bits bs ≡ all_bits (drop i bs) → 1 < get_or bs i 0 → false ≡ all_bits bs
bits_not bs i h q l = sym (q ∙ ap all_bits (drop-cons bs i 0 h) ∙ ap (λ (b : Bool). b && all_bits (drop (suc i) bs)) (lt-leb (get_or bs i 0) 1 l))

pub bits_all : (bs : List ℕ) (i : ℕ) → length bs ≤ i → all_bits bs ≡ all_bits (drop i bs) → true ≡ all_bits bs
bits_all bs i h q = sym (q ∙ ap all_bits (drop_past bs i h))

pub load_low : (bits u w : List ℕ) (from at k n c : ℕ) → PinsLow u n → k < n → Loading bits u from k w at → c ≡ get_or w (pins_at + k) 0 → c / 2 < 8192
load_low bits u w from at k n c p h l q =
    let few = p.few in
    subst (λ (x : ℕ). x / 2 < 8192) (sym (q ∙ l.within.below (pins_at + k) (omega arith))) (p.low k h)

pub pin_low : (w : List ℕ) (k n c : ℕ) → PinsLow w n → k < n → c ≡ get_or w (pins_at + k) 0 → c / 2 < 8192
pin_low w k n c p h q = subst (λ (x : ℕ). x / 2 < 8192) (sym q) (p.low k h)

pub ins-few : (w : List ℕ) (n : ℕ) → in_pin_count w n ≤ n
ins-few w zero = omega arith
ins-few w (suc n) = by (pin_is_in w n) (ins-few w n)
  where
    by : (b : Bool) → in_pin_count w n ≤ n → in_pin_count w n + cond b 1 0 ≤ suc n
    by true r = omega arith
    by false r = omega arith

pub ins-step : (w : List ℕ) (k c n : ℕ) → c ≡ get_or w (pins_at + k) 0 → c % 2 ≡ 0 → n ≡ in_pin_count w k → n + 1 ≡ in_pin_count w (k + 1)
ins-step w k c n q e i = let r = ins_yes w k (rw q at e) in omega arith

pub ins-skip : (w : List ℕ) (k c n : ℕ) → c ≡ get_or w (pins_at + k) 0 → (c % 2 ≡ 0 → ⊥) → n ≡ in_pin_count w k → n ≡ in_pin_count w (k + 1)
ins-skip w k c n q d i = let r = ins_no w k (λ z. d (ap (λ (x : ℕ). x % 2) q ∙ z)) in omega arith
