-- The outputs that look at something, one after the other by falling number. No two are next to each other, so there are few. Assumes nothing.
use Prim.Native.Nat.{ℕ, ◌+◌, ◌-◌, ◌*◌, ◌≤◌, ◌<◌}
use mathlib.Core.Path.{◌≡◌, refl, sym, ap, ◌∙◌, subst}
use mathlib.Core.Bool.{Bool, true, false, cond, ◌&&◌}
use mathlib.Core.List.{List}
use native.Mathlib.Omega.{arith}
use native.Mathlib.Decide.{ℕ_discrete}
use lib.ListN.{length, get_or, set, length-set}
use lib.Seq.{get_or-set_same}
use lib.Dec.{T, eqb, ltb, eqb→eq}
use borrow.Author.Tests.{ltb-true}
use Rattle.lean.specs.Layout.{kinds_from}
use Rattle.trace_steps.specs.Map.{rest_at, order_at, register_entry, one_entry, point_entry}
use Rattle.trace_steps.proofs.Laws.{set_other}
use Rattle.trace_rings.specs.Lists.{looks_at, looks_in, Choosable, Chosen}

-- what looks at something is an output
pub looks-high : (v : ℕ) → looks_at v ≡ true → kinds_from ≤ v
looks-high v e = by (eqb v point_entry) (ltb register_entry v) (ltb v one_entry) refl refl e
  where
    by : (a b c : Bool) → eqb v point_entry ≡ a → ltb register_entry v ≡ b → cond a true (b && c) ≡ true → kinds_from ≤ v
    by true b c q r e = let z = eqb→eq v point_entry (subst (λ (t : Bool). T t) (sym q) tt) in omega arith
    by false true c q r e = omega (arith, ltb-true register_entry v r)
    by false false c q r e = absurd (subst (λ (t : Bool). T t) (sym e) tt)

-- those from x on are listed
pub record Choosing (u : List ℕ) (end x : ℕ) (w : List ℕ) (n : ℕ) : Type 0 where
  pub size : length w ≡ length u
  pub table : (y : ℕ) → y < 8192 → get_or w y 0 ≡ get_or u y 0
  pub above : (j : ℕ) → order_at ≤ j → get_or w j 0 ≡ get_or u j 0
  pub low : x ≤ end
  pub half : 2 * n + x ≤ end + 1
  pub free : (x < end → looks_in u x ≡ true → ⊥) → 2 * n + x ≤ end
  pub from : (k : ℕ) → k < n → x ≤ get_or w (rest_at + k) 0
  pub each : (k : ℕ) → k < n → (get_or w (rest_at + k) 0 < end) × (looks_in u (get_or w (rest_at + k) 0) ≡ true)
  pub falling : (i k : ℕ) → i < k → k < n → get_or w (rest_at + k) 0 < get_or w (rest_at + i) 0
  pub all : (y : ℕ) → x ≤ y → y < end → looks_in u y ≡ true → (k : ℕ) × (k < n) × (get_or w (rest_at + k) 0 ≡ y)

module _ (u : List ℕ) (end x y : ℕ) (w : List ℕ) (n : ℕ) (p : Choosable u end) (c : Choosing u end x w n) (e : x ≡ y + 1) where
  pub choosing_same : looks_in w y ≡ looks_in u y
  choosing_same = let f = p.few in let l = c.low in ap looks_at (c.table y (omega arith))

  lonely : looks_in u y ≡ true → x < end → looks_in u x ≡ true → ⊥
  lonely q l h =
      let z = (p.looks x l h).last in
      let i : x - 1 ≡ y = omega arith in
      let j = ap (λ (k : ℕ). get_or u k 0) i in
      omega (arith, looks-high (get_or u y 0) q)

  pub choosing_few : looks_in w y ≡ true → n < 4096
  choosing_few q = let f = p.few in let h = c.free (lonely (sym choosing_same ∙ q)) in omega arith

  pub choosing_yes : looks_in w y ≡ true → Choosing u end y (set w (rest_at + n) y) (n + 1)
  choosing_yes q =
      let f = p.few in
      let z = p.size in
      let s = c.size in
      let m = c.low in
      let r : looks_in u y ≡ true = sym choosing_same ∙ q in
      let h = c.free (lonely r) in
      let few = choosing_few q in
      let at_n : get_or (set w (rest_at + n) y) (rest_at + n) 0 ≡ y = get_or-set_same w (rest_at + n) y 0 (omega arith) in
      let at_other : (j : ℕ) → (j ≡ rest_at + n → ⊥) → get_or (set w (rest_at + n) y) j 0 ≡ get_or w j 0 = λ j d. set_other w (rest_at + n) j y d in
      record {
        size = length-set w (rest_at + n) y ∙ c.size;
        table = λ j l. at_other j (λ t. omega arith) ∙ c.table j l;
        above = λ j l. at_other j (λ t. omega arith) ∙ c.above j l;
        low = omega arith;
        half = omega arith;
        free = λ g. absurd (g (omega arith) r);
        from = λ k l. elim (ℕ_discrete k n) [
          | yes t ↦ subst (λ (a : ℕ). y ≤ a) (sym (ap (λ (i : ℕ). get_or (set w (rest_at + n) y) (rest_at + i) 0) t ∙ at_n)) (omega arith)
          | no d ↦ let a = at_other (rest_at + k) (λ t. d (omega arith)) in let b = c.from k (omega arith) in omega arith
        ];
        each = λ k l. elim (ℕ_discrete k n) [
          | yes t ↦ subst (λ (a : ℕ). (a < end) × (looks_in u a ≡ true)) (sym (ap (λ (i : ℕ). get_or (set w (rest_at + n) y) (rest_at + i) 0) t ∙ at_n)) (omega arith, r)
          | no d ↦ subst (λ (a : ℕ). (a < end) × (looks_in u a ≡ true)) (sym (at_other (rest_at + k) (λ t. d (omega arith)))) (c.each k (omega arith))
        ];
        falling = λ i k l g. elim (ℕ_discrete k n) [
          | yes t ↦ (let a = at_other (rest_at + i) (λ t. omega arith) in let b = c.from i (omega arith) in let v = ap (λ (i : ℕ). get_or (set w (rest_at + n) y) (rest_at + i) 0) t ∙ at_n in omega arith)
          | no d ↦ (let a = at_other (rest_at + i) (λ t. omega arith) in let b = at_other (rest_at + k) (λ t. d (omega arith)) in let v = c.falling i k l (omega arith) in omega arith)
        ];
        all = λ a l g v. elim (ℕ_discrete a y) [
          | yes t ↦ (n, omega arith, at_n ∙ sym t)
          | no d ↦ (let o = c.all a (omega arith) g v in (o.0, omega (arith, o.1), at_other (rest_at + o.0) (λ t. omega (arith, o.1)) ∙ o.2))
        ];
      }

  pub choosing_no : looks_in w y ≡ false → Choosing u end y w n
  choosing_no q =
      let m = c.low in
      let h = c.half in
      record {
        size = c.size;
        table = c.table;
        above = c.above;
        low = omega arith;
        half = omega arith;
        free = λ g. omega arith;
        from = λ k l. (let b = c.from k l in omega arith);
        each = c.each;
        falling = c.falling;
        all = λ a l g v. elim (ℕ_discrete a y) [
          | yes t ↦ absurd (subst (λ (b : Bool). T b) (sym choosing_same ∙ q) (subst (λ (b : Bool). T b) (sym (subst (λ (k : ℕ). looks_in u k ≡ true) t v)) tt))
          | no d ↦ c.all a (omega arith) g v
        ];
      }

pub choosing_end : (u : List ℕ) (end x : ℕ) (w : List ℕ) (n : ℕ) → Choosable u end → x ≡ 0 → Choosing u end x w n → Chosen u end w n
choosing_end u end x w n p e c =
    let f = p.few in
    let h = c.half in
    record {
      size = c.size;
      table = c.table;
      above = c.above;
      few = omega arith;
      each = c.each;
      falling = c.falling;
      all = λ y l v. c.all y (omega arith) l v;
    }
