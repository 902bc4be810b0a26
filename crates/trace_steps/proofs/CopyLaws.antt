-- One more entry or pin is copied; and what is copied, whole. Assumes nothing.
use Prim.Native.Nat.{ℕ, ◌+◌, ◌-◌, ◌≤◌, ◌<◌}
use mathlib.Core.Path.{◌≡◌, refl, sym, ap, ◌∙◌}
use mathlib.Core.List.{List}
use native.Mathlib.Omega.{arith}
use native.Mathlib.Decide.{ℕ_discrete, dec_le}
use lib.ListN.{length, get_or, set, length-set}
use lib.Seq.{get_or-set_same, ext_get_or}
use borrow.Author.Tests.{eq-eqb, ne_eqb, lt-ltb, le-ltb}
use Rattle.memory.specs.Map.{roots_at, memory_size}
use Rattle.lean.specs.Table.{entry}
use Rattle.lean.specs.Layout.{lean_pins_at, kinds_from}
use Rattle.trace_steps.specs.Map.{pins_at}
use Rattle.trace_steps.specs.Copied.{copied, TableCopied, PinsCopied}
use Rattle.trace_steps.proofs.Laws.{set_other}

-- ---- one entry

pub copied_none : (v x : ℕ) → v ≡ 0 → copied v x ≡ x
copied_none v x e = rw (eq-eqb v 0 e)

pub copied-wire : (v x : ℕ) → (v ≡ 0 → ⊥) → v < kinds_from → copied v x ≡ v - 1
copied-wire v x d h = rw (ne_eqb v 0 d, lt-ltb v kinds_from h)

pub copied-kind : (v x : ℕ) → kinds_from ≤ v → copied v x ≡ v
copied-kind v x h = rw (ne_eqb v 0 (λ z. omega arith), le-ltb v kinds_from h)

-- ---- one after the other

pub table-next : (u w : List ℕ) (x v : ℕ) → memory_size ≤ length u → x < 8192 → v ≡ copied (entry w x) x → TableCopied u x w → TableCopied u (x + 1) (set w x v)
table-next u w x v z h e c =
    let s = c.size in
    record {
      size = length-set w x v ∙ c.size;
      done = λ y l. elim (ℕ_discrete y x) [
        | yes q ↦ ap (λ (i : ℕ). get_or (set w x v) i 0) q ∙ get_or-set_same w x v 0 (omega arith) ∙ e ∙ ap (λ (a : ℕ). copied a x) (c.above (roots_at + x) (omega arith)) ∙ ap (λ (i : ℕ). copied (entry u i) i) (sym q)
        | no d ↦ set_other w x y v d ∙ c.done y (omega arith)
      ];
      above = λ j l. set_other w x j v (λ q. omega arith) ∙ c.above j (omega arith);
    }

pub pins_start : (u : List ℕ) → PinsCopied u 0 u
pins_start u = record { size = refl; done = λ k l. absurd (omega arith); below = λ j l. refl; above = λ j l. refl }

pub pins_next : (u w : List ℕ) (k v : ℕ) → memory_size ≤ length u → k < 128 → v ≡ get_or w (lean_pins_at + k) 0 → PinsCopied u k w → PinsCopied u (k + 1) (set w (pins_at + k) v)
pins_next u w k v z h e c =
    let s = c.size in
    record {
      size = length-set w (pins_at + k) v ∙ c.size;
      done = λ i l. elim (ℕ_discrete i k) [
        | yes q ↦ ap (λ (j : ℕ). get_or (set w (pins_at + k) v) (pins_at + j) 0) q ∙ get_or-set_same w (pins_at + k) v 0 (omega arith) ∙ e ∙ c.above (lean_pins_at + k) (omega arith) ∙ ap (λ (j : ℕ). get_or u (lean_pins_at + j) 0) (sym q)
        | no d ↦ set_other w (pins_at + k) (pins_at + i) v (λ q. d (omega arith)) ∙ c.done i (omega arith)
      ];
      below = λ j l. set_other w (pins_at + k) j v (λ q. omega arith) ∙ c.below j l;
      above = λ j l. set_other w (pins_at + k) j v (λ q. omega arith) ∙ c.above j (omega arith);
    }

-- ---- nothing is left open

pub one_table : (u v w : List ℕ) (n : ℕ) → TableCopied u n v → TableCopied u n w → v ≡ w
one_table u v w n a b = ext_get_or 0 v w (a.size ∙ sym b.size) (λ i _. elim (dec_le n i) [
  | yes l ↦ a.above i l ∙ sym (b.above i l)
  | no l ↦ a.done i (omega arith) ∙ sym (b.done i (omega arith))
])

pub one_pins : (u v w : List ℕ) (n : ℕ) → PinsCopied u n v → PinsCopied u n w → v ≡ w
one_pins u v w n a b = ext_get_or 0 v w (a.size ∙ sym b.size) (λ i _. elim (dec_le (pins_at + n) i) [
  | yes l ↦ a.above i l ∙ sym (b.above i l)
  | no l ↦ elim (dec_le pins_at i) [
    | yes h ↦ (let z : pins_at + (i - pins_at) ≡ i = omega arith in ap (λ (j : ℕ). get_or v j 0) (sym z) ∙ a.done (i - pins_at) (omega arith) ∙ sym (b.done (i - pins_at) (omega arith)) ∙ ap (λ (j : ℕ). get_or w j 0) z)
    | no h ↦ a.below i (omega arith) ∙ sym (b.below i (omega arith))
  ]
])
