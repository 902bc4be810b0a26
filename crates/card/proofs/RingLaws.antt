-- The search finds what the definition's test refuses. Assumes nothing.
use Prim.Native.Nat.{ℕ, zero, suc, ◌+◌, ◌-◌, ◌≤◌, ◌<◌}
use mathlib.Core.Path.{◌≡◌, refl, sym, ap, ◌∙◌, subst}
use mathlib.Core.Bool.{Bool, true, false, cond, not}
use mathlib.Core.List.{List, [], ◌∷◌, ◌++◌, map}
use native.Mathlib.Omega.{arith}
use native.Mathlib.Decide.{ℕ_discrete, dec_le}
use lib.Dec.{T, eqb}
use lib.ListN.{get_or}
use borrow.Author.Tests.{ne_eqb, eq-eqb}
use Rattle.std.specs.Prelude.{Option, Some}
use Rattle.calculus.specs.Answer.{Answer}
use Rattle.calculus.specs.Net.{Interface, Element, point}
use Rattle.calculus.specs.Lean.{is_pin}
use Rattle.export_calculus.specs.Card.{need_all, no_ring, input_place}
use Rattle.memory.specs.Map.{roots_at, region, elements_from, terminal_of}
use Rattle.netlist.specs.Elements.{output_of}
use Rattle.lean.specs.Table.{entry}
use Rattle.lean.specs.Layout.{lean_pins_at, kinds_from, left_out, first_terminal, element_at, row_in, lean_in, LeanReady}
use Rattle.lean.proofs.MakeLaws.{element_input, element_left, element_here}
use Rattle.card.specs.Rings.{ring_by, ring_at, RingFree, lowest_from, answer_of}

-- one more is done
pub lowest-next : (w : List ℕ) (end x : ℕ) → x < end → lowest_from w (end - x) x ≡ cond (ring_at w x) (Some (x - 1)) (lowest_from w (end - (x + 1)) (x + 1))
lowest-next w end x h = let e : end - x ≡ suc (end - (x + 1)) = omega arith in ap (λ (c : ℕ). lowest_from w c x) e

-- a stretch without one is passed
pub lowest-skip : (w : List ℕ) (end c x : ℕ) → x + c ≤ end → RingFree w x (x + c) → lowest_from w (end - x) x ≡ lowest_from w (end - (x + c)) (x + c)
lowest-skip w end zero x h r = let e : x ≡ x + 0 = omega arith in ap (λ (y : ℕ). lowest_from w (end - y) y) e
lowest-skip w end (suc c) x h r =
    let e : x + 1 + c ≡ x + suc c = omega arith in
    lowest-next w end x (omega arith) ∙ ap (λ (b : Bool). cond b (Some (x - 1)) (lowest_from w (end - (x + 1)) (x + 1))) (r x (omega arith) (omega arith))
    ∙ lowest-skip w end c (x + 1) (omega arith) (λ o a b. r o (omega arith) (omega arith)) ∙ ap (λ (y : ℕ). lowest_from w (end - y) y) e

pub lowest-block : (w : List ℕ) (end x to : ℕ) → x ≤ to → to ≤ end → RingFree w x to → lowest_from w (end - x) x ≡ lowest_from w (end - to) to
lowest-block w end x to a b r =
    let e : x + (to - x) ≡ to = omega arith in
    lowest-skip w end (to - x) x (omega arith) (λ o g h. r o g (omega arith)) ∙ ap (λ (y : ℕ). lowest_from w (end - y) y) e

-- a point's output has its input before it
pub point_up : (w : List ℕ) (end pins : ℕ) → LeanReady w end pins → (x : ℕ) → x < end → entry w x ≡ kinds_from + 7 → 1 ≤ x
point_up w end pins r x h z =
    let k : entry w x - kinds_from ≡ 7 = omega arith in
    let u = r.outputs x h (omega arith) (omega arith) in
    subst (λ (y : ℕ). output_of y 0 ≤ x) k u

pub ring_up : (w : List ℕ) (end pins : ℕ) → LeanReady w end pins → (x : ℕ) → x < end → ring_at w x ≡ true → 1 ≤ x
ring_up w end pins r x h e = elim (ℕ_discrete (entry w x) (kinds_from + 7)) [
  | yes z ↦ point_up w end pins r x h z
  | no d ↦ absurd (subst T (rw (ne_eqb (entry w x) (kinds_from + 7) d) at (sym e)) tt)
]

pub no_point_lem : (w : List ℕ) (x : ℕ) → (entry w x ≡ kinds_from + 7 → ⊥) → false ≡ ring_at w x
no_point_lem w x d = rw (ne_eqb (entry w x) (kinds_from + 7) d)

pub by_wire : (w : List ℕ) (x : ℕ) → entry w x ≡ kinds_from + 7 → not (eqb (entry w (x - 1)) 0) ≡ ring_at w x
by_wire w x e = rw (eq-eqb (entry w x) (kinds_from + 7) e)

-- ---- how many there are in a block

none-counted : (b : Bool) → ◌≡◌ {A = ℕ} (cond b 1 0) 0 → b ≡ false
none-counted true e = absurd (omega arith)
none-counted false e = refl

-- the terminal before x tells as much as its input
ring_none : (w : List ℕ) (end pins : ℕ) → LeanReady w end pins → (x : ℕ) → x < end → ◌≡◌ {A = ℕ} (cond (ring_by (entry w x) (get_or w (roots_at + x - 1) 0)) 1 0) 0 → ring_at w x ≡ false
ring_none w end pins r x h e = elim (ℕ_discrete (entry w x) (kinds_from + 7)) [
  | yes z ↦ (let l = point_up w end pins r x h z in
      let i : roots_at + x - 1 ≡ roots_at + (x - 1) = omega arith in
      subst (λ (j : ℕ). ring_by (entry w x) (get_or w j 0) ≡ false) i (none-counted (ring_by (entry w x) (get_or w (roots_at + x - 1) 0)) e))
  | no d ↦ sym (no_point_lem w x d)
]

pub ringless_more : (w : List ℕ) (end pins : ℕ) → LeanReady w end pins → (from x sum one : ℕ) → x < end → (sum ≡ 0 → RingFree w from x)
    → one ≡ cond (ring_by (entry w x) (get_or w (roots_at + x - 1) 0)) 1 0 → sum + one ≡ 0 → RingFree w from (x + 1)
ringless_more w end pins r from x sum one h before e z o a b =
    elim (ℕ_discrete o x) [
      | yes q ↦ (let n : one ≡ 0 = omega arith in ap (ring_at w) q ∙ ring_none w end pins r x h (sym e ∙ n))
      | no d ↦ before (omega arith) o a (omega arith)
    ]

module _ (w : List ℕ) (end pins : ℕ) (r : LeanReady w end pins) (number : ℕ) where
  abbrev ps : Interface
  ps = map terminal_of (region w lean_pins_at pins)

  abbrev test : List Element → Answer (Unit {0})
  test es = need_all (no_ring ps) number input_place es

  -- an element of kind k that is no point passes
  part-passes : (k n : ℕ) (es : List Element) → (k ≡ 7 → ⊥) → test (elements_from (k ∷ []) n ++ es) ≡ test es
  part-passes k n es d = rw (ne_eqb k 7 d)

  point-test : (x : ℕ) (es : List Element) (rest : Option ℕ) → is_pin ps (x - 1) ≡ eqb (entry w (x - 1)) 0 → test es ≡ answer_of number rest
      → test (point (x - 1) ∷ es) ≡ answer_of number (cond (not (eqb (entry w (x - 1)) 0)) (Some (x - 1)) rest)
  point-test x es rest h e = by (eqb (entry w (x - 1)) 0) h
    where
      by : (b : Bool) → is_pin ps (x - 1) ≡ b → test (point (x - 1) ∷ es) ≡ answer_of number (cond (not b) (Some (x - 1)) rest)
      by true z = rw z e
      by false z = rw z

  search : (c x : ℕ) → x + c ≤ end → test (row_in element_at roots_at w c x) ≡ answer_of number (lowest_from w c x)
  search zero x h = refl
  search (suc c) x h =
      let b = r.below in
      let next = search c (x + 1) (omega arith) in
      elim (ℕ_discrete (entry w x) (kinds_from + 7)) [
        | yes z ↦ rw (z) (point-test x (row_in element_at roots_at w c (x + 1)) (lowest_from w c (x + 1)) (r.points x (omega arith) z) next)
        | no d ↦ rw (ne_eqb (entry w x) (kinds_from + 7) d) (elim (dec_le kinds_from (entry w x)) [
          | no l ↦ rw (element_input (entry w x) x (omega arith)) next
          | yes l ↦ elim (dec_le left_out (entry w x)) [
            | yes g ↦ rw (element_left (entry w x) x g) next
            | no g ↦ rw (element_here (entry w x) x l (omega arith)) (part-passes (entry w x - kinds_from) (first_terminal (entry w x - kinds_from) x) (row_in element_at roots_at w c (x + 1)) (λ z. d (omega arith)) ∙ next)
          ]
        ])
      ]

  pub lowest-answer : need_all (no_ring (lean_in w end pins).pins) number input_place (lean_in w end pins).elements ≡ answer_of number (lowest_from w end 0)
  unfolding lean_in
  lowest-answer = search end 0 (omega arith)
