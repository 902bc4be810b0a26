-- The bytes of the lean netlist by terminal: of one entry, of those that are still to come, and of all. Assumes nothing.
use Prim.Native.Nat.{ℕ, zero, suc, ◌+◌, ◌-◌, ◌*◌, ◌≤◌, ◌<◌}
use mathlib.Core.Path.{◌≡◌, refl, sym, ap, ◌∙◌}
use mathlib.Core.Bool.{Bool, true, false, cond}
use mathlib.Core.List.{List, [], ◌∷◌, ◌++◌, map, append_assoc}
use native.Mathlib.Omega.{arith}
use native.Mathlib.Decide.{ℕ_discrete, dec_le}
use lib.Dec.{eqb, ltb}
use lib.ListN.{length, get_or, drop, length-append}
use lib.Seq.{sets, get_or-drop, drop-drop}
use borrow.Author.Tests.{ne_eqb, eq-eqb, lt-ltb, le-ltb}
use Rattle.laws.proofs.Regions.{written-more}
use Rattle.calculus.specs.Net.{Element, wire_of, wire_bytes, pin_bytes, net_bytes}
use Rattle.calculus.specs.Makers.{maker, net_node_bytes, written}
use Rattle.memory.specs.Map.{roots_at, makers_at, region, elements_from, terminal_of}
use Rattle.netlist.specs.Elements.{element_size, node_size, element_records}
use Rattle.netlist.proofs.Elements.{records_are, records-append, records-length, kinds-length, kind-size}
use Rattle.netlist.proofs.Records.{wires_append}
use Rattle.lean.specs.Table.{entry}
use Rattle.lean.specs.Layout.{lean_pins_at, kinds_from, left_out, first_terminal, element_at, wire_at, row_in, left_after, lean_makers_in, lean_in, LeanReady, Passed}
use Rattle.lean.specs.Rows.{record_bytes_at, wire_bytes_at, pin_bytes_at, records_in, WritesOn, entry_size, sizes_in}
use Rattle.lean.proofs.KindLaws.{region-next, region-end}
use Rattle.lean.proofs.Rows.{row-text, rest-first, rest_end}
use Rattle.lean.proofs.MakeLaws.{element_input, element_left, element_here, wire-none, wire-output, wire-here}

-- ---- one entry

module _ (plain : Bool) (node v x : ℕ) where
  pub no_record : v < kinds_from → record_bytes_at plain node v x ≡ []
  no_record h = ap (λ (es : List Element). element_records plain es (node ∷ [])) (element_input v x h)

  pub left_record : left_out ≤ v → record_bytes_at plain node v x ≡ []
  left_record h = ap (λ (es : List Element). element_records plain es (node ∷ [])) (element_left v x h)

  pub one_record : kinds_from ≤ v → v < left_out → record_bytes_at plain node v x ≡ element_records plain (elements_from ((v - kinds_from) ∷ []) (first_terminal (v - kinds_from) x)) (node ∷ [])
  one_record h g = ap (λ (es : List Element). element_records plain es (node ∷ [])) (element_here v x h g)

  pub one_size : kinds_from ≤ v → v < left_out → length (record_bytes_at plain node v x) ≡ element_size (v - kinds_from) + node_size plain 1
  one_size h g =
      let k = v - kinds_from in
      let n = first_terminal k x in
      ap length (one_record h g) ∙ records-length plain (elements_from (k ∷ []) n) (node ∷ [])
      ∙ ap (λ (i : ℕ). i + node_size plain (length (elements_from (k ∷ []) n))) (kind-size k n) ∙ ap (λ (i : ℕ). element_size k + node_size plain i) (kinds-length (k ∷ []) n)

pub no_wire : (v x : ℕ) → v ≡ 0 → wire_bytes_at v x ≡ []
no_wire v x e = ap wire_bytes (wire-none v x e)

pub output-wire : (v x : ℕ) → kinds_from ≤ v → wire_bytes_at v x ≡ []
output-wire v x h = ap wire_bytes (wire-output v x h)

pub one_wire : (v x : ℕ) → (v ≡ 0 → ⊥) → v < kinds_from → wire_bytes_at v x ≡ wire_bytes (wire_of (v - 1) x ∷ [])
one_wire v x d h = ap wire_bytes (wire-here v x d h)

-- what is written where there is nothing
pub put-none : (o t : List ℕ) (at : ℕ) → t ≡ [] → (at ≡ at + length t) × (o ≡ sets o at t)
put-none o t at e = rw e (omega arith, refl)

-- ---- the makers that are left

pub maker-left : (w : List ℕ) (i : ℕ) → get_or w (makers_at + i) 0 ≡ maker (drop i (drop makers_at w))
maker-left w i = let z : i + 0 ≡ i = omega arith in sym (get_or-drop i (drop makers_at w) 0 0 ∙ get_or-drop makers_at w (i + 0) 0 ∙ ap (λ (n : ℕ). get_or w (makers_at + n) 0) z)

pub after-input : (v i : ℕ) (js : List ℕ) → v < kinds_from → drop i js ≡ left_after v (drop i js)
after-input v i js h = rw (lt-ltb v kinds_from h)

pub after-output : (v i : ℕ) (js : List ℕ) → kinds_from ≤ v → drop (i + 1) js ≡ left_after v (drop i js)
after-output v i js h = rw (le-ltb v kinds_from h) (sym (drop-drop 1 i js))

-- ---- the records that are still to come

module _ (plain : Bool) (w : List ℕ) (end : ℕ) (js : List ℕ) where
  pub records-start : records_in plain w (end - 0) 0 (drop 0 js) ≡ records_in plain w end 0 js
  records-start = let e : end - 0 ≡ end = omega arith in ap (λ (n : ℕ). records_in plain w n 0 js) e

  pub records-first : (x i : ℕ) → x < end → records_in plain w (end - x) x (drop i js) ≡ record_bytes_at plain (maker (drop i js)) (entry w x) x ++ records_in plain w (end - (x + 1)) (x + 1) (left_after (entry w x) (drop i js))
  records-first x i h = let e : end - x ≡ suc (end - (x + 1)) = omega arith in ap (λ (n : ℕ). records_in plain w n x (drop i js)) e

  pub records-end : (x i : ℕ) → end ≤ x → records_in plain w (end - x) x (drop i js) ≡ []
  records-end x i h = let e : end - x ≡ 0 = omega arith in ap (λ (n : ℕ). records_in plain w n x (drop i js)) e

-- ---- where the writer goes on

module _ (w : List ℕ) (end x i : ℕ) (lt : x < end) (few : i ≤ x) where
  pub behind-input : entry w x < kinds_from → WritesOn w end x i (x + 1) i
  behind-input h = record {
    rises = omega arith;
    low = omega arith;
    few = omega arith;
    records = λ plain. ap (records_in plain w (end - (x + 1)) (x + 1)) (sym (after-input (entry w x) i (drop makers_at w) h));
  }

  pub behind-output : kinds_from ≤ entry w x → WritesOn w end x i (x + 1) (i + 1)
  behind-output h = record {
    rises = omega arith;
    low = omega arith;
    few = omega arith;
    records = λ plain. ap (records_in plain w (end - (x + 1)) (x + 1)) (sym (after-output (entry w x) i (drop makers_at w) h));
  }

  -- an input, and the output of a point that is left out
  pub behind_point : entry w x < kinds_from → entry w (x + 1) ≡ left_out → WritesOn w end x i (x + 2) (i + 1)
  behind_point h l = record {
    rises = omega arith;
    low = omega arith;
    few = omega arith;
    records = λ plain. ap (records_in plain w (end - (x + 1)) (x + 1)) (sym (after-input (entry w x) i js h)) ∙ skipped plain;
  }
    where
      js : List ℕ
      js = drop makers_at w

      two : x + 1 + 1 ≡ x + 2
      two = omega arith

      skipped : (plain : Bool) → records_in plain w (end - (x + 1)) (x + 1) (drop i js) ≡ records_in plain w (end - (x + 2)) (x + 2) (drop (i + 1) js)
      skipped plain = elim (dec_le end (x + 1)) [
        | yes g ↦ records-end plain w end js (x + 1) i g ∙ sym (records-end plain w end js (x + 2) (i + 1) (omega arith))
        | no g ↦ records-first plain w end js (x + 1) i (omega arith)
            ∙ ap (λ (t : List ℕ). t ++ records_in plain w (end - (x + 1 + 1)) (x + 1 + 1) (left_after (entry w (x + 1)) (drop i js))) (left_record plain (maker (drop i js)) (entry w (x + 1)) (x + 1) (omega arith))
            ∙ ap (records_in plain w (end - (x + 1 + 1)) (x + 1 + 1)) (sym (after-output (entry w (x + 1)) i js (omega arith)))
            ∙ ap (λ (y : ℕ). records_in plain w (end - y) y (drop (i + 1) js)) two
      ]

-- what is passed has no wire
pub wires_behind : (w : List ℕ) (end x y : ℕ) → x < end → Passed w x y → row_in wire_bytes_at roots_at w (end - (x + 1)) (x + 1) ≡ row_in wire_bytes_at roots_at w (end - y) y
wires_behind w end x y lt p = elim (ℕ_discrete y (x + 2)) [
  | yes e ↦ (elim (dec_le end (x + 1)) [
    | yes g ↦ rest_end wire_bytes_at roots_at w end (x + 1) g ∙ sym (rest_end wire_bytes_at roots_at w end y (omega arith))
    | no g ↦ rest-first wire_bytes_at roots_at w end (x + 1) (omega arith)
        ∙ ap (λ (t : List ℕ). t ++ row_in wire_bytes_at roots_at w (end - (x + 1 + 1)) (x + 1 + 1)) (output-wire (entry w (x + 1)) (x + 1) (p.output e))
        ∙ ap (λ (z : ℕ). row_in wire_bytes_at roots_at w (end - z) z) (two e)
  ])
  | no d ↦ ap (λ (z : ℕ). row_in wire_bytes_at roots_at w (end - z) z) (one d)
]
  where
    two : y ≡ x + 2 → x + 1 + 1 ≡ y
    two e = omega arith

    one : (y ≡ x + 2 → ⊥) → x + 1 ≡ y
    one d = let r = p.rises in let f = p.few in omega arith

-- ---- all

module _ (plain : Bool) (w : List ℕ) where
  records-in : (c x : ℕ) (js : List ℕ) → element_records plain (row_in element_at roots_at w c x) (lean_makers_in w c x js) ≡ records_in plain w c x js
  records-in zero x js = refl
  records-in (suc c) x js =
      let v = entry w x in
      elim (dec_le kinds_from v) [
        | no l ↦ rw (lt-ltb v kinds_from (omega arith)) (records-in c (x + 1) js)
        | yes l ↦ elim (dec_le left_out v) [
          | yes g ↦ rw (le-ltb v kinds_from l, le-ltb v left_out g) (records-in c (x + 1) (drop 1 js))
          | no g ↦ (let k = v - kinds_from in
              rw (le-ltb v kinds_from l, lt-ltb v left_out (omega arith))
              (records-append plain (elements_from (k ∷ []) (first_terminal k x)) (row_in element_at roots_at w c (x + 1)) (maker js ∷ []) (lean_makers_in w c (x + 1) (drop 1 js)) (sym (kinds-length (k ∷ []) (first_terminal k x)))
              ∙ ap (λ (t : List ℕ). element_records plain (elements_from (k ∷ []) (first_terminal k x)) (maker js ∷ []) ++ t) (records-in c (x + 1) (drop 1 js))))
        ]
      ]

  pub size_none : (v : ℕ) → v < kinds_from → v ≡ 0 → 0 ≡ entry_size plain v
  size_none v h e = rw (lt-ltb v kinds_from h, eq-eqb v 0 e)

  pub size-wire : (v : ℕ) → v < kinds_from → (v ≡ 0 → ⊥) → 5 ≡ entry_size plain v
  size-wire v h d = rw (lt-ltb v kinds_from h, ne_eqb v 0 d)

  pub size-left : (v : ℕ) → left_out ≤ v → 0 ≡ entry_size plain v
  size-left v h = rw (le-ltb v kinds_from (omega arith), le-ltb v left_out h)

  pub size-here : (v : ℕ) → kinds_from ≤ v → v < left_out → element_size (v - kinds_from) + node_size plain 1 ≡ entry_size plain v
  size-here v h g = rw (le-ltb v kinds_from h, lt-ltb v left_out g)

  pub size_point : (v : ℕ) → v ≡ kinds_from + 7 → 3 + node_size plain 1 ≡ entry_size plain v
  size_point v e = rw e

  pub size-part : (v : ℕ) → kinds_from ≤ v → v < left_out → (v ≡ kinds_from + 7 → ⊥) → 4 + node_size plain 1 ≡ entry_size plain v
  size-part v h g d = ap (λ (b : Bool). cond b 3 4 + node_size plain 1) (sym (ne_eqb (v - kinds_from) 7 (λ z. d (omega arith)))) ∙ size-here v h g

  size-one : (v x node : ℕ) → entry_size plain v ≡ length (record_bytes_at plain node v x) + length (wire_bytes_at v x)
  size-one v x node =
      elim (dec_le kinds_from v) [
        | no l ↦ elim (ℕ_discrete v 0) [
          | yes e ↦ omega (arith, size_none v (omega arith) e, ap length (no_record plain node v x (omega arith)), ap length (no_wire v x e))
          | no d ↦ omega (arith, size-wire v (omega arith) d, ap length (no_record plain node v x (omega arith)), ap length (one_wire v x d (omega arith)))
        ]
        | yes l ↦ elim (dec_le left_out v) [
          | yes g ↦ omega (arith, size-left v g, ap length (left_record plain node v x g), ap length (output-wire v x l))
          | no g ↦ omega (arith, size-here v l (omega arith), one_size plain node v x l (omega arith), ap length (output-wire v x l))
        ]
      ]

  pub sizes_are : (c x : ℕ) (js : List ℕ) → sizes_in plain w c x ≡ length (records_in plain w c x js) + length (row_in wire_bytes_at roots_at w c x)
  sizes_are zero x js = refl
  sizes_are (suc c) x js =
      let v = entry w x in
      omega (arith, size-one v x (maker js), sizes_are c (x + 1) (left_after v js), length-append (record_bytes_at plain (maker js) v x) (records_in plain w c (x + 1) (left_after v js)), length-append (wire_bytes_at v x) (row_in wire_bytes_at roots_at w c (x + 1)))

-- a size is small
pub size_small : (plain : Bool) (v : ℕ) → entry_size plain v ≤ 6
size_small plain v = by (ltb v kinds_from) (eqb v 0) (ltb v left_out) (eqb (v - kinds_from) 7) plain
  where
    by : (a b c d p : Bool) → cond a (cond b 0 5) (cond c (cond d 3 4 + cond p 0 2) 0) ≤ 6
    by true true c d p = omega arith
    by true false c d p = omega arith
    by false b true true true = omega arith
    by false b true true false = omega arith
    by false b true false true = omega arith
    by false b true false false = omega arith
    by false b false d p = omega arith

pins_are : (w : List ℕ) (at p : ℕ) → at + p ≤ length w → (c j : ℕ) → j + c ≡ p → pin_bytes (map terminal_of (drop j (region w at p))) ≡ row_in pin_bytes_at at w c j
pins_are w at p size zero j h = rw (region-end w at p j size (omega arith))
pins_are w at p size (suc c) j h = rw (region-next w at p j size (omega arith)) (ap (λ (t : List ℕ). pin_bytes (terminal_of (get_or w (at + j) 0) ∷ []) ++ t) (pins_are w at p size c (j + 1) (omega arith)))

pins_size : (w : List ℕ) (at c x : ℕ) → length (row_in pin_bytes_at at w c x) ≡ 3 * c
pins_size w at zero x = refl
pins_size w at (suc c) x = omega (arith, pins_size w at c (x + 1), length-append (pin_bytes_at (get_or w (at + x) 0) x) (row_in pin_bytes_at at w c (x + 1)))

module _ (plain : Bool) (w : List ℕ) (end p : ℕ) (r : LeanReady w end p) (js : List ℕ) where
  abbrev pub first : List ℕ
  first = records_in plain w end 0 js

  abbrev pub second : List ℕ
  second = row_in wire_bytes_at roots_at w end 0

  abbrev pub third : List ℕ
  third = row_in pin_bytes_at lean_pins_at w p 0

  pub table-bytes : written plain (lean_in w end p) (lean_makers_in w end 0 js) ≡ first ++ (second ++ third)
  unfolding lean_in net_bytes net_node_bytes
  table-bytes =
      let z = r.size in
      let f = r.few_pins in
      either plain
      ∙ rw (records-in plain w end 0 js, ← row-text wire_at roots_at w wire_bytes refl wires_append end 0, ← pins_are w lean_pins_at p (omega arith) p 0 (omega arith))
    where
      either : (b : Bool) → written b (lean_in w end p) (lean_makers_in w end 0 js) ≡ element_records b (lean_in w end p).elements (lean_makers_in w end 0 js) ++ (wire_bytes (lean_in w end p).wires ++ pin_bytes (lean_in w end p).pins)
      either true = ap (λ (t : List ℕ). t ++ (wire_bytes (lean_in w end p).wires ++ pin_bytes (lean_in w end p).pins)) (sym (records_are true (lean_in w end p).elements (lean_makers_in w end 0 js)))
      either false = ap (λ (t : List ℕ). t ++ (wire_bytes (lean_in w end p).wires ++ pin_bytes (lean_in w end p).pins)) (sym (records_are false (lean_in w end p).elements (lean_makers_in w end 0 js)))

  pub table-size : length (written plain (lean_in w end p) (lean_makers_in w end 0 js)) ≡ sizes_in plain w end 0 + 3 * p
  table-size = omega (arith, ap length table-bytes, length-append first (second ++ third), length-append second third, sizes_are plain w end 0 js, pins_size w lean_pins_at p 0)

  -- each group fits where the whole does
  pub fits : (room : ℕ) → length (written plain (lean_in w end p) (lean_makers_in w end 0 js)) ≤ room → length first + (length second + length third) ≤ room
  fits room h = omega (arith, ap length table-bytes, length-append first (second ++ third), length-append second third)

  pub three : (o o₁ o₂ o₃ : List ℕ) (a b c : ℕ) → a ≡ 0 + length first → o₁ ≡ sets o 0 first → b ≡ a + length second → o₂ ≡ sets o₁ a second → c ≡ b + length third → o₃ ≡ sets o₂ b third
      → (c ≡ length (written plain (lean_in w end p) (lean_makers_in w end 0 js))) × (o₃ ≡ sets o 0 (written plain (lean_in w end p) (lean_makers_in w end 0 js)))
  three o o₁ o₂ o₃ a b c a₁ a₂ b₁ b₂ c₁ c₂ = (
    omega (arith, ap length table-bytes, length-append first (second ++ third), length-append second third),
    c₂ ∙ ap (λ (t : List ℕ). sets t b third) (b₂ ∙ ap (λ (t : List ℕ). sets t a second) a₂ ∙ written-more o first second 0 a a₁)
        ∙ written-more o (first ++ second) third 0 b (omega (arith, length-append first second)) ∙ ap (sets o 0) (append_assoc first second third ∙ sym table-bytes),
  )

-- ---- a sum of sizes, of which those from x on are still to come

pub sizes-first : (plain : Bool) (w : List ℕ) (end x : ℕ) → x < end → sizes_in plain w (end - x) x ≡ entry_size plain (entry w x) + sizes_in plain w (end - (x + 1)) (x + 1)
sizes-first plain w end x h = let e : end - x ≡ suc (end - (x + 1)) = omega arith in ap (λ (n : ℕ). sizes_in plain w n x) e

pub sizes-end : (plain : Bool) (w : List ℕ) (end x : ℕ) → end ≤ x → sizes_in plain w (end - x) x ≡ 0
sizes-end plain w end x h = let e : end - x ≡ 0 = omega arith in ap (λ (n : ℕ). sizes_in plain w n x) e

pub sizes-start : (plain : Bool) (w : List ℕ) (end : ℕ) → sizes_in plain w (end - 0) 0 ≡ sizes_in plain w end 0
sizes-start plain w end = let e : end - 0 ≡ end = omega arith in ap (λ (n : ℕ). sizes_in plain w n 0) e
