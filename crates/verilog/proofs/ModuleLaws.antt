-- The text as the working memory gives it is the definition's, and it is short enough for an offset. Assumes nothing.
use Prim.Native.Nat.{ℕ, zero, suc, ◌+◌, ◌-◌, ◌*◌, ◌≤◌}
use mathlib.Core.Path.{◌≡◌, refl, ap}
use mathlib.Core.Bool.{Bool, true, false, cond}
use mathlib.Core.List.{List, [], ◌∷◌, ◌++◌, map, append_assoc}
use native.Mathlib.Omega.{arith}
use lib.Dec.{T, leb, leb→le, eqb, ltb}
use lib.ListN.{length, get_or, drop, length-append, length-map, get_or-eq_default}
use native.Mathlib.Decide.{dec_le}
use Rattle.laws.proofs.Below.{all, below}
use Rattle.calculus.specs.Net.{Element, point, part, Wire, wire_of}
use Rattle.export_calculus.specs.Verilog.{element_forms, port_forms, assign_forms, header, ports_end, module_end, filled, letter, Line, line_text, lines_text, line_of_element, line_of_wire, line_of_pin, line_of_port, lines_of_pins, lines_of_ports, module_text}
use Rattle.memory.specs.Map.{roots_at, region, elements_from, terminal_of}
use Rattle.lean.specs.Layout.{lean_pins_at, kinds_from, left_out, first_terminal, element_at, wire_at, row_in, lean_in, LeanReady}
use Rattle.lean.proofs.KindLaws.{region-next, region-end}
use Rattle.lean.proofs.Rows.{row-text, row-few}
use Rattle.lines.specs.Wrote.{WroteText}
use Rattle.lines.proofs.Stores.{wrote-two}
use Rattle.verilog.specs.InMemory.{element_text, wire_text, element_line_at, wire_line_at, pin_line_at, port_line_at}
use Rattle.verilog.specs.Groups.{count_of, table_at, group_line_at, group_text, opening_text, body_text}
use Rattle.verilog.specs.declared.walk.Group.{Group}
use Rattle.verilog.specs.declared.walk.Group.TheVariants as group
use Rattle.verilog.proofs.Filling.{filled-few}
use Rattle.verilog.proofs.TextRows.{elements_append, wires_append}

-- ---- how long

abbrev Short : List (List ℕ) → Type 0
Short fs = (k : ℕ) → length (get_or fs k []) ≤ 64

short : (fs : List (List ℕ)) → T (all (length fs) (λ k. leb (length (get_or fs k [])) 64)) → Short fs
short fs t k =
    elim (dec_le (length fs) k) [
      | yes l ↦ let e = ap length (get_or-eq_default fs [] {n = k} l) in omega arith
      | no l ↦ leb→le (length (get_or fs k [])) 64 (below (length fs) (λ j. leb (length (get_or fs j [])) 64) t k (omega arith))
    ]

elements_short : Short element_forms
unfolding element_forms
elements_short = short element_forms tt

assigns_short : Short assign_forms
unfolding assign_forms
assigns_short = short assign_forms tt

ports_short : Short port_forms
unfolding port_forms
ports_short = short port_forms tt

texts_few : (fs : List (List ℕ)) → Short fs → (ls : List Line) → length (lines_text fs ls) ≤ 256 * length ls
unfolding line_text
texts_few fs h [] = omega arith
texts_few fs h (l ∷ ls) =
    omega (arith, filled-few l.x l.y l.z (get_or fs l.form []), h l.form, texts_few fs h ls, length-append (line_text fs l) (lines_text fs ls))

line-few : (fs : List (List ℕ)) → Short fs → (l : Line) → length (line_text fs l) ≤ 256
unfolding line_text
line-few fs h l = omega (arith, filled-few l.x l.y l.z (get_or fs l.form []), h l.form)

elements_few : (v x : ℕ) → length (element_line_at v x) ≤ 256
unfolding element_text
elements_few v x = omega (arith, texts_few element_forms elements_short (map line_of_element (element_at v x)), length-map (element_at v x) line_of_element, by (ltb v kinds_from) (ltb v left_out))
  where
    one : (k n : ℕ) → length (elements_from (k ∷ []) n) ≤ 1
    one k n = either (eqb k 7)
      where
        either : (b : Bool) → length (cond b (point n ∷ []) (part k n ∷ [])) ≤ 1
        either true = omega arith
        either false = omega arith

    by : (a b : Bool) → length {A = Element} (cond a [] (cond b (elements_from ((v - kinds_from) ∷ []) (first_terminal (v - kinds_from) x)) [])) ≤ 1
    by true b = omega arith
    by false true = one (v - kinds_from) (first_terminal (v - kinds_from) x)
    by false false = omega arith

wires_few : (v x : ℕ) → length (wire_line_at v x) ≤ 256
unfolding wire_text
wires_few v x = omega (arith, texts_few assign_forms assigns_short (map line_of_wire (wire_at v x)), length-map (wire_at v x) line_of_wire, by (eqb v 0) (ltb v kinds_from))
  where
    by : (a b : Bool) → length {A = Wire} (cond a [] (cond b (wire_of (v - 1) x ∷ []) [])) ≤ 1
    by true b = omega arith
    by false true = omega arith
    by false false = omega arith

pins_few : (v x : ℕ) → length (pin_line_at v x) ≤ 256
pins_few v x = line-few assign_forms assigns_short (line_of_pin x (terminal_of v))

ports_few : (v x : ℕ) → length (port_line_at v x) ≤ 256
ports_few v x = line-few port_forms ports_short (line_of_port x (terminal_of v))

pub lines-few : (g : Group) (v x : ℕ) → length (group_line_at g v x) ≤ 256
lines-few group.Ports v x = ports_few v x
lines-few group.Elements v x = elements_few v x
lines-few group.Wires v x = wires_few v x
lines-few group.Pins v x = pins_few v x

-- ---- the pieces

opening-is : filled header 0 0 0 ≡ header
unfolding header letter
opening-is = refl

closing-is : filled ports_end 0 0 0 ≡ ports_end
unfolding ports_end letter
closing-is = refl

ending_is : filled module_end 0 0 0 ≡ module_end
unfolding module_end letter
ending_is = refl

opening-length : length (filled header 0 0 0) ≡ 30
unfolding header
opening-length = ap length opening-is

closing-length : length (filled ports_end 0 0 0) ≡ 4
unfolding ports_end
closing-length = ap length closing-is

-- ---- the pins from the j-th on

module _ (w : List ℕ) (at p : ℕ) (size : at + p ≤ length w) where
  pins_are : (c j : ℕ) → j + c ≡ p → lines_text assign_forms (lines_of_pins j (map terminal_of (drop j (region w at p)))) ≡ row_in pin_line_at at w c j
  pins_are zero j h = rw (region-end w at p j size (omega arith))
  pins_are (suc c) j h = rw (region-next w at p j size (omega arith)) (ap (λ (t : List ℕ). line_text assign_forms (line_of_pin j (terminal_of (get_or w (at + j) 0))) ++ t) (pins_are c (j + 1) (omega arith)))

  ports-are : (c j : ℕ) → j + c ≡ p → lines_text port_forms (lines_of_ports j (map terminal_of (drop j (region w at p)))) ≡ row_in port_line_at at w c j
  ports-are zero j h = rw (region-end w at p j size (omega arith))
  ports-are (suc c) j h = rw (region-next w at p j size (omega arith)) (ap (λ (t : List ℕ). line_text port_forms (line_of_port j (terminal_of (get_or w (at + j) 0))) ++ t) (ports-are c (j + 1) (omega arith)))

module _ (w : List ℕ) (end p : ℕ) (f : LeanReady w end p) where
  pins_size : lean_pins_at + p ≤ length w
  pins_size = let z = f.size in let l = f.few_pins in omega arith

  module-is : module_text (lean_in w end p) ≡ opening_text w end p ++ (body_text w end p ++ module_end)
  unfolding module_text element_text wire_text lean_in
  module-is =
      rw (
        append_assoc header (group_text group.Ports w end p ++ ports_end) (body_text w end p ++ module_end),
        append_assoc (group_text group.Ports w end p) ports_end (body_text w end p ++ module_end),
        append_assoc (group_text group.Elements w end p) (group_text group.Wires w end p ++ group_text group.Pins w end p) module_end,
        append_assoc (group_text group.Wires w end p) (group_text group.Pins w end p) module_end,
        ← row-text element_at roots_at w element_text refl elements_append end 0,
        ← row-text wire_at roots_at w wire_text refl wires_append end 0,
        ← pins_are w lean_pins_at p pins_size p 0 (omega arith),
        ← ports-are w lean_pins_at p pins_size p 0 (omega arith),
      )

  -- how far each piece comes

  pub count_low : (g : Group) → count_of g end p ≤ 8192
  count_low group.Ports = omega (arith, f.few_pins)
  count_low group.Elements = f.below
  count_low group.Wires = f.below
  count_low group.Pins = omega (arith, f.few_pins)

  pub group_low : (g : Group) {o o₁ : List ℕ} {a b : ℕ} → WroteText o a (group_text g w end p) o₁ b → b ≤ a + 2097152
  group_low g q = omega (arith, q.offset, row-few (group_line_at g) (table_at g) w 256 (lines-few g) (count_of g end p) 0, count_low g)

  pub header-low : {o o₁ : List ℕ} {a : ℕ} → WroteText o 0 (filled header 0 0 0) o₁ a → a ≤ 30
  header-low q = omega (arith, q.offset, opening-length)

  pub opening-low : {o o₁ : List ℕ} {a : ℕ} → WroteText o 0 (opening_text w end p) o₁ a → a ≤ 4194304
  opening-low q =
      omega (arith, q.offset, length-append header (group_text group.Ports w end p ++ ports_end), length-append (group_text group.Ports w end p) ports_end, ap length opening-is, opening-length, ap length closing-is, closing-length, row-few port_line_at lean_pins_at w 256 ports_few p 0, f.few_pins)

  pub body-low : {o o₁ : List ℕ} {a b : ℕ} → a ≤ 4194304 → WroteText o a (body_text w end p) o₁ b → b ≤ 16777216
  body-low h q =
      omega (arith, q.offset, length-append (group_text group.Elements w end p) (group_text group.Wires w end p ++ group_text group.Pins w end p), length-append (group_text group.Wires w end p) (group_text group.Pins w end p), row-few element_line_at roots_at w 256 elements_few end 0, row-few wire_line_at roots_at w 256 wires_few end 0, row-few pin_line_at lean_pins_at w 256 pins_few p 0, f.few_pins, f.below)

  -- .. and one behind the other

  pub opening-wrote : {o o₁ o₂ o₃ : List ℕ} {a b c : ℕ} → WroteText o 0 (filled header 0 0 0) o₁ a → WroteText o₁ a (group_text group.Ports w end p) o₂ b → WroteText o₂ b (filled ports_end 0 0 0) o₃ c
      → WroteText o 0 (opening_text w end p) o₃ c
  opening-wrote p₁ p₂ p₃ = rw (← opening-is, ← closing-is) (wrote-two p₁ (wrote-two p₂ p₃))

  pub module_wrote : {o o₁ o₂ o₃ : List ℕ} {a b c : ℕ} → WroteText o 0 (opening_text w end p) o₁ a → WroteText o₁ a (body_text w end p) o₂ b → WroteText o₂ b (filled module_end 0 0 0) o₃ c
      → WroteText o 0 (module_text (lean_in w end p)) o₃ c
  module_wrote p₁ p₂ p₃ = rw (module-is, ← ending_is) (wrote-two p₁ (wrote-two p₂ p₃))
