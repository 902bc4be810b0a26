-- The length of the text, by counting lines: a form has one length, whatever its numbers. Assumes nothing.
use Prim.Native.Nat.{ℕ, zero, suc, ◌+◌, ◌*◌, ◌≤◌}
use mathlib.Core.Path.{◌≡◌, refl}
use mathlib.Core.Bool.{Bool, true, false, cond}
use mathlib.Core.List.{List, [], ◌∷◌, ◌++◌, map}
use native.Mathlib.Omega.{arith}
use lib.ListN.{length, get_or, length-append}
use Rattle.calculus.specs.Net.{Interface, inp, out, Element, point, part, Wire, Net}
use Rattle.calculus.specs.NetRead.{Known}
use Rattle.calculus.specs.Record.{All}
use Rattle.circuit_theorems.specs.Formed.{Rising, Formed}
use Rattle.circuit_theorems.proofs.Counts.{wires_few}
use Rattle.export_calculus.specs.Verilog.{element_forms, port_forms, assign_forms, header, ports_end, module_end, four_digits, is_mark, pick, letter, filled, Line, line_text, lines_text, line_of_element, line_of_wire, lines_of_pins, lines_of_ports, module_text}

letter-length : (c x y z : ℕ) → length (letter c x y z) ≡ length (letter c 0 0 0)
unfolding letter
letter-length c x y z = by (is_mark c)
  where
    by : (b : Bool) → length (cond b (four_digits (pick c x y z)) (c ∷ [])) ≡ length (cond b (four_digits (pick c 0 0 0)) (c ∷ []))
    by true = refl
    by false = refl

filled-length : (f : List ℕ) (x y z : ℕ) → length (filled f x y z) ≡ length (filled f 0 0 0)
filled-length [] x y z = refl
filled-length (c ∷ f) x y z =
    omega (arith, letter-length c x y z, filled-length f x y z, length-append (letter c x y z) (filled f x y z), length-append (letter c 0 0 0) (filled f 0 0 0))

-- the length of a list of lines
abbrev pub lines_size : List (List ℕ) → List Line → ℕ
lines_size fs [] = 0
lines_size fs (l ∷ ls) = length (filled (get_or fs l.form []) 0 0 0) + lines_size fs ls

texts_size : (fs : List (List ℕ)) (ls : List Line) → length (lines_text fs ls) ≡ lines_size fs ls
unfolding line_text
texts_size fs [] = refl
texts_size fs (l ∷ ls) =
    omega (arith, filled-length (get_or fs l.form []) l.x l.y l.z, texts_size fs ls, length-append (line_text fs l) (lines_text fs ls))

wires_size : (ws : List Wire) → lines_size assign_forms (map line_of_wire ws) ≡ 22 * length ws
unfolding assign_forms letter
wires_size [] = refl
wires_size (w ∷ ws) = omega (arith, wires_size ws)

pins_size : (k : ℕ) (ts : Interface) → lines_size assign_forms (lines_of_pins k ts) ≡ 22 * length ts
unfolding assign_forms letter
pins_size k [] = refl
pins_size k (inp i ∷ ts) = omega (arith, pins_size (k + 1) ts)
pins_size k (out o ∷ ts) = omega (arith, pins_size (k + 1) ts)

ports_size : (k : ℕ) (ts : Interface) → lines_size port_forms (lines_of_ports k ts) ≤ 16 * length ts
unfolding port_forms letter
ports_size k [] = omega arith
ports_size k (inp i ∷ ts) = omega (arith, ports_size (k + 1) ts)
ports_size k (out o ∷ ts) = omega (arith, ports_size (k + 1) ts)

-- at most 33 bytes for each terminal
elements_size : (es : List Element) (n e : ℕ) → Rising es n e → All Known es → lines_size element_forms (map line_of_element es) + 33 * n ≤ 33 * e
unfolding element_forms letter
elements_size [] n e a k = omega (arith, a)
elements_size (point i ∷ es) n e a k = omega (arith, a.0, elements_size es (i + 2) e a.1 k.1)
elements_size (part zero i ∷ es) n e a k = omega (arith, a.0, elements_size es (i + 0 + 1) e a.1 k.1)
elements_size (part (suc zero) i ∷ es) n e a k = omega (arith, a.0, elements_size es (i + 1 + 1) e a.1 k.1)
elements_size (part (suc (suc zero)) i ∷ es) n e a k = omega (arith, a.0, elements_size es (i + 2 + 1) e a.1 k.1)
elements_size (part (suc (suc (suc zero))) i ∷ es) n e a k = omega (arith, a.0, elements_size es (i + 2 + 1) e a.1 k.1)
elements_size (part (suc (suc (suc (suc zero)))) i ∷ es) n e a k = omega (arith, a.0, elements_size es (i + 2 + 1) e a.1 k.1)
elements_size (part (suc (suc (suc (suc (suc zero))))) i ∷ es) n e a k = omega (arith, a.0, elements_size es (i + 1 + 1) e a.1 k.1)
elements_size (part (suc (suc (suc (suc (suc (suc zero)))))) i ∷ es) n e a k = omega (arith, a.0, elements_size es (i + 0 + 1) e a.1 k.1)
elements_size (part (suc (suc (suc (suc (suc (suc (suc p))))))) i ∷ es) n e a k = absurd (omega (arith, k.0))

fixed : length header + length ports_end + length module_end ≡ 44
unfolding header ports_end module_end
fixed = refl

pub verilog_length : (m : Net) → length (module_text m)
    ≡ 44 + lines_size port_forms (lines_of_ports 0 m.pins) + lines_size element_forms (map line_of_element m.elements) + 22 * length m.wires + 22 * length m.pins
unfolding module_text
verilog_length m =
    let p = lines_text port_forms (lines_of_ports 0 m.pins) in
    let e = lines_text element_forms (map line_of_element m.elements) in
    let w = lines_text assign_forms (map line_of_wire m.wires) in
    let a = lines_text assign_forms (lines_of_pins 0 m.pins) in
    omega (
      arith,
      fixed,
      length-append header (p ++ (ports_end ++ (e ++ (w ++ (a ++ module_end))))),
      length-append p (ports_end ++ (e ++ (w ++ (a ++ module_end)))),
      length-append ports_end (e ++ (w ++ (a ++ module_end))),
      length-append e (w ++ (a ++ module_end)),
      length-append w (a ++ module_end),
      length-append a module_end,
      texts_size port_forms (lines_of_ports 0 m.pins),
      texts_size element_forms (map line_of_element m.elements),
      texts_size assign_forms (map line_of_wire m.wires),
      texts_size assign_forms (lines_of_pins 0 m.pins),
      wires_size m.wires,
      pins_size 0 m.pins,
    )

-- a netlist of known parts with so many terminals and pins
pub verilog_few : (m : Net) (ok : Formed m) → All Known m.elements → 3 * length (module_text m) ≤ 132 + 143 * ok.end + 114 * length m.pins
verilog_few m ok k =
    omega (arith, verilog_length m, ports_size 0 m.pins, elements_size m.elements 0 ok.end ok.rising k, wires_few m ok)
