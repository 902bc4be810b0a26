-- The lean netlist as one module of structural Verilog (document 02, L1 and L2), to the byte, and the call. Assumes nothing.
-- A terminal is the net t and four digits, a pin position the port p and four digits. A text is lines; a line is a form, in which X, Y
-- and Z stand for numbers of four digits (no other capital letter is in any form), and its numbers.
use Rattle.std.specs.Prelude.{ℕ, ◌+◌, ◌/◌, ◌%◌, Bool, cond, ◌&&◌, List, [], ◌∷◌, ◌++◌, map, eqb, leb, length, get_or}
use Rattle.calculus.specs.Texts.{ascii}
use Rattle.calculus.specs.Answer.{Answer, good, ◌>>=◌, need}
use Rattle.calculus.specs.Net.{Terminal, inp, out, Interface, Element, point, part, Wire, Net}
use Rattle.calculus.specs.Lean.{lean}
use Rattle.calculus.specs.Translate.{full, said_of, out_of, work_of, Call}
use Rattle.export_calculus.specs.Card.{need_all, no_ring, input_place}

-- ---- the forms

-- "gate instances with the output named first, as the standard's primitives have it; a register as a clocked assignment", without an
-- initial value (L2); zero, reg, and, or, xor, inv, one, and 7 for a point: X is the first terminal, Y and Z the next two
unfoldable pub element_forms : List (List ℕ)
element_forms =
    ascii "wire tX;\nassign tX = 1'b0;\n"
    ∷ ascii "wire tX;\nreg tY;\nalways @(posedge clock) tY <= tX;\n"
    ∷ ascii "wire tX, tY, tZ;\nand (tZ, tX, tY);\n"
    ∷ ascii "wire tX, tY, tZ;\nor (tZ, tX, tY);\n"
    ∷ ascii "wire tX, tY, tZ;\nxor (tZ, tX, tY);\n"
    ∷ ascii "wire tX, tY;\nnot (tY, tX);\n"
    ∷ ascii "wire tX;\nassign tX = 1'b1;\n"
    ∷ ascii "wire tX, tY;\nassign tY = tX;\n"
    ∷ []

-- "one port for each pin position, inputs for input terminals and outputs for the others", at position X
unfoldable pub port_forms : List (List ℕ)
port_forms = ascii ",\n  input pX" ∷ ascii ",\n  output pX" ∷ []

-- a wire to X from Y; the pin of input X at position Y; the pin of output X at position Y
unfoldable pub assign_forms : List (List ℕ)
assign_forms = ascii "assign tX = tY;\n" ∷ ascii "assign tX = pY;\n" ∷ ascii "assign pY = tX;\n" ∷ []

-- "one module: a clock port, then .."
unfoldable pub header : List ℕ
header = ascii "module circuit (\n  input clock"

unfoldable pub ports_end : List ℕ
ports_end = ascii "\n);\n"

unfoldable pub module_end : List ℕ
module_end = ascii "endmodule\n"

-- ---- writing

-- four decimal digits
abbrev pub four_digits : ℕ → List ℕ
four_digits n = (48 + n / 10 / 10 / 10 % 10) ∷ (48 + n / 10 / 10 % 10) ∷ (48 + n / 10 % 10) ∷ (48 + n % 10) ∷ []

-- X, Y and Z are 88, 89 and 90
abbrev pub is_mark : ℕ → Bool
is_mark c = leb 88 c && leb c 90

-- the number that a mark stands for
abbrev pub pick : ℕ → ℕ → ℕ → ℕ → ℕ
pick c x y z = cond (eqb c 88) x (cond (eqb c 89) y z)

unfoldable pub letter : ℕ → ℕ → ℕ → ℕ → List ℕ
letter c x y z = cond (is_mark c) (four_digits (pick c x y z)) (c ∷ [])

abbrev pub filled : List ℕ → ℕ → ℕ → ℕ → List ℕ
filled [] x y z = []
filled (c ∷ cs) x y z = letter c x y z ++ filled cs x y z

-- which form of a list of forms, and the numbers
pub record Line : Type 0 where
  pub form : ℕ
  pub x : ℕ
  pub y : ℕ
  pub z : ℕ

unfoldable pub line_text : List (List ℕ) → Line → List ℕ
line_text forms l = filled (get_or forms l.form []) l.x l.y l.z

abbrev pub lines_text : List (List ℕ) → List Line → List ℕ
lines_text forms [] = []
lines_text forms (l ∷ ls) = line_text forms l ++ lines_text forms ls

-- of kind k (a part's number, or 7 for a point), with the first terminal n
abbrev pub kind_line : ℕ → ℕ → Line
kind_line k n = record { form = k; x = n; y = n + 1; z = n + 2 }

abbrev pub line_of_element : Element → Line
line_of_element (point i) = kind_line 7 i
line_of_element (part p i) = kind_line p i

abbrev pub line_of_wire : Wire → Line
line_of_wire w = record { form = 0; x = w.to; y = w.from; z = 0 }

-- the pin at position k
abbrev pub line_of_pin : ℕ → Terminal → Line
line_of_pin k (inp i) = record { form = 1; x = i; y = k; z = 0 }
line_of_pin k (out o) = record { form = 2; x = o; y = k; z = 0 }

abbrev pub line_of_port : ℕ → Terminal → Line
line_of_port k (inp i) = record { form = 0; x = k; y = 0; z = 0 }
line_of_port k (out o) = record { form = 1; x = k; y = 0; z = 0 }

-- the pins, from position k on
abbrev pub lines_of_pins : ℕ → Interface → List Line
lines_of_pins k [] = []
lines_of_pins k (t ∷ ts) = line_of_pin k t ∷ lines_of_pins (k + 1) ts

abbrev pub lines_of_ports : ℕ → Interface → List Line
lines_of_ports k [] = []
lines_of_ports k (t ∷ ts) = line_of_port k t ∷ lines_of_ports (k + 1) ts

unfoldable pub module_text : Net → List ℕ
module_text m =
    header
    ++ (lines_text port_forms (lines_of_ports 0 m.pins)
    ++ (ports_end
    ++ (lines_text element_forms (map line_of_element m.elements)
    ++ (lines_text assign_forms (map line_of_wire m.wires) ++ (lines_text assign_forms (lines_of_pins 0 m.pins) ++ module_end)))))

-- ---- the call: 1, then 2 to 16, then 18 for a kept ring point, then 17

-- from the full netlist
unfoldable pub exported : Net → ℕ → Answer (List ℕ)
exported m room = do
  _ ← need_all (no_ring (lean m).pins) 18 input_place (lean m).elements
  let text = module_text (lean m) in do
    _ ← need (leb (length text) room) 17 (length text)
    good text

unfoldable pub export : ℕ → List ℕ → ℕ → Answer (List ℕ)
export memory s room = do
  _ ← need (leb 32768 memory) 1 0
  m ← full s
  exported m room

unfoldable pub verilog_call : List ℕ → List ℕ → List ℕ → Call
verilog_call s room work =
    let a = export (length work) s (length room) in
    record { said = said_of a; out = out_of a room; work = work_of work }
