-- A reader of the subset of Verilog in which the call writes (document 02, L1: "the lines, read by a definition of this subset, give back the
-- netlist"). It never asks what would be written: of the writer's it has only the marks X, Y, Z, and the three texts without numbers, which are
-- compared. Assumes nothing.
use Rattle.std.specs.Prelude.{ℕ, zero, suc, ◌+◌, ◌-◌, ◌*◌, Bool, true, false, cond, ◌&&◌, List, [], ◌∷◌, ◌++◌, eqb, leb, length, get_or, drop}
use Rattle.std.proofs.Math.Option.{Option, none, some, bind as ◌>>=◌}
use Rattle.calculus.specs.Texts.{ascii}
use Rattle.calculus.specs.Terms.{part_at}
use Rattle.calculus.specs.Net.{Terminal, inp, out, Interface, Element, point, part, Wire, Net}
use Rattle.export_calculus.specs.Verilog.{is_mark, header, ports_end, module_end}

-- ---- the words: not the writer's table, but built from the table of parts, so that a wrong word there would be seen here

-- the k-th terminal of an element: t and the mark X, Y or Z
abbrev pub net_mark : ℕ → List ℕ
net_mark k = 116 ∷ (88 + k) ∷ []

-- n of them from the k-th on, a comma between two
abbrev pub net_marks : ℕ → ℕ → List ℕ
net_marks k zero = []
net_marks k (suc zero) = net_mark k
net_marks k (suc (suc n)) = net_mark k ++ ascii ", " ++ net_marks (k + 1) (suc n)

abbrev pub with_semicolon : List ℕ → List ℕ
with_semicolon words = words ++ ascii ";\n"

-- a part with n inputs has n + 1 nets, the last is its output
abbrev pub declared : ℕ → List ℕ
declared n = with_semicolon (ascii "wire " ++ net_marks 0 (n + 1))

-- an instance of the standard's primitive: the output, then the inputs
abbrev pub gate_text : List ℕ → ℕ → List ℕ
gate_text word n = declared n ++ with_semicolon (word ++ ascii " (" ++ net_mark n ++ ascii ", " ++ net_marks 0 n ++ ascii ")")

abbrev pub assigned : List ℕ → List ℕ → List ℕ
assigned to from = with_semicolon (ascii "assign " ++ to ++ ascii " = " ++ from)

-- the output is assigned a value
abbrev pub valued : ℕ → List ℕ → List ℕ
valued n value = declared n ++ assigned (net_mark n) value

-- the output is a variable that takes the input's value at the clock's rising edge
abbrev pub register : List ℕ
register = declared 0 ++ with_semicolon (ascii "reg " ++ net_mark 1) ++ with_semicolon (ascii "always @(posedge clock) " ++ net_mark 1 ++ ascii " <= " ++ net_mark 0)

-- by the part's number; 7 for a point
unfoldable pub element_words : List (List ℕ)
element_words =
    valued (part_at 0).inputs (ascii "1'b0")
    ∷ register
    ∷ gate_text (ascii "and") (part_at 2).inputs
    ∷ gate_text (ascii "or") (part_at 3).inputs
    ∷ gate_text (ascii "xor") (part_at 4).inputs
    ∷ gate_text (ascii "not") (part_at 5).inputs
    ∷ valued (part_at 6).inputs (ascii "1'b1")
    ∷ valued 1 (net_mark 0)
    ∷ []

abbrev pub port_word : List ℕ → List ℕ
port_word direction = ascii ",\n  " ++ direction ++ ascii " pX"

-- an input's, an output's
unfoldable pub port_words : List (List ℕ)
port_words = port_word (ascii "input") ∷ port_word (ascii "output") ∷ []

-- a net from a net, a net from a port, a port from a net
unfoldable pub assign_words : List (List ℕ)
assign_words = assigned (ascii "tX") (ascii "tY") ∷ assigned (ascii "tX") (ascii "pY") ∷ assigned (ascii "pY") (ascii "tX") ∷ []

-- ---- reading

abbrev pub is_digit_lem : ℕ → Bool
is_digit_lem c = leb 48 c && leb c 57

-- a number of four digits stands here
unfoldable pub number_here : List ℕ → Option ℕ
number_here [] = none
number_here (a ∷ []) = none
number_here (a ∷ b ∷ []) = none
number_here (a ∷ b ∷ c ∷ []) = none
number_here (a ∷ b ∷ c ∷ d ∷ s) =
    cond ((is_digit_lem a && is_digit_lem b) && (is_digit_lem c && is_digit_lem d)) (some ((a - 48) * 1000 + (b - 48) * 100 + (c - 48) * 10 + (d - 48))) none

-- this character stands here
abbrev pub char_here : ℕ → List ℕ → Bool
char_here c [] = false
char_here c (b ∷ s) = eqb c b

-- the numbers of a line in their order, and what stands behind it
pub record Scanned : Type 0 where
  pub numbers : List ℕ
  pub rest : List ℕ

abbrev pub with_number : Option ℕ → Option Scanned → Option Scanned
with_number none r = none
with_number (some n) none = none
with_number (some n) (some r) = some record { numbers = n ∷ r.numbers; rest = r.rest }

-- a text that begins with a line of this form
unfoldable pub scan : List ℕ → List ℕ → Option Scanned
scan [] s = some record { numbers = []; rest = s }
scan (c ∷ cs) s =
    let behind = scan cs (drop 4 s) in
    let r = scan cs (drop 1 s) in
    cond (is_mark c) (with_number (number_here s) behind) (cond (char_here c s) r none)

-- a line that was read: which form, and its numbers
pub record Taken : Type 0 where
  pub form : ℕ
  pub numbers : List ℕ

pub record Fit : Type 0 where
  pub line : Taken
  pub rest : List ℕ

abbrev pub or_else : ℕ → Option Scanned → Option Fit → Option Fit
or_else j none other = other
or_else j (some r) other = some record { line = record { form = j; numbers = r.numbers }; rest = r.rest }

-- the first form that fits; they are counted from j
abbrev pub first_fit : List (List ℕ) → ℕ → List ℕ → Option Fit
first_fit [] j s = none
first_fit (f ∷ fs) j s = or_else j (scan f s) (first_fit fs (j + 1) s)

pub record Block : Type 0 where
  pub lines : List Taken
  pub rest : List ℕ

abbrev pub more : List ℕ → Option Fit → (List ℕ → Block) → Block
more s none go = record { lines = []; rest = s }
more s (some f) go = let b = go f.rest in record { lines = f.line ∷ b.lines; rest = b.rest }

-- as many lines as fit a form, at most n
unfoldable pub block : ℕ → List (List ℕ) → List ℕ → Block
block zero forms s = record { lines = []; rest = s }
block (suc n) forms s = more s (first_fit forms 0 s) (λ t. block n forms t)

-- ---- what the lines say

abbrev pub same_numbers : List ℕ → List ℕ → Bool
same_numbers [] [] = true
same_numbers [] (d ∷ t) = false
same_numbers (c ∷ s) [] = false
same_numbers (c ∷ s) (d ∷ t) = eqb c d && same_numbers s t

-- the numbers that the words of an element ask for: X, Y and Z are its first terminal and the next two
abbrev pub own_numbers : List ℕ → ℕ → List ℕ
own_numbers [] n = []
own_numbers (c ∷ cs) n = let r = own_numbers cs n in cond (is_mark c) ((n + (c - 88)) ∷ r) r

-- the first number is that of the element's first terminal, and all are those that its words ask for
unfoldable pub element_read : Taken → Option Element
element_read l =
    let n = get_or l.numbers 0 0 in
    cond (same_numbers l.numbers (own_numbers (get_or element_words l.form []) n)) (some (cond (eqb l.form 7) (point n) (part l.form n))) none

abbrev pub elements_read : List Taken → Option (List Element)
elements_read [] = some []
elements_read (l ∷ ls) = do
  e ← element_read l
  es ← elements_read ls
  some (e ∷ es)

-- the wires stand first: a net from a net
abbrev pub wires_read : List Taken → List Wire
wires_read [] = []
wires_read (l ∷ ls) = cond (eqb l.form 0) (record { from = get_or l.numbers 1 0; to = get_or l.numbers 0 0 } ∷ wires_read ls) []

abbrev pub behind_wires : List Taken → List Taken
behind_wires [] = []
behind_wires (l ∷ ls) = cond (eqb l.form 0) (behind_wires ls) (l ∷ ls)

-- position k, by its port line and its assignment, which both name it: an input port, from which a net is assigned; or an output port,
-- which is assigned from a net
unfoldable pub pin_read : ℕ → Taken → Taken → Option Terminal
pin_read k p l =
    let left = get_or l.numbers 0 0 in
    let right = get_or l.numbers 1 0 in
    cond (same_numbers p.numbers (k ∷ []))
    (cond (eqb p.form 0 && (eqb l.form 1 && eqb right k)) (some (inp left)) (cond (eqb p.form 1 && (eqb l.form 2 && eqb left k)) (some (out right)) none))
    none

-- from position k on: as many port lines as assignments
abbrev pub pins_read : ℕ → List Taken → List Taken → Option Interface
pins_read k [] [] = some []
pins_read k [] (l ∷ ls) = none
pins_read k (p ∷ ps) [] = none
pins_read k (p ∷ ps) (l ∷ ls) = do
  t ← pin_read k p l
  ts ← pins_read (k + 1) ps ls
  some (t ∷ ts)

-- ---- the whole

-- behind the ports, which were read: elements, wires, pins, the ending, and nothing else
unfoldable pub body_read : ℕ → List Taken → List ℕ → Option Net
body_read n ports s =
    let gates = block n element_words s in
    let assigns = block n assign_words gates.rest in do
      es ← elements_read gates.lines
      ts ← pins_read 0 ports (behind_wires assigns.lines)
      cond (same_numbers assigns.rest module_end) (some record { elements = es; wires = wires_read assigns.lines; pins = ts }) none

-- a text has no more lines than characters
unfoldable pub read_verilog : List ℕ → Option Net
read_verilog s = do
  opening ← scan header s
  let ports = block (length s) port_words opening.rest in do
    closing ← scan ports_end ports.rest
    body_read (length s) ports.lines closing.rest
