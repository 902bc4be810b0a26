-- Modules of small lean netlists, written out by hand from document 02, L1 and L2, and texts with one fault each. Assumes nothing.
use Rattle.std.specs.Prelude.{ℕ, List, [], ◌∷◌, ◌++◌}
use Rattle.std.proofs.Math.Option.{Option, none, some}
use Rattle.calculus.specs.Net.{Interface, inp, out, Element, point, part, Wire, Net}
use Rattle.calculus.specs.Texts.{ascii}
use Rattle.export_calculus.specs.Verilog.{module_text}
use Rattle.export_calculus.specs.VerilogRead.{read_verilog}

-- ---- netlists and their modules

pub record ModuleRow : Type 0 where
  pub net : Net
  pub text : List ℕ

abbrev net : List Element → List Wire → Interface → Net
net es ws ps = record { elements = es; wires = ws; pins = ps }

abbrev wire : ℕ → ℕ → Wire
wire o i = record { from = o; to = i }

abbrev row : Net → List ℕ → ModuleRow
row m t = record { net = m; text = t }

-- nothing but the clock
abbrev nothing : ModuleRow
nothing = row (net [] [] []) (ascii "module circuit (\n  input clock\n);\nendmodule\n")

-- P1: zero by itself
abbrev zero_alone : ModuleRow
zero_alone = row (net (part 0 0 ∷ []) [] (out 0 ∷ [])) (ascii "module circuit (\n  input clock,\n  output p0000\n);\nwire t0000;\nassign t0000 = 1'b0;\nassign p0000 = t0000;\nendmodule\n")

-- P6: and of zero and a register, back into the register
abbrev register_back : ModuleRow
register_back =
    row (net (part 2 2 ∷ part 0 5 ∷ part 1 6 ∷ []) (wire 5 2 ∷ wire 7 3 ∷ wire 4 6 ∷ []) (out 4 ∷ []))
    (ascii "module circuit (\n  input clock,\n  output p0000\n);\n"
    ++ (ascii "wire t0002, t0003, t0004;\nand (t0004, t0002, t0003);\nwire t0005;\nassign t0005 = 1'b0;\n"
    ++ (ascii "wire t0006;\nreg t0007;\nalways @(posedge clock) t0007 <= t0006;\n"
    ++ ascii "assign t0002 = t0005;\nassign t0003 = t0007;\nassign t0006 = t0004;\nassign p0000 = t0004;\nendmodule\n")))

-- a function from outside, given zero: it is shown the argument and the result at positions 0 and 2, and takes at position 1
abbrev from_outside : ModuleRow
from_outside =
    row (net (point 2 ∷ part 0 4 ∷ []) [] (out 4 ∷ inp 2 ∷ out 3 ∷ []))
    (ascii "module circuit (\n  input clock,\n  output p0000,\n  input p0001,\n  output p0002\n);\n"
    ++ (ascii "wire t0002, t0003;\nassign t0003 = t0002;\nwire t0004;\nassign t0004 = 1'b0;\n"
    ++ ascii "assign p0000 = t0004;\nassign t0002 = p0001;\nassign p0002 = t0003;\nendmodule\n"))

-- or of an input and of not of one
abbrev or_not : ModuleRow
or_not =
    row (net (point 0 ∷ part 3 2 ∷ part 5 5 ∷ part 6 7 ∷ []) (wire 6 2 ∷ wire 1 3 ∷ wire 7 5 ∷ []) (inp 0 ∷ out 4 ∷ []))
    (ascii "module circuit (\n  input clock,\n  input p0000,\n  output p0001\n);\n"
    ++ (ascii "wire t0000, t0001;\nassign t0001 = t0000;\nwire t0002, t0003, t0004;\nor (t0004, t0002, t0003);\n"
    ++ (ascii "wire t0005, t0006;\nnot (t0006, t0005);\nwire t0007;\nassign t0007 = 1'b1;\n"
    ++ ascii "assign t0002 = t0006;\nassign t0003 = t0001;\nassign t0005 = t0007;\nassign t0000 = p0000;\nassign p0001 = t0004;\nendmodule\n")))

-- four figures: xor of two inputs through a register at the last terminals, and one of the inputs shown
abbrev xor_last : ModuleRow
xor_last =
    row (net (point 1098 ∷ part 4 1234 ∷ part 1 8190 ∷ []) (wire 1099 1235 ∷ wire 1236 8190 ∷ []) (inp 1098 ∷ inp 1234 ∷ out 8191 ∷ out 1099 ∷ []))
    (ascii "module circuit (\n  input clock,\n  input p0000,\n  input p0001,\n  output p0002,\n  output p0003\n);\n"
    ++ (ascii "wire t1098, t1099;\nassign t1099 = t1098;\nwire t1234, t1235, t1236;\nxor (t1236, t1234, t1235);\n"
    ++ (ascii "wire t8190;\nreg t8191;\nalways @(posedge clock) t8191 <= t8190;\n"
    ++ ascii "assign t1235 = t1099;\nassign t8190 = t1236;\nassign t1098 = p0000;\nassign t1234 = p0001;\nassign p0002 = t8191;\nassign p0003 = t1099;\nendmodule\n")))

-- its ports, its elements, and what is assigned behind them
abbrev framed : List ℕ → List ℕ → List ℕ → List ℕ
framed ports elements assigns = ascii "module circuit (\n  input clock" ++ (ports ++ (ascii "\n);\n" ++ (elements ++ (assigns ++ ascii "endmodule\n"))))

abbrev in_out : List ℕ
in_out = ascii ",\n  input p0000,\n  output p0001"

abbrev inverter : List ℕ
inverter = ascii "wire t0000, t0001;\nnot (t0001, t0000);\n"

abbrev pinned : List ℕ
pinned = ascii "assign t0000 = p0000;\nassign p0001 = t0001;\n"

-- not of an input
abbrev inverting : ModuleRow
inverting = row (net (part 5 0 ∷ []) [] (inp 0 ∷ out 1 ∷ [])) (framed in_out inverter pinned)

abbrev pub worked_modules : List ModuleRow
worked_modules = nothing ∷ zero_alone ∷ register_back ∷ from_outside ∷ or_not ∷ xor_last ∷ inverting ∷ []

-- a row with what is written
abbrev pub written_row : ModuleRow → ModuleRow
written_row r = row r.net (module_text r.net)

-- what is read in its text
abbrev pub read_row : ModuleRow → Option Net
read_row r = read_verilog r.text

abbrev pub net_row : ModuleRow → Option Net
net_row r = some r.net

-- ---- texts with one fault: the last module above, changed

-- an element's numbers: every one the first, input and output exchanged, a terminal skipped, another net at the gate
abbrev misnamed : List (List ℕ)
misnamed =
    framed in_out (ascii "wire t0000, t0000;\nnot (t0000, t0000);\n") pinned ∷ framed in_out (ascii "wire t0000, t0001;\nnot (t0000, t0001);\n") pinned
    ∷ framed in_out (ascii "wire t0000, t0002;\nnot (t0002, t0000);\n") pinned ∷ framed in_out (ascii "wire t0000, t0001;\nnot (t0001, t0002);\n") pinned ∷ []

-- directions exchanged, both ports inputs, both outputs, positions falling, one position twice, a port too few, a port too many
abbrev misported : List (List ℕ)
misported =
    framed (ascii ",\n  output p0000,\n  input p0001") inverter pinned ∷ framed (ascii ",\n  input p0000,\n  input p0001") inverter pinned
    ∷ framed (ascii ",\n  output p0000,\n  output p0001") inverter pinned ∷ framed (ascii ",\n  input p0001,\n  output p0000") inverter pinned
    ∷ framed (ascii ",\n  input p0000,\n  output p0000") inverter pinned ∷ framed (ascii ",\n  input p0000") inverter pinned
    ∷ framed (ascii ",\n  input p0000,\n  output p0001,\n  output p0002") inverter pinned ∷ []

-- every pin at position 0, positions exchanged, the pins in falling order, an output's net assigned from its port, a wire behind the pins
abbrev mispinned : List (List ℕ)
mispinned =
    framed in_out inverter (ascii "assign t0000 = p0000;\nassign p0000 = t0001;\n") ∷ framed in_out inverter (ascii "assign t0000 = p0001;\nassign p0000 = t0001;\n")
    ∷ framed in_out inverter (ascii "assign p0001 = t0001;\nassign t0000 = p0000;\n") ∷ framed in_out inverter (ascii "assign t0000 = p0000;\nassign t0001 = p0001;\n")
    ∷ framed in_out inverter (pinned ++ ascii "assign t0000 = t0001;\n") ∷ []

-- nothing at all, no ending, a byte behind it, an element behind the pins, another header
abbrev misplaced : List (List ℕ)
misplaced =
    [] ∷ ascii "module circuit (\n  input clock\n);\n" ∷ ascii "module circuit (\n  input clock\n);\nendmodule\n\n" ∷ framed in_out [] (pinned ++ inverter)
    ∷ ascii "module circuit (\n  output clock\n);\nendmodule\n" ∷ []

abbrev pub faulty_modules : List (List (List ℕ))
faulty_modules = misnamed ∷ misported ∷ mispinned ∷ misplaced ∷ []

abbrev pub no_net : List ℕ → Option Net
no_net t = none
