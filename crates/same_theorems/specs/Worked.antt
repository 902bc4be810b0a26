-- Pairs of small sheets, the sheet that joins them, its lean netlist, and what a search says of it, each worked out by hand. Assumes nothing.
use Rattle.std.specs.Prelude.{ℕ, List, [], ◌∷◌}
use Prim.Native.String.{String}
use Rattle.calculus.specs.Texts.{hex}
use Rattle.calculus.specs.Answer.{Answer, good, refused, refuse, ◌>>=◌}
use Rattle.calculus.specs.Read.{Sheet, read_sheet}
use Rattle.calculus.specs.Write.{sheet_bytes}
use Rattle.calculus.specs.Net.{inp, out, Interface, Element, point, part, Wire, wire_of, Net}
use Rattle.calculus.specs.Lean.{lean}
use Rattle.calculus.specs.Translate.{full}
use Rattle.never_calculus.specs.Search.{examined, said_looked}
use Rattle.same_theorems.specs.Joint.{against}

-- start bytes for the registers of both; four numbers lent for each state
pub record JointRow : Type 0 where
  pub one : List ℕ
  pub other : List ℕ
  pub joint : List ℕ
  pub net : Net
  pub starts : List ℕ
  pub said : Answer ℕ

abbrev joint_row : String → String → String → Net → List ℕ → Answer ℕ → JointRow
joint_row a b s m starts r = record { one = hex a; other = hex b; joint = hex s; net = m; starts = starts; said = r }

abbrev net : List Element → List Wire → Interface → Net
net es ws ps = record { elements = es; wires = ws; pins = ps }

-- ---- netlists

-- an xor of inv x and x, in both editions
abbrev inverted : Net
inverted = net (point 0 ∷ part 4 2 ∷ part 5 5 ∷ []) (wire_of 6 2 ∷ wire_of 1 3 ∷ wire_of 1 5 ∷ []) (inp 0 ∷ out 4 ∷ [])

-- an xor of inv x and xor (one, x)
abbrev with_one : Net
with_one =
    net (point 0 ∷ part 4 2 ∷ part 5 5 ∷ part 4 9 ∷ part 6 12 ∷ []) (wire_of 6 2 ∷ wire_of 11 3 ∷ wire_of 1 5 ∷ wire_of 12 9 ∷ wire_of 1 10 ∷ []) (inp 0 ∷ out 4 ∷ [])

-- two registers of one input
abbrev two_registers : Net
two_registers = net (point 0 ∷ part 4 2 ∷ part 1 5 ∷ part 1 7 ∷ []) (wire_of 6 2 ∷ wire_of 8 3 ∷ wire_of 1 5 ∷ wire_of 1 7 ∷ []) (inp 0 ∷ out 4 ∷ [])

-- the pairs (x, inv x) and (x, x): an or of two xors
abbrev two_pairs : Net
two_pairs =
    net (point 0 ∷ part 5 4 ∷ part 3 8 ∷ part 4 11 ∷ part 4 14 ∷ [])
    (wire_of 1 4 ∷ wire_of 13 8 ∷ wire_of 16 9 ∷ wire_of 1 11 ∷ wire_of 1 12 ∷ wire_of 5 14 ∷ wire_of 1 15 ∷ []) (inp 0 ∷ out 10 ∷ [])

abbrev constants : Net
constants = net (part 4 0 ∷ part 0 3 ∷ part 6 4 ∷ []) (wire_of 3 0 ∷ wire_of 4 1 ∷ []) (out 2 ∷ [])

-- ---- the rows

abbrev pub worked_joints : List JointRow
worked_joints =
    -- inv, and the wire: they differ at once. In the second edition too
    joint_row "01 03 00 00 1A 05 01" "01 03 00 00 13 01 11 00" "01 03 00 00 03 00 01 13 01 14 14 1A 04 02 14 1A 05 01 11 00 14 13 01 11 00 11 00" inverted [] (refuse 40 0)
    ∷ joint_row "31 01 03 00 00 1A 05 01" "31 01 03 00 00 13 01 11 00" "31 01 03 00 00 02 00 00 03 02 00 13 01 14 1A 04 03 17 02 14 1A 05 01 11 00 14 13 01 11 00 11 00" inverted [] (refuse 40 0)
    -- inv, and an xor with one: the same
    ∷ joint_row "01 03 00 00 1A 05 01" "01 03 00 00 03 00 01 13 01 14 14 1A 04 02 1A 06 00 11 00" "01 03 00 00 03 00 01 13 01 14 14 1A 04 02 14 1A 05 01 11 00 14 13 01 14 14 1A 04 02 1A 06 00 11 00 11 00" with_one [] (good 1)
    -- a register twice: the same from 0 and 0, in the two states where both are equal; from 0 and 1 they differ at once
    ∷ joint_row "01 03 00 00 1A 01 01" "01 03 00 00 1A 01 01" "01 03 00 00 03 00 01 13 01 14 14 1A 04 02 14 1A 01 01 11 00 14 1A 01 01 11 00" two_registers (0 ∷ 0 ∷ []) (good 2)
    ∷ joint_row "01 03 00 00 1A 01 01" "01 03 00 00 1A 01 01" "01 03 00 00 03 00 01 13 01 14 14 1A 04 02 14 1A 01 01 11 00 14 1A 01 01 11 00" two_registers (0 ∷ 1 ∷ []) (refuse 40 0)
    -- the second of two bits differs
    ∷ joint_row "01 02 00 00 03 00 01 03 00 00 13 02 17 01 11 00 14 1A 05 03 11 00" "01 02 00 00 03 00 01 13 02 17 01 11 00 11 00"
    "01 02 00 00 03 00 01 03 00 00 03 00 03 13 03 18 14 13 02 17 01 11 00 14 1A 05 03 11 00 11 00 18 14 13 02 17 01 11 00 11 00 11 02 14 14 1A 03 04 14 14 1A 04 04 11 03 11 01 14 14 1A 04 04 11 02 11 00"
    two_pairs [] (refuse 40 0)
    -- zero and one, with no input
    ∷ joint_row "01 1A 00 00" "01 1A 06 00" "01 03 00 00 03 00 01 14 14 1A 04 02 1A 00 00 1A 06 00" constants [] (refuse 40 0)
    ∷ []

-- ---- what the definitions say

abbrev written : Answer Sheet → List ℕ
written (good σ) = sheet_bytes σ.edition σ.table σ.term
written (refused why) = []

abbrev lean_of : Answer Net → Net
lean_of (good m) = lean m
lean_of (refused why) = net [] [] []

-- a row with the joint sheet of its two, that sheet's lean netlist, and the answer of a search
abbrev pub joins : JointRow → JointRow
joins r =
    let s = written (read_sheet r.one >>= λ σ. read_sheet r.other >>= λ σ'. good (against σ σ')) in
    let m = lean_of (full s) in
    record { one = r.one; other = r.other; joint = s; net = m; starts = r.starts; said = examined m r.starts 0 4 4 >>= said_looked }
