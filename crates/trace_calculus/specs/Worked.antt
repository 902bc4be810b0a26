-- Runs of lean netlists whose bits or refusals were worked out by hand from document 02, L4. Assumes nothing.
use Rattle.std.specs.Prelude.{ℕ, List, [], ◌∷◌}
use Prim.Native.String.{String}
use Rattle.calculus.specs.Texts.{hex}
use Rattle.calculus.specs.Answer.{Answer, good, refuse}
use Rattle.calculus.specs.Net.{Interface, inp, out, Element, point, part, Wire, Net}
use Rattle.trace_calculus.specs.Trace.{ran}
use Rattle.trace_calculus.specs.Lanes.{LanesEnd, lanes_ran}

-- a netlist, the ticks, the bits and starts lent, the room, and the answer
pub record TraceRow : Type 0 where
  pub net : Net
  pub ticks : ℕ
  pub bits : List ℕ
  pub starts : List ℕ
  pub room : ℕ
  pub answer : Answer (List ℕ)

abbrev row : Net → ℕ → String → String → ℕ → Answer (List ℕ) → TraceRow
row m n bits starts room a = record { net = m; ticks = n; bits = hex bits; starts = hex starts; room = room; answer = a }

abbrev writes : String → Answer (List ℕ)
writes text = good (hex text)

abbrev net : List Element → List Wire → Interface → Net
net es ws ps = record { elements = es; wires = ws; pins = ps }

abbrev wire : ℕ → ℕ → Wire
wire o i = record { from = o; to = i }

-- ---- netlists

-- a register by itself
abbrev register : Net
register = net (part 1 0 ∷ []) [] (inp 0 ∷ out 1 ∷ [])

-- reg (reg x): the outer register has the lower terminals
abbrev two : Net
two = net (point 0 ∷ part 1 2 ∷ part 1 4 ∷ []) (wire 5 2 ∷ wire 1 4 ∷ []) (inp 0 ∷ out 3 ∷ [])

-- x, y in; y, x out
abbrev swap : Net
swap = net (point 0 ∷ point 2 ∷ []) [] (inp 0 ∷ inp 2 ∷ out 3 ∷ out 1 ∷ [])

-- fix x. inv (reg x)
abbrev toggle : Net
toggle = net (part 5 2 ∷ part 1 4 ∷ []) (wire 5 2 ∷ wire 3 4 ∷ []) (out 3 ∷ [])

abbrev gates : Net
gates = net (part 2 0 ∷ []) [] (inp 0 ∷ inp 1 ∷ out 2 ∷ [])

-- fix x. x and fix x. inv x: a ring of one point, and one of one gate
abbrev rings : Net
rings = net (point 0 ∷ part 5 2 ∷ []) (wire 1 0 ∷ wire 3 2 ∷ []) (out 1 ∷ out 3 ∷ [])

-- the gate's alone
abbrev inverter : Net
inverter = net (part 5 2 ∷ []) (wire 3 2 ∷ []) (out 3 ∷ [])

-- ---- the rows

-- a register delays, from either start; the starts stand by rising terminal, the bits of a tick in pin order
abbrev written : List TraceRow
written =
    row register 4 "01 00 01 01" "00" 4 (writes "00 01 00 01")
    ∷ row register 4 "01 00 01 01" "01" 9 (writes "01 01 00 01")
    ∷ row two 5 "01 00 01 01 00" "01 00" 5 (writes "01 00 01 00 01")
    ∷ row two 5 "01 00 01 01 00" "00 01" 5 (writes "00 01 01 00 01")
    ∷ row swap 3 "01 00 00 01 01 01" "" 6 (writes "00 01 01 00 01 01")
    ∷ row toggle 3 "" "00" 3 (writes "01 00 01")
    ∷ row gates 4 "00 00 00 01 01 00 01 01" "" 4 (writes "00 00 00 01")
    ∷ row register 0 "" "01" 0 (writes "")
    ∷ []

-- 19 at the lowest input of both rings, before 20; 20 for a byte 2, a bit too few and no start, also without ticks, before 17; 17
abbrev turned : List TraceRow
turned =
    row rings 1 "" "" 2 (refuse 19 0)
    ∷ row inverter 1 "" "" 1 (refuse 19 2)
    ∷ row inverter 1 "02" "" 1 (refuse 19 2)
    ∷ row register 2 "00 02" "00" 2 (refuse 20 0)
    ∷ row register 2 "01" "00" 2 (refuse 20 0)
    ∷ row register 0 "" "" 0 (refuse 20 0)
    ∷ row register 2 "01 00" "" 1 (refuse 20 0)
    ∷ row register 2 "01 00" "00" 1 (refuse 17 2)
    ∷ []

-- a row with what the definition answers
abbrev pub runs : TraceRow → TraceRow
runs r = record { net = r.net; ticks = r.ticks; bits = r.bits; starts = r.starts; room = r.room; answer = ran r.net r.ticks r.bits r.starts r.room }

abbrev pub worked_runs : List (List TraceRow)
worked_runs = written ∷ turned ∷ []

-- ---- sixteen traces at once

abbrev leaves : List ℕ → List ℕ → Answer LanesEnd
leaves xs state = good (record { out = xs; state = state })

-- AAAA and 5555 through a register that holds 00FF; two ticks through two registers, of which the first in the list is the last in the row; a
-- toggle at 00FF; CCCC and AAAA; no tick; and 19, 20 (a state too short, though every number is fine), 17
abbrev pub lanes_runs : List (Answer LanesEnd)
lanes_runs =
    lanes_ran register 2 (0xAAAA ∷ 0x5555 ∷ []) (0x00FF ∷ []) 2 ∷ lanes_ran two 2 (0x1234 ∷ 0x5678 ∷ []) (1 ∷ 0x8000 ∷ []) 9 ∷ lanes_ran toggle 3 [] (0x00FF ∷ []) 3 ∷ lanes_ran gates 1 (0xCCCC ∷ 0xAAAA ∷ []) [] 1
    ∷ lanes_ran register 0 [] (0x00FF ∷ []) 0 ∷ lanes_ran rings 1 [] [] 2 ∷ lanes_ran register 1 (0xFFFF ∷ []) [] 1 ∷ lanes_ran register 2 (1 ∷ 2 ∷ []) (3 ∷ []) 1 ∷ []

abbrev pub lanes_worked : List (Answer LanesEnd)
lanes_worked =
    leaves (0x00FF ∷ 0xAAAA ∷ []) (0x5555 ∷ []) ∷ leaves (1 ∷ 0x8000 ∷ []) (0x1234 ∷ 0x5678 ∷ []) ∷ leaves (0xFF00 ∷ 0x00FF ∷ 0xFF00 ∷ []) (0xFF00 ∷ []) ∷ leaves (0x8888 ∷ []) []
    ∷ leaves [] (0x00FF ∷ []) ∷ refuse 19 0 ∷ refuse 20 0 ∷ refuse 17 2 ∷ []
