-- Netlists whose outcome was worked out by hand. Assumes nothing.
use Rattle.std.specs.Prelude.{ℕ, List, [], ◌∷◌}
use Rattle.calculus.specs.Answer.{Answer, good, refuse, ◌>>=◌}
use Rattle.calculus.specs.Net.{Interface, inp, out, Element, point, part, Wire, wire_of, Net}
use Rattle.never_calculus.specs.Search.{examined, said_looked, out_answer}

-- a netlist, the start bytes, the pin, the numbers lent, the answer, and what stands in an output of twelve bytes 9
pub record NeverRow : Type 0 where
  pub net : Net
  pub starts : List ℕ
  pub pin : ℕ
  pub room : ℕ
  pub answer : Answer ℕ
  pub output : List ℕ

abbrev row : Net → List ℕ → ℕ → ℕ → Answer ℕ → List ℕ → NeverRow
row m starts pin room a o = record { net = m; starts = starts; pin = pin; room = room; answer = a; output = o }

abbrev net : List Element → List Wire → Interface → Net
net es ws ps = record { elements = es; wires = ws; pins = ps }

-- ---- netlists

-- s = or (x, reg s), and the property that it falls: and (reg s, inv s). Pins: x in; s, the fall out
abbrev sticky : Net
sticky =
    net (part 3 0 ∷ part 1 3 ∷ part 2 5 ∷ part 5 8 ∷ [])
    (wire_of 4 1 ∷ wire_of 2 3 ∷ wire_of 4 5 ∷ wire_of 9 6 ∷ wire_of 2 8 ∷ [])
    (inp 0 ∷ out 2 ∷ out 7 ∷ [])

-- s = inv (reg s), and that it falls: and (reg s, inv s) where reg s is its last
abbrev toggle : Net
toggle = net (part 5 0 ∷ part 1 2 ∷ part 2 4 ∷ part 5 7 ∷ []) (wire_of 3 0 ∷ wire_of 1 2 ∷ wire_of 3 4 ∷ wire_of 8 5 ∷ wire_of 1 7 ∷ []) (out 1 ∷ out 6 ∷ [])

-- reg (reg x): the outer register has the lower terminals. Pins: x in, the outer one's output
abbrev two : Net
two = net (point 0 ∷ part 1 2 ∷ part 1 4 ∷ []) (wire_of 5 2 ∷ wire_of 1 4 ∷ []) (inp 0 ∷ out 3 ∷ [])

-- fix x. inv x: a ring of one gate
abbrev inverter : Net
inverter = net (part 5 2 ∷ []) (wire_of 3 2 ∷ []) (out 3 ∷ [])

abbrev nine : List ℕ
nine = 9 ∷ 9 ∷ 9 ∷ 9 ∷ []

-- ---- the rows

-- a sticky bit never falls, whatever it starts with: both states are met. The bit itself shows at tick 0 with x, or at once where it may
-- start with 1
abbrev stickies : List NeverRow
stickies =
    row sticky (2 ∷ []) 1 2 (good 2) nine ∷ row sticky (0 ∷ []) 1 2 (good 2) nine ∷ row sticky (1 ∷ []) 1 2 (good 1) nine
    ∷ row sticky (0 ∷ []) 0 2 (refuse 40 0) (0 ∷ 1 ∷ 9 ∷ 9 ∷ []) ∷ row sticky (1 ∷ []) 0 2 (refuse 40 0) (1 ∷ 0 ∷ 9 ∷ 9 ∷ []) ∷ []

-- a toggle falls at tick 1 from 0, at tick 0 from 1 or either
abbrev toggles : List NeverRow
toggles =
    row toggle (0 ∷ []) 1 2 (refuse 40 1) (0 ∷ 9 ∷ 9 ∷ 9 ∷ []) ∷ row toggle (1 ∷ []) 1 2 (refuse 40 0) (1 ∷ 9 ∷ 9 ∷ 9 ∷ [])
    ∷ row toggle (2 ∷ []) 1 2 (refuse 40 0) (1 ∷ 9 ∷ 9 ∷ 9 ∷ []) ∷ []

-- two registers: from 0, 0 the shortest trace gives x = 1 at tick 0; the outer or the inner register may have 1
abbrev delays : List NeverRow
delays =
    row two (0 ∷ 0 ∷ []) 0 4 (refuse 40 2) nine ∷ row two (0 ∷ 2 ∷ []) 0 4 (refuse 40 1) (0 ∷ 1 ∷ 0 ∷ 0 ∷ []) ∷ row two (2 ∷ 0 ∷ []) 0 4 (refuse 40 0) (1 ∷ 0 ∷ 0 ∷ 9 ∷ []) ∷ []

-- 19; 43 for a byte 3 or too few; 44 for a pin that is not there; 45
abbrev turned : List NeverRow
turned =
    row inverter [] 0 1 (refuse 19 2) nine ∷ row sticky (3 ∷ []) 0 2 (refuse 43 0) nine ∷ row sticky [] 0 2 (refuse 43 0) nine ∷ row sticky (0 ∷ []) 2 2 (refuse 44 2) nine
    ∷ row sticky (0 ∷ []) 1 1 (refuse 45 2) nine ∷ []

-- a row with what the definition answers
abbrev pub asks : NeverRow → NeverRow
asks r =
    let a = examined r.net r.starts r.pin r.room r.room in
    row r.net r.starts r.pin r.room (a >>= said_looked) (out_answer r.net nine a)

abbrev pub worked_nevers : List (List NeverRow)
worked_nevers = stickies ∷ toggles ∷ delays ∷ turned ∷ []
