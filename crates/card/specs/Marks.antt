-- Marks at the outputs that the lean netlist in the working memory reads. A mark stands in the table of drivers, at the output's own number:
-- no wire goes to an output, so that nothing else stands there but 65,535. Assumes nothing.
use Rattle.std.specs.Prelude.{ℕ, zero, suc, ◌+◌, ◌-◌, ◌/◌, ◌%◌, ◌≤◌, ◌<◌, ◌≡◌, Bool, true, not, ◌&&◌, ◌||◌, cond, Option, Some, None, List, map, eqb, leb, ltb, length, get_or, set}
use Rattle.export_calculus.specs.Card.{drives, is_out_pin}
use Rattle.memory.specs.Map.{roots_at, region, terminal_of}
use Rattle.lean.specs.Table.{entry}
use Rattle.lean.specs.Layout.{lean_pins_at, kinds_from, wire_at, row_in, LeanReady}

abbrev pub read_mark : ℕ
read_mark = 65534

-- the output that an entry tells, and the one that a pin's code tells
abbrev pub mark_wire : List ℕ → ℕ → List ℕ
mark_wire w v = cond (eqb v 0) w (cond (ltb v kinds_from) (set w (v - 1) read_mark) w)

abbrev pub mark_pin : List ℕ → ℕ → List ℕ
mark_pin w c = cond (eqb (c % 2) 0) w (set w (c / 2) read_mark)

-- an output, below `end`, that has no driver
abbrev pub Free : List ℕ → ℕ → ℕ → Type 0
Free w end o = (o < end) × (get_or w o 0 ≡ 65535)

-- what may be marked
pub record Markable (w : List ℕ) (end pins : ℕ) : Type 0 where
  pub ready : LeanReady w end pins
  pub drivers : (j : ℕ) → get_or w j 0 ≡ read_mark → j < 8192 → ⊥
  pub sources : (x : ℕ) → x < end → (entry w x ≡ 0 → ⊥) → entry w x < kinds_from → Free w end (entry w x - 1)
  pub shown : (j : ℕ) → j < pins → (get_or w (lean_pins_at + j) 0 % 2 ≡ 0 → ⊥) → Free w end (get_or w (lean_pins_at + j) 0 / 2)

-- w' is w with marks where the test passes
pub record MarkedWhere (w : List ℕ) (end : ℕ) (P : ℕ → Bool) (w' : List ℕ) : Type 0 where
  pub size : length w' ≡ length w
  pub low : (j : ℕ) → j < 8192 → get_or w' j 0 ≡ cond (P j) read_mark (get_or w j 0)
  pub high : (j : ℕ) → 8192 ≤ j → get_or w' j 0 ≡ get_or w j 0
  pub free : (j : ℕ) → P j ≡ true → Free w end j

-- the marks of the wires stand in w, on what stood in some memory before
pub record WiresMarked (w : List ℕ) (end pins : ℕ) : Type 0 where
  pub before : List ℕ
  pub markable : Markable before end pins
  pub marked : MarkedWhere before end (λ j. drives (row_in wire_at roots_at before end 0) j) w

-- .. and those of the pins too
abbrev pub PinsMarked : List ℕ → ℕ → ℕ → List ℕ → Type 0
PinsMarked w end pins w' = (o : WiresMarked w end pins) → MarkedWhere o.before end (λ j. drives (row_in wire_at roots_at o.before end 0) j || is_out_pin (map terminal_of (region o.before lean_pins_at pins)) j) w'

-- ---- one terminal after the other: the first output of a part that has no mark

-- by mark and entry
abbrev pub unread_by : ℕ → ℕ → Bool
unread_by m v = not (eqb m read_mark) && (leb kinds_from v && ltb v (kinds_from + 7))

abbrev pub unread_at : List ℕ → ℕ → Bool
unread_at w x = unread_by (get_or w x 0) (entry w x)

abbrev pub unread_from : List ℕ → ℕ → ℕ → ℕ
unread_from w zero x = 8192
unread_from w (suc c) x = cond (unread_at w x) x (unread_from w c (x + 1))

-- the terminal that is found; 8,192 is none
abbrev pub place_of : ℕ → Option ℕ
place_of n = cond (ltb n 8192) (Some n) None

-- without its mark
abbrev pub without_mark : ℕ → ℕ
without_mark m = cond (eqb m read_mark) 65535 m

-- the first x terminals have no marks any more
pub record Cleaned (w : List ℕ) (x : ℕ) (w' : List ℕ) : Type 0 where
  pub size : length w' ≡ length w
  pub done : (j : ℕ) → j < x → get_or w' j 0 ≡ without_mark (get_or w j 0)
  pub rest : (j : ℕ) → x ≤ j → get_or w' j 0 ≡ get_or w j 0
