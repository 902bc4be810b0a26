-- What the writers ask: a netlist within the limits, whose wires begin behind its parts of four bytes each, room for what they write, and
-- no more undriven inputs than there are (document 02, L11). Assumes nothing.
use Rattle.std.specs.Prelude.{ℕ, ◌+◌, ◌-◌, ◌*◌, ◌≤◌, ◌<◌, ◌≡◌, List, length, get_or}
use Rattle.calculus.specs.Write.{term_bytes}
use Rattle.calculus.specs.Net.{point}
use Rattle.back_calculus.specs.Back.{sources, undrivens, gates, tuple_term, back_sheet}
use Rattle.back.specs.Gates.{net_here, Limited}
use Rattle.back.specs.Rows.{gate_of, gate_row}

-- one variable
pub record SourceRoom (s : List ℕ) (room at n wires k before : ℕ) : Type 0 where
  pub limited : Limited s n k
  pub behind : wires ≡ 4 * n
  pub fits : at + 2 ≤ room
  pub low : before ≤ k

-- the variables of some inputs
pub record SourcesRoom (s : List ℕ) (room at first inputs n wires k before : ℕ) : Type 0 where
  pub limited : Limited s n k
  pub behind : wires ≡ 4 * n
  pub two : inputs ≤ 2
  pub first_low : first < 65536
  pub fits : at + 2 * inputs ≤ room
  pub low : before + undrivens (sources (net_here s) inputs first before) ≤ k

-- the part at place r, whose record stands at the offset `gate`
pub record PartRoom (s : List ℕ) (room at gate r n wires k before : ℕ) : Type 0 where
  pub limited : Limited s n k
  pub behind : wires ≡ 4 * n
  pub there : gate ≡ 4 * r
  pub here : r < n
  pub fits : at + length (gate_row k (n - 1) (n - r) (gate_of (net_here s) (get_or (net_here s).elements r (point 0)) before)) ≤ room
  pub low : before + undrivens (gate_of (net_here s) (get_or (net_here s).elements r (point 0)) before).ins ≤ k

-- all parts
pub record PartsRoom (s : List ℕ) (room from n wires k : ℕ) : Type 0 where
  pub limited : Limited s n k
  pub behind : wires ≡ 4 * n
  pub fits : from + length (term_bytes (tuple_term k (n - 1) (gates (net_here s)))) ≤ room

-- the sheet
pub record SheetRoom (s : List ℕ) (room n wires k : ℕ) : Type 0 where
  pub limited : Limited s n k
  pub behind : wires ≡ 4 * n
  pub fits : length (back_sheet (net_here s)) ≤ room
