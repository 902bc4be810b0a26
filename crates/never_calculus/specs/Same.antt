-- Two terminals of one netlist that have the same bit at every tick of every record: two circuits over shared inputs, compared. Relations
-- only. Assumes nothing.
use Rattle.std.specs.Prelude.{ℕ, suc, ◌+◌, ◌<◌, ◌≡◌, List}
use Rattle.calculus.specs.Net.{part, wire_of, Net}
use Rattle.calculus.specs.Record.{Bits, Among}
use Rattle.never_calculus.specs.Never.{RecordFrom}

-- in every record with such starts, of any number of ticks, terminals a and b have the same bit at every tick
abbrev pub AlwaysAlike : Net → List ℕ → ℕ → ℕ → Type 0
AlwaysAlike m starts a b = (n : ℕ) (β : Bits) → RecordFrom m starts n β → (t : ℕ) → t < n → β a t ≡ β b t

-- some such record has different bits there at tick t
pub record DifferAt (m : Net) (starts : List ℕ) (a b t : ℕ) : Type 0 where
  pub record_of : Bits
  pub starting : RecordFrom m starts (suc t) record_of
  pub different : record_of a t ≡ record_of b t → ⊥

-- t is the first tick at which one has
pub record FirstDiffer (m : Net) (starts : List ℕ) (a b t : ℕ) : Type 0 where
  pub differ : DifferAt m starts a b t
  pub earlier : (u : ℕ) → u < t → DifferAt m starts a b u → ⊥

-- terminal o compares a and b: it is the output of a part xor, and they drive its inputs
pub record Compares (m : Net) (o a b : ℕ) : Type 0 where
  pub gate : ℕ
  pub made : Among (part 4 gate) m.elements
  pub left : Among (wire_of a gate) m.wires
  pub right : Among (wire_of b (gate + 1)) m.wires
  pub seen : gate + 2 ≡ o
