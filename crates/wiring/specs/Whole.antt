-- A sheet that is read, and the netlist of one that is accepted, as it is left in the working memory. Assumes nothing.
use Rattle.std.specs.Prelude.{ℕ, ◌≤◌, ◌≡◌, List, length, drop}
use Rattle.calculus.specs.Answer.{good}
use Rattle.calculus.specs.Net.{Net}
use Rattle.calculus.specs.Record.{All}
use Rattle.calculus.specs.Read.{records_of}
use Rattle.calculus.specs.Translate.{full}
use Rattle.memory.specs.Map.{memory_size, net_in, Ready}
use Rattle.calculus.specs.NetRead.{Known}
use Rattle.records.specs.Told.{Told}
use Rattle.wiring.specs.declared.Counts.{Counts}

-- the bytes are those behind the opening of a sheet that is read: its term begins at an offset and has n nodes
pub record Read (s sizes : List ℕ) (at n : ℕ) : Type 0 where
  pub whole : List ℕ
  pub behind : s ≡ records_of whole
  pub types : ℕ
  pub told : Told whole sizes types n at

-- .. and accepted, with at most 8,192 terminals
pub record Accepted (s sizes w : List ℕ) (at : ℕ) : Type 0 where
  pub nodes : ℕ
  pub read : Read s sizes at nodes
  pub net : Net
  pub is : full read.whole ≡ good net
  pub memory : memory_size ≤ length w

-- the netlist m stands in the memory, and from 32,768 on nothing is changed
pub record NetStands (m : Net) (r : Counts) (w w' : List ℕ) : Type 0 where
  pub net : net_in w' r.elements r.wires r.pins ≡ m
  pub ready : Ready w' r.elements r.wires r.pins
  pub known : All Known (net_in w' r.elements r.wires r.pins).elements
  pub later : drop memory_size w' ≡ drop memory_size w
