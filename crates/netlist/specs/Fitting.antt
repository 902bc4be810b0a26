-- What stands in the working memory, and fits the room of the output. Assumes nothing.
use Rattle.std.specs.Prelude.{ℕ, ◌+◌, ◌*◌, ◌≤◌, ◌<◌, Bool, List, length, get_or}
use Rattle.calculus.specs.Makers.{written}
use Rattle.calculus.specs.Record.{All}
use Rattle.memory.specs.Map.{targets_at, elements_at, stack_at, makers_at, region, elements_from, net_in, Ready}
use Rattle.calculus.specs.NetRead.{Known}
use Rattle.netlist.specs.Elements.{after_all, element_records}

-- a whole netlist, its elements' makers beside it
pub record Writable (plain : Bool) (w : List ℕ) (elements wires pins room : ℕ) : Type 0 where
  pub ready : Ready w elements wires pins
  pub known : All Known (net_in w elements wires pins).elements
  pub target : length (written plain (net_in w elements wires pins) (region w makers_at elements)) ≤ room

-- from an offset on, n elements of known kinds, that take no terminal from 8,192 on
pub record ElementsFit (plain : Bool) (w : List ℕ) (n room from : ℕ) : Type 0 where
  pub source : makers_at + n ≤ length w
  pub target : from + length (element_records plain (elements_from (region w elements_at n) 0) (region w makers_at n)) ≤ room
  pub known : (i : ℕ) → i < n → get_or w (elements_at + i) 0 < 8
  pub low : after_all (region w elements_at n) 0 ≤ 8192

-- n wires, to inputs below 8,192
pub record WiresFit (w : List ℕ) (n room from : ℕ) : Type 0 where
  pub source : targets_at + n ≤ length w
  pub target : from + 5 * n ≤ room
  pub low : (i : ℕ) → i < n → get_or w (targets_at + i) 0 < 8192

-- n pins
pub record PinsFit (w : List ℕ) (n room from : ℕ) : Type 0 where
  pub source : stack_at + n ≤ length w
  pub target : from + 3 * n ≤ room
