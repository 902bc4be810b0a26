-- What a caller knows of the bytes of a netlist that was checked (document 02, L11). Assumes nothing.
use Rattle.std.specs.Prelude.{ℕ, ◌+◌, ◌*◌, ◌<◌, ◌≤◌, ◌≡◌, Bool, List, [], ◌∷◌, length}
use Rattle.calculus.specs.Answer.{Answer, good, refused, ◌>>=◌}
use Rattle.calculus.specs.Terms.{part_at}
use Rattle.calculus.specs.Net.{Element, point, part, Net}
use Rattle.calculus.specs.NetRead.{read_net}
use Rattle.calculus.specs.Record.{All}
use Rattle.foreign_calculus.specs.Foreign.{Accepts}
use Rattle.back_calculus.specs.Back.{gates, open_ins}
use Rattle.back_calculus.specs.Returned.{no_point}
use Rattle.back_calculus.specs.Promises.{PartOnly}

-- the netlist that bytes stand for; an empty one where they are none
abbrev pub or_none : Answer Net → Net
or_none (good m) = m
or_none (refused why) = record { elements = []; wires = []; pins = [] }

unfoldable pub net_here : List ℕ → Net
net_here s = or_none (read_net s)

-- bytes that the check accepts
pub record AcceptedNet (s : List ℕ) : Type 0 where
  pub told : Bool
  pub accepts : Accepts told s

-- .. and whose elements are n parts
pub record OfParts (s : List ℕ) (n : ℕ) : Type 0 where
  pub accepted : AcceptedNet s
  pub parts : All PartOnly (net_here s).elements
  pub count : n ≡ length (net_here s).elements

-- .. one of them, at place r among them, stands at an offset: a part's record has four bytes
pub record PartHere (s : List ℕ) (at : ℕ) : Type 0 where
  pub n : ℕ
  pub r : ℕ
  pub of : OfParts s n
  pub low : r < n
  pub there : at ≡ 4 * r

-- .. and behind all of them the wires begin
pub record WiresHere (s : List ℕ) (at : ℕ) : Type 0 where
  pub n : ℕ
  pub of : OfParts s n
  pub there : at ≡ 4 * n

-- so many parts, and the offset behind them
pub record PartsTo : Type 0 where
  pub parts : ℕ
  pub wires : ℕ

-- the parts, or 25 for the first point
abbrev pub parts_or25 : List Element → Answer PartsTo
parts_or25 es = do
  _ ← no_point es 0
  good (record { parts = length es; wires = 4 * length es })

-- the inputs of all elements
abbrev pub input_total : List Element → ℕ
input_total [] = 0
input_total (point i ∷ es) = 1 + input_total es
input_total (part p i ∷ es) = (part_at p).inputs + input_total es

-- what is counted of a netlist
pub record CountedNet (s : List ℕ) (k inputs : ℕ) : Type 0 where
  pub undriven : k ≡ open_ins (gates (net_here s))
  pub all : inputs ≡ input_total (net_here s).elements

-- a netlist within the limits, with its counts
pub record Limited (s : List ℕ) (n k : ℕ) : Type 0 where
  pub of : OfParts s n
  pub some : 1 ≤ n
  pub most : n ≤ 16
  pub undriven : k ≡ open_ins (gates (net_here s))
  pub few : k ≤ 24
