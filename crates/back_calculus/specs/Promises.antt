-- What is promised of the way back (document 02, L11), without the algorithm: which netlists return, and what the sheet's translation is.
-- Assumes nothing.
use Rattle.std.specs.Prelude.{ℕ, ◌+◌, ◌*◌, ◌<◌, ◌≤◌, ◌≡◌, Bool, List, ◌++◌, T, length, take}
use Rattle.calculus.specs.Answer.{good}
use Rattle.calculus.specs.Net.{Element, point, part, Net}
use Rattle.calculus.specs.Lean.{lean}
use Rattle.calculus.specs.Inputs.{is_out}
use Rattle.calculus.specs.Record.{All}
use Rattle.calculus.specs.NetRead.{read_net}
use Rattle.calculus.specs.Translate.{full, call}
use Rattle.calculus.specs.Known.{lean_plain}
use Rattle.foreign_calculus.specs.Foreign.{Accepts}
use Rattle.back_calculus.specs.Drivers.{undriven_below, SameDrivers}
use Rattle.back_calculus.specs.Back.{gates, open_ins, back_sheet, inputs_from, outputs_from, gates_seen}

-- ---- the netlists that return

abbrev pub PartOnly : Element → Type 0
PartOnly (point i) = ⊥
PartOnly (part p i) = p < 7

-- a netlist with 1 to 16 known parts, no points and at most 24 undriven inputs, whose wires come from its parts
pub record Returns (m : Net) : Type 0 where
  pub parts : All PartOnly m.elements
  pub from : All (λ w. T (is_out m.elements w.from)) m.wires
  pub some : 1 ≤ length m.elements
  pub most : length m.elements ≤ 16
  pub inputs : open_ins (gates m) ≤ 24

-- bytes that L8 accepts, of such a netlist, and its sheet
pub record Back (told : Bool) (s sheet : List ℕ) : Type 0 where
  pub accepts : Accepts told s
  pub returns : Returns accepts.net
  pub is : back_sheet accepts.net ≡ sheet

-- the same without the definition's own count: "with 1 to 16 parts, no points and at most 24 undriven inputs", which are counted terminal
-- by terminal
pub record BackWithin (told : Bool) (s sheet : List ℕ) : Type 0 where
  pub accepts : Accepts told s
  pub parts : All PartOnly accepts.net.elements
  pub some : 1 ≤ length accepts.net.elements
  pub most : length accepts.net.elements ≤ 16
  pub undriven : undriven_below accepts.net accepts.formed.end ≤ 24
  pub is : back_sheet accepts.net ≡ sheet

-- ---- what the sheet's translation is

-- the sheet is accepted, and m is its lean netlist
pub record LeanOf (sheet : List ℕ) (m : Net) : Type 0 where
  pub net : Net
  pub accepted : full sheet ≡ good net
  pub lean_is : lean net ≡ m

-- b has the parts of m in the same order, and each part input has the same driving part or the matching input pin; b's pins are the open
-- inputs, then all part outputs
pub record SameParts (m b : Net) : Type 0 where
  pub gates_same : gates_seen b b.elements ≡ gates m
  pub pins : b.pins ≡ inputs_from (open_ins (gates m)) 0 ++ outputs_from (gates m) (2 * open_ins (gates m) + 2 * length (gates m))

-- what `translate` leaves of the sheet, asked for the lean netlist in plain kinds: it is accepted, and its bytes tell a netlist with the same
-- parts in the same order, whose inputs have the same drivers
pub record TranslatesBack (m : Net) (sheet out work : List ℕ) : Type 0 where
  pub count : ℕ
  pub said : (call lean_plain sheet out work).said ≡ good count
  pub net : Net
  pub told : read_net (take count (call lean_plain sheet out work).out) ≡ good net
  pub same_parts : SameParts m net
  pub same_drivers : SameDrivers m net
