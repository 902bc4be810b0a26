-- The table by terminal and the pins in the working memory say the same as a lean netlist. Assumes nothing.
use Rattle.std.specs.Prelude.{ℕ, ◌+◌, ◌≤◌, ◌<◌, ◌≡◌, ◌⊎◌, false, List, [], ◌∷◌, map, length, get_or, T}
use Rattle.calculus.specs.Terms.{part_at}
use Rattle.calculus.specs.Net.{Element, point, part, Net}
use Rattle.calculus.specs.Lean.{is_pin}
use Rattle.calculus.specs.Inputs.{is_out}
use Rattle.calculus.specs.Record.{Among}
use Rattle.circuit_theorems.specs.Terminals.{has}
use Rattle.circuit_theorems.specs.Formed.{Formed}
use Rattle.trace_calculus.specs.Trace.{from, source, terminals}
use Rattle.memory.specs.Map.{memory_size, region, terminal_of}
use Rattle.lean.specs.Layout.{left_out, kinds_from}
use Rattle.trace_steps.specs.Map.{pins_at, register_entry, one_entry, point_entry}

-- the entry of terminal x: a pin has itself, another input the output that its wire comes from, an output its element's kind, from `kinds_from` on
pub data TableEntry (m : Net) (x : ℕ) : ℕ → Type 0 where
  of_pin : T (is_pin m.pins x) → is_out m.elements x ≡ false → TableEntry m x x
  of_wire : (y : ℕ) → source m x ≡ from y → is_out m.elements x ≡ false → T (is_out m.elements y) → TableEntry m x y
  of_point : (i : ℕ) → Among (point i) m.elements → i + 1 ≡ x → TableEntry m x point_entry
  of_part : (p i : ℕ) → Among (part p i) m.elements → i + (part_at p).inputs ≡ x → p < 7 → TableEntry m x (kinds_from + p)

-- the outputs of the parts, in making order
abbrev pub part_ends : List Element → List ℕ
part_ends [] = []
part_ends (point i ∷ es) = part_ends es
part_ends (part p i ∷ es) = (i + (part_at p).inputs) ∷ part_ends es

-- each is a constant of a term of at most 2,048 nodes, so a leaf of it
abbrev pub FewParts : Net → Type 0
FewParts m = length (part_ends m.elements) ≤ 1024

-- an entry of an output that looks at something: a point's, or a gate's
abbrev pub Looking : ℕ → Type 0
Looking v = (v ≡ point_entry) ⊎ ((register_entry < v) × (v < one_entry))

-- the netlist m, whose terminals are below `end`, stands in the table from 0 on and among the pins
pub record Tabled (w : List ℕ) (m : Net) (end pins : ℕ) : Type 0 where
  pub size : memory_size ≤ length w
  pub formed : Formed m
  pub few : end ≤ 8192
  pub low : (x : ℕ) → T (has (terminals m.elements) x) → x < end
  pub entries : (x : ℕ) → T (has (terminals m.elements) x) → TableEntry m x (get_or w x 0)
  -- what belongs to a point that is left out
  pub others : (x : ℕ) → x < end → T (has (terminals m.elements) x) ⊎ ((get_or w x 0 < 8192) ⊎ (left_out ≤ get_or w x 0))
  pub few_pins : pins ≤ 128
  pub shown : map terminal_of (region w pins_at pins) ≡ m.pins
