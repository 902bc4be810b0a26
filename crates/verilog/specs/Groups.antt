-- The groups of lines of the module, each a row over a table of the working memory. Assumes nothing.
use Rattle.std.specs.Prelude.{ℕ, List, ◌++◌}
use Rattle.export_calculus.specs.Verilog.{header, ports_end}
use Rattle.memory.specs.Map.{roots_at}
use Rattle.lean.specs.Layout.{lean_pins_at, row_in}
use Rattle.verilog.specs.InMemory.{element_line_at, wire_line_at, pin_line_at, port_line_at}
use Rattle.verilog.specs.declared.walk.Group.{Group}
use Rattle.verilog.specs.declared.walk.Group.TheVariants as group

abbrev pub count_of : Group → ℕ → ℕ → ℕ
count_of group.Ports end pins = pins
count_of group.Elements end pins = end
count_of group.Wires end pins = end
count_of group.Pins end pins = pins

abbrev pub table_at : Group → ℕ
table_at group.Ports = lean_pins_at
table_at group.Elements = roots_at
table_at group.Wires = roots_at
table_at group.Pins = lean_pins_at

-- of entry v of terminal x, or of the pin of code v at position x
abbrev pub group_line_at : Group → ℕ → ℕ → List ℕ
group_line_at group.Ports = port_line_at
group_line_at group.Elements = element_line_at
group_line_at group.Wires = wire_line_at
group_line_at group.Pins = pin_line_at

abbrev pub group_text : Group → List ℕ → ℕ → ℕ → List ℕ
group_text g w end pins = row_in (group_line_at g) (table_at g) w (count_of g end pins) 0

-- ---- the module is an opening, a body and an end

abbrev pub opening_text : List ℕ → ℕ → ℕ → List ℕ
opening_text w end pins = header ++ (group_text group.Ports w end pins ++ ports_end)

abbrev pub body_text : List ℕ → ℕ → ℕ → List ℕ
body_text w end pins = group_text group.Elements w end pins ++ (group_text group.Wires w end pins ++ group_text group.Pins w end pins)
