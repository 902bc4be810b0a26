-- The text of the lean netlist that stands in the working memory by terminal, and what is answered for it. Assumes nothing.
use Rattle.std.specs.Prelude.{ℕ, List, map, leb, length}
use Rattle.calculus.specs.Answer.{Answer, good, ◌>>=◌, need}
use Rattle.calculus.specs.Net.{Element, Wire, Net}
use Rattle.export_calculus.specs.Card.{need_all, no_ring, input_place}
use Rattle.export_calculus.specs.Verilog.{element_forms, port_forms, assign_forms, line_text, lines_text, line_of_element, line_of_wire, line_of_pin, line_of_port, module_text}
use Rattle.memory.specs.Map.{terminal_of}
use Rattle.lean.specs.Layout.{element_at, wire_at}

unfoldable pub element_text : List Element → List ℕ
element_text es = lines_text element_forms (map line_of_element es)

unfoldable pub wire_text : List Wire → List ℕ
wire_text ws = lines_text assign_forms (map line_of_wire ws)

-- ---- of entry v of terminal x, and of the pin of code v at position x

abbrev pub element_line_at : ℕ → ℕ → List ℕ
element_line_at v x = element_text (element_at v x)

abbrev pub wire_line_at : ℕ → ℕ → List ℕ
wire_line_at v x = wire_text (wire_at v x)

abbrev pub pin_line_at : ℕ → ℕ → List ℕ
pin_line_at v x = line_text assign_forms (line_of_pin x (terminal_of v))

abbrev pub port_line_at : ℕ → ℕ → List ℕ
port_line_at v x = line_text port_forms (line_of_port x (terminal_of v))

-- ---- 18 for a kept ring point, then 17

unfoldable pub lean_exported : Net → ℕ → Answer (List ℕ)
lean_exported m room = do
  _ ← need_all (no_ring m.pins) 18 input_place m.elements
  let text = module_text m in do
    _ ← need (leb (length text) room) 17 (length text)
    good text
