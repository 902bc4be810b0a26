-- The pins of the netlist that comes back, by its own elements (document 02, L11: "the new ones are the open inputs, then all part
-- outputs"), and that all inputs of its parts are driven. Assumes nothing.
use Rattle.std.specs.Prelude.{ℕ, ◌+◌, ◌<◌, ◌≡◌, List, [], ◌∷◌, ◌++◌, map, T, length}
use Rattle.calculus.specs.Terms.{part_at}
use Rattle.calculus.specs.Net.{inp, out, Element, point, part, Wire, Net}
use Rattle.calculus.specs.Inputs.{has_wire}
use Rattle.calculus.specs.Record.{All}
use Rattle.back_calculus.specs.Back.{gates, open_ins}

-- the inputs of the points, in their order
abbrev pub point_ins : List Element → List ℕ
point_ins [] = []
point_ins (point i ∷ es) = i ∷ point_ins es
point_ins (part p i ∷ es) = point_ins es

-- the outputs of the parts, in their order
abbrev pub part_outs : List Element → List ℕ
part_outs [] = []
part_outs (point i ∷ es) = part_outs es
part_outs (part p i ∷ es) = (i + (part_at p).inputs) ∷ part_outs es

-- each input of a part has a wire
abbrev pub InputsWired : List Wire → Element → Type 0
InputsWired ws (point i) = Unit {0}
InputsWired ws (part p i) = (x : ℕ) → x < (part_at p).inputs → T (has_wire ws (i + x))

-- b comes back from m: it has a point for each open input of m, its pins are the points' inputs, then all part outputs, and no part is left
-- undriven
pub record NewPins (m b : Net) : Type 0 where
  pub points : length (point_ins b.elements) ≡ open_ins (gates m)
  pub pins : b.pins ≡ map inp (point_ins b.elements) ++ map out (part_outs b.elements)
  pub wired : All (InputsWired b.wires) b.elements
