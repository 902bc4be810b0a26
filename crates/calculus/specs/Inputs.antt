-- Inputs and outputs of a netlist: how often elements make one, and wires and pins reach it (demand 3, first half). Assumes nothing.
use Rattle.std.specs.Prelude.{ℕ, ◌+◌, Bool, false, ◌||◌, cond, List, [], ◌∷◌, eqb}
use Rattle.calculus.specs.Terms.{part_at}
use Rattle.calculus.specs.Net.{inp, out, Interface, Element, point, part, Wire, part_side}

-- ---- how often input i stands ..

abbrev pub tally : ℕ → ℕ → ℕ
tally i j = cond (eqb j i) 1 0

-- .. in an interface
abbrev pub ins : Interface → ℕ → ℕ
ins [] i = 0
ins (inp j ∷ s) i = tally i j + ins s i
ins (out o ∷ s) i = ins s i

-- .. among the inputs that elements have
abbrev pub made_at_lem : List Element → ℕ → ℕ
made_at_lem [] i = 0
made_at_lem (point j ∷ es) i = tally i j + made_at_lem es i
made_at_lem (part p j ∷ es) i = ins (part_side (part_at p).inputs j) i + made_at_lem es i

-- .. as the target of a wire
abbrev pub targets : List Wire → ℕ → ℕ
targets [] i = 0
targets (w ∷ ws) i = tally i w.to + targets ws i

-- a wire runs to input i
abbrev pub has_wire : List Wire → ℕ → Bool
has_wire [] i = false
has_wire (w ∷ ws) i = eqb w.to i || has_wire ws i

-- ---- x is an output that an element has

abbrev pub is_out : List Element → ℕ → Bool
is_out [] x = false
is_out (point i ∷ es) x = eqb (i + 1) x || is_out es x
is_out (part p i ∷ es) x = eqb (i + (part_at p).inputs) x || is_out es x
