-- A formed netlist: elements take rising terminals, wires and pins name terminals that are made, and each input has one driver
-- (document 01, "The full netlist"; demand 3, first half). Assumes nothing.
use Rattle.std.specs.Prelude.{ℕ, ◌+◌, ◌≤◌, ◌≡◌, List, [], ◌∷◌, T}
use Rattle.calculus.specs.Terms.{part_at}
use Rattle.calculus.specs.Net.{Terminal, inp, out, Element, point, part, Net}
use Rattle.calculus.specs.Inputs.{ins, made_at_lem, targets, is_out}
use Rattle.calculus.specs.Record.{All}

-- an output that an element has
abbrev pub Shown : List Element → Terminal → Type 0
Shown es (inp i) = Unit {0}
Shown es (out o) = T (is_out es o)

-- ---- the numbering

-- the elements take the terminals from n up to e, without gap
abbrev pub Tiled : List Element → ℕ → ℕ → Type 0
Tiled [] n e = n ≡ e
Tiled (point i ∷ es) n e = (i ≡ n) × Tiled es (n + 2) e
Tiled (part p i ∷ es) n e = (i ≡ n) × Tiled es (n + (part_at p).inputs + 1) e

-- each starts at n or above, and above the last terminal of the one before; all stay below e
abbrev pub Rising : List Element → ℕ → ℕ → Type 0
Rising [] n e = n ≤ e
Rising (point i ∷ es) n e = (n ≤ i) × Rising es (i + 2) e
Rising (part p i ∷ es) n e = (n ≤ i) × Rising es (i + (part_at p).inputs + 1) e

-- ---- the whole

pub record Formed (m : Net) : Type 0 where
  pub end : ℕ
  pub rising : Rising m.elements 0 end
  -- wires run from outputs that are made, and pins show such outputs
  pub from : All (λ w. T (is_out m.elements w.from)) m.wires
  pub shown : All (Shown m.elements) m.pins
  -- wires and pins reach each input that is made exactly once, and no other
  pub reached : (i : ℕ) → targets m.wires i + ins m.pins i ≡ made_at_lem m.elements i
