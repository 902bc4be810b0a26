-- The lean netlist (document 01, "The lean netlist"). Assumes nothing.
use Rattle.std.specs.Prelude.{ℕ, zero, suc, ◌+◌, ◌≤◌, min, ◌≡◌, Bool, true, false, not, ◌&&◌, ◌||◌, cond, List, [], ◌∷◌, ◌++◌, map, T, eqb}
use Rattle.calculus.specs.Terms.{part_at}
use Rattle.calculus.specs.Net.{Terminal, inp, out, Interface, Element, point, part, Wire, Net}
use Rattle.calculus.specs.Inputs.{is_out}
use Rattle.calculus.specs.Record.{All}

-- the output that drives input i: where the wire to i comes from; d where there is none
abbrev pub driver : List Wire → ℕ → ℕ → ℕ
driver [] i d = d
driver (w ∷ ws) i d = cond (eqb w.to i) w.from (driver ws i d)

-- input i is a pin
abbrev pub is_pin : Interface → ℕ → Bool
is_pin [] i = false
is_pin (inp j ∷ ts) i = eqb j i || is_pin ts i
is_pin (out o ∷ ts) i = is_pin ts i

-- the number of points
abbrev pub point_count : List Element → ℕ
point_count [] = 0
point_count (point i ∷ es) = suc (point_count es)
point_count (part p i ∷ es) = point_count es

-- one step back from output o: from a point whose input is no pin to the output that drives it; every other output stays
abbrev pub back_in : List Element → Net → ℕ → ℕ
back_in [] m o = o
back_in (point i ∷ es) m o = cond (eqb (i + 1) o) (cond (is_pin m.pins i) o (driver m.wires i o)) (back_in es m o)
back_in (part p i ∷ es) m o = back_in es m o

abbrev pub back : Net → ℕ → ℕ
back m o = back_in m.elements m o

abbrev pub backs : ℕ → Net → ℕ → ℕ
backs zero m o = o
backs (suc k) m o = backs k m (back m o)

-- the lowest of `low`, o, and the outputs up to k - 1 steps back from o
abbrev pub lowest : ℕ → Net → ℕ → ℕ → ℕ
lowest zero m o low = low
lowest (suc k) m o low = lowest k m (back m o) (min low o)

-- the root of an output. As many steps back as there are points end at an output that stays, or in a ring of points: its lowest is the root
unfoldable pub root : Net → ℕ → ℕ
root m o =
    let n = point_count m.elements in
    let p = backs n m o in
    lowest n m p p

-- ---- the document's sentences on roots, as a relation: `root` meets them (theorem `root-says`), and nothing else does (`sentences-only`)

-- a part's output is its own root; for a point's output, if the point's input is a pin, it is its own root, otherwise it has the root of
-- the output that drives the point's input
abbrev pub Says : Net → (ℕ → ℕ) → Element → Type 0
Says m r (part p i) = r (i + (part_at p).inputs) ≡ i + (part_at p).inputs
Says m r (point i) = (T (is_pin m.pins i) → r (i + 1) ≡ i + 1) × (is_pin m.pins i ≡ false → r (i + 1) ≡ r (driver m.wires i (i + 1)))

-- if that comes round in a ring, the root is the output of the ring's lowest-numbered point
pub record Sentences (m : Net) (r : ℕ → ℕ) : Type 0 where
  pub elements : All (Says m r) m.elements
  pub rings : (k o : ℕ) → T (is_out m.elements o) → 1 ≤ k → backs k m o ≡ o → r o ≡ lowest k m o o

-- ---- what is kept

abbrev pub kept : Net → Element → Bool
kept m (part p i) = true
kept m (point i) = eqb (root m (i + 1)) (i + 1)

abbrev pub keep : Net → List Element → List Element
keep m [] = []
keep m (e ∷ es) = let rest = keep m es in cond (kept m e) (e ∷ rest) rest

-- ---- the wires, by rising target

-- to k inputs from i on. One that is no pin has a driver (theorem `driven`), so the 0 is never reached
abbrev pub to_inputs : Net → ℕ → ℕ → List Wire
to_inputs m zero i = []
to_inputs m (suc k) i =
    cond (is_pin m.pins i) [] (record { from = root m (driver m.wires i 0); to = i } ∷ []) ++ to_inputs m k (i + 1)

abbrev pub to_element : Net → Element → List Wire
to_element m (part p i) = to_inputs m (part_at p).inputs i
to_element m (point i) = cond (kept m (point i) && not (is_pin m.pins i)) (record { from = i + 1; to = i } ∷ []) []

abbrev pub lean_wires : Net → List Element → List Wire
lean_wires m [] = []
lean_wires m (e ∷ es) = to_element m e ++ lean_wires m es

abbrev pub lean_pin : Net → Terminal → Terminal
lean_pin m (inp i) = inp i
lean_pin m (out o) = out (root m o)

unfoldable pub lean : Net → Net
lean m = record {
  elements = keep m m.elements;
  wires = lean_wires m m.elements;
  pins = map (lean_pin m) m.pins;
}
