-- The same parts with the same drivers (document 02, L11), said of two netlists by their own elements, wires and pins. Assumes nothing.
use Rattle.std.specs.Prelude.{ℕ, zero, suc, ◌+◌, ◌<◌, ◌≡◌, ◌↔◌, ◌⊎◌, Bool, cond, not, ◌&&◌, List, ◌∷◌, T, leb, get_or}
use Rattle.calculus.specs.Terms.{part_at}
use Rattle.calculus.specs.Net.{inp, out, Element, point, part, Net}
use Rattle.calculus.specs.Inputs.{made_at_lem, has_wire}
use Rattle.calculus.specs.Record.{Among}

-- the k-th part has part number p and first terminal i; parts count from 0
pub data NthPart : List Element → ℕ → ℕ → ℕ → Type 0 where
  this_part : {p i : ℕ} {es : List Element} → NthPart (part p i ∷ es) zero p i
  past_point : {x k p i : ℕ} {es : List Element} → NthPart es k p i → NthPart (point x ∷ es) k p i
  past_part : {r x k p i : ℕ} {es : List Element} → NthPart es k p i → NthPart (part r x ∷ es) (suc k) p i

abbrev pub RunsTo : Net → ℕ → ℕ → Type 0
RunsTo m o x = Among (record { from = o; to = x }) m.wires

-- the output of the q-th part drives x
abbrev pub FromPart : Net → ℕ → ℕ → Type 0
FromPart m q x = (p : ℕ) × (i : ℕ) × NthPart m.elements q p i × RunsTo m (i + (part_at p).inputs) x

-- x is an input, and no wire runs to it
abbrev pub is_undriven : Net → ℕ → Bool
is_undriven m x = leb 1 (made_at_lem m.elements x) && not (has_wire m.wires x)

-- how many of them are lower than x
abbrev pub undriven_below : Net → ℕ → ℕ
undriven_below m zero = 0
undriven_below m (suc x) = cond (is_undriven m x) 1 0 + undriven_below m x

-- x is the n-th undriven input, in rising order, counted from 0
abbrev pub NthUndriven : Net → ℕ → ℕ → Type 0
NthUndriven m n x = T (is_undriven m x) × (undriven_below m x ≡ n)

-- pin n is an input, of a point whose output drives x
pub record FromPin (m : Net) (n x : ℕ) : Type 0 where
  pub input : ℕ
  pub a_pin : get_or m.pins n (out 0) ≡ inp input
  pub a_point : Among (point input) m.elements
  pub runs : RunsTo m (input + 1) x

-- input x of m and input y of b have the same driver
pub record SameDriver (m b : Net) (x y : ℕ) : Type 0 where
  -- the same driving part
  pub by_part : (q : ℕ) → FromPart m q x ↔ FromPart b q y
  -- or the matching input pin
  pub by_pin : (n : ℕ) → NthUndriven m n x ↔ FromPin b n y
  pub one_of : ((q : ℕ) × FromPart m q x) ⊎ ((n : ℕ) × NthUndriven m n x)

-- the k-th part of one is the k-th of the other, and their inputs have the same drivers
pub record SameDrivers (m b : Net) : Type 0 where
  pub parts : (k p : ℕ) → ((i : ℕ) × NthPart m.elements k p i) ↔ ((j : ℕ) × NthPart b.elements k p j)
  pub inputs : (k p i j : ℕ) → NthPart m.elements k p i → NthPart b.elements k p j → (x : ℕ) → x < (part_at p).inputs → SameDriver m b (i + x) (j + x)
