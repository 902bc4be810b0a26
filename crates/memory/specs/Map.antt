-- The netlist that stands in the working memory. Assumes nothing.
-- From 0, by input terminal, the output that drives it, 65,535 for none; from 8,192 the wires' targets and from 13,824 the elements'
-- kinds, both in making order (a part's number, or 7 for a point); from 18,944 the pins, an input i as 2 i and an output o as 2 o + 1.
use Rattle.std.specs.Prelude.{ℕ, ◌+◌, ◌*◌, ◌/◌, ◌%◌, ◌≤◌, ◌<◌, ◌≡◌, cond, List, [], ◌∷◌, map, length, get_or, take, drop, eqb}
use Rattle.calculus.specs.Terms.{part_at}
use Rattle.calculus.specs.Net.{Terminal, inp, out, Element, point, part, Wire, Net}
use Rattle.calculus.specs.Lean.{driver}
use Rattle.circuit_theorems.specs.Formed.{Tiled, Formed}

-- ---- where each table begins, and how many numbers there are

abbrev pub targets_at : ℕ
targets_at = 8192

abbrev pub elements_at : ℕ
elements_at = 13824

-- the interfaces; at the end the pins
abbrev pub stack_at : ℕ
stack_at = 18944

-- the roots, in the interfaces' room above the pins
abbrev pub roots_at : ℕ
roots_at = 19072

abbrev pub roots_end : ℕ
roots_end = 27264

abbrev pub binders_at : ℕ
binders_at = 27392

-- the nodes that made the elements, in making order
abbrev pub makers_at : ℕ
makers_at = 27648

abbrev pub memory_size : ℕ
memory_size = 32768

-- n numbers from an offset on
abbrev pub region : List ℕ → ℕ → ℕ → List ℕ
region w at n = take n (drop at w)

-- an element's kind
abbrev pub kind_number : Element → ℕ
kind_number (point i) = 7
kind_number (part p i) = p

-- elements take the next free terminals, so their kinds tell them
abbrev pub elements_from : List ℕ → ℕ → List Element
elements_from [] n = []
elements_from (k ∷ ks) n = cond (eqb k 7) (point n ∷ elements_from ks (n + 2)) (part k n ∷ elements_from ks (n + (part_at k).inputs + 1))

-- a wire's source is the driver of its target
abbrev pub wires_from : List ℕ → List ℕ → List Wire
wires_from w [] = []
wires_from w (i ∷ is) = record { from = get_or w i 0; to = i } ∷ wires_from w is

abbrev pub code : Terminal → ℕ
code (inp i) = 2 * i
code (out o) = 2 * o + 1

abbrev pub terminal_of : ℕ → Terminal
terminal_of c = cond (eqb (c % 2) 0) (inp (c / 2)) (out (c / 2))

-- the netlist of so many elements, wires and pins
unfoldable pub net_in : List ℕ → ℕ → ℕ → ℕ → Net
net_in w elements wires pins = record {
  elements = elements_from (region w elements_at elements) 0;
  wires = wires_from w (region w targets_at wires);
  pins = map terminal_of (region w stack_at pins);
}

-- a whole netlist of an accepted sheet stands in the memory, and the table of drivers says the same as the list of wires
pub record Ready (w : List ℕ) (elements wires pins : ℕ) : Type 0 where
  pub size : memory_size ≤ length w
  pub few_elements : elements ≤ 5120
  pub few_wires : wires ≤ 5461
  pub few_pins : pins ≤ 128
  pub end : ℕ
  pub below : end ≤ 8192
  pub tiled : Tiled (net_in w elements wires pins).elements 0 end
  pub formed : Formed (net_in w elements wires pins)
  pub table : (i : ℕ) → i < 8192 → get_or w i 0 ≡ driver (net_in w elements wires pins).wires i 65535
