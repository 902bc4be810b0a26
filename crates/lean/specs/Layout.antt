-- The lean netlist that stands in the working memory, by terminal, and the steps that make it of the full one and the roots. Assumes nothing.
-- From 19,072, of an input one more than the output that its wire comes from, 0 where there is none; of an output 65,520 and its element's
-- kind, 65,528 where the element is left out. From 27,264 the pins, coded as those of the full netlist.
use Rattle.std.specs.Prelude.{ℕ, zero, suc, ◌+◌, ◌-◌, ◌*◌, ◌/◌, ◌%◌, ◌≤◌, ◌<◌, ◌≡◌, cond, List, [], ◌∷◌, ◌++◌, map, T, eqb, ltb, length, get_or, set, drop}
use Rattle.calculus.specs.Terms.{part_at}
use Rattle.calculus.specs.Net.{Element, point, part, Wire, wire_of, Net}
use Rattle.calculus.specs.Lean.{is_pin, lean}
use Rattle.calculus.specs.Inputs.{is_out}
use Rattle.calculus.specs.Makers.{maker, lean_makers}
use Rattle.memory.specs.Map.{stack_at, roots_at, roots_end, binders_at, memory_size, region, elements_from, terminal_of, net_in}
use Rattle.netlist.specs.Elements.{output_of}
use Rattle.lean.specs.Table.{entry, Within}

-- the pins
abbrev pub lean_pins_at : ℕ
lean_pins_at = roots_end

-- an output's entry: this and its element's kind ..
abbrev pub kinds_from : ℕ
kinds_from = 65520

-- .. or that its element is left out
abbrev pub left_out : ℕ
left_out = 65528

-- ---- what entry v says of terminal x

-- the first terminal of the element of kind k whose output is x
abbrev pub first_terminal : ℕ → ℕ → ℕ
first_terminal k x = x - output_of k 0

-- of an output that is kept, its element
abbrev pub element_at : ℕ → ℕ → List Element
element_at v x = cond (ltb v kinds_from) [] (cond (ltb v left_out) (elements_from ((v - kinds_from) ∷ []) (first_terminal (v - kinds_from) x)) [])

-- of an input that is no pin, its wire
abbrev pub wire_at : ℕ → ℕ → List Wire
wire_at v x = cond (eqb v 0) [] (cond (ltb v kinds_from) (wire_of (v - 1) x ∷ []) [])

-- ---- c numbers from x on, in a table that begins at `at`

abbrev pub row_in : {A : Type 0} → (ℕ → ℕ → List A) → ℕ → List ℕ → ℕ → ℕ → List A
row_in f at w zero x = []
row_in f at w (suc c) x = f (get_or w (at + x) 0) x ++ row_in f at w c (x + 1)

-- the nodes of the elements that are kept; an output takes the first of those that are left, kept or not
abbrev pub left_after : ℕ → List ℕ → List ℕ
left_after v js = cond (ltb v kinds_from) js (drop 1 js)

abbrev pub maker_at : ℕ → List ℕ → List ℕ
maker_at v js = cond (ltb v kinds_from) [] (cond (ltb v left_out) (maker js ∷ []) [])

abbrev pub lean_makers_in : List ℕ → ℕ → ℕ → List ℕ → List ℕ
lean_makers_in w zero x js = []
lean_makers_in w (suc c) x js = maker_at (entry w x) js ++ lean_makers_in w c (x + 1) (left_after (entry w x) js)

-- the lean netlist of so many terminals and pins
unfoldable pub lean_in : List ℕ → ℕ → ℕ → Net
lean_in w end pins = record {
  elements = row_in element_at roots_at w end 0;
  wires = row_in wire_at roots_at w end 0;
  pins = map terminal_of (region w lean_pins_at pins);
}

-- ---- it stands in w, of the full netlist in u, which stays

-- an entry is an input's, and tells a terminal or none; or an output's
pub record LeanReady (w : List ℕ) (end pins : ℕ) : Type 0 where
  pub size : memory_size ≤ length w
  pub below : end ≤ 8192
  pub few_pins : pins ≤ 128
  pub inputs : (x : ℕ) → x < end → entry w x < kinds_from → entry w x ≤ 8192
  -- an output comes behind its element's inputs
  pub outputs : (x : ℕ) → x < end → kinds_from ≤ entry w x → entry w x < left_out → output_of (entry w x - kinds_from) 0 ≤ x
  -- the input of a point that is kept has no wire just where it is a pin
  pub points : (x : ℕ) → x < end → entry w x ≡ kinds_from + 7 → is_pin (map terminal_of (region w lean_pins_at pins)) (x - 1) ≡ eqb (entry w (x - 1)) 0
  pub shown : (j : ℕ) → j < pins → get_or w (lean_pins_at + j) 0 < 16384

-- nothing changes outside the table and the pins
pub record Around (w w' : List ℕ) : Type 0 where
  pub size : length w' ≡ length w
  pub below : (j : ℕ) → j < roots_at → get_or w' j 0 ≡ get_or w j 0
  pub above : (j : ℕ) → binders_at ≤ j → get_or w' j 0 ≡ get_or w j 0

pub record Leant (u : List ℕ) (elements wires pins : ℕ) (w : List ℕ) (end : ℕ) : Type 0 where
  pub around : Around u w
  pub ready : LeanReady w end pins
  pub net : lean_in w end pins ≡ lean (net_in u elements wires pins)
  pub makers : (js : List ℕ) → lean_makers_in w end 0 js ≡ lean_makers (net_in u elements wires pins) js
  -- what is left out is an output of the full netlist, and past the terminals there is nothing
  pub left : (x : ℕ) → x < end → left_out ≤ entry w x → T (is_out (net_in u elements wires pins).elements x)
  pub past : (x : ℕ) → end ≤ x → x < 8192 → entry w x ≡ 0

-- a walk over the wires goes on at y, behind terminal x: what it passes is an output
pub record Passed (w : List ℕ) (x y : ℕ) : Type 0 where
  pub rises : x < y
  pub few : y ≤ x + 2
  pub output : y ≡ x + 2 → kinds_from ≤ entry w (x + 1)
  pub input : y ≡ x + 1 → entry w (x + 1) < kinds_from

-- ---- the inputs: each that has a driver gets the driver's root

abbrev pub link_in : List ℕ → ℕ → ℕ
link_in w x = cond (eqb (get_or w x 0) 65535) (entry w x) (entry w (get_or w x 0) + 1)

-- a driver is an output, so has no driver, and has a root
pub record RootedDriver (w : List ℕ) (d : ℕ) : Type 0 where
  pub low : d < 8192
  pub none : get_or w d 0 ≡ 65535
  pub root : entry w d < 8192

pub record Linkable (w : List ℕ) (end : ℕ) : Type 0 where
  pub size : memory_size ≤ length w
  pub below : end ≤ 8192
  pub sources : (x : ℕ) → x < end → (get_or w x 0 ≡ 65535 → ⊥) → RootedDriver w (get_or w x 0)

pub record Linked (w : List ℕ) (end : ℕ) (w' : List ℕ) : Type 0 where
  pub within : Within w w'
  pub links : (x : ℕ) → x < end → entry w' x ≡ link_in w x
  pub others : (x : ℕ) → end ≤ x → x < 8192 → entry w' x ≡ entry w x

-- ---- the pins, by their roots

abbrev pub rooted_in : List ℕ → ℕ → ℕ
rooted_in w c = cond (eqb (c % 2) 0) c (2 * entry w (c / 2) + 1)

pub record Rootable (w : List ℕ) (pins : ℕ) : Type 0 where
  pub size : memory_size ≤ length w
  pub few : pins ≤ 128
  pub shown : (j : ℕ) → j < pins → (get_or w (stack_at + j) 0 / 2 < 8192) × (entry w (get_or w (stack_at + j) 0 / 2) ≤ 8192)

pub record Pinned (w : List ℕ) (pins : ℕ) (w' : List ℕ) : Type 0 where
  pub size : length w' ≡ length w
  pub below : (j : ℕ) → j < lean_pins_at → get_or w' j 0 ≡ get_or w j 0
  pub above : (j : ℕ) → binders_at ≤ j → get_or w' j 0 ≡ get_or w j 0
  pub done : (j : ℕ) → j < pins → get_or w' (lean_pins_at + j) 0 ≡ rooted_in w (get_or w (stack_at + j) 0)

-- ---- the outputs: a kept one gets its element's kind; a point's is kept where it is its own root, and else its input loses its link

abbrev pub name_one : List ℕ → Element → List ℕ
name_one w (part p i) = set w (roots_at + (i + (part_at p).inputs)) (kinds_from + p)
name_one w (point i) =
    cond (eqb (entry w (i + 1)) (i + 1)) (set w (roots_at + (i + 1)) (kinds_from + 7)) (set (set w (roots_at + i) 0) (roots_at + (i + 1)) left_out)

abbrev pub named_all : List ℕ → List Element → List ℕ
named_all w [] = w
named_all w (e ∷ es) = named_all (name_one w e) es
