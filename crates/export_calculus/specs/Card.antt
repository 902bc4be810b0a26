-- A profile for the card (document 02, L12): three rules over the root's type and the lean netlist. Refusals 27, 28, 29. Assumes nothing.
use Rattle.std.specs.Prelude.{ℕ, ◌+◌, Bool, true, false, ◌||◌, List, [], ◌∷◌, eqb}
use Rattle.calculus.specs.Answer.{Answer, good, ◌>>=◌, need}
use Rattle.calculus.specs.Types.{Ty, bit, prod, arrow, lolli, sharable, tree}
use Rattle.calculus.specs.Terms.{part_at}
use Rattle.calculus.specs.Read.{read_sheet}
use Rattle.calculus.specs.Walk.{walk}
use Rattle.calculus.specs.Net.{inp, out, Interface, Element, point, part, Wire, Net}
use Rattle.calculus.specs.Lean.{is_pin, lean}

-- refused at the first that fails
abbrev pub need_all : {A : Type 0} → (A → Bool) → ℕ → (A → ℕ) → List A → Answer (Unit {0})
need_all ok number place [] = good tt
need_all ok number place (x ∷ xs) = need (ok x) number (place x) >>= λ _. need_all ok number place xs

-- 27: a chain of zero or more sharable arrows, ending in a sharable type (an arrow's left side is sharable by the table's rule)
abbrev pub chain : Ty → Bool
chain bit = true
chain (prod a b) = sharable (prod a b)
chain (arrow a b) = chain b
chain (lolli a b) = false

-- 28 (and 18 of L1): no kept ring point, which is a point whose input is no pin; the place is its input
abbrev pub no_ring : Interface → Element → Bool
no_ring ps (point i) = is_pin ps i
no_ring ps (part p i) = true

abbrev pub input_place : Element → ℕ
input_place (point i) = i
input_place (part p i) = i

-- 29: each part's output drives a wire or is a pin; the place is that output
abbrev pub drives : List Wire → ℕ → Bool
drives [] o = false
drives (w ∷ ws) o = eqb w.from o || drives ws o

abbrev pub is_out_pin : Interface → ℕ → Bool
is_out_pin [] o = false
is_out_pin (inp i ∷ ps) o = is_out_pin ps o
is_out_pin (out x ∷ ps) o = eqb x o || is_out_pin ps o

abbrev pub is_read : Net → Element → Bool
is_read m (point i) = true
is_read m (part p i) = drives m.wires (i + (part_at p).inputs) || is_out_pin m.pins (i + (part_at p).inputs)

abbrev pub output_place : Element → ℕ
output_place (point i) = i + 1
output_place (part p i) = i + (part_at p).inputs

-- in this order, of a lean netlist whose root's type is a chain or not
unfoldable pub profiled : Bool → Net → Answer (Unit {0})
profiled chained m = do
  _ ← need chained 27 0
  _ ← need_all (no_ring m.pins) 28 input_place m.elements
  need_all (is_read m) 29 output_place m.elements

abbrev pub profile : Ty → Net → Answer (Unit {0})
profile τ m = profiled (chain τ) m

-- the root's type, where 2 to 15 do not refuse
unfoldable pub root_type : List ℕ → Answer Ty
root_type s = do
  σ ← read_sheet s
  r ← walk σ.edition σ.table σ.term 0 []
  good (tree σ.table r.type)

-- the check of a sheet with full netlist m, where it is asked for
abbrev pub on_card : Bool → List ℕ → Net → Answer (Unit {0})
on_card false s m = good tt
on_card true s m = root_type s >>= λ τ. profile τ (lean m)
