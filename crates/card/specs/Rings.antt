-- The kept ring points of the lean netlist that stands in the working memory by terminal. Assumes nothing.
use Rattle.std.specs.Prelude.{ℕ, zero, suc, ◌+◌, ◌-◌, ◌≤◌, ◌<◌, ◌≡◌, Bool, false, not, ◌&&◌, cond, Option, Some, None, List, eqb}
use Rattle.calculus.specs.Answer.{Answer, good, refuse}
use Rattle.lean.specs.Table.{entry}
use Rattle.lean.specs.Layout.{kinds_from}

-- v is the entry of the output of one: a point's, whose input has a wire by its entry u
abbrev pub ring_by : ℕ → ℕ → Bool
ring_by v u = eqb v (kinds_from + 7) && not (eqb u 0)

abbrev pub ring_at : List ℕ → ℕ → Bool
ring_at w x = ring_by (entry w x) (entry w (x - 1))

-- none stands from x on and before y
abbrev pub RingFree : List ℕ → ℕ → ℕ → Type 0
RingFree w x y = (o : ℕ) → x ≤ o → o < y → ring_at w o ≡ false

-- the input of the first, among c outputs from x on
abbrev pub lowest_from : List ℕ → ℕ → ℕ → Option ℕ
lowest_from w zero x = None
lowest_from w (suc c) x = cond (ring_at w x) (Some (x - 1)) (lowest_from w c (x + 1))

-- refused at a terminal, where there is one
abbrev pub answer_of : ℕ → Option ℕ → Answer (Unit {0})
answer_of number None = good tt
answer_of number (Some place) = refuse number place
