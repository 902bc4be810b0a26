-- The table of a run and its pins, copied from the lean netlist by terminal (lean/specs/Layout). Assumes nothing.
use Rattle.std.specs.Prelude.{ℕ, ◌+◌, ◌-◌, ◌≤◌, ◌<◌, ◌≡◌, cond, List, length, get_or, eqb, ltb}
use Rattle.lean.specs.Table.{entry}
use Rattle.lean.specs.Layout.{lean_pins_at, kinds_from}
use Rattle.trace_steps.specs.Map.{pins_at}

-- of entry v of terminal x: an input has the output that its wire comes from, or itself where there is none; an output's entry stays
abbrev pub copied : ℕ → ℕ → ℕ
copied v x = cond (eqb v 0) x (cond (ltb v kinds_from) (v - 1) v)

-- the first n entries are copied, and nothing else has changed
pub record TableCopied (u : List ℕ) (n : ℕ) (w : List ℕ) : Type 0 where
  pub size : length w ≡ length u
  pub done : (x : ℕ) → x < n → get_or w x 0 ≡ copied (entry u x) x
  pub above : (j : ℕ) → n ≤ j → get_or w j 0 ≡ get_or u j 0

-- the first n pins
pub record PinsCopied (u : List ℕ) (n : ℕ) (w : List ℕ) : Type 0 where
  pub size : length w ≡ length u
  pub done : (k : ℕ) → k < n → get_or w (pins_at + k) 0 ≡ get_or u (lean_pins_at + k) 0
  pub below : (j : ℕ) → j < pins_at → get_or w j 0 ≡ get_or u j 0
  pub above : (j : ℕ) → pins_at + n ≤ j → get_or w j 0 ≡ get_or u j 0
