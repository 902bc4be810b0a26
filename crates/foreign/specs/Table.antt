-- The table by terminal, in the working memory from 0 on: 0 no terminal, 1 an input without a driver, 2 with one, 3 with more, 4 an output.
-- Assumes nothing.
use Rattle.std.specs.Prelude.{ℕ, ◌+◌, ◌≤◌, ◌<◌, min, ◌≡◌, cond, List, [], ◌∷◌, ◌++◌, ltb, length, get_or, set, drop, replicate}
use Rattle.calculus.specs.Net.{Net}
use Rattle.calculus.specs.Inputs.{ins, targets, is_out}
use Rattle.memory.specs.Map.{memory_size}
use Rattle.foreign_calculus.specs.Foreign.{is_in}

-- an element of k inputs: they, then its output
abbrev pub cells_of : ℕ → List ℕ
cells_of k = replicate k 1 ++ (4 ∷ [])

-- one driver more, counted up to two
abbrev pub driven : List ℕ → ℕ → List ℕ
driven w i = cond (ltb (get_or w i 0) 3) (set w i (get_or w i 0 + 1)) w

abbrev pub cell_at : List ℕ → ℕ → ℕ
cell_at w i = cond (ltb i 8192) (get_or w i 0) 0

-- what a netlist's terminal is
unfoldable pub cell_of : Net → ℕ → ℕ
cell_of m i = cond (is_out m.elements i) 4 (cond (is_in m.elements i) (1 + min 2 (targets m.wires i + ins m.pins i)) 0)

-- the table says this of a netlist
abbrev pub TableHolds : List ℕ → Net → Type 0
TableHolds w m = (i : ℕ) → i < 8192 → get_or w i 0 ≡ cell_of m i

-- nothing from number 32,768 on was changed
pub record LaterKept (w after : List ℕ) : Type 0 where
  pub same : length after ≡ length w
  pub later : drop memory_size after ≡ drop memory_size w

-- the table is clear
pub record TableClear (w : List ℕ) : Type 0 where
  pub size : memory_size ≤ length w
  pub zeros : (i : ℕ) → i < 8192 → get_or w i 0 ≡ 0
