-- The first numbers of each clause in the working memory, a cell each. Assumes nothing.
use Rattle.std.specs.Prelude.{ℕ, zero, suc, ◌+◌, ◌*◌, ◌-◌, ◌≤◌, ◌<◌, ◌≡◌, Bool, true, ◌&&◌, cond, List, eqb, leb, length, get_or, drop}
use Rattle.notation_calculus.specs.Trees.{Number}
use Rattle.making_memory.specs.Map.{cells_at, scope_at}
use Rattle.clauses.specs.Numbers.{no_number, numbers_from, NumbersThere}

-- so many of a clause's numbers have a cell
abbrev pub most_cells : ℕ
most_cells = 27

-- .. of n numbers: all of them, or the first
pub record CellCount (n c : ℕ) : Type 0 where
  pub most : c ≤ n
  pub few : c ≤ most_cells
  pub rest : c < n → most_cells ≤ c

-- cell j of row k; behind the cells stands the offset from which on the later numbers are read
abbrev pub cell_at : ℕ → ℕ → ℕ
cell_at k j = cells_at + 28 * k + j

abbrev pub later_in : List ℕ → ℕ → ℕ
later_in work k = get_or work (cell_at k most_cells) 0

-- k is itself, n + k is 256 + k
unfoldable pub cell_of : Number → ℕ
cell_of k = cond k.is_open (256 + k.plus) k.plus

unfoldable pub cell_fits : ℕ → ℕ → Bool
cell_fits c v = cond (leb 256 c) (leb (c - 256) v) (eqb c v)

-- the cells of row k are those of its numbers, which are read at an offset
pub record CellsThere (text work : List ℕ) (k at n : ℕ) : Type 0 where
  pub each : (j : ℕ) → j < most_cells → j < n → get_or work (cell_at k j) 0 ≡ cell_of (get_or (numbers_from text at n) j no_number)
  pub small : (j : ℕ) → j < most_cells → j < n → (get_or (numbers_from text at n) j no_number).plus ≤ 255
  pub there : most_cells ≤ n → NumbersThere text (later_in work k) (n - most_cells)
  pub later : most_cells ≤ n → drop most_cells (numbers_from text at n) ≡ numbers_from text (later_in work k) (n - most_cells)

-- only the cells of row k are written, and they are those of its numbers
pub record CellsStored (text w : List ℕ) (k at n : ℕ) (w' : List ℕ) : Type 0 where
  pub same : length w' ≡ length w
  pub below : (j : ℕ) → j < cell_at k 0 → get_or w' j 0 ≡ get_or w j 0
  pub above : (j : ℕ) → cell_at k 28 ≤ j → get_or w' j 0 ≡ get_or w j 0
  pub cells : CellsThere text w' k at n

-- so many cells of row k from cell j on fit the values of the entries from one on
abbrev pub cells_fit : List ℕ → ℕ → ℕ → ℕ → ℕ → Bool
cells_fit work k first j zero = true
cells_fit work k first j (suc n) = cell_fits (get_or work (cell_at k j) 0) (get_or work (scope_at + 2 * (first + j) + 1) 0) && cells_fit work k first (suc j) n
