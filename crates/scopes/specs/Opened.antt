-- A clause is opened: its parameters stand in the scope, and a frame has what it knows. Assumes nothing.
use Rattle.std.specs.Prelude.{ℕ, ◌+◌, ◌*◌, ◌≤◌, ◌<◌, ◌≡◌, List, length, get_or}
use Rattle.notation_calculus.specs.Trees.{Clause}
use Rattle.notation_calculus.specs.Making.{put_of, most_entries}
use Rattle.making_memory.specs.Map.{scope_at, halves_at, frames_at}
use Rattle.clauses.specs.Rows.{row_in, clause_of, HoldsRows}
use Rattle.clauses.specs.Meant.{values_in}
use Rattle.scopes.specs.Entries.{Places}
use Rattle.scopes.specs.Frames.{frame_in, HoldsScope}

-- where a clause's numbers begin, and its variables, over so many entries
abbrev pub numbers_over : List ℕ → ℕ → ℕ → ℕ
numbers_over w k top = top + (row_in w k).types

abbrev pub variables_over : List ℕ → ℕ → ℕ → ℕ
variables_over w k top = top + (row_in w k).types + (row_in w k).numbers

-- clause k of a table can be opened over so many entries, with its arguments above them
pub record CanOpen (text w : List ℕ) (k frame top : ℕ) : Type 0 where
  pub short : length text ≤ 65535
  pub clauses : List Clause
  pub holds : HoldsRows text w clauses
  pub known : k < length clauses
  pub level : frame < 82
  pub places : Places text w 0 top
  pub few : variables_over w k top ≤ most_entries

-- whatever clauses the table holds, the scope is the one that Making puts the clause in with; only entries from `top` on and the frame are
-- written
pub record Opened (text w : List ℕ) (k frame top : ℕ) (w' : List ℕ) : Type 0 where
  pub scope : (cs : List Clause) → HoldsRows text w cs → k < length cs → HoldsScope text w' frame (variables_over w k top) (put_of top cs (clause_of cs k) k (values_in w top (row_in w k).types) (values_in w (numbers_over w k top) (row_in w k).numbers)).scope
  pub variables : (frame_in w' frame).variables ≡ variables_over w k top
  pub same : length w' ≡ length w
  pub below : (j : ℕ) → j < scope_at + 2 * top → get_or w' j 0 ≡ get_or w j 0
  pub between : (j : ℕ) → halves_at ≤ j → j < frames_at + 4 * frame → get_or w' j 0 ≡ get_or w j 0
  pub above : (j : ℕ) → frames_at + 4 * frame + 4 ≤ j → get_or w' j 0 ≡ get_or w j 0
