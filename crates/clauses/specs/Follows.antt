-- A clause after those of the table, by rows: Grammar's `may_follow` as the code reads it. Assumes nothing.
use Rattle.std.specs.Prelude.{Result, Ok, Err, ℕ, zero, suc, ◌+◌, ◌*◌, ◌≤◌, ◌<◌, ◌≡◌, Bool, true, not, ◌&&◌, ◌||◌, cond, List, eqb, ltb, length, get_or, set}
use Rattle.std.proofs.lemmas.List.Edits.{sets}
use Rattle.notation_calculus.specs.Words.{same_name}
use Rattle.notation_calculus.specs.Grammar.{most_clauses, cover_all, same_sort}
use Rattle.words.specs.Next.{run_at}
use Rattle.making_memory.specs.Map.{clauses_at, clause_count_at, making_size}
use Rattle.answers.specs.declared.Reason.{Reason}
use Rattle.answers.specs.Refusals.{reason_number}
use Rattle.clauses.specs.declared.rows.Row.{Row}
use Rattle.clauses.specs.Rows.{key_for, row_numbers, row_in}
use Rattle.clauses.specs.Numbers.{numbers_from, NumbersThere}
use Rattle.clauses.specs.Cells.{CellsThere, CellsStored}

-- a row whose name and numbers can be read, and whose key is that of its sort and name
pub record RowThere (text : List ℕ) (r : Row) : Type 0 where
  pub inside : r.name ≤ length text
  pub numbers : NumbersThere text r.numbered r.numbers
  pub key : r.key ≡ key_for r.sort (run_at text r.name)

-- a row of a sort and of the name at an offset
unfoldable pub row_namesake : List ℕ → Row → Bool → ℕ → Bool
row_namesake text r sort at = same_sort r.sort sort && same_name (run_at text r.name) (run_at text at)

unfoldable pub row_follows : List ℕ → Row → Row → Bool
row_follows text c d = not (row_namesake text c d.sort d.name) || (eqb c.types d.types && eqb c.numbers d.numbers && not (cover_all (numbers_from text c.numbered c.numbers) (numbers_from text d.numbered d.numbers)))

-- .. of so many rows from row k on
abbrev pub follows_from : List ℕ → List ℕ → Row → ℕ → ℕ → Bool
follows_from text work d k zero = true
follows_from text work d k (suc n) = row_follows text (row_in work k) d && follows_from text work d (suc k) n

-- a table whose rows can be read
pub record RowsThere (text work : List ℕ) : Type 0 where
  pub room : making_size ≤ length work
  pub few : get_or work clause_count_at 0 ≤ most_clauses
  pub each : (k : ℕ) → k < get_or work clause_count_at 0 → RowThere text (row_in work k)
  pub cells : (k : ℕ) → k < get_or work clause_count_at 0 → CellsThere text work k (row_in work k).numbered (row_in work k).numbers

-- 34, then 36, or 0
unfoldable pub row_refusal : List ℕ → List ℕ → Row → ℕ
row_refusal text work d = cond (ltb (get_or work clause_count_at 0) most_clauses) (cond (follows_from text work d 0 (get_or work clause_count_at 0)) 0 36) 34

-- a table with one row more
unfoldable pub with_row : List ℕ → Row → List ℕ
with_row work d = set (sets work (clauses_at + 8 * get_or work clause_count_at 0) (row_numbers d)) clause_count_at (get_or work clause_count_at 0 + 1)

-- a row is put behind the table, or refused; its numbers have their cells
abbrev pub RowAdded : List ℕ → List ℕ → Row → List ℕ → Result (Unit {0}) Reason → Type 0
RowAdded text work d work' (Ok done) = (0 ≡ row_refusal text work d) × CellsStored text (with_row work d) (get_or work clause_count_at 0) d.numbered d.numbers work'
RowAdded text work d work' (Err reason) = (reason_number reason ≡ row_refusal text work d) × (0 < reason_number reason) × (work' ≡ work)
