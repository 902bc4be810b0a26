-- The clause that a name means, by rows: Making's `meant`, `clause_for` and `seen_by` as the code reads them. Assumes nothing.
use Rattle.std.specs.Prelude.{ℕ, zero, suc, ◌+◌, ◌*◌, ◌≤◌, Bool, ◌&&◌, cond, List, [], ◌∷◌, eqb, length, get_or}
use Rattle.notation_calculus.specs.Making.{fit_all, most_entries}
use Rattle.making_memory.specs.Map.{scope_at, clause_count_at}
use Rattle.clauses.specs.declared.rows.Row.{Row}
use Rattle.clauses.specs.declared.meant.Asked.{Asked}
use Rattle.clauses.specs.Rows.{row_in}
use Rattle.clauses.specs.Numbers.{numbers_from}
use Rattle.clauses.specs.Follows.{row_namesake, RowsThere}

-- the values of so many entries of the scope
abbrev pub values_in : List ℕ → ℕ → ℕ → List ℕ
values_in work first zero = []
values_in work first (suc n) = get_or work (scope_at + 2 * first + 1) 0 ∷ values_in work (suc first) n

-- a row is meant by what is asked for: a sort, the name at a place, so many types, and numbers that stand in the scope from an entry on
unfoldable pub row_meant : List ℕ → List ℕ → Asked → Row → Bool
row_meant text work q r = row_namesake text r q.sort q.name && eqb r.types q.types && fit_all (numbers_from text r.numbered r.numbers) (values_in work q.first q.numbers)

-- the first of so many rows from row k on that is meant, or the number behind them
abbrev pub first_meant : List ℕ → List ℕ → Asked → ℕ → ℕ → ℕ
first_meant text work q k zero = k
first_meant text work q k (suc n) =
    let later = first_meant text work q (suc k) n in
    cond (row_meant text work q (row_in work k)) k later

-- what can be asked of a table
pub record CanAsk (text work : List ℕ) (q : Asked) : Type 0 where
  pub there : RowsThere text work
  pub name : q.name ≤ length text
  pub entries : q.first + q.numbers ≤ most_entries

-- behind the last row of a sort and name among so many from row k on, or else
abbrev pub rows_up_to : List ℕ → List ℕ → Bool → ℕ → ℕ → ℕ → ℕ → ℕ
rows_up_to text work sort at k zero found = found
rows_up_to text work sort at k (suc n) found = rows_up_to text work sort at (suc k) n (cond (row_namesake text (row_in work k) sort at) (suc k) found)

-- how many rows row k knows
unfoldable pub row_seen : List ℕ → List ℕ → ℕ → ℕ
row_seen text work k = cond (eqb (row_in work k).numbers 0) k (rows_up_to text work (row_in work k).sort (row_in work k).name 0 (get_or work clause_count_at 0) k)
