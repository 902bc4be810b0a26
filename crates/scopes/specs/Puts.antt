-- What a definition that is put in costs, and the count of that: Making's `cost_of` and `one_put` over the memory. Assumes nothing.
use Rattle.std.specs.Prelude.{ℕ, ◌+◌, ◌-◌, ◌/◌, ◌≡◌, Bool, true, false, List, leb, get_or, set}
use Rattle.notation_calculus.specs.Grammar.{place}
use Rattle.notation_calculus.specs.Making.{most_puts}
use Rattle.words.specs.Lexed.{from}
use Rattle.making_memory.specs.Map.{put_count_at}
use Rattle.clauses.specs.declared.rows.Row.{Row}

-- one, and one more for each 32 bytes from the name to the word behind the clause
unfoldable pub row_cost : List ℕ → Row → ℕ
row_cost text r = 1 + (place (from text r.end) - r.name) / 32

-- so much more is counted, if that is no more than there may be
pub record PutCounted (w : List ℕ) (cost : ℕ) (w' : List ℕ) (r : Bool) : Type 0 where
  pub judged : r ≡ leb (get_or w put_count_at 0 + cost) most_puts
  pub counted : r ≡ true → w' ≡ set w put_count_at (get_or w put_count_at 0 + cost)
  pub same : r ≡ false → w' ≡ w
