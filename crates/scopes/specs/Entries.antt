-- Names in scope as entries of the working memory: the place of a name, and a value. Assumes nothing.
-- The text's length is the place of a name that no text has.
use Rattle.std.specs.Prelude.{ℕ, zero, suc, ◌+◌, ◌*◌, ◌≤◌, ◌<◌, ◌≡◌, cond, List, [], ◌∷◌, eqb, length, get_or, set}
use Rattle.notation_calculus.specs.Words.{same_name}
use Rattle.notation_calculus.specs.Making.{Entry, most_entries}
use Rattle.words.specs.Next.{run_at, name_in}
use Rattle.making_memory.specs.Map.{scope_at, making_size}

abbrev pub place_in : List ℕ → ℕ → ℕ
place_in work e = get_or work (scope_at + 2 * e) 0

abbrev pub value_at : List ℕ → ℕ → ℕ
value_at work e = get_or work (scope_at + 2 * e + 1) 0

abbrev pub entry_in : List ℕ → List ℕ → ℕ → Entry
entry_in text work e = record { name = run_at text (place_in work e); value = value_at work e }

-- .. as a variable, which has a name that no text can have where a parenthesis stands at its place
abbrev pub variable_in : List ℕ → List ℕ → ℕ → Entry
variable_in text work e = record { name = name_in text (place_in work e); value = value_at work e }

-- so many variables from one on, the latest first
abbrev pub entries_back : List ℕ → List ℕ → ℕ → ℕ → List Entry
entries_back text work e zero = []
entries_back text work e (suc n) = variable_in text work (e + n) ∷ entries_back text work e n

-- so many parameters from one on, the earliest first, of those that have a name
abbrev pub named_from : List ℕ → List ℕ → ℕ → ℕ → List Entry
named_from text work e zero = []
named_from text work e (suc n) =
    let others = named_from text work (suc e) n in
    cond (eqb (place_in work e) (length text)) others (entry_in text work e ∷ others)

-- names whose places stand in the text
pub record Places (text work : List ℕ) (from to : ℕ) : Type 0 where
  pub room : making_size ≤ length work
  pub most : to ≤ most_entries
  pub inside : (e : ℕ) → from ≤ e → e < to → place_in work e ≤ length text

-- the first entry of the name at a place among so many from one on; or the number behind them
abbrev pub first_named : List ℕ → List ℕ → ℕ → ℕ → ℕ → ℕ
first_named text work at e zero = e
first_named text work at e (suc n) =
    let later = first_named text work at (suc e) n in
    cond (same_name (run_at text at) (run_at text (place_in work e))) e later

-- behind the last of so many entries from one on; or the first of them
abbrev pub last_named : List ℕ → List ℕ → ℕ → ℕ → ℕ → ℕ
last_named text work at e zero = e
last_named text work at e (suc n) =
    let earlier = last_named text work at e n in
    cond (same_name (run_at text at) (run_at text (place_in work (e + n)))) (e + n + 1) earlier

-- .. with exactly this place
abbrev pub last_placed : List ℕ → ℕ → ℕ → ℕ → ℕ
last_placed work place e zero = e
last_placed work place e (suc n) =
    let earlier = last_placed work place e n in
    cond (eqb (place_in work (e + n)) place) (e + n + 1) earlier

-- an entry is set
unfoldable pub with_entry : List ℕ → ℕ → ℕ → ℕ → List ℕ
with_entry work e place value = set (set work (scope_at + 2 * e) place) (scope_at + 2 * e + 1) value

-- only entries from one up to another are written
pub record OnlyEntries (from to : ℕ) (w w' : List ℕ) : Type 0 where
  pub same : length w' ≡ length w
  pub below : (j : ℕ) → j < scope_at + 2 * from → get_or w' j 0 ≡ get_or w j 0
  pub above : (j : ℕ) → scope_at + 2 * to ≤ j → get_or w' j 0 ≡ get_or w j 0
