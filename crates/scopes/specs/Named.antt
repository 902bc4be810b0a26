-- Arguments that wait get the names of a clause's parameters: Making's `bind_types` and `bind_numbers` in the memory. Assumes nothing.
use Rattle.std.specs.Prelude.{ℕ, ◌+◌, ◌≤◌, ◌<◌, ◌≡◌, List, length}
use Rattle.notation_calculus.specs.Trees.{Bound}
use Rattle.notation_calculus.specs.Grammar.{name_at}
use Rattle.notation_calculus.specs.Making.{Entry, most_entries}
use Rattle.words.specs.Lexed.{from, Lexed}
use Rattle.making_memory.specs.Map.{making_size}
use Rattle.clauses.specs.Groups.{list_in, Readable}
use Rattle.clauses.specs.Rows.{no_bound}
use Rattle.scopes.specs.Entries.{place_in, named_from, OnlyEntries}

-- so many names behind brackets at an offset
abbrev pub bound_from : List ℕ → ℕ → ℕ → List Bound
bound_from text at n = list_in no_bound name_at n (from text at)

pub record NamesThere (text : List ℕ) (at n : ℕ) : Type 0 where
  pub lexed : Lexed text at
  pub readable : Readable no_bound name_at n (from text at)

-- there are so many entries to name
pub record CanName (text w : List ℕ) (first n : ℕ) : Type 0 where
  pub short : length text ≤ 65535
  pub room : making_size ≤ length w
  pub few : first + n ≤ most_entries

-- so many entries were named, and those that have a name are these
pub record EntriesNamed (text w : List ℕ) (first n : ℕ) (w' : List ℕ) (Γ : List Entry) : Type 0 where
  pub only : OnlyEntries first (first + n) w w'
  pub inside : (e : ℕ) → first ≤ e → e < first + n → place_in w' e ≤ length text
  pub named : named_from text w' first n ≡ Γ
