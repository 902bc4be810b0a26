-- A clause as eight numbers, and the table of clauses in the working memory. Assumes nothing.
use Rattle.std.specs.Prelude.{ℕ, ◌+◌, ◌*◌, ◌≤◌, ◌<◌, ◌≡◌, Bool, true, false, cond, List, [], ◌∷◌, leb, length, get_or}
use Rattle.calculus.specs.Answer.{Answer, good}
use Rattle.notation_calculus.specs.Words.{equals, Word}
use Rattle.notation_calculus.specs.Trees.{Bound, typed, one, nothing, Body, of_type, Clause}
use Rattle.notation_calculus.specs.Grammar.{Got, got, place, expect, parameters_at, numbers_at, begins_atom, type_body, term_body, clause_at, is_type, most_clauses}
use Rattle.words.specs.Next.{run_at}
use Rattle.words.specs.NameKeys.{name_key}
use Rattle.words.specs.Lexed.{from, Lexed}
use Rattle.grammar.specs.Ends.{rest_of}
use Rattle.making_memory.specs.Map.{clauses_at, clause_count_at}
use Rattle.clauses.specs.declared.rows.Row.{Row}
use Rattle.clauses.specs.Cells.{CellsThere}

-- a body of a sort: yes means a type
abbrev pub body_at : Bool → List Word → Answer (Got Body)
body_at true ws = type_body ws
body_at false ws = term_body ws

-- a number that a sort and a name give: a type's is not below 32,768
unfoldable pub key_for : Bool → List ℕ → ℕ
key_for sort n = name_key n + cond sort 32768 0

-- the row of a clause: the offsets of its name, of what stands behind it, of the number parameters, of the body and of what stands behind
-- that; its sort, and the key of sort and name; how many type parameters and number parameters. What is read again from these offsets is the clause
pub record RowOf (text : List ℕ) (c : Clause) (r : Row) : Type 0 where
  pub name_place : c.head.place ≡ r.name
  pub name_is : c.head.name ≡ run_at text r.name
  pub name_inside : r.name ≤ length text
  pub heads : begins_atom (from text r.name) ≡ false
  pub types_lexed : Lexed text r.typed
  pub types : parameters_at (from text r.typed) ≡ got c.types (from text r.numbered)
  pub numbers_lexed : Lexed text r.numbered
  pub stop : ℕ  -- the offset of `=`
  pub numbers : numbers_at (from text r.numbered) ≡ got c.numbers (from text stop)
  pub equal : expect equals (from text stop) ≡ good (from text r.body)
  pub body_lexed : Lexed text r.body
  pub body : body_at r.sort (from text r.body) ≡ got c.body (from text r.end)
  pub end_lexed : Lexed text r.end
  pub end : c.end ≡ place (from text r.end)
  pub sort : is_type c.body ≡ r.sort
  pub key : r.key ≡ key_for r.sort (run_at text r.name)
  pub type_count : r.types ≡ length c.types
  pub number_count : r.numbers ≡ length c.numbers
  pub few_types : r.types ≤ length text
  pub few_numbers : r.numbers ≤ length text

-- a clause of a sort is read from an offset up to another
pub record ClauseEnds (text : List ℕ) (at : ℕ) (sort : Bool) (end : ℕ) : Type 0 where
  pub lexed : Lexed text at
  pub reads : rest_of (clause_at (body_at sort) (from text at)) ≡ good (from text end)
  pub past : Lexed text end

-- .. and has a row
pub record RowRead (text : List ℕ) (at : ℕ) (sort : Bool) (end : ℕ) (r : Row) : Type 0 where
  pub clause : Clause
  pub is : clause_at (body_at sort) (from text at) ≡ got clause (from text end)
  pub row : RowOf text clause r

-- ---- the table

abbrev pub flag_of : Bool → ℕ
flag_of true = 1
flag_of false = 0

-- the eight numbers of a row
abbrev pub row_numbers : Row → List ℕ
row_numbers r = r.name ∷ r.typed ∷ r.numbered ∷ r.body ∷ r.end ∷ r.key ∷ r.types ∷ r.numbers ∷ []

-- each of them is below 65,536
pub record ShortRow (r : Row) : Type 0 where
  pub name : r.name < 65536
  pub typed : r.typed < 65536
  pub numbered : r.numbered < 65536
  pub body : r.body < 65536
  pub end : r.end < 65536
  pub key : r.key < 65536
  pub types : r.types < 65536
  pub numbers : r.numbers < 65536

-- row k of the table
abbrev pub row_in : List ℕ → ℕ → Row
row_in work k = record {
  name = get_or work (clauses_at + 8 * k) 0;
  typed = get_or work (clauses_at + 8 * k + 1) 0;
  numbered = get_or work (clauses_at + 8 * k + 2) 0;
  body = get_or work (clauses_at + 8 * k + 3) 0;
  end = get_or work (clauses_at + 8 * k + 4) 0;
  sort = leb 32768 (get_or work (clauses_at + 8 * k + 5) 0);
  key = get_or work (clauses_at + 8 * k + 5) 0;
  types = get_or work (clauses_at + 8 * k + 6) 0;
  numbers = get_or work (clauses_at + 8 * k + 7) 0;
}

-- no row from number k on, up to the answer, has a key
pub record KeyFrom (work : List ℕ) (key k n r : ℕ) : Type 0 where
  pub least : k ≤ r
  pub most : r ≤ n
  pub others : (j : ℕ) → k ≤ j → j < r → ¬ ((row_in work j).key ≡ key)

-- .. from the answer on, up to number k
pub record KeyBelow (work : List ℕ) (key k r : ℕ) : Type 0 where
  pub most : r ≤ k
  pub others : (j : ℕ) → r ≤ j → j < k → ¬ ((row_in work j).key ≡ key)

-- a row of the table has its name at an offset
pub record HeadAt (work : List ℕ) (place : ℕ) : Type 0 where
  pub row : ℕ
  pub counted : row < get_or work clause_count_at 0
  pub here : (row_in work row).name ≡ place

abbrev pub no_bound : Bound
no_bound = record { name = []; place = 0 }

abbrev pub no_clause : Clause
no_clause = record { head = no_bound; types = []; numbers = []; body = of_type (typed 0 one nothing nothing); end = 0 }

-- clause k of a list
abbrev pub clause_of : List Clause → ℕ → Clause
clause_of cs k = get_or cs k no_clause

-- the table holds these clauses
pub record HoldsRows (text work : List ℕ) (cs : List Clause) : Type 0 where
  pub counted : get_or work clause_count_at 0 ≡ length cs
  pub few : length cs ≤ most_clauses
  pub rows : (k : ℕ) → k < length cs → RowOf text (clause_of cs k) (row_in work k)
  pub cells : (k : ℕ) → k < length cs → CellsThere text work k (row_in work k).numbered (row_in work k).numbers
