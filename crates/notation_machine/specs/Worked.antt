-- The machines run on texts: types with results worked out by hand, and the samples of the notation. Assumes nothing.
use Rattle.std.specs.Prelude.{ℕ, false, List, [], ◌∷◌, length}
use Prim.Native.String.{String}
use Rattle.calculus.specs.Answer.{Answer, good, ◌>>=◌, refuse}
use Rattle.calculus.specs.Types.{rec01, rec02, rec03, rec04, Table}
use Rattle.notation_calculus.specs.Words.{ascii, words}
use Rattle.notation_calculus.specs.Grammar.{most_nested, text_of}
use Rattle.notation_calculus.specs.Making.{Found, Made, clause_for, one_put}
use Rattle.notation_calculus.specs.Make.{start, above, lines_table, judged_from, main_name, bytes_of}
use Rattle.notation_calculus.specs.Samples.{Row}
use Rattle.notation_machine.specs.Walked.{walked}
use Rattle.notation_machine.specs.Bodies.{words_for, bodies_of}
use Rattle.notation_machine.specs.TypeMachine.{Typing, wanted, came, type_move}
use Rattle.notation_machine.specs.TermMachine.{Terming, wanted_term, came_term, applying, term_move}

-- so many steps are enough for every row; 0 at 0 is no refusal, but a run that has not ended
abbrev pub enough_steps : ℕ
enough_steps = 600

abbrev pub type_end : Typing → Answer Found
type_end (wanted more tight S σ ws K) = refuse 0 0
type_end (came more x ws []) = good x
type_end (came more x ws (l ∷ K)) = refuse 0 0

abbrev pub term_end : Terming → Answer Made
term_end (wanted_term more S σ ws K) = refuse 0 0
term_end (came_term more m ws []) = good m
term_end (came_term more m ws (l ∷ K)) = refuse 0 0
term_end (applying more S at f ws K) = refuse 0 0

-- ---- types

-- definitions, a type, and the table with the type last; or the refusal
pub record TypeRow : Type 0 where
  pub definitions : List ℕ
  pub type : List ℕ
  pub result : Answer Table

-- what the machine leaves
unfoldable pub type_run : TypeRow → Answer Table
type_run r = do
  ws ← words r.definitions
  X ← text_of ws
  bodies ← bodies_of ws
  us ← words r.type
  s ← walked (type_move X bodies) enough_steps (wanted most_nested false (above (length X.clauses)) start us [])
  x ← type_end s
  good x.state.table

abbrev works_out : String → String → Table → TypeRow
works_out d t Θ = record { definitions = ascii d; type = ascii t; result = good Θ }

abbrev refuses_type : String → String → ℕ → ℕ → TypeRow
refuses_type d t number at = record { definitions = ascii d; type = ascii t; result = refuse number at }

unfoldable pub type_rows : List TypeRow
type_rows =
    works_out "" "1" (rec01 ∷ [])
    ∷ works_out "" "(1)" (rec01 ∷ [])
    ∷ works_out "" "1 * 1 -> 1" (rec01 ∷ rec02 0 0 ∷ rec03 1 0 ∷ [])
    -- products and arrows nest to the right
    ∷ works_out "" "1 * 1 * 1" (rec01 ∷ rec02 0 0 ∷ rec02 0 1 ∷ [])
    ∷ works_out "" "1 -> 1 * 1 -> 1" (rec01 ∷ rec02 0 0 ∷ rec03 1 0 ∷ rec03 0 2 ∷ [])
    ∷ works_out "" "(1 -> 1) -o 1" (rec01 ∷ rec03 0 0 ∷ rec04 1 0 ∷ [])
    ∷ works_out "" "(1 * 1) * 1 -> 1" (rec01 ∷ rec02 0 0 ∷ rec02 1 0 ∷ rec03 2 0 ∷ [])
    -- a definition for each number, and what stands behind it
    ∷ works_out "type row{0} = 1 type row{n + 1} = row{n} * row{n}" "row{2} -> row{0}" (rec01 ∷ rec02 0 0 ∷ rec02 1 1 ∷ rec03 2 0 ∷ [])
    -- arguments in their order, and in one another
    ∷ works_out "type to[a, b] = a -> b" "to[1 * 1, 1]" (rec01 ∷ rec02 0 0 ∷ rec03 1 0 ∷ [])
    ∷ works_out "type two[a] = a * a" "two[two[1]] -> 1" (rec01 ∷ rec02 0 0 ∷ rec02 1 1 ∷ rec03 2 0 ∷ [])
    -- bits in a row, listed once; a row binds closer than a product
    ∷ works_out "" "1^1" (rec01 ∷ [])
    ∷ works_out "" "1^3 * 1 -> 1^2" (rec01 ∷ rec02 0 0 ∷ rec02 0 1 ∷ rec02 2 0 ∷ rec03 3 1 ∷ [])
    ∷ works_out "type bus{n} = 1^n + 2" "bus{0}" (rec01 ∷ rec02 0 0 ∷ [])
    ∷ refuses_type "" "1 * 1^0" 33 6
    ∷ refuses_type "" "1^n" 33 2
    -- a product of circuits, and a name that is not defined
    ∷ refuses_type "" "(1 -> 1) * 1" 35 9
    ∷ refuses_type "" "1 * odd" 33 4
    ∷ refuses_type "type row{n} = n" "row{0}" 33 14
    -- 81 levels: the place is that of the body's first word
    ∷ refuses_type "type loop{n} = loop{n}" "loop{0}" 34 15
    ∷ []

-- ---- terms

-- the sheet of a text whose `main` the machine makes
unfoldable pub machine_made : Row → Answer (List ℕ)
machine_made r = do
  ws ← words r.text
  X ← text_of ws
  bodies ← bodies_of ws
  σ ← lines_table X start X.lines
  σ₁ ← judged_from X 0 σ X.clauses
  p ← clause_for 0 X.clauses X.clauses 0 false main_name [] [] X.end
  σ₂ ← one_put σ₁ p.cost X.end
  s ← walked (term_move X bodies) enough_steps (wanted_term most_nested p.scope σ₂ (words_for bodies X.clauses false main_name 0 []) [])
  m ← term_end s
  good (bytes_of (record { edition = X.edition; table = m.state.table; term = m.term }))
