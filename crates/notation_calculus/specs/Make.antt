-- The sheet of a text, and the call that writes it; refusals 1, 30 to 36, 17 and 37. Assumes nothing.
use Rattle.std.specs.Prelude.{ℕ, suc, Bool, false, not, ◌&&◌, cond, List, [], ◌∷◌, ◌++◌, eqb, leb, length, drop}
use Rattle.calculus.specs.Answer.{Answer, good, refused, ◌>>=◌, need}
use Rattle.calculus.specs.Types.{rec01}
use Rattle.calculus.specs.Read.{Sheet}
use Rattle.calculus.specs.Write.{sheet_bytes}
use Rattle.calculus.specs.Translate.{work_of}
use Rattle.notation_calculus.specs.Words.{Name, ascii, words}
use Rattle.notation_calculus.specs.Trees.{no_types, Body, of_type, of_term, Clause, Line, Text}
use Rattle.notation_calculus.specs.Grammar.{most_nested, namesake, text_of}
use Rattle.notation_calculus.specs.Making.{State, Scope, parameters, cost_of, one_put, put_in, type_of, Made, body_term, term_of}

-- the table begins with **1**
abbrev pub start : State
start = record { table = rec01 ∷ []; nodes = 0; puts = 0 }

-- no parameters and no variables
abbrev pub above : ℕ → Scope
above seen = record { seen = seen; under = 0; types = []; numbers = []; variables = [] }

-- the types of the lines `table`, in their order
abbrev pub lines_table : Text → State → List Line → Answer State
lines_table X σ [] = good σ
lines_table X σ (l ∷ ls) = do
  t ← type_of X most_nested (above l.seen) σ l.type
  lines_table X t.state ls

unfoldable pub main_name : Name
main_name = ascii "main"

-- ---- definitions without parameters are judged, also those that `main` does not reach

-- .. but `main`, which is made itself
abbrev pub is_judged : Clause → Bool
is_judged c = eqb (parameters c) 0 && not (namesake c false main_name)

-- clause number i is made, and what it costs is all that is left of it
abbrev pub judged_body : Text → ℕ → State → Body → Answer ℕ
judged_body X i σ (of_type t) = do
  x ← type_of X most_nested (above i) σ t
  good x.state.puts
judged_body X i σ (of_term e) = do
  m ← term_of X most_nested (above i) σ e
  good m.state.puts

abbrev pub judged_clause : Text → ℕ → State → Clause → Answer State
judged_clause X i σ c = cond (is_judged c) (do
  σ₁ ← one_put σ (cost_of c) c.head.place
  k ← judged_body X i σ₁ c.body
  good (record { table = σ.table; nodes = σ.nodes; puts = k })) (good σ)

-- the clauses from number i on, in the order of the text
abbrev pub judged_from : Text → ℕ → State → List Clause → Answer State
judged_from X i σ [] = good σ
judged_from X i σ (c ∷ cs) = do
  σ₁ ← judged_clause X i σ c
  judged_from X (suc i) σ₁ cs

-- the term of `main`, which is put in at the text's end
unfoldable pub main_of : Text → Answer Made
main_of X = do
  σ ← lines_table X start X.lines
  σ₁ ← judged_from X 0 σ X.clauses
  put_in X false (above (length X.clauses)) (λ S τ t. type_of X most_nested S τ t) (body_term (λ S τ e. term_of X most_nested S τ e)) σ₁ X.end main_name no_types []

-- a sheet, and the place in the text that each node came from
pub record Placed : Type 0 where
  pub sheet : Sheet
  pub places : List ℕ

unfoldable pub sheet_of : Text → Answer Placed
sheet_of X = do
  m ← main_of X
  good (record { sheet = record { edition = X.edition; table = m.state.table; term = m.term }; places = m.places })

unfoldable pub make : List ℕ → Answer Placed
make text = do
  _ ← need (leb (length text) 65535) 30 0
  ws ← words text
  X ← text_of ws
  sheet_of X

-- ---- the call

abbrev pub bytes_of : Sheet → List ℕ
bytes_of σ = sheet_bytes σ.edition σ.table σ.term

-- what a call writes: bytes of the sheet, places of the nodes
pub record Written : Type 0 where
  pub bytes : List ℕ
  pub places : List ℕ

-- 1, then 30 to 36, then 17 with the bytes needed, then 37 with the nodes
unfoldable pub make_answer : ℕ → List ℕ → ℕ → ℕ → Answer Written
make_answer memory text room roomPlaces = do
  _ ← need (leb 32768 memory) 1 0
  m ← make text
  let bytes = bytes_of m.sheet
  _ ← need (leb (length bytes) room) 17 (length bytes)
  _ ← need (leb (length m.places) roomPlaces) 37 (length m.places)
  good (record { bytes = bytes; places = m.places })

pub record MakeCall : Type 0 where
  pub said : Answer ℕ
  pub out : List ℕ
  pub places : List ℕ
  pub work : List ℕ

abbrev pub said_make : Answer Written → Answer ℕ
said_make (good w) = good (length w.bytes)
said_make (refused why) = refused why

abbrev pub out_make : Answer Written → List ℕ → List ℕ
out_make (good w) out = w.bytes ++ drop (length w.bytes) out
out_make (refused why) out = out

abbrev pub places_make : Answer Written → List ℕ → List ℕ
places_make (good w) places = w.places ++ drop (length w.places) places
places_make (refused why) places = places

-- a call: lent a text, an output, room for the places, and working memory
unfoldable pub make_call : List ℕ → List ℕ → List ℕ → List ℕ → MakeCall
make_call text out places work =
    let a = make_answer (length work) text (length out) (length places) in
    record { said = said_make a; out = out_make a out; places = places_make a places; work = work_of work }
