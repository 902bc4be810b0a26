-- The term of a text, its sheet written, and the call. Assumes nothing.
use Rattle.std.specs.Prelude.{ℕ, ◌≤◌, ◌<◌, ◌≡◌, false, List, [], Result, Ok, Err, length}
use Rattle.answers.specs.declared.Refusal.{Refusal}
use Rattle.answers.specs.Refusals.{said_why}
use Rattle.calculus.specs.Answer.{Answer, good, refused, ◌>>=◌}
use Rattle.calculus.specs.Types.{Table}
use Rattle.calculus.specs.Terms.{Edition, Term}
use Rattle.calculus.specs.Translate.{work_of}
use Rattle.notation_calculus.specs.Trees.{no_types, Text}
use Rattle.notation_calculus.specs.Grammar.{most_nested}
use Rattle.notation_calculus.specs.Making.{State, put_in, type_of, Made, body_term, term_of}
use Rattle.notation_calculus.specs.Make.{above, main_name, judged_from, main_of, Placed, make, Written, make_answer, MakeCall, said_make, out_make, places_make}
use Rattle.making_memory.specs.Map.{making_size}
use Rattle.made_types.specs.Held.{HoldsTypes}
use Rattle.made_nodes.specs.declared.Sub.{Sub}
use Rattle.made_nodes.specs.Nodes.{TermIn}
use Rattle.made_nodes.specs.Forms.{EditionIn}
use Rattle.made_nodes.specs.Held.{TermHeld}
use Rattle.clauses.specs.Texts.{HoldsClauses}
use Rattle.sheet_writer.specs.Wrote.{sheet_answer}
use Rattle.translator.specs.Said.{said_answer}
use Rattle.maker.specs.Stages.{FarKept, TextStands}
use Rattle.maker.specs.Lines.{ItemsLeft}

-- ---- `main`

-- `main`, put in at the text's end
unfoldable pub main_made : Text → State → Answer Made
main_made X σ = put_in X false (above (length X.clauses)) (λ S τ t. type_of X most_nested S τ t) (body_term (λ S τ e. term_of X most_nested S τ e)) σ X.end main_name no_types []

abbrev pub TextTerm : List ℕ → List ℕ → Text → Result Sub Refusal → Answer Made → Type 0
TextTerm text w X (Ok s) (good m) = (TextStands text w X m.state) × (TermHeld w s m)
TextTerm text w X (Ok s) (refused why) = ⊥
TextTerm text w X (Err e) (good m) = ⊥
TextTerm text w X (Err e) (refused why) = why ≡ said_why e

-- a text that ends at a place, and what was made up to here
pub record CanEnd (text w : List ℕ) (end : ℕ) : Type 0 where
  pub X : Text
  pub σ : State
  pub stands : TextStands text w X σ
  pub ends : X.end ≡ end

pub record MainMade (text w : List ℕ) (end : ℕ) (r : Result Sub Refusal) (w' : List ℕ) : Type 0 where
  pub kept : FarKept w w'
  pub says : (X : Text) (σ : State) → TextStands text w X σ → X.end ≡ end → TextTerm text w' X r (main_made X σ)

-- .. behind the judging of the definitions
pub record BehindMade (text w : List ℕ) (end : ℕ) (r : Result Sub Refusal) (w' : List ℕ) : Type 0 where
  pub kept : FarKept w w'
  pub says : (X : Text) (σ : State) → TextStands text w X σ → X.end ≡ end → TextTerm text w' X r (judged_from X 0 σ X.clauses >>= λ σ₁. main_made X σ₁)

-- a text's clauses stand in the memory, and its first line and its end in the text
pub record TextThere (text w : List ℕ) (items seen end : ℕ) (X : Text) : Type 0 where
  pub short : length text ≤ 65535
  pub room : making_size ≤ length w
  pub clauses : HoldsClauses text w X
  pub left : ItemsLeft text X items seen X.lines
  pub ends : X.end ≡ end

pub record CanText (text w : List ℕ) (items seen end : ℕ) : Type 0 where
  pub X : Text
  pub there : TextThere text w items seen end X

pub record TextMade (text w : List ℕ) (items seen end : ℕ) (r : Result Sub Refusal) (w' : List ℕ) : Type 0 where
  pub kept : FarKept w w'
  pub says : (X : Text) → TextThere text w items seen end X → TextTerm text w' X r (main_of X)

-- ---- the sheet

-- the memory holds a sheet, its term by its root, and the places of its nodes
pub record SheetHeld (w : List ℕ) (s : Sub) (p : Placed) : Type 0 where
  pub types : HoldsTypes w p.sheet.table
  pub edition : EditionIn w p.sheet.edition
  pub term : TermIn w s.node p.sheet.term p.places
  pub few : s.node < 2048

abbrev pub SheetAnswers : List ℕ → Result Sub Refusal → Answer Placed → Type 0
SheetAnswers w (Ok s) (good p) = SheetHeld w s p
SheetAnswers w (Ok s) (refused why) = ⊥
SheetAnswers w (Err e) (good p) = ⊥
SheetAnswers w (Err e) (refused why) = why ≡ said_why e

-- the sheet of a text in the memory, or 30 to 36
pub record SheetMade (text w : List ℕ) (r : Result Sub Refusal) (w' : List ℕ) : Type 0 where
  pub kept : FarKept w w'
  pub says : SheetAnswers w' r (make text)

-- an answer, and what it leaves of the output and the places
pub record MakeWrites (a : Answer Written) (out places : List ℕ) (r : Result ℕ Refusal) (out' places' : List ℕ) : Type 0 where
  pub said : said_answer r ≡ said_make a
  pub left : out' ≡ out_make a out
  pub left_places : places' ≡ places_make a places

pub record SheetLeft (w : List ℕ) (root : ℕ) (out places : List ℕ) (r : Result ℕ Refusal) (out' places' : List ℕ) : Type 0 where
  pub says : (E : Edition) (Θ : Table) (e : Term) (ps : List ℕ) → EditionIn w E → HoldsTypes w Θ → TermIn w root e ps → MakeWrites (sheet_answer E Θ e ps (length out) (length places)) out places r out' places'

-- the call before the working memory is cleared
pub record RunLeft (text out places w : List ℕ) (r : Result ℕ Refusal) (out' places' w' : List ℕ) : Type 0 where
  pub writes : MakeWrites (make_answer (length w) text (length out) (length places)) out places r out' places'
  pub keeps : work_of w' ≡ work_of w

-- what a call leaves
abbrev pub called_make : Result ℕ Refusal → List ℕ → List ℕ → List ℕ → MakeCall
called_make r out places work = record { said = said_answer r; out = out; places = places; work = work }
