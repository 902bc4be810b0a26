-- What measuring and writing the sheet in the working memory answer and leave. Assumes nothing.
use Rattle.std.specs.Prelude.{ℕ, ◌+◌, ◌≤◌, ◌<◌, ◌≡◌, List, Result, Ok, Err, leb, length}
use Rattle.std.proofs.lemmas.List.Edits.{sets}
use Rattle.answers.specs.declared.Refusal.{Refusal}
use Rattle.answers.specs.Refusals.{said_why}
use Rattle.calculus.specs.Answer.{Answer, good, refused, ◌>>=◌, need}
use Rattle.calculus.specs.Types.{Table}
use Rattle.calculus.specs.Terms.{Edition, Term}
use Rattle.calculus.specs.Write.{term_bytes, sheet_bytes}
use Rattle.calculus.specs.Record.{All}
use Rattle.notation_calculus.specs.Make.{Written, said_make, out_make, places_make}
use Rattle.making_memory.specs.Map.{making_size}
use Rattle.made_types.specs.Held.{HoldsTypes}
use Rattle.made_nodes.specs.Nodes.{TermIn}
use Rattle.made_nodes.specs.Forms.{EditionIn}
use Rattle.sheet_writer.specs.declared.Span.{Span}

-- some term of at most 2,048 nodes has its root at node k
pub record TermStands (w : List ℕ) (k : ℕ) : Type 0 where
  pub size : making_size ≤ length w
  pub low : k < 2048
  pub term : Term
  pub places : List ℕ
  pub stands : TermIn w k term places
  pub few : length places ≤ 2048

-- the bytes and the nodes of the term at node k, whatever it is
pub record Measures (w : List ℕ) (k : ℕ) (r : Span) : Type 0 where
  pub says : (e : Term) (ps : List ℕ) → TermIn w k e ps → (r.bytes ≡ length (term_bytes e)) × (r.nodes ≡ length ps)

-- .. there is room for it at an offset of the output and behind so many places, and its numbers are bytes
pub record TermFits (w : List ℕ) (k at count room roomPlaces : ℕ) : Type 0 where
  pub size : making_size ≤ length w
  pub low : k < 2048
  pub term : Term
  pub places : List ℕ
  pub stands : TermIn w k term places
  pub fits : at + length (term_bytes term) ≤ room
  pub fits_places : count + length places ≤ roomPlaces
  pub bytes : All (λ (b : ℕ). b < 256) (term_bytes term)

-- its bytes and places are written, and nothing else
pub record TermWrote (w : List ℕ) (k at count : ℕ) (out places : List ℕ) (r : Span) (out' places' : List ℕ) : Type 0 where
  pub same : length out' ≡ length out
  pub same_places : length places' ≡ length places
  pub says : (e : Term) (ps : List ℕ) → TermIn w k e ps → (r.bytes ≡ at + length (term_bytes e)) × ((r.nodes ≡ count + length ps) × ((out' ≡ sets out at (term_bytes e)) × (places' ≡ sets places count ps)))

-- ---- the sheet

-- some table and some term stand in the memory, and the term's numbers are bytes
pub record SheetStands (w : List ℕ) (root : ℕ) : Type 0 where
  pub table : Table
  pub types : HoldsTypes w table
  pub term : TermStands w root
  pub bytes : All (λ (b : ℕ). b < 256) (term_bytes term.term)

-- what a call has to write of a sheet and its places, or 17 with the bytes needed, then 37 with the nodes
unfoldable pub sheet_answer : Edition → Table → Term → List ℕ → ℕ → ℕ → Answer Written
sheet_answer E Θ e ps room roomPlaces = do
  _ ← need (leb (length (sheet_bytes E Θ e)) room) 17 (length (sheet_bytes E Θ e))
  _ ← need (leb (length ps) roomPlaces) 37 (length ps)
  good (record { bytes = sheet_bytes E Θ e; places = ps })

abbrev pub said_wrote : Result ℕ Refusal → Answer ℕ
said_wrote (Ok n) = good n
said_wrote (Err e) = refused (said_why e)

-- an answer, and what it leaves of the output and the places
pub record LeavesAs (a : Answer Written) (out places : List ℕ) (r : Result ℕ Refusal) (out' places' : List ℕ) : Type 0 where
  pub said : said_wrote r ≡ said_make a
  pub left : out' ≡ out_make a out
  pub left_places : places' ≡ places_make a places

-- whatever sheet the memory holds, it is answered and written as the definition says
pub record SheetWrote (w : List ℕ) (root : ℕ) (out places : List ℕ) (r : Result ℕ Refusal) (out' places' : List ℕ) : Type 0 where
  pub says : (E : Edition) (Θ : Table) (e : Term) (ps : List ℕ) → EditionIn w E → HoldsTypes w Θ → TermIn w root e ps → LeavesAs (sheet_answer E Θ e ps (length out) (length places)) out places r out' places'
