-- A text's items one by one, with the table of clauses beside them; the whole text. Assumes nothing.
use Rattle.std.specs.Prelude.{Result, Ok, Err, ℕ, ◌+◌, ◌≤◌, ◌<◌, ◌≡◌, Bool, true, false, not, ◌&&◌, cond, List, [], eqb, length, get_or}
use Rattle.calculus.specs.Answer.{Answer, good, refused, ◌>>=◌}
use Rattle.answers.specs.declared.Refusal.{Refusal as Why}
use Rattle.answers.specs.Refusals.{said_why}
use Rattle.calculus.specs.Terms.{is_second}
use Rattle.notation_calculus.specs.Words.{edition, table, type, Word}
use Rattle.notation_calculus.specs.Trees.{Text}
use Rattle.notation_calculus.specs.Grammar.{most_nested, Got, got, peek, behind, place, is, list_from, type_at, clause_at, Items, with_clause, with_lines, items_from, text_of}
use Rattle.words.specs.Tables.{token_value}
use Rattle.words.specs.Lexed.{from, Lexed}
use Rattle.grammar.specs.Ends.{End}
use Rattle.making_memory.specs.Map.{clauses_at, frames_at, clause_count_at, second_at_lem, making_size}
use Rattle.clauses.specs.declared.texts.Whole.{Whole}
use Rattle.clauses.specs.Rows.{body_at, flag_of, HoldsRows}

-- ---- one item

-- a clause of a sort goes behind the items
unfoldable pub clause_item : Bool → List Word → Items → Answer (Got Items)
clause_item sort ws items = do
  c ← clause_at (body_at sort) ws
  next ← with_clause items c.value
  got next c.rest

unfoldable pub line_item : List Word → Items → Answer (Got Items)
line_item ws items = do
  ts ← list_from (λ us. type_at most_nested false us) (length ws) (behind ws)
  got (with_lines items ts.value) ts.rest

-- one round of `items_from`
unfoldable pub item_of : List Word → Items → Answer (Got Items)
item_of ws items = cond (is table ws) (line_item ws items) (cond (is type ws) (clause_item true (behind ws) items) (clause_item false ws items))

-- ---- the memory

-- only the table of clauses and their count are written
pub record OnlyRows (w w' : List ℕ) : Type 0 where
  pub same : length w' ≡ length w
  pub below : (j : ℕ) → j < clauses_at → get_or w' j 0 ≡ get_or w j 0
  pub above : (j : ℕ) → frames_at ≤ j → ¬ (j ≡ clause_count_at) → get_or w' j 0 ≡ get_or w j 0

-- .. and the edition
pub record OnlyTable (w w' : List ℕ) : Type 0 where
  pub same : length w' ≡ length w
  pub below : (j : ℕ) → j < clauses_at → get_or w' j 0 ≡ get_or w j 0
  pub above : (j : ℕ) → frames_at ≤ j → ¬ (j ≡ clause_count_at) → ¬ (j ≡ second_at_lem) → get_or w' j 0 ≡ get_or w j 0

-- the table holds some clauses, of a text that is not too long
pub record TableHeld (text work : List ℕ) : Type 0 where
  pub short : length text ≤ 65535
  pub room : making_size ≤ length work
  pub items : Items
  pub holds : HoldsRows text work items.clauses

-- items were read up to an offset, and the table holds their clauses
pub record GrownTo (text : List ℕ) (m : Answer (Got Items)) (w : List ℕ) (end : ℕ) : Type 0 where
  pub items : Items
  pub is : m ≡ got items (from text end)
  pub holds : HoldsRows text w items.clauses

-- whatever items the table holds, they grow, and what is left is fewer words than b
pub record Grows (text : List ℕ) (b : ℕ) (m : Items → Answer (Got Items)) (w w' : List ℕ) (end : ℕ) : Type 0 where
  pub grows : (items : Items) → HoldsRows text w items.clauses → GrownTo text (m items) w' end
  pub fewer : length (from text end) < b
  pub lexed : Lexed text end

-- .. or the same is refused
abbrev pub ReadsOn : List ℕ → ℕ → (Items → Answer (Got Items)) → List ℕ → List ℕ → End → Type 0
ReadsOn text b m w w' (Ok end) = Grows text b m w w' end
ReadsOn text b m w w' (Err why) = (items : Items) → HoldsRows text w items.clauses → m items ≡ refused (said_why why)

pub record Proceeds (text : List ℕ) (b : ℕ) (m : Items → Answer (Got Items)) (w w' : List ℕ) (r : End) : Type 0 where
  pub says : ReadsOn text b m w w' r
  pub kept : OnlyRows w w'

-- .. in any number of rounds that is not below the number of words
abbrev pub ProceedsIn : List ℕ → ℕ → List ℕ → List ℕ → End → Type 0
ProceedsIn text at w w' r = (n : ℕ) → length (from text at) ≤ n → Proceeds text (length (from text at) + 1) (λ items. items_from n items (from text at)) w w' r

-- ---- the definitions before the first line

-- a definition begins with a word of this code
unfoldable pub defines_by : ℕ → Bool
defines_by code = not (eqb code 0) && not (eqb code 7)

-- the items up to an offset, whose clauses the table holds, and the rounds that are left
pub record SoFar (text : List ℕ) (n : ℕ) (items : Items) (start : ℕ) (w : List ℕ) (at : ℕ) : Type 0 where
  pub done : Items
  pub rounds : ℕ
  pub total : items_from n items (from text start) ≡ items_from rounds done (from text at)
  pub enough : length (from text at) ≤ rounds
  pub holds : HoldsRows text w done.clauses

-- .. and no line was among them
pub record OnlyClauses (text : List ℕ) (n : ℕ) (items : Items) (start : ℕ) (w : List ℕ) (at : ℕ) : Type 0 where
  pub so_far : SoFar text n items start w at
  pub lines : so_far.done.lines ≡ items.lines

-- the definitions from an offset on are read
pub record DefinedTo (text : List ℕ) (start : ℕ) (w w' : List ℕ) (end : ℕ) : Type 0 where
  pub reaches : (n : ℕ) → length (from text start) ≤ n → (items : Items) → HoldsRows text w items.clauses → OnlyClauses text n items start w' end
  pub low : length (from text end) ≤ length (from text start)
  pub lexed : Lexed text end

-- .. or all items from there on are refused
abbrev pub Refuses : List ℕ → ℕ → List ℕ → Why → Type 0
Refuses text start w why = (n : ℕ) → length (from text start) ≤ n → (items : Items) → HoldsRows text w items.clauses → items_from n items (from text start) ≡ refused (said_why why)

abbrev pub Defines : List ℕ → ℕ → List ℕ → List ℕ → End → Type 0
Defines text start w w' (Ok end) = DefinedTo text start w w' end
Defines text start w w' (Err why) = Refuses text start w why

pub record Defined (text : List ℕ) (start : ℕ) (w w' : List ℕ) (r : End) : Type 0 where
  pub says : Defines text start w w' r
  pub kept : OnlyRows w w'

-- ---- the whole text

-- the items of a text are read: all of them, and again from the first line on
pub record ItemsTo (text : List ℕ) (n : ℕ) (items : Items) (start : ℕ) (w : List ℕ) (r : Whole) : Type 0 where
  pub all : Items
  pub stop : ℕ
  pub is : items_from n items (from text start) ≡ got all (from text stop)
  pub holds : HoldsRows text w all.clauses
  pub end : place (from text stop) ≡ r.place
  pub lexed : Lexed text r.items
  pub done : Items
  pub rounds : ℕ
  pub enough : length (from text r.items) ≤ rounds
  pub again : items_from rounds done (from text r.items) ≡ got all (from text stop)
  pub count : length done.clauses ≡ r.seen
  pub lines : done.lines ≡ items.lines

abbrev pub ReadsItems : List ℕ → ℕ → List ℕ → List ℕ → Result Whole Why → Type 0
ReadsItems text start w w' (Ok r) = (n : ℕ) → length (from text start) ≤ n → (items : Items) → HoldsRows text w items.clauses → ItemsTo text n items start w' r
ReadsItems text start w w' (Err why) = Refuses text start w why

pub record ItemsRead (text : List ℕ) (start : ℕ) (w w' : List ℕ) (r : Result Whole Why) : Type 0 where
  pub says : ReadsItems text start w w' r
  pub kept : OnlyRows w w'

-- the second edition is asked for
unfoldable pub says_second : List Word → Bool
says_second ws = cond (is edition ws) (eqb (token_value (peek (behind ws)).token) 2) false

-- the memory holds a text's clauses and its edition
pub record HoldsClauses (text work : List ℕ) (X : Text) : Type 0 where
  pub rows : HoldsRows text work X.clauses
  pub edition : get_or work second_at_lem 0 ≡ flag_of (is_second X.edition)

-- .. of the text that was read: where it ends; and its items can be read again from its first line on
pub record TextHeld (text work : List ℕ) (r : Whole) : Type 0 where
  pub X : Text
  pub is : text_of (from text 0) ≡ good X
  pub holds : HoldsClauses text work X
  pub end : X.end ≡ r.place
  pub items_lexed : Lexed text r.items
  pub done : Items
  pub rounds : ℕ
  pub enough : length (from text r.items) ≤ rounds
  pub stop : ℕ
  pub items : items_from rounds done (from text r.items) ≡ got (record { clauses = X.clauses; lines = X.lines }) (from text stop)
  pub count : length done.clauses ≡ r.seen
  pub lines : done.lines ≡ []

-- what the pass over a text says: what the memory holds, or a refusal
abbrev pub ReadsText : List ℕ → List ℕ → Result Whole Why → Type 0
ReadsText text w' (Ok r) = TextHeld text w' r
ReadsText text w' (Err why) = text_of (from text 0) ≡ refused (said_why why)

pub record TextRead (text w w' : List ℕ) (r : Result Whole Why) : Type 0 where
  pub says : ReadsText text w' r
  pub kept : OnlyTable w w'
