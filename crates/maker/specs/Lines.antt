-- What the pass over the lines `table` finds, answers and leaves. Assumes nothing.
use Rattle.std.specs.Prelude.{ℕ, ◌≤◌, ◌<◌, ◌≡◌, false, List, [], ◌++◌, Option, Some, None, Result, Ok, Err, length}
use Rattle.answers.specs.declared.Refusal.{Refusal}
use Rattle.answers.specs.Refusals.{said_why}
use Rattle.calculus.specs.Answer.{Answer, good, refused}
use Rattle.notation_calculus.specs.Words.{Word}
use Rattle.notation_calculus.specs.Trees.{TypeTree, Line, Text}
use Rattle.notation_calculus.specs.Grammar.{most_nested, Got, got, list_from, type_at, Items, lines_of, items_from}
use Rattle.notation_calculus.specs.Making.{State}
use Rattle.notation_calculus.specs.Make.{lines_table}
use Rattle.words.specs.Lexed.{from, Lexed}
use Rattle.walks.specs.Says.{Offset}
use Rattle.maker.specs.declared.lines.Typed as typed
use Rattle.maker.specs.declared.lines.Typed.TheVariants as typed-is
use Rattle.maker.specs.declared.lines.Went.{Went}
use Rattle.maker.specs.Stages.{FarKept, TextStands, KnowsAbove, StageAnswers}

-- ---- one line

abbrev pub types_line : ℕ → List Word → Answer (Got (List TypeTree))
types_line n ws = list_from (λ us. type_at most_nested false us) n ws

-- types with commas between stand at an offset, up to some words
pub record LineThere (text : List ℕ) (at : ℕ) (ts : List TypeTree) (us : List Word) : Type 0 where
  pub lexed : Lexed text at
  pub rounds : ℕ
  pub reads : types_line rounds (from text at) ≡ got ts us

pub record CanTypeOne (text w : List ℕ) (at : ℕ) : Type 0 where
  pub X : Text
  pub seen : ℕ
  pub σ : State
  pub ts : List TypeTree
  pub us : List Word
  pub knows : KnowsAbove text w X seen σ
  pub there : LineThere text at ts us

-- the first of these types is worked out, and the others stand at an offset
pub record LineOn (text w : List ℕ) (X : Text) (seen : ℕ) (σ : State) (ts : List TypeTree) (us : List Word) (b at : ℕ) : Type 0 where
  pub next : State
  pub others : List TypeTree
  pub knows : KnowsAbove text w X seen next
  pub there : LineThere text at others us
  pub table : lines_table X σ (lines_of seen ts) ≡ lines_table X next (lines_of seen others)
  pub fewer : length (from text at) < b

-- .. and it was the last
pub record LineDone (text w : List ℕ) (X : Text) (seen : ℕ) (σ : State) (ts : List TypeTree) (us : List Word) (b end : ℕ) : Type 0 where
  pub next : State
  pub knows : KnowsAbove text w X seen next
  pub rest : Offset text end us
  pub table : lines_table X σ (lines_of seen ts) ≡ good next
  pub fewer : length (from text end) ≤ b

abbrev pub TypedAs : List ℕ → List ℕ → Text → ℕ → State → List TypeTree → List Word → ℕ → Result typed.Typed Refusal → Type 0
TypedAs text w X seen σ ts us b (Ok (typed-is.More at)) = LineOn text w X seen σ ts us b at
TypedAs text w X seen σ ts us b (Ok (typed-is.Last end)) = LineDone text w X seen σ ts us b end
TypedAs text w X seen σ ts us b (Err e) = lines_table X σ (lines_of seen ts) ≡ refused (said_why e)

pub record TypedSays (text w : List ℕ) (at : ℕ) (r : Result typed.Typed Refusal) (w' : List ℕ) : Type 0 where
  pub kept : FarKept w w'
  pub says : (X : Text) (seen : ℕ) (σ : State) (ts : List TypeTree) (us : List Word) → KnowsAbove text w X seen σ → LineThere text at ts us → TypedAs text w' X seen σ ts us (length (from text at)) r

-- ---- items

pub record CanLine (text w : List ℕ) (at seen : ℕ) : Type 0 where
  pub X : Text
  pub σ : State
  pub ts : List TypeTree
  pub us : List Word
  pub stands : TextStands text w X σ
  pub few : seen ≤ length X.clauses
  pub there : LineThere text at ts us

-- the types of a line are worked out, up to an offset
pub record LineMade (text w : List ℕ) (X : Text) (seen : ℕ) (σ : State) (ts : List TypeTree) (us : List Word) (b end known : ℕ) : Type 0 where
  pub next : State
  pub stands : TextStands text w X next
  pub rest : Offset text end us
  pub table : lines_table X σ (lines_of seen ts) ≡ good next
  pub fewer : length (from text end) ≤ b
  pub same : known ≡ seen

abbrev pub LineAs : List ℕ → List ℕ → Text → ℕ → State → List TypeTree → List Word → ℕ → Result Went Refusal → Type 0
LineAs text w X seen σ ts us b (Ok past) = LineMade text w X seen σ ts us b past.at past.seen
LineAs text w X seen σ ts us b (Err e) = lines_table X σ (lines_of seen ts) ≡ refused (said_why e)

pub record CanTypes (text w : List ℕ) (at seen : ℕ) : Type 0 where
  pub X : Text
  pub σ : State
  pub ts : List TypeTree
  pub us : List Word
  pub knows : KnowsAbove text w X seen σ
  pub there : LineThere text at ts us

pub record LineTypes (text w : List ℕ) (at seen : ℕ) (r : Result Went Refusal) (w' : List ℕ) : Type 0 where
  pub kept : FarKept w w'
  pub says : (X : Text) (σ : State) (ts : List TypeTree) (us : List Word) → KnowsAbove text w X seen σ → LineThere text at ts us → LineAs text w' X seen σ ts us (length (from text at)) r

pub record LineSays (text w : List ℕ) (at seen : ℕ) (r : Result Went Refusal) (w' : List ℕ) : Type 0 where
  pub kept : FarKept w w'
  pub says : (X : Text) (σ : State) (ts : List TypeTree) (us : List Word) → TextStands text w X σ → seen ≤ length X.clauses → LineThere text at ts us → LineAs text w' X seen σ ts us (length (from text at)) r

-- the items of a text were read up to an offset, with so many clauses; of its lines these are left
pub record ItemsLeft (text : List ℕ) (X : Text) (at seen : ℕ) (ls : List Line) : Type 0 where
  pub lexed : Lexed text at
  pub done : Items
  pub rounds : ℕ
  pub enough : length (from text at) ≤ rounds
  pub stop : List Word
  pub total : items_from rounds done (from text at) ≡ got (record { clauses = X.clauses; lines = X.lines }) stop
  pub count : length done.clauses ≡ seen
  pub split : X.lines ≡ done.lines ++ ls

pub record CanItem (text w : List ℕ) (at seen : ℕ) : Type 0 where
  pub X : Text
  pub σ : State
  pub ls : List Line
  pub stands : TextStands text w X σ
  pub left : ItemsLeft text X at seen ls

pub record ItemOn (text w : List ℕ) (X : Text) (σ : State) (ls : List Line) (b at seen : ℕ) : Type 0 where
  pub next : State
  pub others : List Line
  pub stands : TextStands text w X next
  pub left : ItemsLeft text X at seen others
  pub table : lines_table X σ ls ≡ lines_table X next others
  pub fewer : length (from text at) < b

abbrev pub ItemAs : List ℕ → List ℕ → Text → State → List Line → ℕ → Result (Option Went) Refusal → Type 0
ItemAs text w X σ ls b (Ok (Some past)) = ItemOn text w X σ ls b past.at past.seen
ItemAs text w X σ ls b (Ok None) = (TextStands text w X σ) × (ls ≡ [])
ItemAs text w X σ ls b (Err e) = lines_table X σ ls ≡ refused (said_why e)

pub record ItemSays (text w : List ℕ) (at seen : ℕ) (r : Result (Option Went) Refusal) (w' : List ℕ) : Type 0 where
  pub kept : FarKept w w'
  pub says : (X : Text) (σ : State) (ls : List Line) → TextStands text w X σ → ItemsLeft text X at seen ls → ItemAs text w' X σ ls (length (from text at)) r

-- all lines of a text whose items go on at an offset, above which so many clauses stand
pub record LinesSay (text w : List ℕ) (at seen : ℕ) (r : Result (Unit {0}) Refusal) (w' : List ℕ) : Type 0 where
  pub kept : FarKept w w'
  pub says : (X : Text) (σ : State) (ls : List Line) → TextStands text w X σ → ItemsLeft text X at seen ls → StageAnswers text w' X r (lines_table X σ ls)
