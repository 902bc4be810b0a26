-- What the functions of one step answer: in each record, whatever state the memory held, the answer is that of the machine. Assumes nothing.
use Rattle.std.specs.Prelude.{ℕ, suc, ◌+◌, ◌-◌, ◌≤◌, ◌<◌, ◌≡◌, cond, Bool, true, false, List, [], ◌∷◌, length, get_or, Option, None, Some, Result, Ok, Err}
use Rattle.answers.specs.declared.Refusal.{Refusal}
use Rattle.answers.specs.Refusals.{said_why}
use Rattle.calculus.specs.Answer.{Answer, good, refused, ◌>>=◌}
use Rattle.notation_calculus.specs.Words.{endRound, equals, Word}
use Rattle.notation_calculus.specs.Trees.{Text}
use Rattle.notation_calculus.specs.Grammar.{most_nested, peek, behind, place, expect, list_from, nameless}
use Rattle.calculus.specs.Record.{All}
use Rattle.notation_calculus.specs.Making.{State, Scope, Made, lookup, bind, bind_all, with_variables, room_for, node, variable, most_entries}
use Rattle.words.specs.Next.{run_at, name_in}
use Rattle.words.specs.Lexed.{from, Lexed}
use Rattle.grammar.specs.Skips.{expect_code}
use Rattle.clauses.specs.Meant.{values_in}
use Rattle.notation_machine.specs.Lists.{head_at}
use Rattle.notation_machine.specs.TypeFrom.{type_from}
use Rattle.notation_machine.specs.TermMachine.{Spine, TermWish, TermLevel, Terming, TermHere, ask_term, behind_atom, term_put_in, term_named_at, atom_entered, application_from, list_made, list_below, under_lists, pair_from, names_typed, function_from, fix_from, let_from, of_function, of_fix, of_definition, value_of_name, value_of_names, term_left, term_move}
use Rattle.notation_machine.specs.TermSteps.{TermGoing}
use Rattle.making_memory.specs.Map.{type_count_at, making_size}
use Rattle.made_types.specs.Held.{HoldsState}
use Rattle.made_nodes.specs.Held.{MadeIn, Workable}
use Rattle.made_nodes.specs.declared.Sub.{Sub}
use Rattle.walk_levels.specs.declared.Level.{Level}
use Rattle.walk_levels.specs.declared.Around.{Around}
use Rattle.walk_levels.specs.Levels.{pushed}
use Rattle.walks.specs.Walkable.{row_bodies, Walkable}
use Rattle.walks.specs.Walked.{TypesWalked, TermsWalked}
use Rattle.walks.specs.Says.{bound_at, CanWalk, TypeAnswers, put_from}
use Rattle.walks.specs.declared.TypeEnd.{TypeEnd}
use Rattle.term_walk.specs.declared.Walk.{Walk}
use Rattle.term_walk.specs.declared.Phase.{Phase}
use Rattle.term_walk.specs.declared.Form.{Form}
use Rattle.term_walk.specs.declared.Left.{Left}
use Rattle.term_parts.specs.Names.{NamesStand, spaced_names, listed_names}
use Rattle.term_walk.specs.Looks.{words_at, ReadableFrom}
use Rattle.term_walk.specs.Holding.{LevelWrites, LeftHeld, entries_of, halves_for, WishHeld, HereHeld, TermCame, HoldsTerming}

-- ---- the next state, by the code

abbrev pub nothing_sub : Sub
nothing_sub = record { node = 0; ty = 0; deep = 0 }

abbrev pub wants_walk : Walk → ℕ → ℕ → ℕ → ℕ → Walk
wants_walk h frame top waiting at = record { phase = Phase.Wanted; more = h.more - 1; frame = frame; top = top; waiting = waiting; place = 0; sub = nothing_sub; at = at }

-- the walk itself, at an offset
abbrev pub walk_at : Walk → ℕ → Walk
walk_at n at = record { phase = Phase.Wanted; more = n.more; frame = n.frame; top = n.top; waiting = n.waiting; place = 0; sub = nothing_sub; at = at }

abbrev pub wants_step : Walk → ℕ → ℕ → ℕ → ℕ → Result Walk Refusal
wants_step h frame top waiting at = Ok (wants_walk h frame top waiting at)

-- a term came, of the level; or it is the function of an application that begins at a place
abbrev pub done_walk : Walk → Sub → ℕ → Walk
done_walk h sub at = record { phase = Phase.Came; more = h.more; frame = h.frame; top = h.top; waiting = h.waiting; place = 0; sub = sub; at = at }

abbrev pub applying_walk : Walk → ℕ → Sub → ℕ → Walk
applying_walk h begins sub at = record { phase = Phase.Applying; more = h.more; frame = h.frame; top = h.top; waiting = h.waiting; place = begins; sub = sub; at = at }

-- .. if it could be made
abbrev pub done_step : Walk → Result Sub Refusal → ℕ → Result Walk Refusal
done_step h (Err e) at = Err e
done_step h (Ok sub) at = Ok (done_walk h sub at)

abbrev pub applies_step : Walk → ℕ → Result Sub Refusal → ℕ → Result Walk Refusal
applies_step h begins (Err e) at = Err e
applies_step h begins (Ok sub) at = Ok (applying_walk h begins sub at)

-- the number of a form
abbrev pub form_number : Form → ℕ
form_number Form.OfFunction = 1
form_number Form.OfFix = 2
form_number Form.ValueOfName = 3
form_number Form.ValueOfNames = 4
form_number Form.UnderName = 5
form_number Form.UnderNames = 6
form_number Form.Element = 7
form_number Form.OfDefinition = 8

-- the function so far in a level: whether there is one, and its numbers
abbrev pub function_flag : Option Sub → ℕ
function_flag None = 0
function_flag (Some f) = 1

abbrev pub function_sub : Option Sub → Sub
function_sub None = nothing_sub
function_sub (Some f) = f

abbrev pub part_level : ℕ → Left → ℕ → ℕ → Level
part_level form s count next = record { form = form; flag = function_flag s.function; place = s.place; count = count; node = (function_sub s.function).node; ty = (function_sub s.function).ty; deep = (function_sub s.function).deep; next = next }

-- the scope of the level that the walk is at
abbrev pub around_walk : Walk → Around
around_walk h = record { frame = h.frame; top = h.top; waiting = h.waiting }

-- the numbers of a level can stand in the memory
pub record CanAskTerm (w : List ℕ) (h : Walk) : Type 0 where
  pub room : making_size ≤ length w
  pub more : h.more ≤ 80
  pub frame : h.frame < 82
  pub top : h.top ≤ most_entries
  pub waiting : h.waiting ≤ 2048
  pub some : 1 ≤ h.more

-- the level waits, and the walk is one level below
pub record Below (w : List ℕ) (h : Walk) (l : Level) (frame top waiting at : ℕ) (r : Walk) (w' : List ℕ) : Type 0 where
  pub memory : w' ≡ pushed w h.more l (around_walk h)
  pub state : r ≡ wants_walk h frame top waiting at

-- the level waits, and the term at an offset is wanted in a scope
pub record Asks (w : List ℕ) (h : Walk) (l : Level) (frame top waiting at : ℕ) (r : Result Walk Refusal) (w' : List ℕ) : Type 0 where
  pub memory : w' ≡ pushed w h.more l (around_walk h)
  pub state : r ≡ wants_step h frame top waiting at

-- ---- answers

abbrev pub StepAnswers : List ℕ → Text → ℕ → ℕ → List ℕ → Result Walk Refusal → Answer Terming → Type 0
StepAnswers text X most bottom w (Ok n) (good s) = HoldsTerming text X most bottom w n s
StepAnswers text X most bottom w (Ok n) (refused why) = ⊥
StepAnswers text X most bottom w (Err e) (good s) = ⊥
StepAnswers text X most bottom w (Err e) (refused why) = why ≡ said_why e

-- the level of the machine that the walk is at
abbrev pub term_here_with : ℕ → Scope → List TermLevel → TermHere
term_here_with k S K = record { more = k; scope = S; above = K }

-- the words of the bodies of a text's clauses, in the memory
abbrev pub bodies_in : List ℕ → List ℕ → Text → List (List Word)
bodies_in text w X = row_bodies text w 0 (length X.clauses)

-- ---- a level that is entered

-- what the machine does at a level
abbrev pub LevelEntry : Type 0
LevelEntry = Text → List (List Word) → TermHere → State → Answer Terming

-- a level is there, with one level or more from it on
pub record CanEnter (text w : List ℕ) (h : Walk) : Type 0 where
  pub X : Text
  pub most : ℕ
  pub bottom : ℕ
  pub k : ℕ
  pub S : Scope
  pub σ : State
  pub K : List TermLevel
  pub is : h.more ≡ suc k
  pub here : HereHeld text X most bottom w h S σ K

pub record EnterSays (text w : List ℕ) (h : Walk) (D : LevelEntry) (r : Result Walk Refusal) (w' : List ℕ) : Type 0 where
  pub stepped : LevelWrites h.more h.top h.waiting w w'
  pub says : (X : Text) (most bottom k : ℕ) (S : Scope) (σ : State) (K : List TermLevel) → h.more ≡ suc k → HereHeld text X most bottom w h S σ K → StepAnswers text X most bottom w' r (D X (bodies_in text w X) (term_here_with k S K) σ)

-- .. at an atom, behind what stands left of it
abbrev pub AtomEntry : Type 0
AtomEntry = Text → List (List Word) → TermHere → Spine → State → Answer Terming

-- the function so far: the walk's term, or none
abbrev pub function_here : Walk → Bool → Option Sub
function_here h applied = cond applied (Some h.sub) None

-- where the application begins, and the function so far
abbrev pub left_here : Walk → ℕ → Bool → Left
left_here h place applied = record { place = place; function = function_here h applied }

pub record CanAtom (text w : List ℕ) (h : Walk) (s : Left) : Type 0 where
  pub can : CanEnter text w h
  pub p : Spine
  pub left : LeftHeld w s p

pub record AtomSays (text w : List ℕ) (h : Walk) (s : Left) (D : AtomEntry) (r : Result Walk Refusal) (w' : List ℕ) : Type 0 where
  pub stepped : LevelWrites h.more h.top h.waiting w w'
  pub says : (X : Text) (most bottom k : ℕ) (S : Scope) (σ : State) (K : List TermLevel) (p : Spine) → h.more ≡ suc k → HereHeld text X most bottom w h S σ K → LeftHeld w s p → StepAnswers text X most bottom w' r (D X (bodies_in text w X) (term_here_with k S K) p σ)

-- .. by what the code knows of it

-- a definition, behind type arguments that wait
abbrev pub clause_entry : List ℕ → List ℕ → ℕ → ℕ → ℕ → ℕ → AtomEntry
clause_entry text w name at top types X bodies h p σ = do
  q ← put_from X bodies false h.scope σ (bound_at text name) (values_in w top types) (from text at)
  good (ask_term h (of_definition p q.rest) q.scope q.state q.body)

abbrev pub put_entry : List ℕ → ℕ → ℕ → AtomEntry
put_entry text name at X bodies h p σ = term_put_in X bodies h p σ (bound_at text name) (from text at)

abbrev pub plain_entry : List ℕ → ℕ → ℕ → AtomEntry
plain_entry text name at X bodies h p σ = lookup (run_at text name) h.scope.variables 0 (λ i t. node name (variable σ.table i t) t 0 [] σ >>= λ m. behind_atom h p m (from text at)) (term_put_in X bodies h p σ (bound_at text name) (from text at))

abbrev pub named_entry : List ℕ → ℕ → ℕ → AtomEntry
named_entry text name at X bodies h p σ = term_named_at X bodies h p σ (bound_at text name) (from text at)

abbrev pub atom_entry : List ℕ → ℕ → AtomEntry
atom_entry text at X bodies h p σ = atom_entered X bodies h p σ (peek (words_at text at)).token (words_at text at)

-- names of a function with their type, before the dot
abbrev pub bound_entry : List ℕ → ℕ → ℕ → ℕ → ℕ → ℕ → LevelEntry
bound_entry text place from' count ty at X bodies h σ = do
  _ ← room_for h.scope count place
  good (ask_term h (of_function (spaced_names text from' count) ty) (with_variables h.scope (bind_all (spaced_names text from' count) ty h.scope.variables)) σ (behind (words_at text at)))

-- .. before the colon
abbrev pub typed_entry : List ℕ → ℕ → ℕ → ℕ → ℕ → LevelEntry
typed_entry text place from' count at X bodies h σ = type_from X h.more h.scope σ (behind (words_at text at)) >>= λ t. room_for h.scope count place >>= λ _. good (ask_term h (of_function (spaced_names text from' count) t.value.type) (with_variables h.scope (bind_all (spaced_names text from' count) t.value.type h.scope.variables)) t.value.state (behind t.rest))

abbrev pub names_typed_entry : List ℕ → ℕ → LevelEntry
names_typed_entry text at X bodies h σ = names_typed X bodies h σ (words_at text at)

-- variable i of a type, in the body that the walk is at before `in` or a dot, for the names of a list
abbrev pub list_made_entry : List ℕ → ℕ → ℕ → ℕ → ℕ → ℕ → ℕ → LevelEntry
list_made_entry text round' from' count i ty at X bodies h σ = list_made h.more h.scope σ round' (listed_names text from' count) (from text from') i ty (words_at text at) h.above

-- a function whose variable is taken apart, before the dot
abbrev pub pair_in_entry : List ℕ → ℕ → ℕ → ℕ → ℕ → ℕ → LevelEntry
pair_in_entry text round' from' count ty at X bodies h σ = list_below h.more (with_variables h.scope (bind (nameless round') ty h.scope.variables)) σ round' (listed_names text from' count) (from text from') (words_at text at) (record { wish = of_function (nameless round' ∷ []) ty; scope = h.scope } ∷ h.above)

abbrev pub pair_bound_entry : List ℕ → ℕ → ℕ → ℕ → ℕ → ℕ → ℕ → LevelEntry
pair_bound_entry text place round' from' count ty at X bodies h σ = room_for h.scope 1 place >>= λ _. pair_in_entry text round' from' count ty at X bodies h σ

-- .. behind the colon
abbrev pub pair_typed_entry : List ℕ → ℕ → ℕ → ℕ → ℕ → ℕ → LevelEntry
pair_typed_entry text place round' from' count at X bodies h σ = type_from X h.more h.scope σ (words_at text at) >>= λ t. room_for h.scope 1 place >>= λ _. list_below h.more (with_variables h.scope (bind (nameless round') t.value.type h.scope.variables)) t.value.state round' (listed_names text from' count) (from text from') t.rest (record { wish = of_function (nameless round' ∷ []) t.value.type; scope = h.scope } ∷ h.above)

abbrev pub pair_entry : List ℕ → ℕ → ℕ → LevelEntry
pair_entry text place at X bodies h σ = pair_from X bodies h σ place (from text at)

abbrev pub function_entry : List ℕ → ℕ → LevelEntry
function_entry text at X bodies h σ = function_from X bodies h σ (words_at text at)

abbrev pub fix_bound_entry : List ℕ → ℕ → ℕ → ℕ → ℕ → LevelEntry
fix_bound_entry text place name ty at X bodies h σ = do
  _ ← room_for h.scope 1 place
  good (ask_term h (of_fix (bound_at text name) ty) (with_variables h.scope (bind (bound_at text name) ty h.scope.variables)) σ (behind (words_at text at)))

abbrev pub fix_typed_entry : List ℕ → ℕ → ℕ → ℕ → LevelEntry
fix_typed_entry text place name at X bodies h σ = type_from X h.more h.scope σ (behind (words_at text at)) >>= λ t. room_for h.scope 1 place >>= λ _. good (ask_term h (of_fix (bound_at text name) t.value.type) (with_variables h.scope (bind (bound_at text name) t.value.type h.scope.variables)) t.value.state (behind t.rest))

abbrev pub fix_entry : List ℕ → ℕ → LevelEntry
fix_entry text at X bodies h σ = fix_from X bodies h σ (words_at text at)

abbrev pub value_entry : List ℕ → ℕ → ℕ → ℕ → LevelEntry
value_entry text place name at X bodies h σ = good (ask_term h (value_of_name place (bound_at text name)) h.scope σ (behind (words_at text at)))

abbrev pub values_entry : List ℕ → ℕ → ℕ → ℕ → ℕ → LevelEntry
values_entry text place from' count at X bodies h σ = good (ask_term h (value_of_names place (listed_names text from' count) (from text from')) h.scope σ (words_at text at))

-- behind `let (`, with the parenthesis the first of the words from an offset on
abbrev pub names_entry : List ℕ → ℕ → ℕ → LevelEntry
names_entry text place at X bodies h σ = do
  xs ← list_from head_at (length (from text at)) (behind (from text at))
  ws₁ ← expect endRound xs.rest
  ws₂ ← expect equals ws₁
  good (ask_term h (value_of_names place xs.value (behind (from text at))) h.scope σ ws₂)

abbrev pub let_entry : List ℕ → ℕ → ℕ → LevelEntry
let_entry text place at X bodies h σ = let_from X bodies h σ place (from text at)

-- type arguments that wait are types of the memory's table
abbrev pub TypesWait : List ℕ → ℕ → ℕ → Type 0
TypesWait w top types = All (λ (t : ℕ). t < get_or w type_count_at 0) (values_in w top types)

-- a type is there, and words from an offset on
pub record CanBound (text w : List ℕ) (h : Walk) (ty at : ℕ) : Type 0 where
  pub can : CanEnter text w h
  pub readable : ReadableFrom text at
  pub known : ty < get_or w type_count_at 0

-- the level's first word stands at a place, and the words behind it begin at an offset
pub record CanNames (text : List ℕ) (h : Walk) (start at : ℕ) : Type 0 where
  pub place : start ≡ place (words_at text h.at)
  pub inside : start ≤ length text
  pub lexed : Lexed text at
  pub rest : behind (words_at text h.at) ≡ from text at
  pub fewer : length (from text at) < length (words_at text h.at)

-- a name stands at a place, and no parenthesis
pub record NameStands (text : List ℕ) (name : ℕ) : Type 0 where
  pub inside : name ≤ length text
  pub plain : name_in text name ≡ run_at text name

-- items of a list stand at an offset, behind its parenthesis
pub record ListStands (text : List ℕ) (round' from' count : ℕ) : Type 0 where
  pub inside : round' ≤ length text
  pub opens : get_or text round' 0 ≡ 40
  pub names : NamesStand head_at behind text from' count
  pub few : count < 65536

-- the first of the words from an offset on is a parenthesis, at a place
pub record Opens (text : List ℕ) (round' start at : ℕ) : Type 0 where
  pub place : round' ≡ place (from text start)
  pub inside : round' ≤ length text
  pub opens : get_or text round' 0 ≡ 40
  pub lexed : Lexed text at
  pub rest : behind (from text start) ≡ from text at
  pub fewer : length (from text at) < length (from text start)

-- behind the items of a list: the closing parenthesis, and the sign of a code
abbrev pub closed_by : ℕ → List Word → Answer (List Word)
closed_by code ws = expect_code 12 ws >>= λ us. expect_code code us

-- ---- a body

-- what the machine does at a body, with so many levels, in a scope
abbrev pub BodyEntry : Type 0
BodyEntry = ℕ → Scope → State → List TermLevel → Answer Terming

-- the walk is at a body, with no level or more from it on
pub record CanBody (text w : List ℕ) (n : Walk) : Type 0 where
  pub X : Text
  pub most : ℕ
  pub bottom : ℕ
  pub S : Scope
  pub σ : State
  pub K : List TermLevel
  pub here : HereHeld text X most bottom w n S σ K

pub record BodySays (text w : List ℕ) (n : Walk) (D : BodyEntry) (r : Result Walk Refusal) (w' : List ℕ) : Type 0 where
  pub stepped : LevelWrites n.more n.top n.waiting w w'
  pub says : (X : Text) (most bottom : ℕ) (S : Scope) (σ : State) (K : List TermLevel) → HereHeld text X most bottom w n S σ K → StepAnswers text X most bottom w' r (D n.more S σ K)

-- a list is taken apart in it
abbrev pub list_in_body : List ℕ → ℕ → ℕ → ℕ → ℕ → BodyEntry
list_in_body text round' from' count at more S σ K = list_below more S σ round' (listed_names text from' count) (from text from') (words_at text at) K

-- .. the next list of those that begin at an offset, if there is one
abbrev pub under_lists_body : List ℕ → ℕ → ℕ → BodyEntry
under_lists_body text next at more S σ K = under_lists more S σ (from text next) (words_at text at) K

-- ---- a type at an offset of the walk

pub record CanBehind (text w : List ℕ) (at more frame top : ℕ) : Type 0 where
  pub walk : CanWalk text w frame top
  pub readable : ReadableFrom text at
  pub above : more ≤ frame
  pub levels : more ≤ most_nested

pub record BehindType (text w : List ℕ) (at more frame top : ℕ) (r : Result TypeEnd Refusal) (w' : List ℕ) : Type 0 where
  pub walked : TypesWalked more top w w'
  pub says : (X : Text) (S : Scope) (σ : State) → Walkable text w frame top X S σ → TypeAnswers text w' r (type_from X more S σ (words_at text at))

-- ---- an atom that is there

pub record CanApply (w : List ℕ) (s : Left) (x : Sub) : Type 0 where
  pub workable : Workable w
  pub type : x.ty < 256
  pub p : Spine
  pub left : LeftHeld w s p

pub record BehindSays (w : List ℕ) (h : Walk) (s : Left) (x : Sub) (at : ℕ) (r : Result Walk Refusal) (w' : List ℕ) : Type 0 where
  pub stepped : h.top ≤ most_entries → h.waiting ≤ 2048 → LevelWrites h.more h.top h.waiting w w'
  pub says :
      (text : List ℕ) (X : Text) (most bottom k : ℕ) (S : Scope) (K : List TermLevel) (p : Spine) (m : Made) → h.more ≡ suc k → ReadableFrom text at
      → HereHeld text X most bottom w h S m.state K → TermCame w x h.waiting m → LeftHeld w s p → StepAnswers text X most bottom w' r (behind_atom (term_here_with k S K) p m (words_at text at))

-- .. if it could be made
abbrev pub CanApplyMade : List ℕ → Left → Result Sub Refusal → Type 0
CanApplyMade w s (Ok x) = CanApply w s x
CanApplyMade w s (Err e) = Unit {0}

-- whatever state the memory holds, the level is there, and there is a node for the term that came
pub record HereNow (text : List ℕ) (X : Text) (most bottom : ℕ) (w : List ℕ) (h : Walk) (S : Scope) (K : List TermLevel) : Type 0 where
  pub now : (σ : State) → HoldsState w σ → HereHeld text X most bottom w h S σ K

-- a term that was made has a node of its own
abbrev pub MadeNodes : ℕ → Result Sub Refusal → Answer Made → Type 0
MadeNodes waiting (Ok x) (good m) = suc waiting ≤ m.state.nodes
MadeNodes waiting (Ok x) (refused why) = Unit {0}
MadeNodes waiting (Err e) a = Unit {0}

pub record MadeSays (w : List ℕ) (h : Walk) (s : Left) (x : Result Sub Refusal) (at : ℕ) (r : Result Walk Refusal) (w' : List ℕ) : Type 0 where
  pub stepped : h.top ≤ most_entries → h.waiting ≤ 2048 → LevelWrites h.more h.top h.waiting w w'
  pub says :
      (text : List ℕ) (X : Text) (most bottom k : ℕ) (S : Scope) (K : List TermLevel) (p : Spine) (a : Answer Made) → h.more ≡ suc k → ReadableFrom text at
      → HereNow text X most bottom w h S K → MadeIn w x a → MadeNodes h.waiting x a → LeftHeld w s p → StepAnswers text X most bottom w' r (a >>= λ m. behind_atom (term_here_with k S K) p m (words_at text at))

-- ---- a level that is left

pub record CanLeave (text w : List ℕ) (h : Walk) (l : Level) (x : Sub) : Type 0 where
  pub X : Text
  pub most : ℕ
  pub bottom : ℕ
  pub k : ℕ
  pub S : Scope
  pub K : List TermLevel
  pub wish : TermWish
  pub m : Made
  pub is : h.more ≡ suc k
  pub here : HereHeld text X most bottom w h S m.state K
  pub held : WishHeld text w h.top h.waiting l wish
  pub entries : h.top + entries_of wish ≤ most_entries
  pub came : TermCame w x (h.waiting + halves_for wish) m
  pub readable : ReadableFrom text h.at

pub record LeaveSays (text w : List ℕ) (h : Walk) (l : Level) (x : Sub) (r : Result Walk Refusal) (w' : List ℕ) : Type 0 where
  pub stepped : LevelWrites h.more h.top h.waiting w w'
  pub says :
      (X : Text) (most bottom k : ℕ) (S : Scope) (K : List TermLevel) (wish : TermWish) (m : Made) → h.more ≡ suc k → HereHeld text X most bottom w h S m.state K
      → WishHeld text w h.top h.waiting l wish → h.top + entries_of wish ≤ most_entries → TermCame w x (h.waiting + halves_for wish) m → ReadableFrom text h.at
      → StepAnswers text X most bottom w' r (term_left X (bodies_in text w X) (term_here_with k S K) wish m (words_at text h.at))

-- ---- an application that goes on

pub record CanApplication (text w : List ℕ) (h : Walk) : Type 0 where
  pub X : Text
  pub most : ℕ
  pub bottom : ℕ
  pub k : ℕ
  pub S : Scope
  pub f : Made
  pub K : List TermLevel
  pub is : h.more ≡ suc k
  pub here : HereHeld text X most bottom w h S f.state K
  pub came : TermCame w h.sub h.waiting f
  pub readable : ReadableFrom text h.at

pub record ApplicationSays (text w : List ℕ) (h : Walk) (r : Result Walk Refusal) (w' : List ℕ) : Type 0 where
  pub stepped : LevelWrites h.more h.top h.waiting w w'
  pub says :
      (X : Text) (most bottom k : ℕ) (S : Scope) (f : Made) (K : List TermLevel) → h.more ≡ suc k → HereHeld text X most bottom w h S f.state K → TermCame w h.sub h.waiting f
      → StepAnswers text X most bottom w' r (application_from X (bodies_in text w X) (term_here_with k S K) h.place f (words_at text h.at))

-- ---- one step

pub record CanMoveTerm (text w : List ℕ) (n : Walk) : Type 0 where
  pub X : Text
  pub most : ℕ
  pub bottom : ℕ
  pub s : Terming
  pub holds : HoldsTerming text X most bottom w n s
  pub going : TermGoing s

pub record StepSays (text w : List ℕ) (n : Walk) (r : Result Walk Refusal) (w' : List ℕ) : Type 0 where
  pub says :
      (X : Text) (most bottom : ℕ) (s : Terming) → HoldsTerming text X most bottom w n s → TermGoing s
      → TermsWalked most bottom w w' × StepAnswers text X most bottom w' r (term_move X (bodies_in text w X) s)

-- a term came at the level that the walk began with
pub record Finished (n : Walk) (more : ℕ) (r : Bool) : Type 0 where
  pub yes : r ≡ true → (n.phase ≡ Phase.Came) × (n.more ≡ more)
  pub not : r ≡ false → n.phase ≡ Phase.Came → ¬ (n.more ≡ more)
