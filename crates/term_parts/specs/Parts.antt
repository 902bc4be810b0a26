-- Names bound, pairs taken apart, variables looked up: in each record, whatever scope, state and terms the memory held, the answer is that of
-- the definition. Assumes nothing.
use Rattle.std.specs.Prelude.{ℕ, ◌+◌, ◌*◌, ◌-◌, ◌≤◌, ◌<◌, ◌≡◌, List, [], length, get_or, drop, Option, Some, None, Result, Ok, Err}
use Rattle.answers.specs.declared.Refusal.{Refusal}
use Rattle.answers.specs.Refusals.{said_why}
use Rattle.calculus.specs.Answer.{Answer, good, refused}
use Rattle.calculus.specs.Types.{rec_at}
use Rattle.calculus.specs.Terms.{var}
use Rattle.notation_calculus.specs.Words.{Name, Word, run}
use Rattle.notation_calculus.specs.Trees.{Bound}
use Rattle.notation_calculus.specs.Grammar.{behind, name_at, nameless}
use Rattle.notation_machine.specs.Lists.{head_at}
use Rattle.notation_calculus.specs.Making.{State, Entry, Scope, Made, lookup, bind, bind_all, with_variables, most_entries, counted, halves_of, rest, node}
use Rattle.notation_machine.specs.TermMachine.{Taken, Apart, apart_from}
use Rattle.words.specs.Next.{run_at, name_in}
use Rattle.words.specs.Lexed.{from, Lexed}
use Rattle.making_memory.specs.Map.{node_count_at, making_size}
use Rattle.made_types.specs.Held.{HoldsState}
use Rattle.made_nodes.specs.Held.{TermHeld, MadeIn, MadeOnly}
use Rattle.made_nodes.specs.Forms.{NamesIn}
use Rattle.made_nodes.specs.declared.Sub.{Sub}
use Rattle.clauses.specs.Groups.{value_in, rest_in_lem}
use Rattle.clauses.specs.Rows.{no_bound}
use Rattle.scopes.specs.Entries.{place_in, OnlyEntries, Places}
use Rattle.scopes.specs.Frames.{frame_in, HoldsScope}
use Rattle.scopes.specs.Named.{CanName}
use Rattle.walks.specs.Walkable.{AllTyped}
use Rattle.term_parts.specs.declared.apart.ApartEnd.{ApartEnd}
use Rattle.term_parts.specs.declared.apart.ApartEnd.{ApartEnd}
use Rattle.term_parts.specs.declared.apart.RestEnd.{RestEnd}
use Rattle.term_parts.specs.declared.apart.RestEnd.{RestEnd}
use Rattle.term_parts.specs.declared.variables.Look.{Look}
use Rattle.term_parts.specs.Names.{NamesStand, spaced, spaced_names, listed_names}
use Rattle.term_parts.specs.Halves.{most_halves, half_in, TakenIn, PartsOnly}

-- ---- names bound

-- the variable of one place, in whatever text and scope
pub record NameBound (w : List ℕ) (top place ty : ℕ) (w' : List ℕ) : Type 0 where
  pub only : OnlyEntries top (top + 1) w w'
  pub placed : place_in w' top ≡ place
  pub says :
      (text : List ℕ) (frame : ℕ) (S : Scope) (x : Bound) → HoldsScope text w frame top S → place ≤ length text → x.name ≡ name_in text place
      → HoldsScope text w' frame (top + 1) (with_variables S (bind x ty S.variables))

-- so many names of `fun` stand at an offset, and there is room for them
pub record CanBind (text w : List ℕ) (at count top : ℕ) : Type 0 where
  pub names : NamesStand name_at spaced text at count
  pub can : CanName text w top count

pub record NamesBound (text w : List ℕ) (at count top ty : ℕ) (w' : List ℕ) : Type 0 where
  pub only : OnlyEntries top (top + count) w w'
  pub names : NamesIn w' top (spaced_names text at count)
  pub says : (frame : ℕ) (S : Scope) → HoldsScope text w frame top S → HoldsScope text w' frame (top + count) (with_variables S (bind_all (spaced_names text at count) ty S.variables))

-- ---- variables

pub data Looked : Type 0 where
  here : ℕ → ℕ → Looked
  nowhere : Looked

abbrev pub said_look : Option Look → Looked
said_look (Some v) = here v.number v.ty
said_look None = nowhere

abbrev pub look_for : Name → List Entry → Looked
look_for n Γ = lookup n Γ 0 here nowhere

pub record CanLook (text w : List ℕ) (name frame top : ℕ) : Type 0 where
  pub places : Places text w 0 top
  pub level : frame < 82
  pub ordered : (frame_in w frame).variables ≤ top
  pub inside : name ≤ length text
  pub some : 0 < run (drop name text)

-- the variables begin where the frame says
pub record LookSays (text w : List ℕ) (name frame top : ℕ) (r : Option Look) : Type 0 where
  pub says : (S : Scope) → HoldsScope text w frame top S → (frame_in w frame).variables ≡ S.under → said_look r ≡ look_for (run_at text name) S.variables

-- the nameless variable of a list can be looked up
pub record CanLookAt (w : List ℕ) (frame top : ℕ) : Type 0 where
  pub room : making_size ≤ length w
  pub most : top ≤ most_entries
  pub level : frame < 82
  pub ordered : (frame_in w frame).variables ≤ top

-- .. by the place of its parenthesis, in whatever text
pub record LookAtSays (w : List ℕ) (place frame top : ℕ) (r : Option Look) : Type 0 where
  pub says : (text : List ℕ) (S : Scope) → get_or text place 0 ≡ 40 → HoldsScope text w frame top S → (frame_in w frame).variables ≡ S.under → said_look r ≡ look_for (nameless place).name S.variables

-- ---- pairs taken apart

-- one pair: its halves are bound to the names at two places, and the pair waits
pub record CanTake (w : List ℕ) (entry half place other : ℕ) (v : Sub) : Type 0 where
  pub room : making_size ≤ length w
  pub few : entry + 2 ≤ most_entries
  pub halves : half < most_halves
  pub small : place < 65536
  pub small_too : other < 65536
  pub type : v.ty < 256

pub record TakeSays (w : List ℕ) (entry half place other : ℕ) (v : Sub) (w' : List ℕ) : Type 0 where
  pub only : PartsOnly entry half w w'
  pub counted : get_or w' node_count_at 0 ≡ get_or w node_count_at 0
  pub waits : half_in w' half ≡ record { node = v.node; ty = v.ty; deep = v.deep; place = place }
  pub state : (σ : State) → HoldsState w σ → HoldsState w' σ
  pub scope :
      (text : List ℕ) (frame : ℕ) (S : Scope) (m : Made) (x y : Bound) → frame < 82 → HoldsScope text w frame entry S → HoldsState w m.state → TermHeld w v m
      → place ≤ length text → other ≤ length text → x.name ≡ name_in text place → y.name ≡ name_in text other
      → HoldsScope text w' frame (entry + 2) (with_variables S (bind y (halves_of (rec_at m.state.table m.type)).right (bind x (halves_of (rec_at m.state.table m.type)).left S.variables)))

-- the rest of a pair as a variable of its own
pub record RestSays (w : List ℕ) (place : ℕ) (v : Sub) (r : Result Sub Refusal) (w' : List ℕ) : Type 0 where
  pub only : MadeOnly w w'
  pub says : (σ : State) (m : Made) → HoldsState w σ → TermHeld w v m → MadeIn w' r (node place (var 0) (halves_of (rec_at σ.table m.type)).right 0 [] σ)

-- the variables after a pair is taken apart for two names
abbrev pub parted_by : Made → Bound → Bound → List Entry → List Entry
parted_by m x y Γ = bind y (halves_of (rec_at m.state.table m.type)).right (bind x (halves_of (rec_at m.state.table m.type)).left Γ)

-- the first two names of a list
abbrev pub first_name : List Word → Bound
first_name ws = value_in no_bound (head_at ws)

abbrev pub second_name : List Word → Bound
second_name ws = first_name (behind (rest_in_lem (head_at ws)))

-- a pair can be taken apart for the first names at an offset: there are two
pub record CanTakeAt (text w : List ℕ) (at entry half : ℕ) (v : Sub) : Type 0 where
  pub names : NamesStand head_at behind text at 2
  pub short : length text ≤ 65535
  pub few : entry + 2 ≤ most_entries
  pub halves : half < most_halves
  pub room : making_size ≤ length w
  pub type : v.ty < 256

-- the pair waits with its name
abbrev pub HalfWaits : List ℕ → ℕ → Sub → ℕ → Type 0
HalfWaits w half v place = half_in w half ≡ record { node = v.node; ty = v.ty; deep = v.deep; place = place }

-- .. for both names
pub record TakeLastSays (text w : List ℕ) (at entry half : ℕ) (v : Sub) (w' : List ℕ) : Type 0 where
  pub only : PartsOnly entry half w w'
  pub counted : get_or w' node_count_at 0 ≡ get_or w node_count_at 0
  pub waits : HalfWaits w' half v (first_name (from text at)).place
  pub state : (σ : State) → HoldsState w σ → HoldsState w' σ
  pub scope :
      (frame : ℕ) (S : Scope) (m : Made) → frame < 82 → HoldsScope text w frame entry S → HoldsState w m.state → TermHeld w v m
      → HoldsScope text w' frame (entry + 2) (with_variables S (parted_by m (first_name (from text at)) (second_name (from text at)) S.variables))

-- .. for the first name and the rest, which is a term of its own
pub record RestHeld (text w : List ℕ) (frame top : ℕ) (S : Scope) (s : Sub) (x : Bound) (m r : Made) : Type 0 where
  pub scope : HoldsScope text w frame top (with_variables S (parted_by m x rest S.variables))
  pub counts : r.state ≡ counted m.state
  pub state : HoldsState w r.state
  pub held : TermHeld w s r

abbrev pub RestAnswers : List ℕ → List ℕ → ℕ → ℕ → Scope → Bound → Made → Result RestEnd Refusal → Answer Made → Type 0
RestAnswers text w frame top S x m (Ok t) (good r) = RestHeld text w frame top S t.sub x m r
RestAnswers text w frame top S x m (Ok t) (refused why) = ⊥
RestAnswers text w frame top S x m (Err e) (good r) = ⊥
RestAnswers text w frame top S x m (Err e) (refused why) = why ≡ said_why e

-- the names that are left stand at an offset
abbrev pub RestNames : List ℕ → List Word → Result RestEnd Refusal → Type 0
RestNames text ws (Ok t) = (behind (rest_in_lem (head_at ws)) ≡ from text t.next) × Lexed text t.next
RestNames text ws (Err e) = Unit {0}

pub record TakeRestSays (text w : List ℕ) (at entry half : ℕ) (v : Sub) (r : Result RestEnd Refusal) (w' : List ℕ) : Type 0 where
  pub only : PartsOnly entry half w w'
  pub waits : HalfWaits w' half v (first_name (from text at)).place
  pub next : RestNames text (from text at) r
  pub says :
      (frame : ℕ) (S : Scope) (m : Made) → frame < 82 → HoldsScope text w frame entry S → HoldsState w m.state → TermHeld w v m
      → RestAnswers text w' frame (entry + 2) S (first_name (from text at)) m r (node (second_name (from text at)).place (var 0) (halves_of (rec_at m.state.table m.type)).right 0 [] m.state)

-- ---- for all names of a list

-- a pair can be taken apart for so many names at an offset: there are fewer terms that wait than nodes, and room for two entries a name
pub record CanApart (text w : List ℕ) (at count top waiting : ℕ) (v : Sub) : Type 0 where
  pub names : NamesStand head_at behind text at count
  pub short : length text ≤ 65535
  pub few : top + 2 * count ≤ most_entries
  pub halves : waiting < get_or w node_count_at 0
  pub frame : ℕ
  pub level : frame < 82
  pub S : Scope
  pub scope : HoldsScope text w frame top S
  pub made : Made
  pub state : HoldsState w made.state
  pub held : TermHeld w v made

-- i pairs were taken apart, and `left` names at an offset are left for the rest: the answer is what comes of these
pub record Parting (text w : List ℕ) (frame top waiting i left at : ℕ) (S : Scope) (s : Sub) (answer : Answer Apart) : Type 0 where
  pub variables : List Entry
  pub made : Made
  pub taken : List Taken
  pub going : answer ≡ apart_from variables (listed_names text at left) made taken
  pub scope : HoldsScope text w frame (top + 2 * i) (with_variables S variables)
  pub state : HoldsState w made.state
  pub held : TermHeld w s made
  pub waits : TakenIn w waiting taken
  pub counted : length taken ≡ i
  pub nodes : waiting + i < get_or w node_count_at 0
  pub typed : AllTyped (length made.state.table) S.variables → AllTyped (length made.state.table) variables

-- all names but the last two
abbrev pub RestsAnswer : List ℕ → List ℕ → ℕ → ℕ → ℕ → ℕ → Scope → Result RestEnd Refusal → Answer Apart → Type 0
RestsAnswer text w frame top waiting i S (Ok t) answer = Parting text w frame top waiting i 2 t.next S t.sub answer
RestsAnswer text w frame top waiting i S (Err e) answer = answer ≡ refused (said_why e)

abbrev pub RestsStand : List ℕ → Result RestEnd Refusal → Type 0
RestsStand text (Ok t) = NamesStand head_at behind text t.next 2
RestsStand text (Err e) = Unit {0}

pub record RestsSay (text w : List ℕ) (at count top waiting : ℕ) (v : Sub) (r : Result RestEnd Refusal) (w' : List ℕ) : Type 0 where
  pub only : PartsOnly top waiting w w'
  pub next : RestsStand text r
  pub says :
      (frame : ℕ) (S : Scope) (m : Made) → frame < 82 → HoldsScope text w frame top S → HoldsState w m.state → TermHeld w v m
      → RestsAnswer text w' frame top waiting (count - 2) S r (apart_from S.variables (listed_names text at count) m [])

-- the names are bound, and the pairs that were taken apart wait
pub record ApartHeld (text w : List ℕ) (frame top waiting most : ℕ) (S : Scope) (a : Apart) : Type 0 where
  pub scope : HoldsScope text w frame top (with_variables S a.variables)
  pub state : HoldsState w a.state
  pub taken : TakenIn w waiting a.taken
  pub counted : waiting + length a.taken ≡ most
  pub fewer : most ≤ get_or w node_count_at 0
  pub typed : AllTyped (length a.state.table) S.variables → AllTyped (length a.state.table) a.variables

abbrev pub ApartAnswers : List ℕ → List ℕ → ℕ → ℕ → Scope → Result ApartEnd Refusal → Answer Apart → Type 0
ApartAnswers text w frame waiting S (Ok t) (good a) = ApartHeld text w frame t.top waiting t.waiting S a
ApartAnswers text w frame waiting S (Ok t) (refused why) = ⊥
ApartAnswers text w frame waiting S (Err e) (good a) = ⊥
ApartAnswers text w frame waiting S (Err e) (refused why) = why ≡ said_why e

pub record ApartSays (text w : List ℕ) (at count top waiting : ℕ) (v : Sub) (r : Result ApartEnd Refusal) (w' : List ℕ) : Type 0 where
  pub only : PartsOnly top waiting w w'
  pub says :
      (frame : ℕ) (S : Scope) (m : Made) → frame < 82 → HoldsScope text w frame top S → HoldsState w m.state → TermHeld w v m
      → ApartAnswers text w' frame waiting S r (apart_from S.variables (listed_names text at count) m [])
