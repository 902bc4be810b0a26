-- What the functions over the table of types answer. Assumes nothing.
use Rattle.std.specs.Prelude.{ℕ, ◌≤◌, ◌<◌, ◌≡◌, Bool, true, false, not, ◌&&◌, cond, List, Result, Ok, Err, eqb, leb, length, get_or}
use Rattle.calculus.specs.Answer.{Answer, good, refused}
use Rattle.calculus.specs.Types.{TyRec, rec02, rec03, rec04}
use Rattle.answers.specs.declared.Refusal.{Refusal}
use Rattle.answers.specs.Refusals.{said_why}
use Rattle.sheet_theorems.specs.Laid.{Below}
use Rattle.notation_calculus.specs.Making.{State, Found, listed, more_bits}
use Rattle.making_memory.specs.Map.{type_count_at, making_size}
use Rattle.made_types.specs.Held.{kind_in, left_in_lem, right_in, HoldsState, TypesOnly}
use Rattle.made_types.specs.declared.Record.{Record}
use Rattle.made_types.specs.declared.Kind.{Kind}

-- a number of a type that can stand in the memory
abbrev pub InTypes : List ℕ → ℕ → Type 0
InTypes w t = (making_size ≤ length w) × (t < 256)

-- the kind byte of the sheet
abbrev pub kind_byte : Kind → ℕ
kind_byte Kind.Bit = 1
kind_byte Kind.Product = 2
kind_byte Kind.Arrow = 3
kind_byte Kind.Linear = 4

-- a product, an arrow or a linear arrow
abbrev pub rec_of_kind : ℕ → ℕ → ℕ → TyRec
rec_of_kind k a b = cond (eqb k 2) (rec02 a b) (cond (eqb k 3) (rec03 a b) (rec04 a b))

abbrev pub record_of_lem : Record → TyRec
record_of_lem r = rec_of_kind (kind_byte r.kind) r.left r.right

-- the three numbers of a type are those of a record
abbrev pub same_in_lem : List ℕ → ℕ → Record → Bool
same_in_lem w t r = eqb (kind_in w t) (kind_byte r.kind) && (eqb (left_in_lem w t) r.left && eqb (right_in w t) r.right)

-- the first type of these numbers behind the right side; or else how many types there are
pub record Searched (w : List ℕ) (r : Record) (k : ℕ) : Type 0 where
  pub within : r.right < get_or w type_count_at 0 → k ≤ get_or w type_count_at 0
  pub before : (j : ℕ) → r.right < j → j < k → same_in_lem w j r ≡ false
  pub here : k < get_or w type_count_at 0 → same_in_lem w k r ≡ true

-- sides of the sorts that the form asks for
abbrev pub formed_in : List ℕ → Record → Bool
formed_in w r = cond (eqb (kind_byte r.kind) 2) (leb (kind_in w r.left) 2 && leb (kind_in w r.right) 2) (cond (eqb (kind_byte r.kind) 3) (leb (kind_in w r.left) 2) (not (leb (kind_in w r.left) 2)))

-- a record of one of the three forms, with numbers that can stand in the memory
pub record Listable (w : List ℕ) (r : Record) : Type 0 where
  pub room : making_size ≤ length w
  pub count : get_or w type_count_at 0 ≤ 256
  pub form : 2 ≤ kind_byte r.kind
  pub left : r.left < 256
  pub right : r.right < 256

-- the number of a type is answered, and the memory holds the table after it
abbrev pub FoundIn : List ℕ → Result ℕ Refusal → Answer Found → Type 0
FoundIn w (Ok t) (good x) = (t ≡ x.type) × ((t < length x.state.table) × HoldsState w x.state)
FoundIn w (Ok t) (refused why) = ⊥
FoundIn w (Err e) (good x) = ⊥
FoundIn w (Err e) (refused why) = why ≡ said_why e

-- .. a number that can stand in the memory, if any
abbrev pub SmallType : Result ℕ Refusal → Type 0
SmallType (Ok t) = t < 256
SmallType (Err e) = Unit {0}

-- whatever state the memory held, the answer is that of the definition
pub record ListedSays (w : List ℕ) (r : Record) (place : ℕ) (x : Result ℕ Refusal) (w' : List ℕ) : Type 0 where
  pub only : TypesOnly w w'
  pub small : SmallType x
  pub says : (σ : State) → HoldsState w σ → Below (length σ.table) (record_of_lem r) → FoundIn w' x (listed σ (record_of_lem r) place)

-- .. of a bit and so many more left of it
pub record RowSays (w : List ℕ) (more place : ℕ) (x : Result ℕ Refusal) (w' : List ℕ) : Type 0 where
  pub only : TypesOnly w w'
  pub small : SmallType x
  pub says : (σ : State) → HoldsState w σ → FoundIn w' x (more_bits place more (record { type = 0; state = σ }))
