-- What the walk may take for granted at an offset of a sheet that has been read. Assumes nothing.
use Rattle.std.specs.Prelude.{ℕ, ◌+◌, ◌*◌, ◌≤◌, ◌<◌, ◌≡◌, Ok, Err, List, length, get_or}
use Rattle.calculus.specs.Types.{Table, rec_at}
use Rattle.calculus.specs.Terms.{Edition, Term, nodes}
use Rattle.calculus.specs.Write.{term_bytes}
use Rattle.sheet_theorems.specs.Laid.{TableOk, Stands, Ranged, depth}
use Rattle.calculus.specs.Walk.{Stack, walk}
use Rattle.records.specs.Forms.{rec_in}
use Rattle.sheet_theorems.specs.Numbers.{Numbers}
use Rattle.typing.specs.declared.Checked.{Checked}
use Rattle.binders.specs.declared.Binders.{Binders}
use Rattle.binders.specs.Stacks.{stack_of, slot_of}
use Rattle.typing.specs.Verdicts.{Verdict, Held, held, HeldSays}

-- a term stands at an offset, of a sheet that is its own table of l types; a level of the term binds two variables at most
pub record Walkable (s : List ℕ) (l : ℕ) (E : Edition) (at node : ℕ) (Θ : Table) (e : Term) (st : Stack) : Type 0 where
  pub table : TableOk Θ
  pub count : l ≡ length Θ
  pub types : (t : ℕ) → t < length Θ → rec_in s t ≡ rec_at Θ t
  pub stands : Stands s at e
  pub ranged : Ranged E Θ e
  pub numbers : Numbers st (length Θ)
  pub room : length st + 2 * depth e ≤ 128
  pub few : node + nodes e ≤ 2048

-- some term does
pub record Placed (s : List ℕ) (l : ℕ) (E : Edition) (at node : ℕ) (st : Stack) : Type 0 where
  pub table : Table
  pub term : Term
  pub fits : Walkable s l E at node table term st

-- the walk's verdict on whichever term stands there
abbrev pub Walked : List ℕ → ℕ → Edition → ℕ → ℕ → Binders → Checked → Type 0
Walked s l E at node b c = (Θ : Table) (e : Term) → Walkable s l E at node Θ e (stack_of b) → HeldSays (held b c) (walk E Θ e node (stack_of b)) (at + length (term_bytes e)) (node + nodes e)

-- a verdict that is fine has so many binders
abbrev pub CountsIn : ℕ → Verdict → ℕ → Type 0
CountsIn m (Ok f) count = count ≡ m
CountsIn m (Err r) count = Unit {0}

abbrev pub CountsOf : ℕ → Held → Type 0
CountsOf m c = CountsIn m c.verdict c.binders.count

-- what a leaf is told of the binders: their number, sorts and marks, and the type of the one that a number names
pub record Names (b : Binders) (i scope ty : ℕ) (sorts marks : List ℕ) : Type 0 where
  pub count : scope ≡ b.count
  pub type : ty ≡ get_or b.types (slot_of b.count i) 0
  pub same_sorts : sorts ≡ b.sorts
  pub same_marks : marks ≡ b.used
