-- Types as the sheet's bytes and the table of sizes have them, and the codes of a binder's two interfaces. Assumes nothing.
use Rattle.std.specs.Prelude.{ℕ, ◌+◌, ◌*◌, ◌≤◌, ◌<◌, ◌≡◌, Bool, false, cond, List, [], ◌∷◌, length, get_or}
use Rattle.std.specs.Bool.{beq}
use Rattle.std.proofs.lemmas.List.Edits.{sets}
use Rattle.calculus.specs.Types.{size, Table, rec_at, tree}
use Rattle.calculus.specs.Net.{turns}
use Rattle.sheet_theorems.specs.Laid.{TableOk}
use Rattle.records.specs.Forms.{rec_in}
use Rattle.records.specs.TypeNumbers.{sided_of}
use Rattle.records.specs.declared.Sided.{Sided}
use Rattle.wiring.specs.declared.faces.Due.{Due}

-- the bytes and the table of sizes are those of a table of types
pub record Knows (s sizes : List ℕ) (Θ : Table) : Type 0 where
  pub ok : TableOk Θ
  pub records : (t : ℕ) → t < length Θ → rec_in s t ≡ rec_at Θ t
  pub sized : (t : ℕ) → t < length Θ → get_or sizes t 0 ≡ size (tree Θ t)
  pub all : length sizes ≡ 256

-- .. and t names one of its types
pub record KnownType (s sizes : List ℕ) (t : ℕ) : Type 0 where
  pub table : Table
  pub knows : Knows s sizes table
  pub named : t < length table

-- x is the record of an arrow, and there is room for its interface: in a memory of so many numbers from `to` on, and for points from
-- terminal n on
pub record Arrow (s sizes : List ℕ) (x : Sided) (size to n : ℕ) : Type 0 where
  pub type : ℕ
  pub known : KnownType s sizes type
  pub sides_are : x ≡ sided_of (rec_in s type)
  pub arrow : 2 < x.kind
  pub room : to + get_or sizes type 0 ≤ size
  pub few : n + 2 * get_or sizes type 0 ≤ 8192

-- the code of one terminal of the point whose input is n: its input, or its output
abbrev pub point_end : ℕ → Bool → ℕ
point_end n input = cond input (2 * n) (2 * (n + 1) + 1)

-- the codes of the interface of points from terminal n on, by which bits are turned: the variable's output interface, or its input
-- interface
abbrev pub face : Bool → List Bool → ℕ → List ℕ
face output [] n = []
face output (b ∷ bs) n = point_end n (beq b output) ∷ face output bs (n + 2)

-- ---- an interface, side by side

-- an arrow's interface is due; after a step, that of one of its sides: within the same room, and once it stands too, all does
pub record StillDue {s sizes : List ℕ} {x : Sided} {room to n : ℕ} (q : Arrow s sizes x room to n) (d r : Due) (w w' : List ℕ) : Type 0 where
  pub lower : r.ty < q.type
  pub fits : r.to + get_or sizes r.ty 0 ≤ d.to + get_or sizes q.type 0
  pub few : r.n + 2 * get_or sizes r.ty 0 ≤ d.n + 2 * get_or sizes q.type 0
  pub rest : sets w' r.to (face r.output (turns false (tree q.known.table r.ty)) r.n)
      ≡ sets w d.to (face d.output (turns false (tree q.known.table q.type)) d.n)
