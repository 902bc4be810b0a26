-- The table of types that stands in the working memory: four numbers a type, its kind, its sides and its bits; and how many types there
-- are. Assumes nothing.
use Rattle.std.specs.Prelude.{ℕ, ◌+◌, ◌*◌, ◌≤◌, ◌<◌, ◌≡◌, List, length, get_or}
use Rattle.calculus.specs.Types.{size, TyRec, rec01, rec02, rec03, rec04, Table, rec_at, tree}
use Rattle.sheet_theorems.specs.Laid.{TableOk}
use Rattle.notation_calculus.specs.Making.{State}
use Rattle.making_memory.specs.Map.{types_at, type_count_at, node_count_at, put_count_at, making_size}

-- ---- a type's four numbers

abbrev pub kind_in : List ℕ → ℕ → ℕ
kind_in w t = get_or w (types_at + 4 * t) 0

abbrev pub left_in_lem : List ℕ → ℕ → ℕ
left_in_lem w t = get_or w (types_at + 4 * t + 1) 0

abbrev pub right_in : List ℕ → ℕ → ℕ
right_in w t = get_or w (types_at + 4 * t + 2) 0

abbrev pub bits_in_lem : List ℕ → ℕ → ℕ
bits_in_lem w t = get_or w (types_at + 4 * t + 3) 0

-- .. of a record: the kind byte of the sheet, and the two type numbers
abbrev pub kind_number : TyRec → ℕ
kind_number rec01 = 1
kind_number (rec02 a b) = 2
kind_number (rec03 a b) = 3
kind_number (rec04 a b) = 4

abbrev pub left_number : TyRec → ℕ
left_number rec01 = 0
left_number (rec02 a b) = a
left_number (rec03 a b) = a
left_number (rec04 a b) = a

abbrev pub right_number : TyRec → ℕ
right_number rec01 = 0
right_number (rec02 a b) = b
right_number (rec03 a b) = b
right_number (rec04 a b) = b

-- ---- the table

-- a table that the reader accepts stands in the memory, and begins with **1**
pub record HoldsTypes (w : List ℕ) (Θ : Table) : Type 0 where
  pub room : making_size ≤ length w
  pub count : get_or w type_count_at 0 ≡ length Θ
  pub kinds : (t : ℕ) → t < length Θ → kind_in w t ≡ kind_number (rec_at Θ t)
  pub lefts : (t : ℕ) → t < length Θ → left_in_lem w t ≡ left_number (rec_at Θ t)
  pub rights : (t : ℕ) → t < length Θ → right_in w t ≡ right_number (rec_at Θ t)
  pub sizes : (t : ℕ) → t < length Θ → bits_in_lem w t ≡ size (tree Θ t)
  pub ok : TableOk Θ
  pub one : rec_at Θ 0 ≡ rec01
  pub some : 0 < length Θ

-- what was made up to here: the table, how many nodes there are, and what the definitions that were put in have cost
pub record HoldsState (w : List ℕ) (σ : State) : Type 0 where
  pub types : HoldsTypes w σ.table
  pub nodes : get_or w node_count_at 0 ≡ σ.nodes
  pub few : σ.nodes ≤ 2048
  pub puts : get_or w put_count_at 0 ≡ σ.puts

-- only the table of types is written, and it only grows
pub record TypesOnly (w w' : List ℕ) : Type 0 where
  pub same : length w' ≡ length w
  pub below : (i : ℕ) → i < types_at → get_or w' i 0 ≡ get_or w i 0
  pub above : (i : ℕ) → 11264 ≤ i → (i ≡ type_count_at → ⊥) → get_or w' i 0 ≡ get_or w i 0
  pub more : get_or w type_count_at 0 ≤ get_or w' type_count_at 0
  pub few : get_or w type_count_at 0 ≤ 256 → get_or w' type_count_at 0 ≤ 256
