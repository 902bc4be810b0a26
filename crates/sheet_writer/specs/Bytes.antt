-- The bytes of the types and of the nodes as they stand in the working memory. Assumes nothing.
use Rattle.std.specs.Prelude.{ℕ, zero, suc, ◌+◌, ◌*◌, ◌≤◌, ◌<◌, cond, List, [], ◌∷◌, ◌++◌, eqb, length, get_or}
use Rattle.making_memory.specs.Map.{nodes_at, second_at_lem, making_size}
use Rattle.made_types.specs.Held.{kind_in, left_in_lem, right_in}

-- ---- the opening of the edition

abbrev pub opening_in : List ℕ → List ℕ
opening_in w = cond (eqb (get_or w second_at_lem 0) 1) (0x31 ∷ []) []

-- ---- types

-- the record of a type: its kind, and the sides of all but the single bit
abbrev pub type_bytes : List ℕ → ℕ → List ℕ
type_bytes w t = cond (eqb (kind_in w t) 1) (kind_in w t ∷ []) (kind_in w t ∷ left_in_lem w t ∷ right_in w t ∷ [])

-- the records of the first types
abbrev pub types_bytes : List ℕ → ℕ → List ℕ
types_bytes w zero = []
types_bytes w (suc n) = types_bytes w n ++ type_bytes w n

-- the numbers of a type are bytes
abbrev pub TypeLow : List ℕ → ℕ → Type 0
TypeLow w t = (kind_in w t < 256) × ((left_in_lem w t < 256) × (right_in w t < 256))

-- so many types can be written at an offset of an output
pub record TypesFit (w : List ℕ) (n at room : ℕ) : Type 0 where
  pub size : making_size ≤ length w
  pub few : n ≤ 256
  pub low : (t : ℕ) → t < n → TypeLow w t
  pub fits : at + length (types_bytes w n) ≤ room

-- ---- nodes

abbrev pub node_kind_in : List ℕ → ℕ → ℕ
node_kind_in w k = get_or w (nodes_at + 5 * k) 0

abbrev pub node_body_in : List ℕ → ℕ → ℕ
node_body_in w k = get_or w (nodes_at + 5 * k + 1) 0

abbrev pub node_left_in : List ℕ → ℕ → ℕ
node_left_in w k = get_or w (nodes_at + 5 * k + 2) 0

abbrev pub node_right_in : List ℕ → ℕ → ℕ
node_right_in w k = get_or w (nodes_at + 5 * k + 3) 0

abbrev pub node_place_in : List ℕ → ℕ → ℕ
node_place_in w k = get_or w (nodes_at + 5 * k + 4) 0

-- how many body bytes a kind has (document 01, "The sheet")
abbrev pub body_bytes : ℕ → ℕ
body_bytes k = cond (eqb k 0x1A) 2 (cond (eqb k 0x14) 0 (cond (eqb k 0x16) 0 (cond (eqb k 0x18) 0 (cond (eqb k 0x1B) 0 1))))

-- .. and subterms
abbrev pub subterm_count : ℕ → ℕ
subterm_count k = cond (eqb k 0x11) 0 (cond (eqb k 0x12) 0 (cond (eqb k 0x1A) 0 (cond (eqb k 0x13) 1 (cond (eqb k 0x15) 1 (cond (eqb k 0x19) 1 2)))))

-- the record of a node, without its subterms'
abbrev pub record_of_kind : ℕ → ℕ → ℕ → List ℕ
record_of_kind kind body left = cond (eqb (body_bytes kind) 0) (kind ∷ []) (cond (eqb (body_bytes kind) 1) (kind ∷ body ∷ []) (kind ∷ body ∷ left ∷ []))

abbrev pub node_record : List ℕ → ℕ → List ℕ
node_record w k = record_of_kind (node_kind_in w k) (node_body_in w k) (node_left_in w k)

-- the numbers that are written of a node are bytes
pub record RecordLow (w : List ℕ) (k : ℕ) : Type 0 where
  pub kind : node_kind_in w k < 256
  pub body : 0 < body_bytes (node_kind_in w k) → node_body_in w k < 256
  pub left : 1 < body_bytes (node_kind_in w k) → node_left_in w k < 256
