-- Terms (document 000, Figure 1 and section 5.2), with the type numbers that the sheet writes, the seven parts (document 01), and the two
-- editions of the calculus (document 02, L7). Assumes nothing.
use Rattle.std.specs.Prelude.{ℕ, ◌+◌, suc, Bool, true, false, List, [], ◌∷◌, get_or}
use Rattle.calculus.specs.Types.{Ty, bit, prod, arrow}

-- the edition of a sheet
pub data Edition : Type 0 where
  first second : Edition

abbrev pub is_second : Edition → Bool
is_second first = false
is_second second = true

-- the bytes before the records: a second_edition sheet starts with kind 31, no body
abbrev pub opening : Edition → List ℕ
opening first = []
opening second = 0x31 ∷ []

pub data Term : Type 0 where
  var : ℕ → Term  -- 11 binder
  lvar : ℕ → Term  -- 12 binder
  fun : ℕ → Term → Term  -- 13 type
  app : Term → Term → Term  -- 14
  lfun : ℕ → Term → Term  -- 15 type
  lapp : Term → Term → Term  -- 16
  pair : ℕ → Term → Term → Term  -- 17 type
  proj : Term → Term → Term  -- 18
  fix : ℕ → Term → Term  -- 19 type
  con : ℕ → ℕ → Term  -- 1A part, type
  name : Term → Term → Term  -- 1B, in the second edition: proj e of x in e'

-- the number of nodes: the subterms of node n are node n + 1 and, behind the first subterm's nodes, the next free one
abbrev pub nodes : Term → ℕ
nodes (var b) = 1
nodes (lvar b) = 1
nodes (fun t e) = suc (nodes e)
nodes (app f a) = suc (nodes f + nodes a)
nodes (lfun t e) = suc (nodes e)
nodes (lapp f a) = suc (nodes f + nodes a)
nodes (pair t a b) = suc (nodes a + nodes b)
nodes (proj a e) = suc (nodes a + nodes e)
nodes (fix t e) = suc (nodes e)
nodes (con p t) = 1
nodes (name a e) = suc (nodes a + nodes e)

-- ---- the parts: 0 zero, 1 reg, 2 and, 3 or, 4 xor, 5 inv, 6 one

-- terminals are the same in both editions
pub record Part : Type 0 where
  pub inputs : ℕ
  pub type : Edition → Ty

-- in the second edition the two-input gates take a pair
abbrev gate : Edition → Ty
gate first = arrow bit (arrow bit bit)
gate second = arrow (prod bit bit) bit

abbrev source : Part
source = record { inputs = 0; type = λ E. bit }

abbrev unary : Part
unary = record { inputs = 1; type = λ E. arrow bit bit }

abbrev binary : Part
binary = record { inputs = 2; type = gate }

abbrev pub parts : List Part
parts = source ∷ unary ∷ binary ∷ binary ∷ binary ∷ unary ∷ source ∷ []

-- beyond the seven as the first: never reached, since 15 refuses it
abbrev pub part_at : ℕ → Part
part_at p = get_or parts p source
