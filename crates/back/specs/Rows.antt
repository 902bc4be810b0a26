-- The bytes of the sheet, row by row as they are written (document 02, L11). Assumes nothing.
use Rattle.std.specs.Prelude.{ℕ, zero, suc, ◌+◌, ◌-◌, ◌*◌, cond, List, [], ◌∷◌, ◌++◌, ltb, eqb, length}
use Rattle.calculus.specs.Terms.{part_at}
use Rattle.calculus.specs.Net.{Element, point, part, Net}
use Rattle.back_calculus.specs.Back.{DrivenBy, Gate, sources, tuple, binder_number}

-- n rows one behind the other
abbrev pub rows_up_to : (ℕ → List ℕ) → ℕ → List ℕ
rows_up_to f zero = []
rows_up_to f (suc n) = rows_up_to f n ++ f n

abbrev pub product_row : ℕ → List ℕ
product_row j = 0x02 ∷ 0x00 ∷ tuple j ∷ []

abbrev pub arrow_row : ℕ → ℕ → List ℕ
arrow_row t j = 0x03 ∷ 0x00 ∷ (t + j) ∷ []

-- the outermost function has type number `top`
abbrev pub function_row : ℕ → ℕ → List ℕ
function_row top j = 0x13 ∷ (top - j) ∷ []

abbrev pub projection_row : ℕ → List ℕ
projection_row j = 0x18 ∷ 0x11 ∷ 0x00 ∷ []

-- a pair, where more than one part is left
abbrev pub pair_row : ℕ → List ℕ
pair_row left = cond (ltb left 2) [] (0x17 ∷ tuple (left - 1) ∷ [])

abbrev pub application_row : ℕ → List ℕ
application_row j = 0x14 ∷ []

-- as many applications as a part has inputs, and its constant
abbrev pub head_row : ℕ → ℕ → List ℕ
head_row p inputs = rows_up_to application_row inputs ++ (0x1A ∷ p ∷ inputs ∷ [])

-- the variables that drive some inputs
abbrev pub source_rows : ℕ → ℕ → List DrivenBy → List ℕ
source_rows k q [] = []
source_rows k q (s ∷ ss) = 0x11 ∷ binder_number k q s ∷ source_rows k q ss

-- a part with `left` parts left, applied to its drivers
abbrev pub gate_row : ℕ → ℕ → ℕ → Gate → List ℕ
gate_row k q left g = pair_row left ++ (head_row g.part (part_at g.part).inputs ++ source_rows k q g.ins)

-- all parts, as pairs nested to the right
abbrev pub tuple_rows : ℕ → ℕ → List Gate → List ℕ
tuple_rows k q [] = []
tuple_rows k q (g ∷ gs) = gate_row k q (suc (length gs)) g ++ tuple_rows k q gs

-- the gate of an element, with j undriven inputs before it; a point is none
abbrev pub gate_of : Net → Element → ℕ → Gate
gate_of m (point i) j = record { part = 0; ins = [] }
gate_of m (part p i) j = record { part = p; ins = sources m (part_at p).inputs i j }

-- the bytes of k arrows behind n - 1 products; of one part none is missing
abbrev pub arrow_length : ℕ → ℕ → ℕ
arrow_length n k = cond (eqb n 1) 0 (3 * k)

-- the length of the sheet of n parts, with so many inputs, of which k are undriven
abbrev pub sheet_length : ℕ → ℕ → ℕ → ℕ
sheet_length n k inputs = 11 * n + 1 + arrow_length n k + 2 * k + 3 * inputs
