-- From a netlist back to a sheet (document 02, L11): the sheet, and the lean netlist that it gives. Assumes nothing.
use Rattle.std.specs.Prelude.{ℕ, zero, suc, ◌+◌, ◌-◌, ◌*◌, Bool, false, cond, ◌||◌, List, [], ◌∷◌, ◌++◌, eqb, length}
use Rattle.calculus.specs.Types.{rec01, rec02, rec03, Table}
use Rattle.calculus.specs.Terms.{first, Term, var, fun, app, pair, proj, fix, con, part_at}
use Rattle.calculus.specs.Write.{sheet_bytes}
use Rattle.calculus.specs.Net.{inp, out, Interface, Element, point, part, Wire, Net}
use Rattle.calculus.specs.Lean.{driver}
use Rattle.calculus.specs.Inputs.{has_wire}

-- ---- what drives a part's input: the j-th undriven input, in rising order, or the output of the q-th part; both count from 0

pub data DrivenBy : Type 0 where
  undriven output : ℕ → DrivenBy

-- a part and what drives its inputs
pub record Gate : Type 0 where
  pub part : ℕ
  pub ins : List DrivenBy

-- how many parts stand before the one with output o
abbrev pub part_before : List Element → ℕ → ℕ
part_before [] o = 0
part_before (point i ∷ es) o = part_before es o
part_before (part p i ∷ es) o = cond (eqb (i + (part_at p).inputs) o) 0 (suc (part_before es o))

-- what drives k inputs from terminal i on, with j undriven inputs before them
abbrev pub sources : Net → ℕ → ℕ → ℕ → List DrivenBy
sources m zero i j = []
sources m (suc k) i j =
    cond (has_wire m.wires i) (output (part_before m.elements (driver m.wires i 0)) ∷ sources m k (i + 1) j)
    (undriven j ∷ sources m k (i + 1) (suc j))

abbrev pub undrivens : List DrivenBy → ℕ
undrivens [] = 0
undrivens (undriven j ∷ ss) = suc (undrivens ss)
undrivens (output q ∷ ss) = undrivens ss

-- the parts of some elements, with j undriven inputs before them
abbrev pub gates_from : Net → List Element → ℕ → List Gate
gates_from m [] j = []
gates_from m (point i ∷ es) j = gates_from m es j
gates_from m (part p i ∷ es) j =
    let ss = sources m (part_at p).inputs i j in
    record { part = p; ins = ss } ∷ gates_from m es (j + undrivens ss)

abbrev pub gates : Net → List Gate
gates m = gates_from m m.elements 0

-- the number of undriven inputs
abbrev pub open_ins : List Gate → ℕ
open_ins [] = 0
open_ins (g ∷ gs) = undrivens g.ins + open_ins gs

-- ---- "Type records are 01, 03 00 00, 03 00 01, then the products and then the arrows still missing, smallest first"

-- the type number of q + 1 bits as pairs nested to the right
abbrev pub tuple : ℕ → ℕ
tuple zero = 0
tuple (suc q) = q + 3

abbrev pub base : Table
base = rec01 ∷ rec03 0 0 ∷ rec03 0 1 ∷ []

-- .. and q products
abbrev pub products : ℕ → Table
products zero = base
products (suc q) = products q ++ rec02 0 (tuple q) ∷ []

-- .. and k arrows, the first one to type number t
abbrev pub arrows : Table → ℕ → ℕ → Table
arrows Θ t zero = Θ
arrows Θ t (suc k) = arrows Θ t k ++ rec03 0 (t + k) ∷ []

-- for q + 1 parts and k undriven inputs. One part has at most two, and their arrows are there
abbrev pub back_table : ℕ → ℕ → Table
back_table zero k = base
back_table (suc q) k = arrows (products (suc q)) (tuple (suc q)) k

-- ---- "functions for the undriven inputs in rising order, one fixed point over all part outputs as pairs nested to the right, projections
-- to name them, then the parts applied to their drivers in rising order"

-- the binder number of what drives an input, behind k functions, the fixed point and q projections
abbrev pub binder_number : ℕ → ℕ → DrivenBy → ℕ
binder_number k q (undriven j) = k + 2 * q - j
binder_number k q (output r) = 2 * (q - r) - 1

abbrev pub applied : ℕ → ℕ → Term → List DrivenBy → Term
applied k q f [] = f
applied k q f (s ∷ ss) = applied k q (app f (var (binder_number k q s))) ss

-- a part applied to its drivers; its type has the number of its inputs
abbrev pub gate_term : ℕ → ℕ → Gate → Term
gate_term k q g = applied k q (con g.part (part_at g.part).inputs) g.ins

-- all parts as pairs. (There is at least one: of none the term is never asked for)
abbrev pub tuple_term : ℕ → ℕ → List Gate → Term
tuple_term k q [] = var 0
tuple_term k q (g ∷ []) = gate_term k q g
tuple_term k q (g ∷ h ∷ gs) = pair (tuple (suc (length gs))) (gate_term k q g) (tuple_term k q (h ∷ gs))

-- each names the first of what is left: the nearest binder
abbrev pub projections : ℕ → Term → Term
projections zero e = e
projections (suc q) e = proj (var 0) (projections q e)

-- k functions to type number t, the lowest input's outermost
abbrev pub functions : ℕ → ℕ → Term → Term
functions t zero e = e
functions t (suc k) e = fun (t + suc k) (functions t k e)

abbrev pub back_term : ℕ → ℕ → List Gate → Term
back_term q k gs = functions (tuple q) k (fix (tuple q) (projections q (tuple_term k q gs)))

-- "write a first_edition sheet"
abbrev pub gates_sheet : List Gate → List ℕ
gates_sheet [] = []
gates_sheet (g ∷ gs) = let k = open_ins (g ∷ gs) in sheet_bytes first (back_table (length gs) k) (back_term (length gs) k (g ∷ gs))

unfoldable pub back_sheet : Net → List ℕ
back_sheet m = gates_sheet (gates m)

-- ---- the lean netlist that the sheet gives: a point for each undriven input, the parts one after the other, and their drivers

-- k points from terminal n on, and their inputs
abbrev pub points_from : ℕ → ℕ → List Element
points_from zero n = []
points_from (suc k) n = point n ∷ points_from k (n + 2)

abbrev pub inputs_from : ℕ → ℕ → Interface
inputs_from zero n = []
inputs_from (suc k) n = inp n ∷ inputs_from k (n + 2)

-- the parts from terminal n on, and their outputs
abbrev pub parts_from : List Gate → ℕ → List Element
parts_from [] n = []
parts_from (g ∷ gs) n = part g.part n ∷ parts_from gs (n + (part_at g.part).inputs + 1)

abbrev pub outputs_from : List Gate → ℕ → Interface
outputs_from [] n = []
outputs_from (g ∷ gs) n = out (n + (part_at g.part).inputs) ∷ outputs_from gs (n + (part_at g.part).inputs + 1)

-- the output of the r-th part
abbrev pub output_at : List Gate → ℕ → ℕ → ℕ
output_at [] n r = 0
output_at (g ∷ gs) n zero = n + (part_at g.part).inputs
output_at (g ∷ gs) n (suc r) = output_at gs (n + (part_at g.part).inputs + 1) r

-- where a source's bits come from: the point of the undriven input, or the part's output
abbrev pub source_at : List Gate → ℕ → DrivenBy → ℕ
source_at gs n (undriven j) = 2 * j + 1
source_at gs n (output r) = output_at gs n r

abbrev pub gate_wires : (DrivenBy → ℕ) → List DrivenBy → ℕ → List Wire
gate_wires f [] i = []
gate_wires f (s ∷ ss) i = record { from = f s; to = i } ∷ gate_wires f ss (i + 1)

abbrev pub all_wires : (DrivenBy → ℕ) → List Gate → ℕ → List Wire
all_wires f [] n = []
all_wires f (g ∷ gs) n = gate_wires f g.ins n ++ all_wires f gs (n + (part_at g.part).inputs + 1)

-- k undriven inputs. The parts' terminals start behind the points of the functions and of the fixed point; the pins are the open inputs,
-- then all part outputs
abbrev pub back_net : ℕ → List Gate → Net
back_net k gs =
    let n = 2 * k + 2 * length gs in
    record {
      elements = points_from k 0 ++ parts_from gs n;
      wires = all_wires (source_at gs n) gs n;
      pins = inputs_from k 0 ++ outputs_from gs n;
    }

-- ---- the gates of a lean netlist with points: an input's driver is a part, or a point, by the place of its input among the input pins

abbrev pub point_out : List Element → ℕ → Bool
point_out [] o = false
point_out (point i ∷ es) o = eqb (i + 1) o || point_out es o
point_out (part p i ∷ es) o = point_out es o

abbrev pub pin_before : Interface → ℕ → ℕ
pin_before [] i = 0
pin_before (inp j ∷ ts) i = cond (eqb j i) 0 (suc (pin_before ts i))
pin_before (out o ∷ ts) i = pin_before ts i

abbrev pub source_seen : Net → ℕ → DrivenBy
source_seen m o = cond (point_out m.elements o) (undriven (pin_before m.pins (o - 1))) (output (part_before m.elements o))

abbrev pub sources_seen : Net → ℕ → ℕ → List DrivenBy
sources_seen m zero i = []
sources_seen m (suc k) i = source_seen m (driver m.wires i 0) ∷ sources_seen m k (i + 1)

abbrev pub gates_seen : Net → List Element → List Gate
gates_seen m [] = []
gates_seen m (point i ∷ es) = gates_seen m es
gates_seen m (part p i ∷ es) = record { part = p; ins = sources_seen m (part_at p).inputs i } ∷ gates_seen m es
