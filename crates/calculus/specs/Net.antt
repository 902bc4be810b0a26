-- The full netlist (document 01, "The full netlist"; document 000, Figures 3 to 5, and section 5.2 for kind 1B). Assumes nothing.
use Rattle.std.specs.Prelude.{ℕ, zero, suc, ◌+◌, ◌*◌, ◌/◌, ◌%◌, Bool, true, false, not, List, [], ◌∷◌, ◌++◌, get_or, take, drop}
use Rattle.calculus.specs.Types.{Ty, bit, prod, arrow, lolli, size, Table, tree}
use Rattle.calculus.specs.Terms.{Term, var, lvar, fun, app, lfun, lapp, pair, proj, fix, con, name, part_at}

-- ---- terminals and interfaces

pub data Terminal : Type 0 where
  inp out : ℕ → Terminal

abbrev pub number : Terminal → ℕ
number (inp n) = n
number (out n) = n

abbrev pub Interface : Type 0
Interface = List Terminal

-- for each single bit, left to right, if it is turned: it stands left of an odd number of the arrows around it
abbrev pub turns : Bool → Ty → List Bool
turns odd bit = odd ∷ []
turns odd (prod a b) = turns odd a ++ turns odd b
turns odd (arrow a b) = turns (not odd) a ++ turns odd b
turns odd (lolli a b) = turns (not odd) a ++ turns odd b

-- ---- elements, wires, netlists

pub data Element : Type 0 where
  point : ℕ → Element  -- its input; the output is one more
  part : ℕ → ℕ → Element  -- the part's number, its first terminal

pub record Wire : Type 0 where
  pub from : ℕ
  pub to : ℕ

abbrev pub wire_of : ℕ → ℕ → Wire
wire_of from to = record { from = from; to = to }

pub record Net : Type 0 where
  pub elements : List Element
  pub wires : List Wire
  pub pins : Interface

-- ---- binders: one point for each single bit of the type, from terminal n on

abbrev pub points : List Bool → ℕ → List Element
points [] n = []
points (b ∷ bs) n = point n ∷ points bs (n + 2)

-- the input interface shows the point's input at an unturned bit and its output at a turned one, the output interface the reverse
abbrev pub in_side : List Bool → ℕ → Interface
in_side [] n = []
in_side (false ∷ bs) n = inp n ∷ in_side bs (n + 2)
in_side (true ∷ bs) n = out (n + 1) ∷ in_side bs (n + 2)

abbrev pub out_side : List Bool → ℕ → Interface
out_side [] n = []
out_side (false ∷ bs) n = out (n + 1) ∷ out_side bs (n + 2)
out_side (true ∷ bs) n = inp n ∷ out_side bs (n + 2)

-- ---- wires between an output interface and an input interface of one type: from the output to the input, at an unturned bit
-- from the first to the second, at a turned bit from the second to the first

-- two such interfaces show opposite ends at each bit, so each bit gets its wire (theorem `join-length`) and the clauses without one are
-- never reached
abbrev pub join : Interface → Interface → List Wire
join [] ys = []
join (a ∷ xs) [] = []
join (out o ∷ xs) (inp i ∷ ys) = record { from = o; to = i } ∷ join xs ys
join (inp i ∷ xs) (out o ∷ ys) = record { from = o; to = i } ∷ join xs ys
join (out o ∷ xs) (out p ∷ ys) = join xs ys
join (inp i ∷ xs) (inp j ∷ ys) = join xs ys

-- ---- constants: inputs before outputs

abbrev pub part_side : ℕ → ℕ → Interface
part_side zero n = out n ∷ []
part_side (suc k) n = inp n ∷ part_side k (n + 1)

-- ---- making

-- a variable's type and its output interface
pub record Bound : Type 0 where
  pub type : Ty
  pub side : Interface

-- what a binder number out of scope would give: never reached in a term that the walk accepts
abbrev pub unbound : Bound
unbound = record { type = bit; side = [] }

-- what a term makes, its type, its interface, and the next free terminal
pub record Made : Type 0 where
  pub elements : List Element
  pub wires : List Wire
  pub type : Ty
  pub side : Interface
  pub next : ℕ

-- the two sides of a product or an arrow; of **1** never asked in a term that the walk accepts
abbrev pub left_of : Ty → Ty
left_of bit = bit
left_of (prod a b) = a
left_of (arrow a b) = a
left_of (lolli a b) = a

abbrev pub right_of : Ty → Ty
right_of bit = bit
right_of (prod a b) = b
right_of (arrow a b) = b
right_of (lolli a b) = b

-- a variable of type τ, whose points start at terminal n
abbrev pub binder : Ty → ℕ → Bound
binder τ n = record { type = τ; side = out_side (turns false τ) n }

abbrev pub made_var : Bound → ℕ → Made
made_var b n = record { elements = []; wires = []; type = b.type; side = b.side; next = n }

-- a function of type τ whose points start at n, around its body
abbrev pub made_fun : Ty → ℕ → Made → Made
made_fun τ n e = record {
  elements = points (turns false (left_of τ)) n ++ e.elements;
  wires = e.wires;
  type = τ;
  side = in_side (turns false (left_of τ)) n ++ e.side;
  next = e.next;
}

abbrev pub made_app : Made → Made → Made
made_app f a = record {
  elements = f.elements ++ a.elements;
  wires = f.wires ++ a.wires ++ join a.side (take (size (left_of f.type)) f.side);
  type = right_of f.type;
  side = drop (size (left_of f.type)) f.side;
  next = a.next;
}

abbrev pub made_pair : Ty → Made → Made → Made
made_pair τ a b = record {
  elements = a.elements ++ b.elements;
  wires = a.wires ++ b.wires;
  type = τ;
  side = a.side ++ b.side;
  next = b.next;
}

abbrev pub first_half : Made → Bound
first_half a = record { type = left_of a.type; side = take (size (left_of a.type)) a.side }

abbrev pub second_half : Made → Bound
second_half a = record { type = right_of a.type; side = drop (size (left_of a.type)) a.side }

-- the one variable of kind 1B: no new points
abbrev pub whole_of : Made → Bound
whole_of a = record { type = a.type; side = a.side }

abbrev pub made_proj : Made → Made → Made
made_proj a e = record {
  elements = a.elements ++ e.elements;
  wires = a.wires ++ e.wires;
  type = e.type;
  side = e.side;
  next = e.next;
}

abbrev pub made_fix : Ty → ℕ → Made → Made
made_fix τ n e = record {
  elements = points (turns false τ) n ++ e.elements;
  wires = e.wires ++ join e.side (in_side (turns false τ) n);
  type = τ;
  side = e.side;
  next = e.next;
}

-- a constant of written type τ
abbrev pub made_con : Ty → ℕ → ℕ → Made
made_con τ p n = record {
  elements = part p n ∷ [];
  wires = [];
  type = τ;
  side = part_side (part_at p).inputs n;
  next = n + (part_at p).inputs + 1;
}

-- a term, over its binders' interfaces, from terminal n on
abbrev pub make : Table → Term → List Bound → ℕ → Made
make Θ (var i) env n = made_var (get_or env i unbound) n
make Θ (lvar i) env n = made_var (get_or env i unbound) n
make Θ (fun t e) env n =
    let θ = left_of (tree Θ t) in
    made_fun (tree Θ t) n (make Θ e (binder θ n ∷ env) (n + 2 * size θ))
make Θ (app f a) env n =
    let x = make Θ f env n in
    made_app x (make Θ a env x.next)
make Θ (lfun t e) env n =
    let κ = left_of (tree Θ t) in
    made_fun (tree Θ t) n (make Θ e (binder κ n ∷ env) (n + 2 * size κ))
make Θ (lapp f a) env n =
    let x = make Θ f env n in
    made_app x (make Θ a env x.next)
make Θ (pair t a b) env n =
    let x = make Θ a env n in
    made_pair (tree Θ t) x (make Θ b env x.next)
make Θ (proj a e) env n =
    let x = make Θ a env n in
    made_proj x (make Θ e (second_half x ∷ first_half x ∷ env) x.next)
make Θ (fix t e) env n =
    let θ = tree Θ t in
    made_fix θ n (make Θ e (binder θ n ∷ env) (n + 2 * size θ))
make Θ (con p t) env n = made_con (tree Θ t) p n
make Θ (name a e) env n =
    let x = make Θ a env n in
    made_proj x (make Θ e (whole_of x ∷ env) x.next)

abbrev pub net_of : Made → Net
net_of m = record { elements = m.elements; wires = m.wires; pins = m.side }

-- ---- bytes

-- a record of a netlist; of a pin only its terminal's number is written
pub data Item : Type 0 where
  element : Element → Item
  wire : Wire → Item
  pin : ℕ → Item

abbrev pub two : ℕ → List ℕ
two n = n % 256 ∷ n / 256 ∷ []

-- a record's bytes, as they are written. NetRead's `item_at` tells the record that bytes begin with; that it tells the one written is a
-- theorem, `item_here`, and of a whole netlist `read_back` (circuit_theorems)
abbrev pub item_bytes : Item → List ℕ
item_bytes (element (point i)) = 0x21 ∷ two i
item_bytes (element (part p i)) = 0x22 ∷ p ∷ two i
item_bytes (wire w) = 0x23 ∷ two w.from ++ two w.to
item_bytes (pin n) = 0x24 ∷ two n

abbrev pub element_bytes : List Element → List ℕ
element_bytes [] = []
element_bytes (e ∷ es) = item_bytes (element e) ++ element_bytes es

abbrev pub wire_bytes : List Wire → List ℕ
wire_bytes [] = []
wire_bytes (w ∷ ws) = item_bytes (wire w) ++ wire_bytes ws

abbrev pub pin_bytes : Interface → List ℕ
pin_bytes [] = []
pin_bytes (t ∷ ts) = item_bytes (pin (number t)) ++ pin_bytes ts

-- elements in making order, then wires in making order, then pins in interface order
unfoldable pub net_bytes : Net → List ℕ
net_bytes m = element_bytes m.elements ++ (wire_bytes m.wires ++ pin_bytes m.pins)
