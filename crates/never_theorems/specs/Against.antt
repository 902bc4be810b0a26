-- Two netlists within a third that gives both the same inputs and compares their outputs; and that two netlists have the same outputs in all
-- runs. Relations only. Assumes nothing.
use Rattle.std.specs.Prelude.{ℕ, suc, ◌+◌, ◌≤◌, ◌<◌, ◌≡◌, ◌↔◌, ◌⊎◌, false, List, [], ◌∷◌, ◌++◌, map, length}
use Rattle.calculus.specs.Terms.{part_at}
use Rattle.calculus.specs.Net.{Element, point, part, wire_of, Net}
use Rattle.calculus.specs.Record.{Bits, All, Among, Possible, part_law}
use Rattle.trace_calculus.specs.Trace.{in_pins, out_pins, registers, row, rows}
use Rattle.trace_calculus.specs.Promise.{register_outputs}
use Rattle.never_calculus.specs.Never.{RecordFrom}

-- in records of n ticks with such starts and the same bits at the input pins, in pin order, the output pins have the same bits at every tick
abbrev pub SameRuns : Net → List ℕ → Net → List ℕ → Type 0
SameRuns k starts l starts' = (n : ℕ) (β γ : Bits) → RecordFrom k starts n β → RecordFrom l starts' n γ → rows β (in_pins k.pins) 0 n ≡ rows γ (in_pins l.pins) 0 n
    → (t : ℕ) → t < n → row β t (out_pins k.pins) ≡ row γ t (out_pins l.pins)

-- some such records of t + 1 ticks have different bits there at tick t
pub record RunsDiffer (k : Net) (starts : List ℕ) (l : Net) (starts' : List ℕ) (t : ℕ) : Type 0 where
  pub one : Bits
  pub other : Bits
  pub of_one : RecordFrom k starts (suc t) one
  pub of_other : RecordFrom l starts' (suc t) other
  pub same_inputs : rows one (in_pins k.pins) 0 (suc t) ≡ rows other (in_pins l.pins) 0 (suc t)
  pub different : row one t (out_pins k.pins) ≡ row other t (out_pins l.pins) → ⊥

-- t is the first tick at which some have
pub record FirstApart (k : Net) (starts : List ℕ) (l : Net) (starts' : List ℕ) (t : ℕ) : Type 0 where
  pub differ : RunsDiffer k starts l starts' t
  pub earlier : (u : ℕ) → u < t → RunsDiffer k starts l starts' u → ⊥

-- what a record of m has where terminal x of another netlist stands, at `f x`
abbrev pub read_at : Bits → (ℕ → ℕ) → Bits
read_at β f x = β (f x)

-- k stands within m: in every record of m there is one of k, with what m's input pins have at its own
pub record StandsIn (m k : Net) (f : ℕ → ℕ) : Type 0 where
  pub as_many : length (in_pins k.pins) ≡ length (in_pins m.pins)
  pub possible : (n : ℕ) (β : Bits) → Possible part_law m n β → Possible part_law k n (read_at β f)
  pub inputs : (n : ℕ) (β : Bits) → Possible part_law m n β → rows (read_at β f) (in_pins k.pins) 0 n ≡ rows β (in_pins m.pins) 0 n

-- m joins k and l: both stand within it, its registers are k's and then l's, and terminal o has 0 exactly where their output pins have the
-- same bits
pub record Against (m k l : Net) (o : ℕ) : Type 0 where
  pub of_left : ℕ → ℕ
  pub of_right : ℕ → ℕ
  pub left : StandsIn m k of_left
  pub right : StandsIn m l of_right
  pub count : length (registers m.elements) ≡ length (registers k.elements) + length (registers l.elements)
  pub woken : (n : ℕ) (β : Bits) → Possible part_law m n β → 0 < n → row β 0 (register_outputs m) ≡ row (read_at β of_left) 0 (register_outputs k) ++ row (read_at β of_right) 0 (register_outputs l)
  pub compares : (n : ℕ) (β : Bits) → Possible part_law m n β → (t : ℕ) → t < n → (β o t ≡ false) ↔ (row (read_at β of_left) t (out_pins k.pins) ≡ row (read_at β of_right) t (out_pins l.pins))

-- ---- the same, to be seen on the netlists themselves: f and g say where each terminal of k and of l stands in m

-- an element's terminals stand one behind the other, as they did
abbrev pub MovesWhole : (ℕ → ℕ) → Element → Type 0
MovesWhole f (point i) = f (i + 1) ≡ f i + 1
MovesWhole f (part p i) = (j : ℕ) → j ≤ (part_at p).inputs → f (i + j) ≡ f i + j

abbrev pub moved_by_lem : (ℕ → ℕ) → Element → Element
moved_by_lem f (point i) = point (f i)
moved_by_lem f (part p i) = part p (f i)

-- every element and every wire of k stands in m
pub record Inside (f : ℕ → ℕ) (k m : Net) : Type 0 where
  pub elements : All (λ e. MovesWhole f e × Among (moved_by_lem f e) m.elements) k.elements
  pub wires : All (λ w. Among (wire_of (f w.from) (f w.to)) m.wires) k.wires

-- pin p is terminal x, or is a point's input, and a wire leads from the point to x
abbrev pub PinLeads : Net → ℕ → ℕ → Type 0
PinLeads m p x = (p ≡ x) ⊎ (Among (point p) m.elements × Among (wire_of (p + 1) x) m.wires)

abbrev pub LeadAll : Net → List ℕ → List ℕ → Type 0
LeadAll m [] [] = Unit {0}
LeadAll m [] (x ∷ xs) = ⊥
LeadAll m (p ∷ ps) [] = ⊥
LeadAll m (p ∷ ps) (x ∷ xs) = PinLeads m p x × LeadAll m ps xs

-- terminal o is the output of a part whose inputs x and y drive
pub record GateFed (m : Net) (p o x y : ℕ) : Type 0 where
  pub gate : ℕ
  pub made : Among (part p gate) m.elements
  pub first : Among (wire_of x gate) m.wires
  pub second : Among (wire_of y (gate + 1)) m.wires
  pub seen : gate + 2 ≡ o

-- terminal o compares the terminals of two lists, pair by pair: an xor of one pair, or an or of the first pair's and that of the others
pub data ComparesAll (m : Net) : ℕ → List ℕ → List ℕ → Type 0 where
  last : {o x y : ℕ} → GateFed m 4 o x y → ComparesAll m o (x ∷ []) (y ∷ [])
  and_others : {o p q x y : ℕ} {xs ys : List ℕ} → GateFed m 3 o p q → GateFed m 4 p x y → ComparesAll m q xs ys → ComparesAll m o (x ∷ xs) (y ∷ ys)

pub record JoinedBy (m k l : Net) (o : ℕ) (f g : ℕ → ℕ) : Type 0 where
  pub left : Inside f k m
  pub right : Inside g l m
  pub left_pins : LeadAll m (in_pins m.pins) (map f (in_pins k.pins))
  pub right_pins : LeadAll m (in_pins m.pins) (map g (in_pins l.pins))
  pub outputs : register_outputs m ≡ map f (register_outputs k) ++ map g (register_outputs l)
  pub compared : ComparesAll m o (map f (out_pins k.pins)) (map g (out_pins l.pins))
