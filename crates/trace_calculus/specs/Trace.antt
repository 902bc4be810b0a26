-- Running a recorded trace (document 02, L4). Assumes nothing.
use Rattle.std.specs.Prelude.{ℕ, zero, suc, ◌+◌, ◌*◌, ◌<◌, ◌≤◌, ◌≡◌, Bool, true, false, cond, not, ◌&&◌, ◌||◌, List, [], ◌∷◌, ◌++◌, T, eqb, leb, length, get_or}
use Rattle.std.specs.Bool.{xor}
use Rattle.calculus.specs.Answer.{Answer, good, ◌>>=◌, need}
use Rattle.calculus.specs.Terms.{part_at}
use Rattle.calculus.specs.Net.{inp, out, Interface, Element, point, part, Wire, Net}
use Rattle.calculus.specs.Lean.{driver, is_pin, lean}
use Rattle.calculus.specs.Inputs.{has_wire}
use Rattle.calculus.specs.Record.{Bits, All, Among}
use Rattle.calculus.specs.Translate.{full, said_of, out_of, work_of, Call}

-- ---- the bits and starts given

-- the record has these bits at the input pins, by terminal and tick, and these starts, by the register's first terminal
abbrev pub StartsWith : (ℕ → Bool) → Bits → Element → Type 0
StartsWith starts β (point i) = Unit {0}
StartsWith starts β (part p i) = T (eqb p 1) → β (i + (part_at p).inputs) 0 ≡ starts i

pub record Has (m : Net) (n : ℕ) (given : Bits) (starts : ℕ → Bool) (β : Bits) : Type 0 where
  pub pins : (i : ℕ) → T (is_pin m.pins i) → (t : ℕ) → t < n → β i t ≡ given i t
  pub registers : 0 < n → All (StartsWith starts β) m.elements

-- ---- rings of wires, points and gates

-- terminal x decides terminal y within the tick: through a wire, a point, or a part that is no register
pub data Feeds (m : Net) : ℕ → ℕ → Type 0 where
  by_wire : (w : Wire) → Among w m.wires → Feeds m w.from w.to
  by_point : (i : ℕ) → Among (point i) m.elements → Feeds m i (i + 1)
  by_gate : (p i x : ℕ) → Among (part p i) m.elements → ¬ (p ≡ 1) → i ≤ x → x < i + (part_at p).inputs → Feeds m x (i + (part_at p).inputs)

-- in one step or more
pub data Leads (m : Net) : ℕ → ℕ → Type 0 where
  one_step : {x y : ℕ} → Feeds m x y → Leads m x y
  then : {x y z : ℕ} → Feeds m x y → Leads m y z → Leads m x z

-- terminal x is on a ring that passes through no register
abbrev pub OnRing : Net → ℕ → Type 0
OnRing m x = Leads m x x

-- ---- what decides a terminal

pub data Source : Type 0 where
  pin : Source  -- an input without a wire
  from : ℕ → Source  -- an input: the output that its wire comes from. A point's output: the point's input
  made_part : ℕ → ℕ → Source  -- a part's output: the part's number, its first terminal

abbrev pub source_among : List Element → Source → ℕ → Source
source_among [] d x = d
source_among (point i ∷ es) d x = cond (eqb (i + 1) x) (from i) (source_among es d x)
source_among (part p i ∷ es) d x = cond (eqb (i + (part_at p).inputs) x) (made_part p i) (source_among es d x)

unfoldable pub source : Net → ℕ → Source
source m x = source_among m.elements (cond (has_wire m.wires x) (from (driver m.wires x 0)) pin) x

-- the terminals that it looks at within the tick: a register looks at none
abbrev pub looks : Source → List ℕ
looks pin = []
looks (from y) = y ∷ []
looks (made_part zero i) = []
looks (made_part (suc zero) i) = []
looks (made_part (suc (suc zero)) i) = i ∷ (i + 1) ∷ []
looks (made_part (suc (suc (suc zero))) i) = i ∷ (i + 1) ∷ []
looks (made_part (suc (suc (suc (suc zero)))) i) = i ∷ (i + 1) ∷ []
looks (made_part (suc (suc (suc (suc (suc zero))))) i) = i ∷ []
looks (made_part (suc (suc (suc (suc (suc (suc p)))))) i) = []

abbrev pub before : Net → ℕ → List ℕ
before m x = looks (source m x)

-- ---- refusal 19

abbrev pub any : (ℕ → Bool) → List ℕ → Bool
any f [] = false
any f (x ∷ xs) = f x || any f xs

-- y is met on the way back from x, in at least one step and at most k
abbrev pub reach : (ℕ → List ℕ) → ℕ → ℕ → ℕ → Bool
reach back zero y x = false
reach back (suc k) y x = any (λ d. eqb d y || reach back k y d) (back x)

abbrev pub up_from : ℕ → ℕ → List ℕ
up_from zero i = []
up_from (suc k) i = i ∷ up_from k (i + 1)

-- the terminals, and the input terminals, by rising number
abbrev pub terminals : List Element → List ℕ
terminals [] = []
terminals (point i ∷ es) = up_from 2 i ++ terminals es
terminals (part p i ∷ es) = up_from (suc (part_at p).inputs) i ++ terminals es

abbrev pub inputs : List Element → List ℕ
inputs [] = []
inputs (point i ∷ es) = i ∷ inputs es
inputs (part p i ∷ es) = up_from (part_at p).inputs i ++ inputs es

-- as many rounds as there are terminals, and one more
abbrev pub rounds : Net → ℕ
rounds m = suc (length (terminals m.elements))

unfoldable pub on_ring : Net → ℕ → Bool
on_ring m x = reach (before m) (rounds m) x x

-- 19 at the first of these that is on a ring
abbrev pub none_on_ring : Net → List ℕ → Answer (Unit {0})
none_on_ring m [] = good tt
none_on_ring m (i ∷ is) = need (not (on_ring m i)) 19 i >>= λ _. none_on_ring m is

-- ---- the run

-- a part's output, over the bits of this tick and what the registers hold
abbrev pub gate : ℕ → ℕ → (ℕ → Bool) → (ℕ → Bool) → Bool
gate zero i held β = false
gate (suc zero) i held β = held i
gate (suc (suc zero)) i held β = β i && β (i + 1)
gate (suc (suc (suc zero))) i held β = β i || β (i + 1)
gate (suc (suc (suc (suc zero)))) i held β = xor (β i) (β (i + 1))
gate (suc (suc (suc (suc (suc zero))))) i held β = not (β i)
gate (suc (suc (suc (suc (suc (suc p)))))) i held β = true

abbrev pub bit : Source → ℕ → (ℕ → Bool) → (ℕ → Bool) → (ℕ → Bool) → Bool
bit pin x given held β = given x
bit (from y) x given held β = β y
bit (made_part p i) x given held β = gate p i held β

-- k rounds: in each, every terminal takes its bit from the bits of the round before
abbrev pub settle : ℕ → Net → (ℕ → Bool) → (ℕ → Bool) → ℕ → Bool
settle zero m given held x = false
settle (suc k) m given held x = bit (source m x) x given held (settle k m given held)

-- the bits at a tick: a register holds its start bit at tick 0, and later what its input was at the tick before
abbrev pub tick : Net → Bits → (ℕ → Bool) → ℕ → ℕ → Bool
tick m given starts zero x = settle (rounds m) m (λ y. given y 0) starts x
tick m given starts (suc t) x = settle (rounds m) m (λ y. given y (suc t)) (λ i. tick m given starts t i) x

unfoldable pub run : Net → Bits → (ℕ → Bool) → Bits
run m given starts x t = tick m given starts t x

-- ---- the bits lent and written, one byte a bit

abbrev pub in_pins : Interface → List ℕ
in_pins [] = []
in_pins (inp i ∷ ps) = i ∷ in_pins ps
in_pins (out o ∷ ps) = in_pins ps

abbrev pub out_pins : Interface → List ℕ
out_pins [] = []
out_pins (inp i ∷ ps) = out_pins ps
out_pins (out o ∷ ps) = o ∷ out_pins ps

abbrev pub registers : List Element → List ℕ
registers [] = []
registers (point i ∷ es) = registers es
registers (part p i ∷ es) = let rest = registers es in cond (eqb p 1) (i ∷ rest) rest

-- the place of x in a list
abbrev pub place : List ℕ → ℕ → ℕ
place [] x = 0
place (y ∷ ys) x = let rest = place ys x in cond (eqb y x) 0 (suc rest)

abbrev pub given_bits : Interface → List ℕ → Bits
given_bits ps bits x t = eqb (get_or bits (t * length (in_pins ps) + place (in_pins ps) x) 0) 1

abbrev pub start_bits : List Element → List ℕ → ℕ → Bool
start_bits es starts i = eqb (get_or starts (place (registers es) i) 0) 1

abbrev pub bit_byte_lem : Bool → ℕ
bit_byte_lem b = cond b 1 0

abbrev pub row : Bits → ℕ → List ℕ → List ℕ
row β t [] = []
row β t (o ∷ os) = bit_byte_lem (β o t) ∷ row β t os

abbrev pub rows : Bits → List ℕ → ℕ → ℕ → List ℕ
rows β os t zero = []
rows β os t (suc n) = row β t os ++ rows β os (t + 1) n

abbrev pub all_bits : List ℕ → Bool
all_bits [] = true
all_bits (b ∷ bs) = leb b 1 && all_bits bs

-- a lean netlist run for n ticks: 19, then 20, then 17
unfoldable pub ran : Net → ℕ → List ℕ → List ℕ → ℕ → Answer (List ℕ)
ran m n bits starts room = do
  _ ← none_on_ring m (inputs m.elements)
  _ ← need (eqb (length bits) (n * length (in_pins m.pins)) && eqb (length starts) (length (registers m.elements)) && (all_bits bits && all_bits starts)) 20 0
  _ ← need (leb (n * length (out_pins m.pins)) room) 17 (n * length (out_pins m.pins))
  good (rows (run m (given_bits m.pins bits) (start_bits m.elements starts)) (out_pins m.pins) 0 n)

-- a sheet's lean netlist run for n ticks: 1, then 2 to 16, then as above
unfoldable pub trace : ℕ → List ℕ → ℕ → List ℕ → List ℕ → ℕ → Answer (List ℕ)
trace memory s n bits starts room = do
  _ ← need (leb 32768 memory) 1 0
  m ← full s
  ran (lean m) n bits starts room

-- what the call leaves
unfoldable pub run_call : List ℕ → List ℕ → List ℕ → ℕ → List ℕ → List ℕ → Call
run_call s bits starts n output work =
    let a = trace (length work) s n bits starts (length output) in
    record { said = said_of a; out = out_of a output; work = work_of work }
