-- Netlists from outside (document 02, L8): the check, 21 and 22 in byte order and then 23, and what is accepted. Assumes nothing.
use Rattle.std.specs.Prelude.{ℕ, zero, suc, ◌+◌, ◌<◌, ◌≤◌, ◌≡◌, Bool, true, false, ◌&&◌, ◌||◌, cond, List, [], ◌∷◌, ◌++◌, leb, eqb, length}
use Rattle.calculus.specs.Answer.{Answer, good, refuse, ◌>>=◌, need}
use Rattle.calculus.specs.Terms.{part_at}
use Rattle.calculus.specs.Net.{Element, point, part, Wire, Net, Item, element, wire, pin, net_bytes}
use Rattle.calculus.specs.Inputs.{ins, made_at_lem, targets, is_out}
use Rattle.calculus.specs.Record.{All}
use Rattle.calculus.specs.NetRead.{Known, item_size, Front, item, ended, broken, item_at, pin_terminal}
use Rattle.calculus.specs.Translate.{work_of}
use Rattle.circuit_theorems.specs.Formed.{Tiled, Rising, Formed}

-- what a call is lent: each number is one byte
abbrev pub Bytes : List ℕ → Type 0
Bytes s = All (λ b. b < 256) s

-- ---- what is accepted, without a reader

-- the elements take the terminals from n up to e without gap; in a lean netlist gaps are allowed, and each element starts above the last
-- terminal of the one before
abbrev pub Numbered : Bool → List Element → ℕ → ℕ → Type 0
Numbered false es n e = Tiled es n e
Numbered true es n e = Rising es n e

-- the bytes are those of a formed netlist of known parts, elements, then wires, then pins, with terminals from 0 that stay below 8,192
pub record Accepts (lean : Bool) (s : List ℕ) : Type 0 where
  pub net : Net
  pub bytes : s ≡ net_bytes net
  pub known : All Known net.elements
  pub formed : Formed net
  pub numbering : Numbered lean net.elements 0 formed.end
  pub few : formed.end ≤ 8192

-- ---- one record behind those that were read

-- what was read, how far it came (0 elements, 1 wires, 2 pins), and the first terminal above all that were taken
pub record Reading : Type 0 where
  pub net : Net
  pub stage : ℕ
  pub next : ℕ

abbrev pub begin : Reading
begin = record { net = record { elements = []; wires = []; pins = [] }; stage = 0; next = 0 }

abbrev pub first_of : Element → ℕ
first_of (point i) = i
first_of (part p i) = i

-- above an element's last terminal
abbrev pub past_of : Element → ℕ
past_of (point i) = i + 2
past_of (part p i) = i + (part_at p).inputs + 1

-- an element starts at the next terminal; in a lean netlist there or above
abbrev pub starts : Bool → ℕ → ℕ → Bool
starts lean i next = cond lean (leb next i) (eqb i next)

abbrev pub is_in : List Element → ℕ → Bool
is_in es x = leb 1 (made_at_lem es x)

abbrev pub more_element : Element → Reading → Reading
more_element e σ = record {
  net = record { elements = σ.net.elements ++ (e ∷ []); wires = σ.net.wires; pins = σ.net.pins };
  stage = 0;
  next = past_of e;
}

abbrev pub more_wire : Wire → Reading → Reading
more_wire w σ = record {
  net = record { elements = σ.net.elements; wires = σ.net.wires ++ (w ∷ []); pins = σ.net.pins };
  stage = 1;
  next = σ.next;
}

abbrev pub more_pin : ℕ → Reading → Reading
more_pin t σ = record {
  net = record { elements = σ.net.elements; wires = σ.net.wires; pins = σ.net.pins ++ (pin_terminal σ.net.elements t ∷ []) };
  stage = 2;
  next = σ.next;
}

-- one record more
abbrev pub with_item : Item → Reading → Reading
with_item (element e) σ = more_element e σ
with_item (wire w) σ = more_wire w σ
with_item (pin t) σ = more_pin t σ

-- 21 where the record is misplaced, before 22 where its terminals are wrong. A pin is never misplaced
abbrev pub judge : Bool → Item → Reading → ℕ → Answer Reading
judge lean (element e) σ at = do
  _ ← need (eqb σ.stage 0) 21 at
  _ ← need (starts lean (first_of e) σ.next && leb (past_of e) 8192) 22 at
  good (more_element e σ)
judge lean (wire w) σ at = do
  _ ← need (leb σ.stage 1) 21 at
  _ ← need (is_out σ.net.elements w.from && is_in σ.net.elements w.to) 22 at
  good (more_wire w σ)
judge lean (pin t) σ at = do
  _ ← need (is_out σ.net.elements t || is_in σ.net.elements t) 22 at
  good (more_pin t σ)

-- ---- the records in byte order

abbrev pub on_front : Front → ℕ → Reading → (Item → Answer Reading) → Answer Reading
on_front (item r) at σ go = go r
on_front ended at σ go = good σ
on_front broken at σ go = refuse 21 at

-- all records from an offset on. `left` bytes are left at most, so that at zero nothing is
abbrev pub read_on : ℕ → Bool → List ℕ → ℕ → Reading → Answer Reading
read_on zero lean s at σ = good σ
read_on (suc left) lean s at σ = on_front (item_at s at) at σ (λ r. judge lean r σ at >>= λ τ. read_on left lean s (at + item_size r) τ)

-- ---- one wire or one pin for each input

-- of k terminals from i on, the lowest input that has not exactly one is refused. (At an output, and where no terminal is, both are 0.)
abbrev pub one_each : ℕ → ℕ → Net → Answer (Unit {0})
one_each zero i m = good tt
one_each (suc k) i m = do
  _ ← need (eqb (targets m.wires i + ins m.pins i) (made_at_lem m.elements i)) 23 i
  one_each k (i + 1) m

-- ---- the whole

unfoldable pub check : Bool → List ℕ → Answer (Unit {0})
check lean s = do
  σ ← read_on (length s) lean s 0 begin
  one_each σ.next 0 σ.net

-- what a call answers, and leaves of the working memory; refusal 1 comes before anything is looked at
pub record Checked : Type 0 where
  pub said : Answer (Unit {0})
  pub work : List ℕ

unfoldable pub check_call : Bool → List ℕ → List ℕ → Checked
check_call lean s work = record {
  said = do
    _ ← need (leb 32768 (length work)) 1 0
    check lean s;
  work = work_of work;
}
