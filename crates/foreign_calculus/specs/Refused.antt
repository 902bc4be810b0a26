-- The refusals of a netlist from outside, one sentence of document 02 (L8) after the other, with no reader and no check: all records before
-- the place are in order, and what is wrong there. What is in quotes is the document's own. Assumes nothing.
use Rattle.std.specs.Prelude.{ℕ, ◌+◌, ◌<◌, ◌≤◌, ◌≡◌, Bool, true, false, List, [], ◌++◌, T, length, drop}
use Rattle.calculus.specs.Answer.{Refusal, numbered}
use Rattle.calculus.specs.Net.{Terminal, inp, out, Element, Wire, Net, Item, element, wire, pin, item_bytes, net_bytes}
use Rattle.calculus.specs.Inputs.{ins, made_at_lem, targets, is_out}
use Rattle.calculus.specs.Record.{All}
use Rattle.calculus.specs.NetRead.{Known, Fits, item_size}
use Rattle.foreign_calculus.specs.Foreign.{Numbered, Reading, begin, first_of, past_of, with_item}

-- ---- what the records before a place come to (theorem `in_order_read`); not needed to say what is refused

-- a pin names a terminal that is made
abbrev pub PinStands : List Element → Terminal → Type 0
PinStands es (inp i) = 1 ≤ made_at_lem es i
PinStands es (out o) = T (is_out es o)

-- a wire runs from an output to an input that are made
abbrev pub WireRuns : List Element → Wire → Type 0
WireRuns es w = T (is_out es w.from) × (1 ≤ made_at_lem es w.to)

-- the bytes p were read as σ: they are those of a netlist of known parts, elements, then wires, then pins, numbered as the call was told,
-- with wires and pins at terminals that are made
pub record ReadAs (lean : Bool) (p : List ℕ) (σ : Reading) : Type 0 where
  pub bytes : p ≡ net_bytes σ.net
  pub no_wires : σ.stage ≡ 0 → σ.net.wires ≡ []
  pub no_pins : σ.stage ≤ 1 → σ.net.pins ≡ []
  pub known : All Known σ.net.elements
  pub numbering : Numbered lean σ.net.elements 0 σ.next
  pub few : σ.next ≤ 8192
  pub runs : All (WireRuns σ.net.elements) σ.net.wires
  pub pins : All (PinStands σ.net.elements) σ.net.pins

-- ---- the sentences

-- a record of the format stands at an offset: its bytes do, its part is one of the seven, and its numbers have two bytes
pub record StandsAt (s : List ℕ) (at : ℕ) (r : Item) : Type 0 where
  pub fits : Fits r
  pub rest : List ℕ
  pub here : drop at s ≡ item_bytes r ++ rest

-- "misplaced": "in the order elements, wires, pins". An element behind a wire or a pin, a wire behind a pin
pub data Misplaced (σ : Reading) : Item → Type 0 where
  late_element : {e : Element} → 1 ≤ σ.stage → Misplaced σ (element e)
  late_wire : {w : Wire} → 2 ≤ σ.stage → Misplaced σ (wire w)

-- "terminals run from 0 without gap in the elements"; of a lean one "gaps are allowed, and each element starts above the last terminal of
-- the one before"
abbrev pub StartsAfter : Bool → ℕ → ℕ → Type 0
StartsAfter false next i = i ≡ next
StartsAfter true next i = next ≤ i

-- "terminal numbering or direction"
pub data Misnumbered (lean : Bool) (σ : Reading) : Item → Type 0 where
  not_next : {e : Element} → ¬ StartsAfter lean σ.next (first_of e) → Misnumbered lean σ (element e)
  -- "and stay below 8,192"
  too_high : {e : Element} → 8192 < past_of e → Misnumbered lean σ (element e)
  -- "wires go from an output to an input"
  from_no_output : {w : Wire} → ¬ T (is_out σ.net.elements w.from) → Misnumbered lean σ (wire w)
  to_no_input : {w : Wire} → made_at_lem σ.net.elements w.to ≡ 0 → Misnumbered lean σ (wire w)
  -- "and pins name terminals that exist"
  no_terminal : {t : ℕ} → ¬ T (is_out σ.net.elements t) → made_at_lem σ.net.elements t ≡ 0 → Misnumbered lean σ (pin t)

-- all records before an offset are in order, and were read as σ
pub data RecordsInOrder (lean : Bool) (s : List ℕ) : ℕ → Reading → Type 0 where
  nothing_yet : RecordsInOrder lean s 0 begin
  one_more :
      {at : ℕ} {σ : Reading} {r : Item}
      → RecordsInOrder lean s at σ
      → StandsAt s at r
      → ¬ Misplaced σ r
      → ¬ Misnumbered lean σ r
      → RecordsInOrder lean s (at + item_size r) (with_item r σ)

-- what is wrong at an offset, behind what was read. "21 broken, unknown or misplaced record or unknown part, before 22 at the same record"
pub data WrongRecord (lean : Bool) (s : List ℕ) (at : ℕ) (σ : Reading) : ℕ → Type 0 where
  no_record : at < length s → ((r : Item) → ¬ StandsAt s at r) → WrongRecord lean s at σ 21
  misplaced : {r : Item} → StandsAt s at r → Misplaced σ r → WrongRecord lean s at σ 21
  misnumbered : {r : Item} → StandsAt s at r → ¬ Misplaced σ r → Misnumbered lean σ r → WrongRecord lean s at σ 22

-- wires and pins reach a terminal as often as it is an input
abbrev pub OneFeed : Net → ℕ → Type 0
OneFeed m i = targets m.wires i + ins m.pins i ≡ made_at_lem m.elements i

pub data RefusedNet (lean : Bool) (s : List ℕ) : Refusal → Type 0 where
  -- "the first in byte order for 21 and 22, place its offset"
  first_wrong :
      {at number : ℕ} {σ : Reading}
      → RecordsInOrder lean s at σ
      → WrongRecord lean s at σ number
      → RefusedNet lean s (numbered number at)
  -- "then 23 at the lowest terminal": an input that has not exactly one wire or pin, where at each terminal below it there is
  lowest_undriven :
      {i : ℕ} {σ : Reading}
      → RecordsInOrder lean s (length s) σ
      → 1 ≤ made_at_lem σ.net.elements i
      → ¬ OneFeed σ.net i
      → ((j : ℕ) → j < i → OneFeed σ.net j)
      → RefusedNet lean s (numbered 23 i)
