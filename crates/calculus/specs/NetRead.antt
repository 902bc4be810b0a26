-- The reader of netlist bytes: `net_bytes` the other way round (document 01, "The full netlist": output bytes). It looks at one record after
-- the other; if their order and numbering are those of a netlist is not its question. Assumes nothing.
use Rattle.std.specs.Prelude.{ℕ, zero, suc, ◌+◌, ◌*◌, ◌<◌, cond, List, [], ◌∷◌, map, leb, ltb, eqb, length}
use Rattle.calculus.specs.Answer.{Answer, good, refuse, ◌>>=◌}
use Rattle.calculus.specs.Terms.{parts}
use Rattle.calculus.specs.Read.{byte}
use Rattle.calculus.specs.Net.{Terminal, inp, out, Element, point, part, Wire, Net, Item, element, wire, pin}
use Rattle.calculus.specs.Inputs.{is_out}

-- ---- what bytes can tell: known parts, and numbers of two bytes

-- each part is one of the seven
abbrev pub Known : Element → Type 0
Known (point i) = Unit {0}
Known (part p i) = p < 7

abbrev pub Fits : Item → Type 0
Fits (element (point i)) = i < 65536
Fits (element (part p i)) = (p < 7) × (i < 65536)
Fits (wire w) = (w.from < 65536) × (w.to < 65536)
Fits (pin n) = n < 65536

-- ---- one record

abbrev pub item_size : Item → ℕ
item_size (element (point i)) = 3
item_size (element (part p i)) = 4
item_size (wire w) = 5
item_size (pin n) = 3

-- at an offset: a record; nothing more; or no record, since the kind is unknown, the body is cut short, or there is no such part
pub data Front : Type 0 where
  item : Item → Front
  ended broken : Front

-- a two-byte number, low byte first
abbrev pub two_at : List ℕ → ℕ → ℕ
two_at s at = byte s at + 256 * byte s (at + 1)

-- a record whose n bytes are all there
abbrev pub uncut : ℕ → List ℕ → ℕ → Front → Front
uncut n s at r = cond (leb (at + n) (length s)) r broken

abbrev pub known_part : ℕ → ℕ → Front
known_part p i = cond (ltb p (length parts)) (item (element (part p i))) broken

abbrev pub of_kind : ℕ → List ℕ → ℕ → Front
of_kind k s at =
    cond (eqb k 0x21) (uncut 3 s at (item (element (point (two_at s (at + 1))))))
    (cond (eqb k 0x22) (uncut 4 s at (known_part (byte s (at + 1)) (two_at s (at + 2))))
    (cond (eqb k 0x23) (uncut 5 s at (item (wire (record { from = two_at s (at + 1); to = two_at s (at + 3) }))))
    (cond (eqb k 0x24) (uncut 3 s at (item (pin (two_at s (at + 1))))) broken)))

unfoldable pub item_at : List ℕ → ℕ → Front
item_at s at = cond (ltb at (length s)) (of_kind (byte s at) s at) ended

-- ---- the records in a row

-- what stands at an offset, then the rest; 21 is the number that request L8 gives to what is no record
abbrev pub and_rest : Front → ℕ → (Item → Answer (List Item)) → Answer (List Item)
and_rest (item r) at rest = do
  rs ← rest r
  good (r ∷ rs)
and_rest ended at rest = good []
and_rest broken at rest = refuse 21 at

-- all records from an offset on. `left` bytes are left at most, so that at zero nothing is
unfoldable pub items_from : ℕ → List ℕ → ℕ → Answer (List Item)
items_from zero s at = good []
items_from (suc left) s at = and_rest (item_at s at) at (λ r. items_from left s (at + item_size r))

-- ---- the netlist of records

abbrev pub elements_in : List Item → List Element
elements_in [] = []
elements_in (element e ∷ rs) = e ∷ elements_in rs
elements_in (wire w ∷ rs) = elements_in rs
elements_in (pin n ∷ rs) = elements_in rs

abbrev pub wires_in : List Item → List Wire
wires_in [] = []
wires_in (element e ∷ rs) = wires_in rs
wires_in (wire w ∷ rs) = w ∷ wires_in rs
wires_in (pin n ∷ rs) = wires_in rs

abbrev pub pins_in : List Item → List ℕ
pins_in [] = []
pins_in (element e ∷ rs) = pins_in rs
pins_in (wire w ∷ rs) = pins_in rs
pins_in (pin n ∷ rs) = n ∷ pins_in rs

-- a pin's bytes do not tell input from output: the elements do
abbrev pub pin_terminal : List Element → ℕ → Terminal
pin_terminal es n = cond (is_out es n) (out n) (inp n)

abbrev pub net_from : List Item → Net
net_from rs = record { elements = elements_in rs; wires = wires_in rs; pins = map (pin_terminal (elements_in rs)) (pins_in rs) }

unfoldable pub read_net : List ℕ → Answer Net
read_net s = do
  rs ← items_from (length s) s 0
  good (net_from rs)
