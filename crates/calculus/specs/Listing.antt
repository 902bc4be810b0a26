-- What the listing program prints (document 01, "Sheets with known results"), as bytes. Assumes nothing.
use Rattle.std.specs.Prelude.{ℕ, zero, suc, ◌+◌, ◌/◌, ◌%◌, cond, List, [], ◌∷◌, ◌++◌, ltb, get_or}
use Rattle.calculus.specs.Answer.{Answer, good, refused}
use Rattle.calculus.specs.Terms.{part_at}
use Rattle.calculus.specs.Net.{Interface, number, Element, point, part, Wire, Net}
use Rattle.calculus.specs.Lean.{lean}
use Rattle.calculus.specs.Translate.{full}

abbrev pub Text : Type 0
Text = List ℕ

-- in decimal, at most k digits
abbrev pub digits : ℕ → ℕ → Text
digits zero n = []
digits (suc k) n = cond (ltb n 10) ((48 + n) ∷ []) (digits k (n / 10) ++ ((48 + n % 10) ∷ []))

-- every number of a call is below ten to the 20th
abbrev pub decimal : ℕ → Text
decimal n = digits 20 n

-- fields stand one space apart, and each line ends with a line feed
abbrev pub field : ℕ → Text
field n = 32 ∷ decimal n

abbrev pub line : Text → Text
line fields = fields ++ (10 ∷ [])

-- the parts' names, by their numbers
abbrev pub names : List Text
names =
    (122 ∷ 101 ∷ 114 ∷ 111 ∷ [])  -- zero
    ∷ (114 ∷ 101 ∷ 103 ∷ [])  -- reg
    ∷ (97 ∷ 110 ∷ 100 ∷ [])  -- and
    ∷ (111 ∷ 114 ∷ [])  -- or
    ∷ (120 ∷ 111 ∷ 114 ∷ [])  -- xor
    ∷ (105 ∷ 110 ∷ 118 ∷ [])  -- inv
    ∷ (111 ∷ 110 ∷ 101 ∷ [])  -- one
    ∷ []

-- k terminals from i on
abbrev pub terminal_fields : ℕ → ℕ → Text
terminal_fields zero i = []
terminal_fields (suc k) i = field i ++ terminal_fields k (i + 1)

-- a point's input and output; a part's name and terminals
abbrev pub element_line : Element → Text
element_line (point i) = line (112 ∷ 111 ∷ 105 ∷ 110 ∷ 116 ∷ terminal_fields 2 i)  -- point
element_line (part p i) = line (112 ∷ 97 ∷ 114 ∷ 116 ∷ 32 ∷ (get_or names p [] ++ terminal_fields ((part_at p).inputs + 1) i))  -- part

-- a wire's from and to
abbrev pub wire_line : Wire → Text
wire_line w = line (119 ∷ 105 ∷ 114 ∷ 101 ∷ (field w.from ++ field w.to))  -- wire

abbrev pub element_lines : List Element → Text
element_lines [] = []
element_lines (e ∷ es) = element_line e ++ element_lines es

abbrev pub wire_lines : List Wire → Text
wire_lines [] = []
wire_lines (w ∷ ws) = wire_line w ++ wire_lines ws

-- a pin's terminal
abbrev pub pin_lines : Interface → Text
pin_lines [] = []
pin_lines (t ∷ ts) = line (112 ∷ 105 ∷ 110 ∷ field (number t)) ++ pin_lines ts  -- pin

unfoldable pub net_lines : Net → Text
net_lines m = element_lines m.elements ++ (wire_lines m.wires ++ pin_lines m.pins)

-- full, that netlist, lean, that netlist, end; or the one line refused, number, place
abbrev pub listing_of : Answer Net → Text
listing_of (good m) =
    line (102 ∷ 117 ∷ 108 ∷ 108 ∷ [])  -- full
    ++ (net_lines m
    ++ (line (108 ∷ 101 ∷ 97 ∷ 110 ∷ [])  -- lean
    ++ (net_lines (lean m)
    ++ line (101 ∷ 110 ∷ 100 ∷ []))))  -- end
listing_of (refused why) = line (114 ∷ 101 ∷ 102 ∷ 117 ∷ 115 ∷ 101 ∷ 100 ∷ (field why.number ++ field why.place))  -- refused

unfoldable pub listing : List ℕ → Text
listing s = listing_of (full s)
