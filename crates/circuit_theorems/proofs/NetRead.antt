-- A netlist's bytes, read record by record, give it back: so they tell the netlist. Assumes nothing.
use Prim.Native.Nat.{ℕ, zero, suc, ◌+◌, ◌/◌, ◌%◌, ◌<◌, ◌≤◌}
use mathlib.Core.Path.{◌≡◌, refl, sym, ap, ap₂, ◌∙◌, subst}
use mathlib.Core.Bool.{cond}
use mathlib.Core.List.{List, [], ◌∷◌, ◌++◌, map}
use native.Mathlib.Omega.{arith}
use native.Mathlib.Nat.{div-add-mod'}
use lib.Dec.{T, eqb, eqb→eq}
use lib.ListN.{length, get_or, drop, length-drop, length-append}
use lib.Seq.{get_or-drop}
use borrow.Author.Tests.{lt-ltb, le-ltb, le-leb}
use Rattle.laws.proofs.Tests.{by_eqb, or_elim, T-is, is_false}
use Rattle.calculus.specs.Answer.{Answer, good, ◌>>=◌}
use Rattle.calculus.specs.Terms.{part_at, parts}
use Rattle.calculus.specs.Read.{byte}
use Rattle.calculus.specs.Net.{Terminal, inp, out, Interface, number, Element, point, part, Wire, Net, Item, element, wire, pin, item_bytes, element_bytes, wire_bytes, pin_bytes, net_bytes}
use Rattle.calculus.specs.Record.{All}
use Rattle.calculus.specs.Inputs.{made_at_lem, is_out}
use Rattle.circuit_theorems.specs.Formed.{Rising, Formed}
use Rattle.calculus.specs.NetRead.{Fits, item_size, Front, item, ended, two_at, item_at, and_rest, items_from, elements_in, wires_in, pins_in, pin_terminal, net_from, read_net}
use Rattle.calculus.proofs.Answers.{good-inj}
use Rattle.sheet_theorems.proofs.Bytes.{behind}
use Rattle.circuit_theorems.proofs.Outputs.{EndHolds}
use Rattle.circuit_theorems.proofs.Terminals.{out_low, made-low, part-high}
use Rattle.circuit_theorems.proofs.Wiring.{pins_show}

-- ---- the writer's bytes are the records' in a row

abbrev pub items_of : Net → List Item
items_of m = map element m.elements ++ (map wire m.wires ++ map (λ t. pin (number t)) m.pins)

abbrev pub items_bytes : List Item → List ℕ
items_bytes [] = []
items_bytes (r ∷ rs) = item_bytes r ++ items_bytes rs

pub items_append : (xs ys : List Item) → items_bytes (xs ++ ys) ≡ items_bytes xs ++ items_bytes ys
items_append [] ys = refl
items_append (element (point i) ∷ xs) ys = rw (items_append xs ys)
items_append (element (part p i) ∷ xs) ys = rw (items_append xs ys)
items_append (wire w ∷ xs) ys = rw (items_append xs ys)
items_append (pin t ∷ xs) ys = rw (items_append xs ys)

elements_row : (es : List Element) → element_bytes es ≡ items_bytes (map element es)
elements_row [] = refl
elements_row (e ∷ es) = rw (elements_row es)

wires_row : (ws : List Wire) → wire_bytes ws ≡ items_bytes (map wire ws)
wires_row [] = refl
wires_row (w ∷ ws) = rw (wires_row ws)

pins_row : (ts : Interface) → pin_bytes ts ≡ items_bytes (map (λ t. pin (number t)) ts)
pins_row [] = refl
pins_row (t ∷ ts) = rw (pins_row ts)

pub records_in_a_row : (m : Net) → net_bytes m ≡ items_bytes (items_of m)
unfolding net_bytes
records_in_a_row m =
    rw (
      elements_row m.elements,
      wires_row m.wires,
      pins_row m.pins,
      items_append (map element m.elements) (map wire m.wires ++ map (λ t. pin (number t)) m.pins),
      items_append (map wire m.wires) (map (λ t. pin (number t)) m.pins),
    )

-- ---- their lengths

pub item_length : (r : Item) → length (item_bytes r) ≡ item_size r
item_length (element (point i)) = refl
item_length (element (part p i)) = refl
item_length (wire w) = refl
item_length (pin n) = refl

pub item_some : (r : Item) → 1 ≤ item_size r
item_some (element (point i)) = omega arith
item_some (element (part p i)) = omega arith
item_some (wire w) = omega arith
item_some (pin n) = omega arith

-- ---- by its kind and its length, what is read at an offset

module _ (s : List ℕ) (at : ℕ) where
  pub ends-here : length s ≤ at → item_at s at ≡ ended
  unfolding item_at
  ends-here h = rw (le-ltb at (length s) h)

  pub point_here : at + 3 ≤ length s → byte s at ≡ 0x21 → item_at s at ≡ item (element (point (two_at s (at + 1))))
  unfolding item_at
  point_here h k = rw (lt-ltb at (length s) (omega arith), k, le-leb (at + 3) (length s) h)

  pub part-here : at + 4 ≤ length s → byte s at ≡ 0x22 → byte s (at + 1) < length parts → item_at s at ≡ item (element (part (byte s (at + 1)) (two_at s (at + 2))))
  unfolding item_at
  part-here h k l = rw (lt-ltb at (length s) (omega arith), k, le-leb (at + 4) (length s) h, lt-ltb (byte s (at + 1)) (length parts) l)

  pub wire-here : at + 5 ≤ length s → byte s at ≡ 0x23 → item_at s at ≡ item (wire (record { from = two_at s (at + 1); to = two_at s (at + 3) }))
  unfolding item_at
  wire-here h k = rw (lt-ltb at (length s) (omega arith), k, le-leb (at + 5) (length s) h)

  pub pin_here : at + 3 ≤ length s → byte s at ≡ 0x24 → item_at s at ≡ item (pin (two_at s (at + 1)))
  unfolding item_at
  pin_here h k = rw (lt-ltb at (length s) (omega arith), k, le-leb (at + 3) (length s) h)

-- ---- what stands at an offset is read

byte_of : (s xs : List ℕ) (at k n : ℕ) → n ≡ at + k → drop at s ≡ xs → byte s n ≡ get_or xs k 0
byte_of s xs at k n h e = rw h (sym (get_or-drop at s k 0) ∙ ap (λ (x : List ℕ). get_or x k 0) e)

two_of : (s xs : List ℕ) (at k n i : ℕ) → n ≡ at + k → drop at s ≡ xs → get_or xs k 0 ≡ i % 256 → get_or xs (k + 1) 0 ≡ i / 256 → two_at s n ≡ i
two_of s xs at k n i h e a b =
    omega (arith, byte_of s xs at k n h e, byte_of s xs at (k + 1) (n + 1) (omega arith) e, div-add-mod' i 256)

stands : (s l : List ℕ) (at : ℕ) (r : Item) → drop at s ≡ item_bytes r ++ l → at + item_size r ≤ length s
stands s l at r e = omega (arith, ap length e, length-drop at s, length-append (item_bytes r) l, item_length r, item_some r)

pub item_here : (s l : List ℕ) (at : ℕ) (r : Item) → Fits r → drop at s ≡ item_bytes r ++ l → item_at s at ≡ item r
item_here s l at (element (point i)) f e =
    point_here s at (stands s l at (element (point i)) e) (byte_of s _ at 0 at (omega arith) e)
    ∙ ap (λ (x : ℕ). item (element (point x))) (two_of s _ at 1 (at + 1) i refl e refl refl)
item_here s l at (element (part p i)) f e =
    let q : byte s (at + 1) ≡ p = byte_of s _ at 1 (at + 1) refl e in
    part-here s at (stands s l at (element (part p i)) e) (byte_of s _ at 0 at (omega arith) e) (let g = f.0 in omega arith)
    ∙ ap₂ (λ (y x : ℕ). item (element (part y x))) q (two_of s _ at 2 (at + 2) i refl e refl refl)
item_here s l at (wire w) f e =
    wire-here s at (stands s l at (wire w) e) (byte_of s _ at 0 at (omega arith) e)
    ∙ ap₂ (λ (x y : ℕ). item (wire (record { from = x; to = y }))) (two_of s _ at 1 (at + 1) w.from refl e refl refl) (two_of s _ at 3 (at + 3) w.to refl e refl refl)
item_here s l at (pin n) f e =
    pin_here s at (stands s l at (pin n) e) (byte_of s _ at 0 at (omega arith) e)
    ∙ ap (λ (x : ℕ). item (pin x)) (two_of s _ at 1 (at + 1) n refl e refl refl)

-- a row of records that stands at an offset is read
pub row_read : (s : List ℕ) (rs : List Item) (left at : ℕ) → All Fits rs → drop at s ≡ items_bytes rs → at ≤ length s → length s ≤ at + left → items_from left s at ≡ good rs
unfolding items_from
row_read s [] zero at f e l h = refl
row_read s [] (suc left) at f e l h = rw (ends-here s at (omega (arith, ap length e, length-drop at s)))
row_read s (r ∷ rs) zero at f e l h =
    absurd (omega (arith, ap length e, length-drop at s, length-append (item_bytes r) (items_bytes rs), item_length r, item_some r))
row_read s (r ∷ rs) (suc left) at f e l h =
    let b : drop (at + item_size r) s ≡ items_bytes rs = subst (λ (k : ℕ). drop (at + k) s ≡ items_bytes rs) (item_length r) (behind s (item_bytes r) (items_bytes rs) at e) in
    let z : at + item_size r ≤ length s = stands s (items_bytes rs) at r e in
    let rest : items_from left s (at + item_size r) ≡ good rs = row_read s rs left (at + item_size r) f.1 b z (omega (arith, item_some r)) in
    ap (λ (x : Front). and_rest x at (λ r. items_from left s (at + item_size r))) (item_here s (items_bytes rs) at r f.0 e)
    ∙ ap (λ (x : Answer (List Item)). x >>= λ rs. good (r ∷ rs)) rest

-- ---- the netlist of records is the one that they came from

elements_of : (es : List Element) (ws : List Wire) (ps : Interface) → elements_in (map element es ++ (map wire ws ++ map (λ t. pin (number t)) ps)) ≡ es
elements_of (x ∷ es) ws ps = ap (λ (l : List Element). x ∷ l) (elements_of es ws ps)
elements_of [] (w ∷ ws) ps = elements_of [] ws ps
elements_of [] [] (t ∷ ps) = elements_of [] [] ps
elements_of [] [] [] = refl

wires_of : (es : List Element) (ws : List Wire) (ps : Interface) → wires_in (map element es ++ (map wire ws ++ map (λ t. pin (number t)) ps)) ≡ ws
wires_of (x ∷ es) ws ps = wires_of es ws ps
wires_of [] (w ∷ ws) ps = ap (λ (l : List Wire). w ∷ l) (wires_of [] ws ps)
wires_of [] [] (t ∷ ps) = wires_of [] [] ps
wires_of [] [] [] = refl

pins_of : (es : List Element) (ws : List Wire) (ps : Interface) → pins_in (map element es ++ (map wire ws ++ map (λ t. pin (number t)) ps)) ≡ map number ps
pins_of (x ∷ es) ws ps = pins_of es ws ps
pins_of [] (w ∷ ws) ps = pins_of [] ws ps
pins_of [] [] (t ∷ ps) = ap (λ (l : List ℕ). number t ∷ l) (pins_of [] [] ps)
pins_of [] [] [] = refl

-- no output is an input
pub out_not_made : (es : List Element) (n e x : ℕ) → Rising es n e → T (is_out es x) → made_at_lem es x ≡ 0
out_not_made [] n e x a t = absurd t
out_not_made (point i ∷ es) n e x a t =
    by_eqb (λ b. cond b 1 0 + made_at_lem es x ≡ 0) i x
    (λ q. absurd (or_elim (eqb (i + 1) x) (is_out es x) t (λ u. omega (arith, eqb→eq (i + 1) x u)) (λ u. omega (arith, out_low es (i + 2) e x a.1 u))))
    (λ q. or_elim (eqb (i + 1) x) (is_out es x) t (λ u. let v = eqb→eq (i + 1) x u in omega (arith, made-low es (i + 2) e x a.1 (omega arith))) (λ u. omega (arith, out_not_made es (i + 2) e x a.1 u)))
out_not_made (part p i ∷ es) n e x a t =
    or_elim (eqb (i + (part_at p).inputs) x) (is_out es x) t
    (λ u. let v = eqb→eq (i + (part_at p).inputs) x u in omega (arith, part-high (part_at p).inputs i x (omega arith), made-low es (i + (part_at p).inputs + 1) e x a.1 (omega arith)))
    (λ u. let v = out_low es (i + (part_at p).inputs + 1) e x a.1 u in omega (arith, part-high (part_at p).inputs i x (omega arith), out_not_made es (i + (part_at p).inputs + 1) e x a.1 u))

-- the elements tell a pin's direction
abbrev pub Shows : List Element → Terminal → Type 0
Shows es t = EndHolds (λ i. made_at_lem es i ≡ 1) (λ o. T (is_out es o)) t

pub terminal_is : (es : List Element) (e : ℕ) (t : Terminal) → Rising es 0 e → Shows es t → pin_terminal es (number t) ≡ t
terminal_is es e (inp i) up a = rw (is_false (is_out es i) (λ u. omega (arith, out_not_made es 0 e i up u)))
terminal_is es e (out o) up a = rw (T-is (is_out es o) a)

terminals_are : (es : List Element) (e : ℕ) (ts : Interface) → Rising es 0 e → All (Shows es) ts → map (pin_terminal es) (map number ts) ≡ ts
terminals_are es e [] up a = refl
terminals_are es e (t ∷ ts) up a = ap₂ (λ (x : Terminal) (xs : Interface). x ∷ xs) (terminal_is es e t up a.0) (terminals_are es e ts up a.1)

abbrev with : List Element → List Wire → Interface → Net
with es ws ps = record { elements = es; wires = ws; pins = ps }

net-back : (m : Net) → Formed m → net_from (items_of m) ≡ m
net-back m ok =
    let es = m.elements in
    let ws = m.wires in
    let e : elements_in (items_of m) ≡ es = elements_of es ws m.pins in
    ap₂ (λ (x : List Element) (y : List Wire). with x y (map (pin_terminal x) (pins_in (items_of m)))) e (wires_of es ws m.pins)
    ∙ ap (with es ws) (ap (map (pin_terminal es)) (pins_of es ws m.pins) ∙ terminals_are es ok.end m.pins ok.rising (pins_show m ok))

-- ---- the whole

-- a formed netlist of known parts and numbers below 65,536 is read back from its bytes
pub read_back : (m : Net) → Formed m → All Fits (items_of m) → read_net (net_bytes m) ≡ good m
unfolding read_net
read_back m ok f =
    ap (λ (x : Answer (List Item)). x >>= λ rs. good (net_from rs)) (row_read (net_bytes m) (items_of m) (length (net_bytes m)) 0 f (records_in_a_row m) (omega arith) (omega arith))
    ∙ ap good (net-back m ok)

-- so two of them with the same bytes are the same
pub net_bytes_only : (m n : Net) → Formed m → Formed n → All Fits (items_of m) → All Fits (items_of n) → net_bytes m ≡ net_bytes n → m ≡ n
net_bytes_only m n a b f g e = good-inj (sym (read_back m a f) ∙ ap read_net e ∙ read_back n b g)
