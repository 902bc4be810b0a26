-- What stands where in the bytes of a netlist that was checked: its parts, four bytes each, then its wires, five bytes each. Assumes nothing.
use Prim.Native.Nat.{ℕ, zero, suc, ◌+◌, ◌*◌, ◌<◌, ◌≤◌}
use mathlib.Core.Path.{◌≡◌, refl, sym, ap, subst, ◌∙◌}
use mathlib.Core.List.{List, [], ◌∷◌, ◌++◌, map, append_assoc}
use native.Mathlib.Omega.{arith}
use lib.ListN.{length, get_or, drop, length-drop}
use borrow.Author.Tests.{eq-eqb, ne_eqb}
use Rattle.calculus.specs.Answer.{Answer, good, refuse, ◌>>=◌}
use Rattle.calculus.specs.Net.{Interface, number, Element, point, part, Wire, wire_of, Net, element, wire, pin, item_bytes, element_bytes, wire_bytes, pin_bytes, net_bytes}
use Rattle.calculus.specs.Lean.{driver}
use Rattle.calculus.specs.NetRead.{Fits, Front, item, ended, broken, item_at}
use Rattle.calculus.specs.Record.{All}
use Rattle.sheet_theorems.proofs.Bytes.{behind, within}
use Rattle.circuit_theorems.proofs.Lists.{all_left, all_right, all-at, all_map}
use Rattle.circuit_theorems.proofs.Terminals.{out_high}
use Rattle.calculus.specs.Inputs.{is_out}
use lib.Dec.{T}
use Rattle.circuit_theorems.proofs.NetRead.{items_of, ends-here, item_here}
use Rattle.circuit_theorems.proofs.Told.{items_fit}
use Rattle.foreign_theorems.proofs.Standing.{item_inj}
use Rattle.back_calculus.specs.Returned.{no_point}
use Rattle.back_calculus.specs.Promises.{PartOnly}
use Rattle.back_theorems.proofs.Main.{accepts-read}
use Rattle.back.specs.Said.{SaidGate}
use Rattle.back.specs.declared.gates.Gate.{Gate}
use Rattle.back.specs.Gates.{or_none, net_here, AcceptedNet, OfParts, PartHere, PartsTo, parts_or25}

-- ---- the netlist that stands in the bytes

pub here-is : (s : List ℕ) (a : AcceptedNet s) → net_here s ≡ a.accepts.net
unfolding net_here
here-is s a = ap or_none (accepts-read a.told s a.accepts)

pub here-bytes : (s : List ℕ) → AcceptedNet s → s ≡ net_bytes (net_here s)
here-bytes s a = a.accepts.bytes ∙ ap net_bytes (sym (here-is s a))

here-fits : (s : List ℕ) → AcceptedNet s → All Fits (items_of (net_here s))
here-fits s a = let b = a.accepts in subst (λ (m : Net). All Fits (items_of m)) (sym (here-is s a)) (items_fit b.net b.formed (omega (arith, b.few)) b.known)

-- no wire comes from number 65,535
pub from_low : (s : List ℕ) → AcceptedNet s → All (λ w. w.from < 65535) (net_here s).wires
from_low s a =
    let b = a.accepts in
    subst (λ (m : Net). All (λ w. w.from < 65535) m.wires) (sym (here-is s a))
    (all_map (λ w. T (is_out b.net.elements w.from)) (λ w. w.from < 65535) (λ w t. omega (arith, out_high b.net.elements 0 b.formed.end w.from b.formed.rising t, b.few)) b.net.wires b.formed.from)

module _ (s : List ℕ) (a : AcceptedNet s) where
  abbrev es : List Element
  es = (net_here s).elements

  abbrev ws : List Wire
  ws = (net_here s).wires

  abbrev ts : Interface
  ts = (net_here s).pins

  element_fits : All Fits (map element (net_here s).elements)
  element_fits = all_left Fits (map element es) _ (here-fits s a)

  wire-fits : All Fits (map wire (net_here s).wires)
  wire-fits = all_left Fits (map wire ws) _ (all_right Fits (map element es) _ (here-fits s a))

  pin-fits : All Fits (map (λ t. pin (number t)) (net_here s).pins)
  pin-fits = all_right Fits (map wire ws) _ (all_right Fits (map element es) _ (here-fits s a))

  laid_out : drop 0 s ≡ element_bytes (net_here s).elements ++ (wire_bytes (net_here s).wires ++ pin_bytes (net_here s).pins)
  unfolding net_bytes
  laid_out = here-bytes s a

-- ---- what stands behind the elements: a wire, a pin, or nothing

abbrev pub NotElement : Front → Type 0
NotElement (item (element e)) = ⊥
NotElement (item (wire w)) = Unit {0}
NotElement (item (pin t)) = Unit {0}
NotElement ended = Unit {0}
NotElement broken = ⊥

abbrev pub NotWire : Front → Type 0
NotWire (item (element e)) = Unit {0}
NotWire (item (wire w)) = ⊥
NotWire (item (pin t)) = Unit {0}
NotWire ended = Unit {0}
NotWire broken = Unit {0}

abbrev pub NotPart : Front → Type 0
NotPart (item (element (point i))) = Unit {0}
NotPart (item (element (part p i))) = ⊥
NotPart (item (wire w)) = Unit {0}
NotPart (item (pin t)) = Unit {0}
NotPart ended = Unit {0}
NotPart broken = Unit {0}

pub wire_or : (f : Front) → ((from to : ℕ) → f ≡ item (wire (wire_of from to)) → ⊥) → NotWire f
wire_or (item (element e)) h = tt
wire_or (item (wire w)) h = h w.from w.to refl
wire_or (item (pin t)) h = tt
wire_or ended h = tt
wire_or broken h = tt

nothing-here : (s : List ℕ) (at : ℕ) → drop at s ≡ [] → item_at s at ≡ ended
nothing-here s at e = ends-here s at (omega (arith, ap length e, length-drop at s))

module _ (s : List ℕ) (at : ℕ) where
  pins-front : (ts : Interface) → All Fits (map (λ t. pin (number t)) ts) → drop at s ≡ pin_bytes ts → NotElement (item_at s at) × NotWire (item_at s at)
  pins-front [] f e = rw (nothing-here s at e) (tt, tt)
  pins-front (t ∷ ts) f e = rw (item_here s (pin_bytes ts) at (pin (number t)) f.0 e) (tt, tt)

  tail-front : (ws : List Wire) (ts : Interface) → All Fits (map wire ws) → All Fits (map (λ t. pin (number t)) ts) → drop at s ≡ wire_bytes ws ++ pin_bytes ts → NotElement (item_at s at)
  tail-front [] ts f g e = (pins-front ts g e).0
  tail-front (w ∷ ws) ts f g e = rw (item_here s (wire_bytes ws ++ pin_bytes ts) at (wire w) f.0 e) tt

-- ---- the parts, until a point or the end

-- n parts, and the offset behind them
abbrev pub parts_to : ℕ → PartsTo
parts_to n = record { parts = n; wires = 4 * n }

pub record PartsLeft (s : List ℕ) (n : ℕ) : Type 0 where
  pub left : List Element
  pub here : drop (4 * n) s ≡ element_bytes left ++ (wire_bytes (net_here s).wires ++ pin_bytes (net_here s).pins)
  pub fits : All Fits (map element left)
  pub count : n + length left ≡ length (net_here s).elements
  pub same : no_point left (4 * n) ≡ no_point (net_here s).elements 0
  pub low : 4 * n ≤ length s

pub parts_first : (s : List ℕ) → AcceptedNet s → PartsLeft s 0
parts_first s a = record { left = (net_here s).elements; here = laid_out s a; fits = element_fits s a; count = omega arith; same = refl; low = omega arith }

module _ (s : List ℕ) (a : AcceptedNet s) (n : ℕ) where
  -- past a part
  pub parts_more : PartsLeft s n → (p i : ℕ) → item_at s (4 * n) ≡ item (element (part p i)) → PartsLeft s (n + 1)
  parts_more l p i e = by l.left l.here l.fits l.count l.same
    where
      by : (left : List Element) → drop (4 * n) s ≡ element_bytes left ++ (wire_bytes (net_here s).wires ++ pin_bytes (net_here s).pins) → All Fits (map element left) → n + length left ≡ length (net_here s).elements
          → no_point left (4 * n) ≡ no_point (net_here s).elements 0 → PartsLeft s (n + 1)
      by [] h f c z = absurd (subst NotElement e (tail-front s (4 * n) (net_here s).wires (net_here s).pins (wire-fits s a) (pin-fits s a) h))
      by (point j ∷ left) h f c z = absurd (subst NotPart (sym (item_here s _ (4 * n) (element (point j)) f.0 (h ∙ append_assoc (item_bytes (element (point j))) (element_bytes left) _)) ∙ e) tt)
      by (part q j ∷ left) h f c z =
          let g : drop (4 * n) s ≡ item_bytes (element (part q j)) ++ (element_bytes left ++ (wire_bytes (net_here s).wires ++ pin_bytes (net_here s).pins)) = h ∙ append_assoc (item_bytes (element (part q j))) (element_bytes left) _ in
          let k : 4 * n + 4 ≡ 4 * (n + 1) = omega arith in
          record {
            left = left;
            here = subst (λ (x : ℕ). drop x s ≡ element_bytes left ++ (wire_bytes (net_here s).wires ++ pin_bytes (net_here s).pins)) k (behind s (item_bytes (element (part q j))) _ (4 * n) g);
            fits = f.1;
            count = let d : n + suc (length left) ≡ length (net_here s).elements = c in omega arith;
            same = subst (λ (x : ℕ). no_point left x ≡ no_point (net_here s).elements 0) k z;
            low = let w : 4 * n + 4 ≤ length s = within s (item_bytes (element (part q j))) _ (4 * n) g (omega arith) in omega arith;
          }

  -- a point
  pub parts-point : PartsLeft s n → (i : ℕ) → item_at s (4 * n) ≡ item (element (point i)) → refuse 25 (4 * n) ≡ parts_or25 (net_here s).elements
  parts-point l i e = by l.left l.here l.fits l.same
    where
      by : (left : List Element) → drop (4 * n) s ≡ element_bytes left ++ (wire_bytes (net_here s).wires ++ pin_bytes (net_here s).pins) → All Fits (map element left)
          → no_point left (4 * n) ≡ no_point (net_here s).elements 0 → refuse 25 (4 * n) ≡ parts_or25 (net_here s).elements
      by [] h f z = absurd (subst NotElement e (tail-front s (4 * n) (net_here s).wires (net_here s).pins (wire-fits s a) (pin-fits s a) h))
      by (point j ∷ left) h f z = ap (λ (x : Answer (Unit {0})). x >>= λ _. good (parts_to (length (net_here s).elements))) z
      by (part q j ∷ left) h f z = absurd (subst NotPart (sym e ∙ item_here s _ (4 * n) (element (part q j)) f.0 (h ∙ append_assoc (item_bytes (element (part q j))) (element_bytes left) _)) tt)

  -- the end of the elements
  pub parts-over : PartsLeft s n → ((i : ℕ) → item_at s (4 * n) ≡ item (element (point i)) → ⊥) → ((p i : ℕ) → item_at s (4 * n) ≡ item (element (part p i)) → ⊥) → good (parts_to n) ≡ parts_or25 (net_here s).elements
  parts-over l u v = by l.left l.here l.fits l.count l.same
    where
      by : (left : List Element) → drop (4 * n) s ≡ element_bytes left ++ (wire_bytes (net_here s).wires ++ pin_bytes (net_here s).pins) → All Fits (map element left) → n + length left ≡ length (net_here s).elements
          → no_point left (4 * n) ≡ no_point (net_here s).elements 0 → good (parts_to n) ≡ parts_or25 (net_here s).elements
      by [] h f c z =
          let d : n ≡ length (net_here s).elements = let k : n + 0 ≡ length (net_here s).elements = c in omega arith in
          ap (λ (k : ℕ). good (parts_to k)) d ∙ ap (λ (x : Answer (Unit {0})). x >>= λ _. good (parts_to (length (net_here s).elements))) z
      by (point j ∷ left) h f c z = absurd (u j (item_here s _ (4 * n) (element (point j)) f.0 (h ∙ append_assoc (item_bytes (element (point j))) (element_bytes left) _)))
      by (part q j ∷ left) h f c z = absurd (v q j (item_here s _ (4 * n) (element (part q j)) f.0 (h ∙ append_assoc (item_bytes (element (part q j))) (element_bytes left) _)))

  -- a record stands here, or the end
  pub parts_sound : PartsLeft s n → item_at s (4 * n) ≡ broken → ⊥
  parts_sound l e = by l.left l.here l.fits
    where
      by : (left : List Element) → drop (4 * n) s ≡ element_bytes left ++ (wire_bytes (net_here s).wires ++ pin_bytes (net_here s).pins) → All Fits (map element left) → ⊥
      by [] h f = subst NotElement e (tail-front s (4 * n) (net_here s).wires (net_here s).pins (wire-fits s a) (pin-fits s a) h)
      by (x ∷ left) h f = no_item (sym e ∙ item_here s _ (4 * n) (element x) f.0 (h ∙ append_assoc (item_bytes (element x)) (element_bytes left) _))
        where
          no_item : broken ≡ item (element x) → ⊥
          no_item q = let z : ◌≡◌ {A = ℕ} 0 1 = cc in omega arith

-- ---- the part at a place

pub part-here : (es : List Element) (s tail : List ℕ) (at r : ℕ) → All PartOnly es → All Fits (map element es) → drop at s ≡ element_bytes es ++ tail → r < length es
    → (item_at s (at + 4 * r) ≡ item (element (get_or es r (point 0)))) × (at + 4 * r + 4 ≤ length s)
part-here [] s tail at r o f e h = absurd (omega arith)
part-here (point i ∷ es) s tail at r o f e h = absurd o.0
part-here (part p i ∷ es) s tail at zero o f e h =
    let g : drop at s ≡ item_bytes (element (part p i)) ++ (element_bytes es ++ tail) = e ∙ append_assoc (item_bytes (element (part p i))) (element_bytes es) tail in
    let z : at + 4 * 0 ≡ at = omega arith in
    rw z (item_here s _ at (element (part p i)) f.0 g, within s (item_bytes (element (part p i))) _ at g (omega arith))
part-here (part p i ∷ es) s tail at (suc r) o f e h =
    let g : drop at s ≡ item_bytes (element (part p i)) ++ (element_bytes es ++ tail) = e ∙ append_assoc (item_bytes (element (part p i))) (element_bytes es) tail in
    let z : at + 4 * suc r ≡ at + 4 + 4 * r = omega arith in
    let l : suc r < suc (length es) = h in
    rw z (part-here es s tail (at + 4) r o.1 f.1 (behind s (item_bytes (element (part p i))) _ at g) (omega arith))

pub part_at_place : (s : List ℕ) (n r : ℕ) → OfParts s n → r < n → (item_at s (4 * r) ≡ item (element (get_or (net_here s).elements r (point 0)))) × (4 * r + 4 ≤ length s)
part_at_place s n r o h =
    let a = o.accepted in
    let z : 0 + 4 * r ≡ 4 * r = omega arith in
    let c = o.count in
    rw z at (part-here (net_here s).elements s _ 0 r o.parts (element_fits s a) (laid_out s a) (omega arith))

-- the part that was found there, and the offset of the next one
pub gate-place : (s : List ℕ) (n r at : ℕ) → OfParts s n → r < n → at ≡ 4 * r → (g : Gate) → SaidGate g s at → (part g.part g.first ≡ get_or (net_here s).elements r (point 0)) × (g.past ≡ 4 * (r + 1))
gate-place s n r at o h e g f = (element-inj (f.found_is ∙ ap (item_at s) e ∙ (part_at_place s n r o h).0), omega (arith, f.past_is))
  where
    element-inj : {x y : Element} → item (element x) ≡ item (element y) → x ≡ y
    element-inj q = cc

-- what stands there is a part
pub part-known : (s : List ℕ) (n r : ℕ) → OfParts s n → r < n → NotPart (item_at s (4 * r)) → ⊥
part-known s n r o h v = at_part (net_here s).elements r o.parts (let c = o.count in omega arith) (subst NotPart (part_at_place s n r o h).0 v)
  where
    at_part : (es : List Element) (r : ℕ) → All PartOnly es → r < length es → NotPart (item (element (get_or es r (point 0)))) → ⊥
    at_part [] r o h v = omega arith
    at_part (point i ∷ es) r o h v = o.0
    at_part (part p i ∷ es) zero o h v = v
    at_part (part p i ∷ es) (suc r) o h v = at_part es r o.1 (let l : suc r < suc (length es) = h in omega arith) v

-- what stands there is a part
pub part_stands : (s : List ℕ) (at : ℕ) → PartHere s at → (p : ℕ) × (i : ℕ) × (item_at s at ≡ item (element (part p i)))
part_stands s at h = by (get_or (net_here s).elements h.r (point 0)) (all-at PartOnly (net_here s).elements h.r (point 0) h.of.parts (omega (arith, h.of.count, h.low))) (ap (item_at s) h.there ∙ (part_at_place s h.n h.r h.of h.low).0)
  where
    by : (e : Element) → PartOnly e → item_at s at ≡ item (element e) → (p : ℕ) × (i : ℕ) × (item_at s at ≡ item (element (part p i)))
    by (point i) o q = absurd o
    by (part p i) o q = (p, i, q)

-- ---- the wires

pub record WiresLeft (s : List ℕ) (at i : ℕ) : Type 0 where
  pub left : List Wire
  pub here : drop at s ≡ wire_bytes left ++ pin_bytes (net_here s).pins
  pub fits : All Fits (map wire left)
  pub froms : All (λ w. w.from < 65535) left
  pub same : driver left i 65535 ≡ driver (net_here s).wires i 65535
  pub low : at ≤ length s

elements_past : (es : List Element) (s tail : List ℕ) (at : ℕ) → All PartOnly es → drop at s ≡ element_bytes es ++ tail → (at ≤ length s) → (drop (at + 4 * length es) s ≡ tail) × (at + 4 * length es ≤ length s)
elements_past [] s tail at o e l = let z : at + 4 * 0 ≡ at = omega arith in rw z (e, l)
elements_past (point i ∷ es) s tail at o e l = absurd o.0
elements_past (part p i ∷ es) s tail at o e l =
    let g : drop at s ≡ item_bytes (element (part p i)) ++ (element_bytes es ++ tail) = e ∙ append_assoc (item_bytes (element (part p i))) (element_bytes es) tail in
    let z : at + 4 * suc (length es) ≡ at + 4 + 4 * length es = omega arith in
    rw z (elements_past es s tail (at + 4) o.1 (behind s (item_bytes (element (part p i))) _ at g) (within s (item_bytes (element (part p i))) _ at g (omega arith)))

pub wires_first : (s : List ℕ) (n i : ℕ) → OfParts s n → WiresLeft s (4 * n) i
wires_first s n i o =
    let a = o.accepted in
    let p = elements_past (net_here s).elements s _ 0 o.parts (laid_out s a) (omega arith) in
    let z : 0 + 4 * length (net_here s).elements ≡ 4 * n = let c = o.count in omega arith in
    record { left = (net_here s).wires; here = rw z at p.0; fits = wire-fits s a; froms = from_low s a; same = refl; low = rw z at p.1 }

module _ (s : List ℕ) (a : AcceptedNet s) (at i : ℕ) where
  -- a wire that stands here, and those behind it
  pub wires_more : WiresLeft s at i → (from to : ℕ) → item_at s at ≡ item (wire (record { from = from; to = to }))
      → ((to ≡ i → from ≡ driver (net_here s).wires i 65535) × ((to ≡ i → ⊥) → WiresLeft s (at + 5) i)) × (at + 5 ≤ length s) × (from < 65535)
  wires_more l from to e = by l.left l.here l.fits l.froms l.same
    where
      by : (left : List Wire) → drop at s ≡ wire_bytes left ++ pin_bytes (net_here s).pins → All Fits (map wire left) → All (λ w. w.from < 65535) left → driver left i 65535 ≡ driver (net_here s).wires i 65535
          → ((to ≡ i → from ≡ driver (net_here s).wires i 65535) × ((to ≡ i → ⊥) → WiresLeft s (at + 5) i)) × (at + 5 ≤ length s) × (from < 65535)
      by [] h f r z = absurd (subst NotWire e (pins-front s at (net_here s).pins (pin-fits s a) h).1)
      by (w ∷ left) h f r z =
          let g : drop at s ≡ item_bytes (wire w) ++ (wire_bytes left ++ pin_bytes (net_here s).pins) = h ∙ append_assoc (item_bytes (wire w)) (wire_bytes left) _ in
          let q : w ≡ record { from = from; to = to } = let x = item_inj (sym (item_here s _ at (wire w) f.0 g) ∙ e) in cc in
          let qf : w.from ≡ from = ap (λ (v : Wire). v.from) q in
          let qt : w.to ≡ to = ap (λ (v : Wire). v.to) q in
          let room : at + 5 ≤ length s = within s (item_bytes (wire w)) _ at g (omega arith) in (
            (
              (λ k. sym qf ∙ sym (rw (eq-eqb w.to i (qt ∙ k))) ∙ z),
              (λ k. record {
                left = left;
                here = behind s (item_bytes (wire w)) _ at g;
                fits = f.1;
                froms = r.1;
                same = sym (rw (ne_eqb w.to i (λ x. k (sym qt ∙ x)))) ∙ z;
                low = room;
              }),
            ),
            room,
            omega (arith, r.0, qf),
          )

  -- no wire stands here: all were passed
  pub wires_done : WiresLeft s at i → NotWire (item_at s at) → 65535 ≡ driver (net_here s).wires i 65535
  wires_done l v = by l.left l.here l.fits l.same
    where
      by : (left : List Wire) → drop at s ≡ wire_bytes left ++ pin_bytes (net_here s).pins → All Fits (map wire left) → driver left i 65535 ≡ driver (net_here s).wires i 65535 → 65535 ≡ driver (net_here s).wires i 65535
      by [] h f z = z
      by (w ∷ left) h f z = absurd (subst NotWire (item_here s _ at (wire w) f.0 (h ∙ append_assoc (item_bytes (wire w)) (wire_bytes left) _)) v)
