-- Laws of the records' bytes: records in a row, and their length. Assumes nothing.
use mathlib.Core.Path.{◌≡◌, refl, ap, ◌∙◌}
use mathlib.Core.List.{List, [], ◌∷◌, ◌++◌}
use Prim.Native.Nat.{ℕ, ◌+◌}
use lib.ListN.{length, length-append}
use lib.Seq.{sets}
use Rattle.laws.proofs.Regions.{written-more}
use Rattle.calculus.specs.Net.{Interface, Element, point, part, Wire, Net, element_bytes, wire_bytes, pin_bytes, net_bytes}

-- ---- records in a row

pub elements_append : (xs ys : List Element) → element_bytes (xs ++ ys) ≡ element_bytes xs ++ element_bytes ys
elements_append [] ys = refl
elements_append (point i ∷ xs) ys = rw (elements_append xs ys)
elements_append (part p i ∷ xs) ys = rw (elements_append xs ys)

pub wires_append : (xs ys : List Wire) → wire_bytes (xs ++ ys) ≡ wire_bytes xs ++ wire_bytes ys
wires_append [] ys = refl
wires_append (x ∷ xs) ys = rw (wires_append xs ys)

pub pins_append : (xs ys : Interface) → pin_bytes (xs ++ ys) ≡ pin_bytes xs ++ pin_bytes ys
pins_append [] ys = refl
pins_append (x ∷ xs) ys = rw (pins_append xs ys)

-- ---- their length

pub net-length : (m : Net) → length (net_bytes m) ≡ length (element_bytes m.elements) + (length (wire_bytes m.wires) + length (pin_bytes m.pins))
unfolding net_bytes
net-length m =
    length-append (element_bytes m.elements) (wire_bytes m.wires ++ pin_bytes m.pins)
    ∙ ap (λ (x : ℕ). length (element_bytes m.elements) + x) (length-append (wire_bytes m.wires) (pin_bytes m.pins))

-- ---- written one after the other

-- a record behind those that stand
pub record_more : (out bs cs all : List ℕ) (from at : ℕ) → at ≡ from + length bs → all ≡ bs ++ cs → sets (sets out from bs) at cs ≡ sets out from all
record_more out bs cs all from at h e = rw e (written-more out bs cs from at h)
