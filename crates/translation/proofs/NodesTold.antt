-- The bytes of kinds 25 and 26 tell the nodes that made the elements (document 02, L6). Assumes nothing.
use Prim.Native.Nat.{ℕ, zero, suc, ◌+◌, ◌*◌, ◌/◌, ◌%◌, ◌≤◌}
use mathlib.Core.Path.{◌≡◌, refl, ap₂}
use mathlib.Core.List.{List, [], ◌∷◌, ◌++◌}
use native.Mathlib.Omega.{arith}
use lib.ListN.{length, drop, length-append}
use Rattle.calculus.specs.Net.{Interface, Element, point, part, Wire, Net, wire_bytes, pin_bytes}
use Rattle.calculus.specs.Makers.{element_node_bytes, net_node_bytes}
use Rattle.translation_calculus.specs.NodesTold.{nodes_from, read_nodes}

-- what stands behind the elements begins with neither kind
others : (ws : List Wire) (ps : Interface) (left : ℕ) → nodes_from left (wire_bytes ws ++ pin_bytes ps) ≡ []
others ws ps zero = refl
others (w ∷ ws) ps (suc left) = refl
others [] (t ∷ ps) (suc left) = refl
others [] [] (suc left) = refl

both_bytes : (k : ℕ) → k % 256 + 256 * (k / 256) ≡ k
both_bytes k = omega arith

elements_told : (es : List Element) (ks : List ℕ) (ws : List Wire) (ps : Interface) (left : ℕ) → length ks ≡ length es → length es ≤ left
    → nodes_from left (element_node_bytes es ks ++ (wire_bytes ws ++ pin_bytes ps)) ≡ ks
elements_told [] [] ws ps left e l = others ws ps left
elements_told [] (k ∷ ks) ws ps left e l = absurd (omega (arith, e))
elements_told (x ∷ es) [] ws ps left e l = absurd (omega (arith, e))
elements_told (x ∷ es) (k ∷ ks) ws ps zero e l = absurd (omega (arith, l))
elements_told (point i ∷ es) (k ∷ ks) ws ps (suc left) e l = ap₂ (λ (x : ℕ) (xs : List ℕ). x ∷ xs) (both_bytes k) (elements_told es ks ws ps left (omega (arith, e)) (omega (arith, l)))
elements_told (part p i ∷ es) (k ∷ ks) ws ps (suc left) e l = ap₂ (λ (x : ℕ) (xs : List ℕ). x ∷ xs) (both_bytes k) (elements_told es ks ws ps left (omega (arith, e)) (omega (arith, l)))

enough_bytes : (es : List Element) (ks : List ℕ) → length es ≤ length (element_node_bytes es ks)
enough_bytes [] ks = omega arith
enough_bytes (point i ∷ es) ks = omega (arith, enough_bytes es (drop 1 ks))
enough_bytes (part p i ∷ es) ks = omega (arith, enough_bytes es (drop 1 ks))

-- of any netlist, with as many nodes as elements
pub nodes-told : (m : Net) (ks : List ℕ) → length ks ≡ length m.elements → read_nodes (net_node_bytes m ks) ≡ ks
unfolding read_nodes net_node_bytes
nodes-told m ks e =
    elements_told m.elements ks m.wires m.pins (length (element_node_bytes m.elements ks ++ (wire_bytes m.wires ++ pin_bytes m.pins))) e
    (omega (arith, enough_bytes m.elements ks, length-append (element_node_bytes m.elements ks) (wire_bytes m.wires ++ pin_bytes m.pins)))
