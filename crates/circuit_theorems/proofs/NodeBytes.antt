-- Dropping the node numbers gives the plain bytes, and how long the bytes with nodes are (document 02, L6). Assumes nothing.
use Prim.Native.Nat.{ℕ, ◌+◌, ◌*◌, ◌≤◌}
use mathlib.Core.Path.{◌≡◌, refl, ap, ◌∙◌}
use mathlib.Core.Bool.{Bool, true, false}
use mathlib.Core.List.{List, [], ◌∷◌, ◌++◌}
use native.Mathlib.Omega.{arith}
use lib.ListN.{length, drop, length-append}
use Rattle.calculus.specs.Answer.{good}
use Rattle.calculus.specs.Net.{Interface, Element, point, part, Wire, Net, element_bytes, wire_bytes, pin_bytes, net_bytes}
use Rattle.calculus.specs.Lean.{lean}
use Rattle.calculus.specs.Makers.{element_node_bytes, net_node_bytes, written, dropping, drop_nodes}
use Rattle.calculus.specs.Translate.{full}
use Rattle.circuit_theorems.specs.Formed.{Tiled}
use Rattle.circuit_theorems.proofs.Terminals.{tiled-rising}
use Rattle.circuit_theorems.proofs.Counts.{elements_few}
use Rattle.circuit_theorems.proofs.LeanLaws.{lean-elements_few}
use Rattle.circuit_theorems.proofs.Main.{formed}
use Rattle.circuit_theorems.proofs.Bounds.{length_bound, lean_shorter}

-- ---- dropping the node numbers

dropping_elements : (es : List Element) (ks rest : List ℕ) → dropping 0 0 (element_node_bytes es ks ++ rest) ≡ element_bytes es ++ dropping 0 0 rest
dropping_elements [] ks rest = refl
dropping_elements (point i ∷ es) ks rest = rw (dropping_elements es (drop 1 ks) rest)
dropping_elements (part p i ∷ es) ks rest = rw (dropping_elements es (drop 1 ks) rest)

dropping_wires : (ws : List Wire) (rest : List ℕ) → dropping 0 0 (wire_bytes ws ++ rest) ≡ wire_bytes ws ++ dropping 0 0 rest
dropping_wires [] rest = refl
dropping_wires (w ∷ ws) rest = rw (dropping_wires ws rest)

dropping_pins : (ps : Interface) → dropping 0 0 (pin_bytes ps) ≡ pin_bytes ps
dropping_pins [] = refl
dropping_pins (p ∷ ps) = rw (dropping_pins ps)

-- of any netlist, with any nodes
pub nodes-dropped : (m : Net) (ks : List ℕ) → drop_nodes (net_node_bytes m ks) ≡ net_bytes m
unfolding drop_nodes net_node_bytes net_bytes
nodes-dropped m ks =
    dropping_elements m.elements ks (wire_bytes m.wires ++ pin_bytes m.pins)
    ∙ ap (λ (x : List ℕ). element_bytes m.elements ++ x)
    (dropping_wires m.wires (pin_bytes m.pins) ∙ ap (λ (x : List ℕ). wire_bytes m.wires ++ x) (dropping_pins m.pins))

-- plain bytes stay as they are
staying_elements : (es : List Element) (rest : List ℕ) → dropping 0 0 (element_bytes es ++ rest) ≡ element_bytes es ++ dropping 0 0 rest
staying_elements [] rest = refl
staying_elements (point i ∷ es) rest = rw (staying_elements es rest)
staying_elements (part p i ∷ es) rest = rw (staying_elements es rest)

plain_stays : (m : Net) → drop_nodes (net_bytes m) ≡ net_bytes m
unfolding drop_nodes net_bytes
plain_stays m =
    staying_elements m.elements (wire_bytes m.wires ++ pin_bytes m.pins)
    ∙ ap (λ (x : List ℕ). element_bytes m.elements ++ x)
    (dropping_wires m.wires (pin_bytes m.pins) ∙ ap (λ (x : List ℕ). wire_bytes m.wires ++ x) (dropping_pins m.pins))

-- so for either way of writing
pub written-dropped : (plain : Bool) (m : Net) (ks : List ℕ) → drop_nodes (written plain m ks) ≡ net_bytes m
written-dropped true m ks = plain_stays m
written-dropped false m ks = nodes-dropped m ks

-- ---- lengths

element_node_bytes_lem : (es : List Element) (ks : List ℕ) → length (element_node_bytes es ks) ≡ length (element_bytes es) + 2 * length es
element_node_bytes_lem [] ks = refl
element_node_bytes_lem (point i ∷ es) ks = omega (arith, element_node_bytes_lem es (drop 1 ks))
element_node_bytes_lem (part p i ∷ es) ks = omega (arith, element_node_bytes_lem es (drop 1 ks))

-- two bytes more for each element
pub node-bytes : (m : Net) (ks : List ℕ) → length (net_node_bytes m ks) ≡ length (net_bytes m) + 2 * length m.elements
unfolding net_node_bytes net_bytes
node-bytes m ks =
    let rest = wire_bytes m.wires ++ pin_bytes m.pins in
    omega (arith, length-append (element_node_bytes m.elements ks) rest, length-append (element_bytes m.elements) rest, element_node_bytes_lem m.elements ks)

module _ (s : List ℕ) (m : Net) (ok : full s ≡ good m) where
  -- at most seven bytes for each terminal and 384
  pub length_bound-nodes : (ks : List ℕ) (terminals : ℕ) → Tiled m.elements 0 terminals → length (net_node_bytes m ks) ≤ 7 * terminals + 384
  length_bound-nodes ks terminals t =
      omega (arith, node-bytes m ks, length_bound s m ok terminals t, elements_few m.elements 0 terminals (tiled-rising m.elements 0 terminals t))

  pub length_enough-nodes : (ks : List ℕ) → length (net_node_bytes m ks) ≤ 57728
  length_enough-nodes ks = let f = formed s m ok in omega (arith, length_bound-nodes ks f.net.end f.tiled, f.few)

  -- the lean netlist is never longer than the full one, with nodes either
  pub lean_shorter-nodes : (js ks : List ℕ) → length (net_node_bytes (lean m) js) ≤ length (net_node_bytes m ks)
  lean_shorter-nodes js ks = omega (arith, node-bytes (lean m) js, node-bytes m ks, lean_shorter s m ok, lean-elements_few m)
