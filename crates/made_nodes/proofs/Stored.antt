-- A node that is stored behind the others. Assumes nothing.
use Prim.Native.Nat.{ℕ, ◌+◌, ◌*◌, ◌<◌, ◌≤◌}
use mathlib.Core.Path.{◌≡◌, sym, ap, ◌∙◌}
use mathlib.Core.List.{List, [], ◌∷◌}
use native.Mathlib.Omega.{arith}
use lib.ListN.{length, get_or, set, length-set}
use lib.Seq.{sets, length-sets, get_or-set_same, get_or-set_other}
use Rattle.laws.proofs.Regions.{sets-at, sets-before, sets_outside}
use Rattle.notation_calculus.specs.Making.{State, counted}
use Rattle.making_memory.specs.Map.{nodes_at, types_at, type_count_at, node_count_at, put_count_at, making_size}
use Rattle.made_types.specs.Held.{HoldsState}
use Rattle.made_types.proofs.Keeping.{types-kept}
use Rattle.made_nodes.specs.Nodes.{NodeIn}
use Rattle.made_nodes.specs.Held.{MadeOnly}
use Rattle.made_nodes.specs.declared.Node.{Node}

abbrev pub numbers_of_node : Node → List ℕ
numbers_of_node n = n.kind ∷ n.body ∷ n.left ∷ n.right ∷ n.place ∷ []

-- the memory after a node's five numbers and the count
abbrev pub with_node : List ℕ → ℕ → Node → List ℕ
with_node w k n = set (sets w (nodes_at + 5 * k) (n.kind ∷ n.body ∷ n.left ∷ n.right ∷ n.place ∷ [])) node_count_at (k + 1)

module _ (w : List ℕ) (k : ℕ) (n : Node) (room : making_size ≤ length w) (few : k < 2048) where
  other : (i : ℕ) → (i ≡ node_count_at → ⊥) → get_or (with_node w k n) i 0 ≡ get_or (sets w (nodes_at + 5 * k) (numbers_of_node n)) i 0
  other i d = get_or-set_other (sets w (nodes_at + 5 * k) (numbers_of_node n)) node_count_at i (k + 1) 0 d

  pub node-length : length (with_node w k n) ≡ length w
  node-length = length-set (sets w (nodes_at + 5 * k) (numbers_of_node n)) node_count_at (k + 1) ∙ length-sets w (nodes_at + 5 * k) (numbers_of_node n)

  pub node-count : get_or (with_node w k n) node_count_at 0 ≡ k + 1
  node-count = get_or-set_same (sets w (nodes_at + 5 * k) (numbers_of_node n)) node_count_at (k + 1) 0 (rw length-sets (omega arith))

  node-number : (j : ℕ) → j < 5 → get_or (with_node w k n) (nodes_at + 5 * k + j) 0 ≡ get_or (numbers_of_node n) j 0
  node-number j h = other (nodes_at + 5 * k + j) (λ e. omega arith) ∙ sets-at (numbers_of_node n) w (nodes_at + 5 * k) j (omega arith) h

  pub node-below : (i : ℕ) → i < nodes_at + 5 * k → get_or (with_node w k n) i 0 ≡ get_or w i 0
  node-below i h = other i (λ e. omega arith) ∙ sets-before (numbers_of_node n) w (nodes_at + 5 * k) i 0 h

  pub node-above : (i : ℕ) → types_at ≤ i → (i ≡ node_count_at → ⊥) → get_or (with_node w k n) i 0 ≡ get_or w i 0
  node-above i h d = other i d ∙ sets_outside (numbers_of_node n) w (nodes_at + 5 * k) i 0 (λ l. omega arith) (omega arith)

  pub node_in : NodeIn (with_node w k n) k n.kind n.body n.left n.right n.place
  node_in =
      let z : nodes_at + 5 * k + 0 ≡ nodes_at + 5 * k = omega arith in
      record {
        kind_is = ap (λ (i : ℕ). get_or (with_node w k n) i 0) (sym z) ∙ node-number 0 (omega arith);
        body_is = node-number 1 (omega arith);
        left_is = node-number 2 (omega arith);
        right_is = node-number 3 (omega arith);
        place_is = node-number 4 (omega arith);
      }

  pub node_only : get_or w node_count_at 0 ≡ k → MadeOnly w (with_node w k n)
  node_only e =
      let t = node-above type_count_at (omega arith) (λ d. omega arith) in
      record {
        same = node-length;
        nodes = λ i h l. node-below i (omega arith);
        above = λ i h x y. node-above i (omega arith) y;
        more_types = omega arith;
        few_types = λ h. omega arith;
        more_nodes = omega (arith, node-count);
      }

  pub node_state : (σ : State) → HoldsState w σ → σ.nodes ≡ k → HoldsState (with_node w k n) (counted σ)
  node_state σ H e = record {
    types = types-kept w (with_node w k n) σ.table H.types node-length (λ i h l. node-above i h (λ d. omega arith)) (node-above type_count_at (omega arith) (λ d. omega arith));
    nodes = node-count ∙ omega arith;
    few = omega arith;
    puts = node-above put_count_at (omega arith) (λ d. omega arith) ∙ H.puts;
  }
