-- Terms that stand in the memory stay there while nodes and types are added. Assumes nothing.
use Prim.Native.Nat.{ℕ, ◌+◌, ◌*◌, ◌<◌}
use mathlib.Core.Path.{◌≡◌, refl, ◌∙◌}
use mathlib.Core.List.{List}
use native.Mathlib.Omega.{arith}
use lib.ListN.{get_or}
use Rattle.calculus.specs.Terms.{Term}
use Rattle.notation_calculus.specs.Making.{Made}
use Rattle.making_memory.specs.Map.{nodes_at, node_count_at}
use Rattle.made_types.specs.Held.{TypesOnly}
use Rattle.made_nodes.specs.Nodes.{NodeIn, TermIn, leaf, one, two}
use Rattle.made_nodes.specs.Held.{TermHeld, MadeOnly, Workable}
use Rattle.made_nodes.specs.declared.Sub.{Sub}

-- two memories agree up to an offset
abbrev Below : List ℕ → List ℕ → ℕ → Type 0
Below w w' n = (i : ℕ) → i < n → get_or w' i 0 ≡ get_or w i 0

node_kept : {w : List ℕ} {k kind body left right place : ℕ} (w' : List ℕ) → NodeIn w k kind body left right place → Below w w' (nodes_at + 5 * k + 5) → NodeIn w' k kind body left right place
node_kept {w} {k} w' n same = record {
  kind_is = same (nodes_at + 5 * k) (omega arith) ∙ n.kind_is;
  body_is = same (nodes_at + 5 * k + 1) (omega arith) ∙ n.body_is;
  left_is = same (nodes_at + 5 * k + 2) (omega arith) ∙ n.left_is;
  right_is = same (nodes_at + 5 * k + 3) (omega arith) ∙ n.right_is;
  place_is = same (nodes_at + 5 * k + 4) (omega arith) ∙ n.place_is;
}

-- a term needs only the nodes up to its root
pub term_kept : {w : List ℕ} {k : ℕ} {e : Term} {ps : List ℕ} (w' : List ℕ) → TermIn w k e ps → Below w w' (nodes_at + 5 * k + 5) → TermIn w' k e ps
term_kept w' (leaf n s) same = leaf (node_kept w' n same) s
term_kept w' (one n s l t) same = one (node_kept w' n same) s l (term_kept w' t (λ i h. same i (omega arith)))
term_kept w' (two n s l r t u) same = two (node_kept w' n same) s l r (term_kept w' t (λ i h. same i (omega arith))) (term_kept w' u (λ i h. same i (omega arith)))

pub held_on : (w w' : List ℕ) (s : Sub) (m : Made) → TermHeld w s m → MadeOnly w w' → TermHeld w' s m
held_on w w' s m h o =
    let l = h.lower in
    let f = h.few in
    let more = o.more_nodes in
    let k = h.known in
    let types = o.more_types in
    record {
      term = term_kept w' h.term (λ i b. o.nodes i (omega arith) (omega arith));
      lower = omega arith;
      few = f;
      type = h.type;
      known = omega arith;
      deep = h.deep;
    }

-- ---- what is written

pub made-same : (w : List ℕ) → MadeOnly w w
made-same w = record { same = refl; nodes = λ i h l. refl; above = λ i h t n. refl; more_types = omega arith; few_types = λ h. h; more_nodes = omega arith }

pub made_on : (u v w : List ℕ) → MadeOnly u v → MadeOnly v w → MadeOnly u w
made_on u v w a b =
    let t = a.more_types in
    let t' = b.more_types in
    let n = a.more_nodes in
    let n' = b.more_nodes in
    record {
      same = b.same ∙ a.same;
      nodes = λ i h l. b.nodes i h (omega arith) ∙ a.nodes i h l;
      above = λ i h x y. b.above i h x y ∙ a.above i h x y;
      more_types = omega arith;
      few_types = λ h. b.few_types (a.few_types h);
      more_nodes = omega arith;
    }

-- where only types are written
pub made-types : (w w' : List ℕ) → TypesOnly w w' → MadeOnly w w'
made-types w w' o = record {
  same = o.same;
  nodes = λ i h l. o.below i h;
  above = λ i h t n. o.above i h t;
  more_types = o.more;
  few_types = o.few;
  more_nodes = omega (arith, o.above node_count_at (omega arith) (λ e. omega arith));
}

pub workable_on : (w w' : List ℕ) → Workable w → MadeOnly w w' → Workable w'
workable_on w w' W o = let r = W.room in let l = o.same in record { room = omega arith; few = o.few_types W.few }
