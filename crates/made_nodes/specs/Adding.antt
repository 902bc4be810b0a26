-- What the functions that make nodes answer: in each record, whatever state and terms the memory held, the answer is that of the
-- definition. Assumes nothing.
use Rattle.std.specs.Prelude.{ℕ, ◌<◌, List, [], Result, ◌++◌, length, get_or}
use Rattle.answers.specs.declared.Refusal.{Refusal}
use Rattle.calculus.specs.Terms.{Term}
use Rattle.notation_calculus.specs.Making.{State, Made, node, over}
use Rattle.making_memory.specs.Map.{node_count_at}
use Rattle.made_types.specs.Held.{HoldsState}
use Rattle.made_nodes.specs.Nodes.{NoSubterm, OneSubterm, TwoSubterms, TermIn}
use Rattle.made_nodes.specs.Held.{TermHeld, MadeIn, SmallMade, MadeOnly}
use Rattle.made_nodes.specs.declared.Node.{Node}
use Rattle.made_nodes.specs.declared.Sub.{Sub}

-- a node to be is the root of a term over what the memory holds, whose subterms have these places
pub data NodeOver (w : List ℕ) (n : Node) : Term → List ℕ → Type 0 where
  no_sub : {e : Term} → NoSubterm n.kind n.body n.left e → NodeOver w n e []
  one_sub : {a e : Term} {ps : List ℕ} → OneSubterm n.kind n.body a e → n.left < get_or w node_count_at 0 → n.left < 2048 → TermIn w n.left a ps → NodeOver w n e ps
  two_subs : {a b e : Term} {ps qs : List ℕ} → TwoSubterms n.kind n.body a b e → n.left < get_or w node_count_at 0 → n.left < 2048 → n.right < get_or w node_count_at 0 → n.right < 2048 → TermIn w n.left a ps → TermIn w n.right b qs → NodeOver w n e (ps ++ qs)

pub record NodeSays (w : List ℕ) (n : Node) (ty below : ℕ) (r : Result Sub Refusal) (w' : List ℕ) : Type 0 where
  pub only : MadeOnly w w'
  pub small : ty < 256 → SmallMade r
  pub says : (σ : State) (e : Term) (ps : List ℕ) → HoldsState w σ → ty < length σ.table → NodeOver w n e ps → MadeIn w' r (node n.place e ty below ps σ)

-- over one term
pub record UnderSays (w : List ℕ) (kind body place ty : ℕ) (e : Sub) (r : Result Sub Refusal) (w' : List ℕ) : Type 0 where
  pub only : MadeOnly w w'
  pub small : ty < 256 → SmallMade r
  pub says : (σ : State) (m : Made) (f : Term) → HoldsState w σ → TermHeld w e m → ty < length σ.table → OneSubterm kind body m.term f → MadeIn w' r (node place f ty m.deep m.places σ)

-- over two
pub record OverSays (w : List ℕ) (kind body place ty : ℕ) (a b : Sub) (r : Result Sub Refusal) (w' : List ℕ) : Type 0 where
  pub only : MadeOnly w w'
  pub small : ty < 256 → SmallMade r
  pub says :
      (σ : State) (m n : Made) (build : Term → Term → Term) → HoldsState w σ → TermHeld w a m → TermHeld w b n → ty < length σ.table
      → TwoSubterms kind body m.term n.term (build m.term n.term) → MadeIn w' r (over place build ty m n σ)
