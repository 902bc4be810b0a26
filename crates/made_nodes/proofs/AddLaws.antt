-- Each way out of `add` is the definition's, and so what is made over one term and over two. Assumes nothing.
use Prim.Native.Nat.{ℕ, suc, max, ◌+◌, ◌<◌, ◌≤◌}
use mathlib.Core.Path.{◌≡◌, refl, sym, ap, subst, ◌∙◌}
use mathlib.Core.Bool.{Bool, true, false}
use mathlib.Core.List.{List, ◌∷◌, ◌++◌}
use native.Mathlib.Omega.{arith}
use lib.Dec.{ltb}
use lib.ListN.{length, get_or}
use borrow.Author.Tests.{lt-ltb, le-ltb, le-leb, lt-leb}
use native.Mathlib.Decide.{dec_le}
use Rattle.std.proofs.Common.{Result, Ok, Err}
use Rattle.answers.specs.declared.Reason.{Reason}
use Rattle.answers.specs.declared.Refusal.{Refusal}
use Rattle.answers.specs.Refusals.{refusal_at}
use Rattle.calculus.specs.Answer.{good, refuse}
use Rattle.calculus.specs.Terms.{Term}
use Rattle.notation_calculus.specs.Making.{State, counted, node, larger}
use Rattle.making_memory.specs.Map.{type_count_at, node_count_at, making_size}
use Rattle.made_nodes.specs.Nodes.{TermIn, leaf, one, two}
use Rattle.made_nodes.specs.Held.{MadeIn}
use Rattle.made_nodes.specs.Adding.{NodeOver, no_sub, one_sub, two_subs, NodeSays, UnderSays, OverSays}
use Rattle.made_nodes.specs.declared.Node.{Node}
use Rattle.made_nodes.specs.declared.Sub.{Sub}
use Rattle.made_nodes.proofs.Terms.{term_kept, made-same}
use Rattle.made_nodes.proofs.Stored.{with_node, node_in, node-count, node-below, node_only, node_state, node-above}

-- ---- the definition, way by way

module _ (at : ℕ) (e : Term) (t below : ℕ) (ps : List ℕ) (σ : State) where
  is-full : 2048 ≤ σ.nodes → node at e t below ps σ ≡ refuse 34 at
  unfolding node
  is-full h = rw (le-ltb σ.nodes 2048 h)

  is-deep : 64 ≤ below → node at e t below ps σ ≡ refuse 34 at
  unfolding node
  is-deep h = by (ltb σ.nodes 2048) refl
    where
      by : (b : Bool) → ltb σ.nodes 2048 ≡ b → node at e t below ps σ ≡ refuse 34 at
      by true x = rw (x, le-ltb below 64 h)
      by false x = rw x

  is_made : σ.nodes < 2048 → below < 64 → node at e t below ps σ ≡ good (record { term = e; type = t; deep = suc below; places = at ∷ ps; state = counted σ })
  unfolding node
  is_made h l = rw (lt-ltb σ.nodes 2048 h, lt-ltb below 64 l)

-- ---- the memory

rooted : (w : List ℕ) (k : ℕ) (n : Node) {e : Term} {ps : List ℕ} → making_size ≤ length w → k < 2048 → get_or w node_count_at 0 ≡ k → NodeOver w n e ps → TermIn (with_node w k n) k e (n.place ∷ ps)
rooted w k n room few c (no_sub s) = leaf (node_in w k n room few) s
rooted w k n room few c (one_sub s l f t) = one (node_in w k n room few) s (omega arith) (term_kept (with_node w k n) t (λ i h. node-below w k n room few i (omega arith)))
rooted w k n room few c (two_subs s l f r g t u) =
    two (node_in w k n room few) s (omega arith) (omega arith) (term_kept (with_node w k n) t (λ i h. node-below w k n room few i (omega arith))) (term_kept (with_node w k n) u (λ i h. node-below w k n room few i (omega arith)))

module _ (w : List ℕ) (n : Node) (ty below : ℕ) (room : making_size ≤ length w) where
  pub add_full : 2048 ≤ get_or w node_count_at 0 → NodeSays w n ty below (Err (refusal_at Reason.TextLimit n.place)) w
  add_full h = record {
    only = made-same w;
    small = λ s. tt;
    says = λ σ e ps H t o. rw (is-full n.place e ty below ps σ (omega (arith, H.nodes))) refl;
  }

  pub add_deep : 64 ≤ below → NodeSays w n ty below (Err (refusal_at Reason.TextLimit n.place)) w
  add_deep h = record {
    only = made-same w;
    small = λ s. tt;
    says = λ σ e ps H t o. rw (is-deep n.place e ty below ps σ h) refl;
  }

  pub add_made :
      (k : ℕ) → k ≡ get_or w node_count_at 0 → k < 2048 → below < 64 → NodeSays w n ty below (Ok (record { node = k; ty = ty; deep = below + 1 })) (with_node w k n)
  add_made k c h l = record {
    only = node_only w k n room h (sym c);
    small = λ s. s;
    says = λ σ e ps H t o.
        let v = H.nodes in
        let i = H.types.count in
        let same = node-above w k n room h type_count_at (omega arith) (λ d. omega arith) in
        rw (is_made n.place e ty below ps σ (omega arith) l) (
          node_state w k n room h σ H (omega arith),
          record {
            term = rooted w k n room h (sym c) o;
            lower = omega (arith, node-count w k n room h);
            few = h;
            type = refl;
            known = omega arith;
            deep = omega arith;
          },
        );
  }

-- ---- over one term, and over two

max_larger : (a b : ℕ) → max a b ≡ larger a b
max_larger a b = elim (dec_le a b) [
  | no g ↦ let e : max a b ≡ a = omega arith in rw (lt-leb a b (omega arith)) e
  | yes g ↦ let e : max a b ≡ b = omega arith in rw (le-leb a b g) e
]

pub under_of : (w : List ℕ) (kind body place ty : ℕ) (e : Sub) (r : Result Sub Refusal) (w' : List ℕ) → NodeSays w (record { kind = kind; body = body; left = e.node; right = 0; place = place }) ty e.deep r w' → UnderSays w kind body place ty e r w'
under_of w kind body place ty e r w' N = record {
  only = N.only;
  small = N.small;
  says = λ σ m f H h t s. subst (λ (d : ℕ). MadeIn w' r (node place f ty d m.places σ)) h.deep (N.says σ f m.places H t (one_sub s h.lower h.few h.term));
}

pub over_of :
    (w : List ℕ) (kind body place ty : ℕ) (a b : Sub) (below : ℕ) (r : Result Sub Refusal) (w' : List ℕ) → below ≡ max a.deep b.deep
    → NodeSays w (record { kind = kind; body = body; left = a.node; right = b.node; place = place }) ty below r w' → OverSays w kind body place ty a b r w'
over_of w kind body place ty a b below r w' e N = record {
  only = N.only;
  small = N.small;
  says = λ σ m n build H h g t s.
      let d : below ≡ larger m.deep n.deep = e ∙ max_larger a.deep b.deep ∙ ap (λ (x : ℕ). larger x b.deep) h.deep ∙ ap (λ (x : ℕ). larger m.deep x) g.deep in
      subst (λ (x : ℕ). MadeIn w' r (node place (build m.term n.term) ty x (m.places ++ n.places) σ)) d
      (N.says σ (build m.term n.term) (m.places ++ n.places) H t (two_subs s h.lower h.few g.lower g.few h.term g.term));
}
