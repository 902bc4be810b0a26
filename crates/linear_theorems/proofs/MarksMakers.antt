-- The parts of a netlist were made by the constants of its term in record order, as document 02, L6, names their nodes; so the marks of a
-- sheet's constants are the nodes that made its parts: "parts matched by the constant that made them" (L13). Assumes nothing.
use Prim.Native.Nat.{ℕ, ◌+◌, ◌*◌}
use mathlib.Core.Path.{◌≡◌, refl, sym, ap, ap₂, ◌∙◌}
use mathlib.Core.Bool.{Bool, true, false, cond}
use mathlib.Core.List.{List, [], ◌∷◌, ◌++◌, append_assoc, append-nil}
use lib.ListN.{length, drop, replicate}
use Rattle.calculus.specs.Answer.{good}
use Rattle.calculus.proofs.Answers.{good-inj}
use Rattle.calculus.specs.Types.{Ty, size, Table, tree}
use Rattle.calculus.specs.Terms.{first, nodes}
use Rattle.calculus.specs.Read.{Sheet, read_sheet}
use Rattle.calculus.specs.Net.{Element, point, part, Net, turns, points, Bound, left_of, binder, first_half, second_half, make}
use Rattle.calculus.specs.Lean.{kept, keep, lean}
use Rattle.calculus.specs.Makers.{makers, makers_in, makers_of, maker, keep_makers, lean_makers}
use Rattle.calculus.specs.Translate.{full}
use Rattle.circuit_theorems.proofs.Drivers.{turns-size}
use Rattle.circuit_theorems.proofs.Main.{AcceptedAs, accepts}
use Rattle.linear_theorems.specs.Marked.{Marked, mvar, mlvar, mfun, mapp, mlfun, mlapp, mpair, mproj, mfix, mcon, plain, marks, constant_nodes, ByNode, part_makers}
use Rattle.linear_theorems.specs.Harmless.{Rewritten}
use Rattle.linear_theorems.proofs.Main.{limits, after_read}

-- ---- of a term, before other elements and their makers

points-made : (ts : List Bool) (n k : ℕ) (fs : List Element) (js : List ℕ) → part_makers (points ts n ++ fs) (replicate (length ts) k ++ js) ≡ part_makers fs js
points-made [] n k fs js = refl
points-made (b ∷ ts) n k fs js = points-made ts (n + 2) k fs js

module _ (Θ : Table) where
  -- a binder of type τ before a term
  bound-made : (τ : Ty) (n k : ℕ) (es fs : List Element) (ks js xs : List ℕ) → part_makers (es ++ fs) (ks ++ js) ≡ xs
      → part_makers ((points (turns false τ) n ++ es) ++ fs) ((replicate (size τ) k ++ ks) ++ js) ≡ xs
  bound-made τ n k es fs ks js xs h =
      ap₂ part_makers (append_assoc (points (turns false τ) n) es fs) (append_assoc (replicate (size τ) k) ks js)
      ∙ ap (λ (c : ℕ). part_makers (points (turns false τ) n ++ (es ++ fs)) (replicate c k ++ (ks ++ js))) (sym (turns-size false τ))
      ∙ points-made (turns false τ) n k (es ++ fs) (ks ++ js) ∙ h

  -- two terms, one behind the other
  two_made : (es ds fs : List Element) (ks hs js xs ys : List ℕ) → part_makers (es ++ (ds ++ fs)) (ks ++ (hs ++ js)) ≡ xs ++ part_makers (ds ++ fs) (hs ++ js) → part_makers (ds ++ fs) (hs ++ js) ≡ ys ++ part_makers fs js
      → part_makers ((es ++ ds) ++ fs) ((ks ++ hs) ++ js) ≡ (xs ++ ys) ++ part_makers fs js
  two_made es ds fs ks hs js xs ys p q =
      ap₂ part_makers (append_assoc es ds fs) (append_assoc ks hs js) ∙ p ∙ ap (λ (l : List ℕ). xs ++ l) q ∙ sym (append_assoc xs ys (part_makers fs js))

  term-nodes : (e : Marked) (env : List Bound) (t n : ℕ) (fs : List Element) (js : List ℕ) → part_makers ((make Θ (plain e) env t).elements ++ fs) (makers Θ (plain e) n ++ js) ≡ constant_nodes e n ++ part_makers fs js
  term-nodes (mvar i) env t n fs js = refl
  term-nodes (mlvar i) env t n fs js = refl
  term-nodes (mfun u e) env t n fs js =
      let θ = left_of (tree Θ u) in
      let x = make Θ (plain e) (binder θ t ∷ env) (t + 2 * size θ) in
      bound-made θ t n x.elements fs (makers Θ (plain e) (n + 1)) js (constant_nodes e (n + 1) ++ part_makers fs js) (term-nodes e (binder θ t ∷ env) (t + 2 * size θ) (n + 1) fs js)
  term-nodes (mapp f a) env t n fs js =
      let x = make Θ (plain f) env t in
      let k = n + 1 + nodes (plain f) in
      let y = make Θ (plain a) env x.next in
      two_made x.elements y.elements fs (makers Θ (plain f) (n + 1)) (makers Θ (plain a) k) js (constant_nodes f (n + 1)) (constant_nodes a k)
      (term-nodes f env t (n + 1) (y.elements ++ fs) (makers Θ (plain a) k ++ js)) (term-nodes a env x.next k fs js)
  term-nodes (mlfun u e) env t n fs js =
      let κ = left_of (tree Θ u) in
      let x = make Θ (plain e) (binder κ t ∷ env) (t + 2 * size κ) in
      bound-made κ t n x.elements fs (makers Θ (plain e) (n + 1)) js (constant_nodes e (n + 1) ++ part_makers fs js) (term-nodes e (binder κ t ∷ env) (t + 2 * size κ) (n + 1) fs js)
  term-nodes (mlapp f a) env t n fs js =
      let x = make Θ (plain f) env t in
      let k = n + 1 + nodes (plain f) in
      let y = make Θ (plain a) env x.next in
      two_made x.elements y.elements fs (makers Θ (plain f) (n + 1)) (makers Θ (plain a) k) js (constant_nodes f (n + 1)) (constant_nodes a k)
      (term-nodes f env t (n + 1) (y.elements ++ fs) (makers Θ (plain a) k ++ js)) (term-nodes a env x.next k fs js)
  term-nodes (mpair u a b) env t n fs js =
      let x = make Θ (plain a) env t in
      let k = n + 1 + nodes (plain a) in
      let y = make Θ (plain b) env x.next in
      two_made x.elements y.elements fs (makers Θ (plain a) (n + 1)) (makers Θ (plain b) k) js (constant_nodes a (n + 1)) (constant_nodes b k)
      (term-nodes a env t (n + 1) (y.elements ++ fs) (makers Θ (plain b) k ++ js)) (term-nodes b env x.next k fs js)
  term-nodes (mproj a e) env t n fs js =
      let x = make Θ (plain a) env t in
      let k = n + 1 + nodes (plain a) in
      let y = make Θ (plain e) (second_half x ∷ first_half x ∷ env) x.next in
      two_made x.elements y.elements fs (makers Θ (plain a) (n + 1)) (makers Θ (plain e) k) js (constant_nodes a (n + 1)) (constant_nodes e k)
      (term-nodes a env t (n + 1) (y.elements ++ fs) (makers Θ (plain e) k ++ js)) (term-nodes e (second_half x ∷ first_half x ∷ env) x.next k fs js)
  term-nodes (mfix u e) env t n fs js =
      let θ = tree Θ u in
      let x = make Θ (plain e) (binder θ t ∷ env) (t + 2 * size θ) in
      bound-made θ t n x.elements fs (makers Θ (plain e) (n + 1)) js (constant_nodes e (n + 1) ++ part_makers fs js) (term-nodes e (binder θ t ∷ env) (t + 2 * size θ) (n + 1) fs js)
  term-nodes (mcon p u k) env t n fs js = refl

  whole-nodes : (e : Marked) → part_makers (make Θ (plain e) [] 0).elements (makers Θ (plain e) 0) ≡ constant_nodes e 0
  whole-nodes e =
      let es = (make Θ (plain e) [] 0).elements in
      let ks = makers Θ (plain e) 0 in
      ap₂ part_makers (sym (append-nil es)) (sym (append-nil ks)) ∙ term-nodes e [] 0 0 [] [] ∙ append-nil (constant_nodes e 0)

-- marks that are node numbers
by_node : (e : Marked) (n : ℕ) → ByNode e n → constant_nodes e n ≡ marks e
by_node (mvar i) n h = refl
by_node (mlvar i) n h = refl
by_node (mfun t e) n h = by_node e (n + 1) h
by_node (mapp f a) n h = ap₂ ◌++◌ (by_node f (n + 1) h.0) (by_node a (n + 1 + nodes (plain f)) h.1)
by_node (mlfun t e) n h = by_node e (n + 1) h
by_node (mlapp f a) n h = ap₂ ◌++◌ (by_node f (n + 1) h.0) (by_node a (n + 1 + nodes (plain f)) h.1)
by_node (mpair t a b) n h = ap₂ ◌++◌ (by_node a (n + 1) h.0) (by_node b (n + 1 + nodes (plain a)) h.1)
by_node (mproj a e) n h = ap₂ ◌++◌ (by_node a (n + 1) h.0) (by_node e (n + 1 + nodes (plain a)) h.1)
by_node (mfix t e) n h = by_node e (n + 1) h
by_node (mcon p t k) n h = ap (λ (x : ℕ). x ∷ []) (sym h)

-- the lean netlist keeps all parts, with their makers
kept-parts : (m : Net) (es : List Element) (ks : List ℕ) → part_makers (keep m es) (keep_makers m es ks) ≡ part_makers es ks
kept-parts m [] ks = refl
kept-parts m (point i ∷ es) ks = by (kept m (point i)) (kept-parts m es (drop 1 ks))
  where
    by : (b : Bool) → part_makers (keep m es) (keep_makers m es (drop 1 ks)) ≡ part_makers es (drop 1 ks)
        → part_makers (cond b (point i ∷ keep m es) (keep m es)) (cond b (maker ks ∷ keep_makers m es (drop 1 ks)) (keep_makers m es (drop 1 ks))) ≡ part_makers es (drop 1 ks)
    by true h = h
    by false h = h
kept-parts m (part p i ∷ es) ks = ap (λ (l : List ℕ). maker ks ∷ l) (kept-parts m es (drop 1 ks))

-- ---- an accepted sheet: its parts were made by its constants, in record order

made-nodes : (s : List ℕ) (m : Net) → full s ≡ good m → (Θ : Table) (e : Marked) → read_sheet s ≡ good (record { edition = first; table = Θ; term = plain e }) → part_makers m.elements (makers_of s) ≡ constant_nodes e 0
unfolding makers_of
made-nodes s m a Θ e h = by (accepts s m a)
  where
    by : AcceptedAs s m → part_makers m.elements (makers_in (read_sheet s)) ≡ constant_nodes e 0
    by p =
        let σ : p.sheet ≡ record { edition = first; table = Θ; term = plain e } = good-inj (sym p.reads ∙ h) in
        let es : m.elements ≡ (make Θ (plain e) [] 0).elements = ap (λ (x : Net). x.elements) (sym p.is) ∙ ap (λ (x : Sheet). (make x.table x.term [] 0).elements) σ in
        ap₂ part_makers es (ap makers_in h) ∙ whole-nodes Θ e

-- ---- every sheet that `harmless` speaks of

module _ {s s' : List ℕ} (r : Rewritten s s') (m : Net) (a : full s ≡ good m) where
  -- the marks are the nodes that made the parts of the full netlist, in their order
  pub marks_are_makers : part_makers m.elements (makers_of s) ≡ marks r.before
  marks_are_makers = made-nodes s m a r.table r.before r.reads ∙ by_node r.before 0 r.marked

  -- .. and of the lean one
  pub marks_are_lean_makers : part_makers (lean m).elements (lean_makers m (makers_of s)) ≡ marks r.before
  unfolding lean
  marks_are_lean_makers = kept-parts m m.elements (makers_of s) ∙ marks_are_makers

  -- with the argument put in, the k-th part was made by the k-th constant too, which has the k-th mark: the nodes have moved, the marks not
  pub makers-after : (net : Net) → full s' ≡ good net → part_makers net.elements (makers_of s') ≡ constant_nodes r.after 0
  makers-after net b =
      let p = accepts s' net b in
      made-nodes s' net b r.table r.after (after_read r m a ((limits r m a).readable.0 (p.sheet, p.reads)))

  pub lean-makers_after : (net : Net) → full s' ≡ good net → part_makers (lean net).elements (lean_makers net (makers_of s')) ≡ constant_nodes r.after 0
  unfolding lean
  lean-makers_after net b = kept-parts net net.elements (makers_of s') ∙ makers-after net b
