-- Node by node: the makers of the first k nodes' elements, and what node k's record says of its own. Assumes nothing.
use Prim.Native.Nat.{ℕ, ◌+◌, ◌≤◌, ◌<◌}
use mathlib.Core.Path.{◌≡◌, refl, sym, ap, ◌∙◌, subst}
use mathlib.Core.List.{List, [], ◌∷◌, ◌++◌, append-nil}
use native.Mathlib.Omega.{arith}
use native.Mathlib.Numerals.{add-one}
use lib.ListN.{length, get_or, take, drop, replicate, length-append, length-replicate, take-append-drop, replicate-append-replicate}
use lib.Seq.{sets, sets-eq, take-suc, take-length, length-take-le}
use Rattle.laws.proofs.Regions.{sets-append}
use Rattle.calculus.specs.Types.{size, TyRec, Table, rec_at, tree}
use Rattle.calculus.specs.Terms.{Term, var, lvar, fun, app, lfun, lapp, pair, proj, fix, con, name, nodes}
use Rattle.calculus.specs.Net.{left_of}
use Rattle.calculus.specs.Makers.{makers}
use Rattle.sheet_theorems.specs.Laid.{Stands, Ranged, depth}
use Rattle.sheet_theorems.specs.Subterms.{subterms, skip}
use Rattle.sheet_theorems.proofs.StretchHolds.{count-subterms, node-stretch}
use Rattle.sheet_theorems.proofs.SubtermRead.{subterm_limits}
use Rattle.circuit_theorems.proofs.Makers.{own_count, row_makers, row_makers-append, row-makers}
use Rattle.records.specs.Record.{node_at}
use Rattle.records.specs.Heads.{node_of}
use Rattle.records.specs.Forms.{rec_in}
use Rattle.records.specs.declared.Node.{Node}
use Rattle.records.proofs.Laws.{stands-node}
use Rattle.sheet.specs.Nodes.{NodesFrom}
use Rattle.sheet.proofs.StretchLaws.{skip-more}
use Rattle.memory.specs.Map.{makers_at, memory_size}
use Rattle.records.specs.TypeNumbers.{left_no}
use Rattle.records.proofs.SideLaws.{left_of_lem}
use Rattle.makers.specs.Naming.{elements_made, Nameable}

-- ---- a run of one number

pub run_more : (w : List ℕ) (to i x : ℕ) → sets (sets w to (replicate i x)) (to + i) (x ∷ []) ≡ sets w to (replicate (i + 1) x)
run_more w to i x =
    ap (λ (j : ℕ). sets (sets w to (replicate i x)) (to + j) (x ∷ [])) (sym (length-replicate i x))
    ∙ sets-append (replicate i x) (x ∷ []) w to ∙ ap (sets w to) (replicate-append-replicate i 1 x)

-- ---- a run stored at once

pub run-whole : (vs w : List ℕ) (to n : ℕ) → length vs ≡ n → to + n ≤ length w → sets w to vs ≡ take to w ++ vs ++ drop (to + n) w
run-whole vs w to n e h = sets-eq vs w to (omega arith) ∙ ap (λ (k : ℕ). take to w ++ vs ++ drop (to + k) w) e

-- ---- one record's elements

module _ {s sizes w : List ℕ} {from count : ℕ} (q : Nameable s sizes w from count) where
  abbrev Θ : Table
  Θ = q.table

  left-size : (t : ℕ) → t < length Θ → get_or sizes (left_no (rec_in s t)) 0 ≡ size (left_of (tree Θ t))
  left-size t h =
      ap (λ (x : TyRec). get_or sizes (left_no x) 0) (q.records t h) ∙ left_of_lem Θ sizes t (rec_at Θ t) q.sized q.ok h (q.ok.agrees t) (q.ok.earlier t h)

  own_is : (e : Term) (at : ℕ) → Ranged q.edition Θ e → elements_made s sizes (node_of e at) ≡ own_count Θ e
  unfolding elements_made
  own_is (var i) at r = refl
  own_is (lvar i) at r = refl
  own_is (fun t e) at r = left-size t r.0
  own_is (app f a) at r = refl
  own_is (lfun t e) at r = left-size t r.0
  own_is (lapp f a) at r = refl
  own_is (pair t a b) at r = refl
  own_is (proj a e) at r = refl
  own_is (fix t e) at r = q.sized t r.0
  own_is (con p t) at r = refl
  own_is (name a e) at r = refl

  -- ---- node by node

  abbrev us : List Term
  us = subterms q.term

  -- node k
  abbrev node : ℕ → Term
  node k = get_or us k q.term

  -- the makers of the first k nodes' elements
  abbrev pub done : ℕ → List ℕ
  done k = row_makers Θ (take k us) 0

  node-stands : (k : ℕ) → k < count → Stands s (skip s k from) (node k)
  node-stands k h =
      let z = node-stretch s q.term from k q.stands (omega (arith, q.nodes_are)) in
      subst (λ (x : ℕ). Stands s x (node k)) z.start z.stands

  pub nodes-from : NodesFrom s from count
  nodes-from k h = record { term = node k; stands = node-stands k h }

  node-ranged : (k : ℕ) → k < count → Ranged q.edition Θ (node k)
  node-ranged k h =
      (subterm_limits q.edition Θ (depth q.term) (nodes q.term) k q.term
      (record { ranged = q.ranged; deep = omega arith; few = omega arith }) (omega (arith, q.nodes_are))).ranged

  -- what node k's record says
  pub own-here : (k at : ℕ) (r : Node) → k < count → at ≡ skip s k from → r ≡ node_at s at → elements_made s sizes r ≡ own_count Θ (node k)
  own-here k at r h e g =
      ap (elements_made s sizes) (g ∙ ap (node_at s) e ∙ stands-node s (skip s k from) (node k) (node-stands k h)) ∙ own_is (node k) (skip s k from) (node-ranged k h)

  pub done_more : (k : ℕ) → k < count → done (k + 1) ≡ done k ++ replicate (own_count Θ (node k)) k
  done_more k h =
      let lt : k < length us = omega (arith, count-subterms q.term, q.nodes_are) in
      let l : 0 + length (take k us) ≡ k = omega (arith, length-take-le k us (omega arith)) in
      ap (λ (xs : List Term). row_makers Θ xs 0) (ap (λ (j : ℕ). take j us) (add-one k) ∙ take-suc us k q.term lt)
      ∙ row_makers-append Θ (take k us) (node k ∷ []) 0
      ∙ ap (λ (xs : List ℕ). done k ++ xs) (append-nil (replicate (own_count Θ (node k)) (0 + length (take k us))) ∙ ap (replicate (own_count Θ (node k))) l)

  pub done_all : done count ≡ makers Θ q.term 0
  done_all =
      ap (λ (j : ℕ). row_makers Θ (take j us) 0) (q.nodes_are ∙ sym (count-subterms q.term))
      ∙ ap (λ (xs : List Term). row_makers Θ xs 0) (take-length us) ∙ sym (row-makers Θ q.term 0)

  -- there is room for all of them
  pub done-few : (k : ℕ) → length (done k) ≤ 5120
  done-few k =
      let a = ap length (row-makers Θ q.term 0 ∙ ap (λ (xs : List Term). row_makers Θ xs 0) (sym (take-append-drop k us)) ∙ row_makers-append Θ (take k us) (drop k us) 0) in
      omega (arith, a, length-append (done k) (row_makers Θ (drop k us) (0 + length (take k us))), q.elements)

-- the first k nodes' elements are named; `to` is the next maker's place, and `at` where node k's record stands
pub record NamedSoFar (s sizes w₀ : List ℕ) (from count : ℕ) (q : Nameable s sizes w₀ from count) (w : List ℕ) (at to k : ℕ) : Type 0 where
  pub here : at ≡ skip s k from
  pub next : to ≡ makers_at + length (done q k)
  pub stored : w ≡ sets w₀ makers_at (done q k)

pub named_start : {s sizes w : List ℕ} {from count : ℕ} (q : Nameable s sizes w from count) → NamedSoFar s sizes w from count q w from makers_at 0
unfolding skip
named_start q = record { here = refl; next = omega arith; stored = refl }

module _ {s sizes w₀ w : List ℕ} {from count at to k : ℕ} (q : Nameable s sizes w₀ from count) (n : NamedSoFar s sizes w₀ from count q w at to k) (h : k < count) {r : Node} (e : r ≡ node_at s at) where
  own-count : elements_made s sizes r ≡ own_count q.table (get_or (subterms q.term) k q.term)
  own-count = own-here q k at r h n.here e

  length_more : length (done q (k + 1)) ≡ length (done q k) + elements_made s sizes r
  length_more =
      ap length (done_more q k h) ∙ length-append (done q k) _
      ∙ ap (λ (x : ℕ). length (done q k) + x) (length-replicate (own_count q.table (get_or (subterms q.term) k q.term)) k ∙ sym own-count)

  pub named-room : to + elements_made s sizes r ≤ memory_size
  named-room = omega (arith, n.next, length_more, done-few q (k + 1))

  pub named_step : {w₁ : List ℕ} → w₁ ≡ sets w to (replicate (elements_made s sizes r) k)
      → NamedSoFar s sizes w₀ from count q w₁ r.next (to + elements_made s sizes r) (k + 1)
  named_step {w₁} f = record {
    here = skip-more s from count k at (nodes-from q) h n.here e;
    next = omega (arith, n.next, length_more);
    stored = f ∙ rw (n.stored, n.next, own-count) (sets-append (done q k) (replicate (own_count q.table (get_or (subterms q.term) k q.term)) k) w₀ makers_at ∙ ap (sets w₀ makers_at) (sym (done_more q k h)));
  }

pub named_end : {s sizes w₀ w : List ℕ} {from count at to k : ℕ} (q : Nameable s sizes w₀ from count) → NamedSoFar s sizes w₀ from count q w at to k → k ≡ count
    → w ≡ sets w₀ makers_at (makers q.table q.term 0)
named_end {w₀ = w₀} q n e = n.stored ∙ ap (sets w₀ makers_at) (ap (done q) e ∙ done_all q)
