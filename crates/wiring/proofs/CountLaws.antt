-- Counting node by node: a term's bytes are its first record's and then its subterms', and so are its terminals. Assumes nothing.
use Prim.Native.Nat.{ℕ, suc, ◌+◌, ◌*◌, ◌-◌, ◌≤◌, ◌<◌}
use mathlib.Core.Path.{◌≡◌, refl, sym, ap, ◌∙◌, subst}
use mathlib.Core.List.{List, [], ◌∷◌, ◌++◌, append_assoc, append-nil}
use native.Mathlib.Omega.{arith}
use lib.ListN.{length, get_or, drop}
use Rattle.calculus.specs.Types.{size, TyRec, Table, rec_at, tree}
use Rattle.calculus.specs.Terms.{Edition, Term, var, lvar, fun, app, lfun, lapp, pair, proj, fix, con, name, nodes}
use Rattle.calculus.specs.Write.{term_bytes}
use Rattle.sheet_theorems.specs.Laid.{Stands, Ranged}
use Rattle.calculus.specs.Net.{left_of, make}
use Rattle.calculus.specs.Record.{All}
use Rattle.records.specs.Record.{node_at}
use Rattle.records.specs.Heads.{node_of}
use Rattle.records.specs.Forms.{rec_in}
use Rattle.records.specs.declared.Node.{Node}
use Rattle.sheet_theorems.proofs.Bytes.{behind}
use Rattle.circuit_theorems.specs.Terminals.{terminal_count}
use Rattle.circuit_theorems.specs.Makers.{own}
use Rattle.circuit_theorems.proofs.Bounds.{next_is, terminals-few}
use Rattle.circuit_theorems.proofs.Lists.{all_append}
use Rattle.records.specs.TypeNumbers.{left_no}
use Rattle.records.proofs.SideLaws.{left_of_lem}
use Rattle.wiring.specs.Sides.{Knows}
use Rattle.records.proofs.Laws.{stands-node}
use Rattle.wiring.specs.Count.{own_in, Counting, row_bytes, row_nodes, row_terminals, RowLeft}

-- ---- one node

abbrev subs : Term → List Term
subs (var i) = []
subs (lvar i) = []
subs (fun t e) = e ∷ []
subs (app f a) = f ∷ a ∷ []
subs (lfun t e) = e ∷ []
subs (lapp f a) = f ∷ a ∷ []
subs (pair t a b) = a ∷ b ∷ []
subs (proj a e) = a ∷ e ∷ []
subs (fix t e) = e ∷ []
subs (con p t) = []
subs (name a e) = a ∷ e ∷ []

abbrev head_bytes : Term → List ℕ
head_bytes (var i) = 0x11 ∷ i ∷ []
head_bytes (lvar i) = 0x12 ∷ i ∷ []
head_bytes (fun t e) = 0x13 ∷ t ∷ []
head_bytes (app f a) = 0x14 ∷ []
head_bytes (lfun t e) = 0x15 ∷ t ∷ []
head_bytes (lapp f a) = 0x16 ∷ []
head_bytes (pair t a b) = 0x17 ∷ t ∷ []
head_bytes (proj a e) = 0x18 ∷ []
head_bytes (fix t e) = 0x19 ∷ t ∷ []
head_bytes (con p t) = 0x1A ∷ p ∷ t ∷ []
head_bytes (name a e) = 0x1B ∷ []

last_one : (p xs : List ℕ) → p ++ xs ≡ p ++ (xs ++ [])
last_one p xs = ap (λ (l : List ℕ). p ++ l) (sym (append-nil xs))

last-two : (p xs ys : List ℕ) → p ++ (xs ++ ys) ≡ p ++ (xs ++ (ys ++ []))
last-two p xs ys = ap (λ (l : List ℕ). p ++ (xs ++ l)) (sym (append-nil ys))

term_split : (e : Term) → term_bytes e ≡ head_bytes e ++ row_bytes (subs e)
term_split (var i) = refl
term_split (lvar i) = refl
term_split (fun t e) = last_one (0x13 ∷ t ∷ []) (term_bytes e)
term_split (app f a) = last-two (0x14 ∷ []) (term_bytes f) (term_bytes a)
term_split (lfun t e) = last_one (0x15 ∷ t ∷ []) (term_bytes e)
term_split (lapp f a) = last-two (0x16 ∷ []) (term_bytes f) (term_bytes a)
term_split (pair t a b) = last-two (0x17 ∷ t ∷ []) (term_bytes a) (term_bytes b)
term_split (proj a e) = last-two (0x18 ∷ []) (term_bytes a) (term_bytes e)
term_split (fix t e) = last_one (0x19 ∷ t ∷ []) (term_bytes e)
term_split (con p t) = refl
term_split (name a e) = last-two (0x1B ∷ []) (term_bytes a) (term_bytes e)

head_next : (e : Term) (at : ℕ) → at + length (head_bytes e) ≡ (node_of e at).next
head_next (var i) at = omega arith
head_next (lvar i) at = omega arith
head_next (fun t e) at = omega arith
head_next (app f a) at = omega arith
head_next (lfun t e) at = omega arith
head_next (lapp f a) at = omega arith
head_next (pair t a b) at = omega arith
head_next (proj a e) at = omega arith
head_next (fix t e) at = omega arith
head_next (con p t) at = omega arith
head_next (name a e) at = omega arith

node-count : (e : Term) → nodes e ≡ suc (row_nodes (subs e))
node-count (var i) = refl
node-count (lvar i) = refl
node-count (fun t e) = omega arith
node-count (app f a) = omega arith
node-count (lfun t e) = omega arith
node-count (lapp f a) = omega arith
node-count (pair t a b) = omega arith
node-count (proj a e) = omega arith
node-count (fix t e) = omega arith
node-count (con p t) = refl
node-count (name a e) = omega arith

own_split : (Θ : Table) (e : Term) → terminal_count Θ e ≡ own Θ e + row_terminals Θ (subs e)
own_split Θ (var i) = refl
own_split Θ (lvar i) = refl
own_split Θ (fun t e) = omega arith
own_split Θ (app f a) = omega arith
own_split Θ (lfun t e) = omega arith
own_split Θ (lapp f a) = omega arith
own_split Θ (pair t a b) = omega arith
own_split Θ (proj a e) = omega arith
own_split Θ (fix t e) = omega arith
own_split Θ (con p t) = omega arith
own_split Θ (name a e) = omega arith

subs_ranged : (E : Edition) (Θ : Table) (e : Term) → Ranged E Θ e → All (Ranged E Θ) (subs e)
subs_ranged E Θ (var i) r = tt
subs_ranged E Θ (lvar i) r = tt
subs_ranged E Θ (fun t e) r = (r.1, tt)
subs_ranged E Θ (app f a) r = (r.0, (r.1, tt))
subs_ranged E Θ (lfun t e) r = (r.1, tt)
subs_ranged E Θ (lapp f a) r = (r.0, (r.1, tt))
subs_ranged E Θ (pair t a b) r = (r.1, (r.2, tt))
subs_ranged E Θ (proj a e) r = (r.0, (r.1, tt))
subs_ranged E Θ (fix t e) r = (r.1, tt)
subs_ranged E Θ (con p t) r = tt
subs_ranged E Θ (name a e) r = (r.1, (r.2, tt))

-- ---- its own terminals, by its record

module _ {s sizes : List ℕ} {Θ : Table} (K : Knows s sizes Θ) where
  left-size : (t : ℕ) → t < length Θ → 2 * get_or sizes (left_no (rec_in s t)) 0 ≡ 2 * size (left_of (tree Θ t))
  left-size t h = ap (λ (k : ℕ). 2 * k) (ap (λ (q : TyRec). get_or sizes (left_no q) 0) (K.records t h) ∙ left_of_lem Θ sizes t (rec_at Θ t) K.sized K.ok h (K.ok.agrees t) (K.ok.earlier t h))

  pub own_is : (E : Edition) (e : Term) (at : ℕ) → Ranged E Θ e → own_in s sizes (node_of e at) ≡ own Θ e
  unfolding own_in
  own_is E (var i) at r = refl
  own_is E (lvar i) at r = refl
  own_is E (fun t e) at r = left-size t r.0
  own_is E (app f a) at r = refl
  own_is E (lfun t e) at r = left-size t r.0
  own_is E (lapp f a) at r = refl
  own_is E (pair t a b) at r = refl
  own_is E (proj a e) at r = refl
  own_is E (fix t e) at r = ap (λ (k : ℕ). 2 * k) (K.sized t r.0)
  own_is E (con p t) at r = refl
  own_is E (name a e) at r = refl

-- ---- a row of terms

bytes-append : (xs ys : List Term) → row_bytes (xs ++ ys) ≡ row_bytes xs ++ row_bytes ys
bytes-append [] ys = refl
bytes-append (e ∷ xs) ys = ap (λ (l : List ℕ). term_bytes e ++ l) (bytes-append xs ys) ∙ sym (append_assoc (term_bytes e) (row_bytes xs) (row_bytes ys))

nodes-append : (xs ys : List Term) → row_nodes (xs ++ ys) ≡ row_nodes xs + row_nodes ys
nodes-append [] ys = omega arith
nodes-append (e ∷ xs) ys = omega (arith, nodes-append xs ys)

terminals-append : (Θ : Table) (xs ys : List Term) → row_terminals Θ (xs ++ ys) ≡ row_terminals Θ xs + row_terminals Θ ys
terminals-append Θ [] ys = omega arith
terminals-append Θ (e ∷ xs) ys = omega (arith, terminals-append Θ xs ys)

-- the first node of a row, and the row behind it
pub record Next (E : Edition) (Θ : Table) (s : List ℕ) (whole : Term) (at left total : ℕ) : Type 0 where
  pub term : Term
  pub stands : Stands s at term
  pub ranged : Ranged E Θ term
  pub few : total + own Θ term ≤ terminal_count Θ whole
  pub then : RowLeft E Θ s whole (node_of term at).next (left - 1) (total + own Θ term)

next_of : (E : Edition) (Θ : Table) (s : List ℕ) (whole : Term) (at left total : ℕ) (row : List Term) (rest : List ℕ) → drop at s ≡ row_bytes row ++ rest → All (Ranged E Θ) row → left ≡ row_nodes row
    → total + row_terminals Θ row ≡ terminal_count Θ whole → 0 < left → Next E Θ s whole at left total
next_of E Θ s whole at left total [] rest h r c u p = absurd (omega arith)
next_of E Θ s whole at left total (e ∷ es) rest h r c u p =
    let h₁ : drop at s ≡ term_bytes e ++ (row_bytes es ++ rest) = h ∙ append_assoc (term_bytes e) (row_bytes es) rest in
    let h₂ : drop at s ≡ head_bytes e ++ (row_bytes (subs e ++ es) ++ rest) =
    h₁ ∙ ap (λ (l : List ℕ). l ++ (row_bytes es ++ rest)) (term_split e) ∙ append_assoc (head_bytes e) (row_bytes (subs e)) (row_bytes es ++ rest)
    ∙ ap (λ (l : List ℕ). head_bytes e ++ l) (sym (append_assoc (row_bytes (subs e)) (row_bytes es) rest) ∙ ap (λ (l : List ℕ). l ++ rest) (sym (bytes-append (subs e) es))) in
    let n = node-count e in
    let o = own_split Θ e in
    record {
      term = e;
      stands = record { rest = row_bytes es ++ rest; here = h₁ };
      ranged = r.0;
      few = omega arith;
      then = record {
        row = subs e ++ es;
        rest = rest;
        here = subst (λ (k : ℕ). drop k s ≡ row_bytes (subs e ++ es) ++ rest) (head_next e at) (behind s (head_bytes e) (row_bytes (subs e ++ es) ++ rest) at h₂);
        ranged = all_append (Ranged E Θ) (subs e) es (subs_ranged E Θ e r.0) r.1;
        count = omega (arith, nodes-append (subs e) es);
        sum = omega (arith, terminals-append Θ (subs e) es);
      };
    }

end_of : (Θ : Table) (whole : Term) (row : List Term) (total : ℕ) → 0 ≡ row_nodes row → total + row_terminals Θ row ≡ terminal_count Θ whole → total ≡ terminal_count Θ whole
end_of Θ whole [] total c u = omega arith
end_of Θ whole (e ∷ es) total c u = absurd (omega (arith, node-count e))

module _ {s sizes : List ℕ} {from count : ℕ} (q : Counting s sizes from count) where
  pub row-start : RowLeft q.edition q.table s q.term from count 0
  row-start = record {
    row = q.term ∷ [];
    rest = q.stands.rest;
    here = q.stands.here ∙ ap (λ (l : List ℕ). l ++ q.stands.rest) (sym (append-nil (term_bytes q.term)));
    ranged = (q.ranged, tt);
    count = omega (arith, q.nodes_are);
    sum = omega arith;
  }

  pub row-few : terminal_count q.table q.term ≤ 524288
  row-few = omega (arith, terminals-few q.table q.term q.knows.ok.small, q.nodes_are, q.few)

  module _ {at left total : ℕ} (R : RowLeft q.edition q.table s q.term at left total) where
    pub row_next : 0 < left → Next q.edition q.table s q.term at left total
    row_next h = next_of q.edition q.table s q.term at left total R.row R.rest R.here R.ranged R.count R.sum h

    pub row-end : left ≡ 0 → total ≡ (make q.table q.term [] 0).next
    row-end e = end_of q.table q.term R.row total (sym e ∙ R.count) R.sum ∙ omega (arith, next_is q.table q.term [] 0)

    module _ (h : 0 < left) {node : Node} (e : node ≡ node_at s at) where
      row_is : node ≡ node_of (row_next h).term at
      row_is = e ∙ stands-node s at (row_next h).term (row_next h).stands

      row-own : own_in s sizes node ≡ own q.table (row_next h).term
      row-own = ap (own_in s sizes) row_is ∙ own_is q.knows q.edition (row_next h).term at (row_next h).ranged

      pub row_room : total + own_in s sizes node ≤ 524288
      row_room = omega (arith, row-few, (row_next h).few, row-own)

      pub row-then : RowLeft q.edition q.table s q.term node.next (left - 1) (total + own_in s sizes node)
      row-then = rw (row-own, ap (λ (x : Node). x.next) row_is) (row_next h).then
