-- An element has one maker: what two nodes make differs. So the node that a lean element names is its full one's (document 02, L6). Assumes
-- nothing.
use Prim.Native.Nat.{ℕ, zero, suc, ◌+◌, ◌*◌, ◌<◌, ◌≤◌}
use mathlib.Core.Path.{◌≡◌, sym, subst}
use mathlib.Core.List.{List, [], ◌∷◌}
use native.Mathlib.Omega.{arith}
use native.Mathlib.Decide.{dec_le}
use lib.ListN.{get_or}
use Rattle.calculus.specs.Answer.{good}
use Rattle.calculus.specs.Types.{Table}
use Rattle.calculus.specs.Terms.{Term, var, lvar, fun, app, lfun, lapp, pair, proj, fix, con, name}
use Rattle.calculus.specs.Read.{Sheet, read_sheet}
use Rattle.calculus.specs.Net.{Element, point, part, Net}
use Rattle.calculus.specs.Lean.{lean}
use Rattle.calculus.specs.Makers.{makers_of, lean_makers}
use Rattle.calculus.specs.Translate.{full}
use Rattle.sheet_theorems.specs.Subterms.{subterms}
use Rattle.circuit_theorems.specs.Makers.{bound_bits, own, start_of, Makes, MadeAt, Each}
use Rattle.circuit_theorems.proofs.Makers.{node_made, node_made_lean}

abbrev begins : Element → ℕ
begins (point i) = i
begins (part p i) = i

module _ (Θ : Table) where
  -- two terminals for each point
  bound-own : (x : Term) → 2 * bound_bits Θ x ≤ own Θ x
  bound-own (var i) = omega arith
  bound-own (lvar i) = omega arith
  bound-own (fun t e) = omega arith
  bound-own (app f a) = omega arith
  bound-own (lfun t e) = omega arith
  bound-own (lapp f a) = omega arith
  bound-own (pair t a b) = omega arith
  bound-own (proj a e) = omega arith
  bound-own (fix t e) = omega arith
  bound-own (con p t) = omega arith
  bound-own (name a e) = omega arith

  -- what a node makes begins at a terminal that the node takes
  makes-own : (x : Term) (n : ℕ) (el : Element) → Makes Θ x n el → (n ≤ begins el) × (begins el < n + own Θ x)
  makes-own x n (point i) (j, h, e) = (omega arith, omega (arith, bound-own x))
  makes-own x n (part p i) (t, c, e) = (omega arith, subst (λ (y : Term). i < n + own Θ y) (sym c) (omega arith))

  -- a later node's terminals lie above an earlier one's
  start-above : (xs : List Term) (j k : ℕ) → j < k → start_of Θ xs j + own Θ (get_or xs j (var 0)) ≤ start_of Θ xs k
  start-above [] j k h = omega arith
  start-above (x ∷ xs) j zero h = absurd (omega arith)
  start-above (x ∷ xs) zero (suc k) h = omega arith
  start-above (x ∷ xs) (suc j) (suc k) h = omega (arith, start-above xs j k (omega arith))

  not-later : (xs : List Term) (el : Element) (j k : ℕ) → Makes Θ (get_or xs j (var 0)) (start_of Θ xs j) el → Makes Θ (get_or xs k (var 0)) (start_of Θ xs k) el → j < k → ⊥
  not-later xs el j k a b h =
      let p = makes-own (get_or xs j (var 0)) (start_of Θ xs j) el a in
      let q = makes-own (get_or xs k (var 0)) (start_of Θ xs k) el b in
      omega (arith, p.1, q.0, start-above xs j k h)

-- two nodes of a term that make one element are the same
pub maker_only : (Θ : Table) (e : Term) (x : Element) (j k : ℕ) → MadeAt Θ e x j → MadeAt Θ e x k → j ≡ k
maker_only Θ e x j k a b =
    elim (dec_le (suc j) k) [
      | yes l ↦ absurd (not-later Θ (subterms e) x j k a b l)
      | no l ↦ elim (dec_le (suc k) j) [ yes g ↦ absurd (not-later Θ (subterms e) x k j b a g) | no g ↦ omega arith ]
    ]

-- ---- every accepted sheet

each_map : (P Q : Element → ℕ → Type 0) (f : (x : Element) (k : ℕ) → P x k → Q x k) (xs : List Element) (ks : List ℕ) → Each P xs ks → Each Q xs ks
each_map P Q f [] [] a = tt
each_map P Q f [] (k ∷ ks) a = absurd a
each_map P Q f (x ∷ xs) [] a = absurd a
each_map P Q f (x ∷ xs) (k ∷ ks) a = (f x k a.0, each_map P Q f xs ks a.1)

module _ (s : List ℕ) (m : Net) (ok : full s ≡ good m) (σ : Sheet) (reads : read_sheet s ≡ good σ) where
  -- the one node that made the element
  abbrev OnlyMaker : Element → ℕ → Type 0
  OnlyMaker x k = (j : ℕ) → MadeAt σ.table σ.term x j → j ≡ k

  only : (x : Element) (k : ℕ) → MadeAt σ.table σ.term x k → OnlyMaker x k
  only x k a j b = maker_only σ.table σ.term x j k b a

  -- no other node than the one that is named made the element, in the full netlist and in the lean one: a lean element names its full one's
  pub node_only : Each (λ x k. (j : ℕ) → MadeAt σ.table σ.term x j → j ≡ k) m.elements (makers_of s)
  node_only = each_map (MadeAt σ.table σ.term) OnlyMaker only m.elements (makers_of s) (node_made s m ok σ reads)

  pub node_only-lean : Each (λ x k. (j : ℕ) → MadeAt σ.table σ.term x j → j ≡ k) (lean m).elements (lean_makers m (makers_of s))
  node_only-lean = each_map (MadeAt σ.table σ.term) OnlyMaker only (lean m).elements (lean_makers m (makers_of s)) (node_made_lean s m ok σ reads)
