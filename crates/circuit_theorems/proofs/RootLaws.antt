-- Laws of the root (document 01, "The lean netlist"), for any netlist: the document's sentences, and that they determine it. Assumes nothing.
use Prim.Native.Nat.{ℕ, zero, suc, ◌+◌, ◌-◌, ◌<◌, ◌≤◌, min}
use mathlib.Core.Path.{◌≡◌, refl, sym, ap, ◌∙◌, subst}
use mathlib.Core.Logic.{◌⊎◌, inl, inr, ⊎_elim}
use mathlib.Core.List.{List, [], ◌∷◌}
use native.Mathlib.Nat.{min-eq_left, min-eq_right, min-le_left, min-le_right, le_of_lt, lt_of_not-le, le_trans, le_antisymm, eq-or-lt_of_le, not-suc-le-zero, le_of_suc-le-suc, le_refl}
use native.Mathlib.Decide.{dec_le}
use native.Mathlib.Omega.{arith}
use lib.Dec.{T}
use lib.ListN.{length}
use Rattle.calculus.specs.Net.{Net}
use Rattle.calculus.specs.Lean.{back, backs, lowest, root}
use Rattle.circuit_theorems.specs.Terminals.{has}
use Rattle.circuit_theorems.proofs.Rings.{point_outs, outs-length, moves_in, backs_add, backs_sub, stay, Round, later, count, rounds}

module _ (m : Net) where
  -- ---- the lowest

  pub lowest-low : (k o low : ℕ) → lowest k m o low ≤ low
  lowest-low zero o low = le_refl low
  lowest-low (suc k) o low = le_trans (lowest-low k (back m o) (min low o)) (min-le_left low o)

  pub lowest_le : (k o low j : ℕ) → j < k → lowest k m o low ≤ backs j m o
  lowest_le zero o low j h = absurd (not-suc-le-zero h)
  lowest_le (suc k) o low zero h = le_trans (lowest-low k (back m o) (min low o)) (min-le_right low o)
  lowest_le (suc k) o low (suc j) h = lowest_le k (back m o) (min low o) j (le_of_suc-le-suc h)

  pub lowest-is : (k o low : ℕ) → (lowest k m o low ≡ low) ⊎ ((j : ℕ) × (j < k) × (lowest k m o low ≡ backs j m o))
  lowest-is zero o low = inl refl
  lowest-is (suc k) o low = ⊎_elim (λ e. here (dec_le low o) e) (λ (x : (j : ℕ) × (j < k) × (lowest k m (back m o) (min low o) ≡ backs j m (back m o))). inr (suc x.0, omega (arith, x.1), x.2)) (lowest-is k (back m o) (min low o))
    where
      here : Dec (low ≤ o) → lowest k m (back m o) (min low o) ≡ min low o → (lowest k m (back m o) (min low o) ≡ low) ⊎ ((j : ℕ) × (j < suc k) × (lowest k m (back m o) (min low o) ≡ backs j m o))
      here (yes h) e = inl (e ∙ min-eq_left h)
      here (no h) e = inr (0, omega arith, e ∙ min-eq_right (le_of_lt (lt_of_not-le h)))

  -- from p, at least one step
  lowest-of : (k p : ℕ) → 1 ≤ k → (j : ℕ) × (j < k) × (lowest k m p p ≡ backs j m p)
  lowest-of k p h = ⊎_elim (λ e. (0, h, e)) (λ x. x) (lowest-is k p p)

  back-first : (c p : ℕ) → 1 ≤ c → backs c m p ≡ backs (c - 1) m (back m p)
  back-first zero p h = absurd (not-suc-le-zero h)
  back-first (suc c) p h = let e : suc c - 1 ≡ c = omega arith in rw e

  lower : (n p j : ℕ) → Round m n p → j < n → lowest n m (back m p) (back m p) ≤ backs j m p
  lower n p zero r h =
      subst (λ (y : ℕ). lowest n m (back m p) (back m p) ≤ y) (sym (back-first r.steps p r.some) ∙ r.same)
      (lowest_le n (back m p) (back m p) (r.steps - 1) (omega (arith, r.some, r.few)))
  lower n p (suc j) r h = lowest_le n (back m p) (back m p) j (omega arith)

  upper : (n p i : ℕ) → Round m n p → i < n → lowest n m p p ≤ backs (suc i) m p
  upper n p i r h = ⊎_elim (λ (e : suc i ≡ n). (subst (λ (y : ℕ). lowest n m p p ≤ y) (ap (backs (n - r.steps) m) (sym r.same) ∙ backs_sub m r.steps n p r.few ∙ ap (λ (k : ℕ). backs k m p) (sym e)) (lowest_le n p p (n - r.steps) (omega (arith, r.some, r.few)))))
      (λ l. lowest_le n p p (suc i) l) (eq-or-lt_of_le h)

  turned : (n p : ℕ) → Round m n p → lowest n m (back m p) (back m p) ≡ lowest n m p p
  turned n p r = meet (lowest-of n (back m p) (omega (arith, r.some, r.few))) (lowest-of n p (omega (arith, r.some, r.few)))
    where
      meet : (i : ℕ) × (i < n) × (lowest n m (back m p) (back m p) ≡ backs i m (back m p)) → (j : ℕ) × (j < n) × (lowest n m p p ≡ backs j m p)
          → lowest n m (back m p) (back m p) ≡ lowest n m p p
      meet (i, hi, ei) (j, hj, ej) =
          le_antisymm (subst (λ (y : ℕ). lowest n m (back m p) (back m p) ≤ y) (sym ej) (lower n p j r hj))
          (subst (λ (y : ℕ). lowest n m p p ≤ y) (sym ei) (upper n p i r hi))

  some_out : (P : List ℕ) (x : ℕ) → T (has P x) → 1 ≤ length P
  some_out [] x t = absurd t
  some_out (y ∷ P) x t = omega arith

  pub backs-back : (k x : ℕ) → backs k m (back m x) ≡ back m (backs k m x)
  backs-back zero x = refl
  backs-back (suc k) x = backs-back k (back m x)

  -- ---- the root

  lowest-stays : (k o : ℕ) → back m o ≡ o → lowest k m o o ≡ o
  lowest-stays k o e = ⊎_elim (λ f. f) (λ (f : (j : ℕ) × (j < k) × (lowest k m o o ≡ backs j m o)). f.2 ∙ stay m f.0 o e) (lowest-is k o o)

  -- an output that stays is its own root
  pub root_stays : (o : ℕ) → back m o ≡ o → root m o ≡ o
  unfolding root
  root_stays o e = subst (λ (y : ℕ). lowest (count m) m y y ≡ o) (sym (stay m (count m) o e)) (lowest-stays (count m) o e)

  -- a netlist without a point: every output stays
  pub still : (o : ℕ) → (back m o ≡ o) ⊎ (1 ≤ count m)
  still o = ⊎_elim (λ e. inl e) (λ t. inr (omega (arith, some_out (point_outs m.elements) o t, outs-length m.elements))) (moves_in m m.elements o)

  -- the root of the output that drives a point is the root of the point's output
  pub root-back : (o : ℕ) → root m (back m o) ≡ root m o
  unfolding root
  root-back o = ⊎_elim (λ e. ap (root m) e) (λ one.
      ap (λ (y : ℕ). lowest (count m) m y y) (backs-back (count m) o)
      ∙ turned (count m) (backs (count m) m o) (rounds m o one)) (still o)

  -- and so on, any number of steps back
  pub root_steps : (k o : ℕ) → root m (backs k m o) ≡ root m o
  root_steps zero o = refl
  root_steps (suc k) o = root_steps k (back m o) ∙ root-back o

  pub lowest-reached : (k p : ℕ) → (j : ℕ) × (lowest k m p p ≡ backs j m p)
  lowest-reached k p = ⊎_elim (λ e. (0, e)) (λ (x : (j : ℕ) × (j < k) × (lowest k m p p ≡ backs j m p)). (x.0, x.2)) (lowest-is k p p)

  -- the root is some steps back, as many as there are points or more
  pub root-reached : (o : ℕ) → (k : ℕ) × (count m ≤ k) × (root m o ≡ backs k m o)
  unfolding root
  root-reached o = let (j, e) = lowest-reached (count m) (backs (count m) m o) in (count m + j, omega arith, e ∙ sym (backs_add m (count m) j o))

  pub root-root : (o : ℕ) → root m (root m o) ≡ root m o
  root-root o = let (k, h, e) = root-reached o in ap (root m) e ∙ root_steps k o

  -- ---- rings

  -- as many steps back as there are points, or more, end where it comes round
  pub ring_reached : (k o : ℕ) → 1 ≤ count m → count m ≤ k → Round m (count m) (backs k m o)
  ring_reached k o one h =
      subst (λ (y : ℕ). Round m (count m) y) (backs_sub m (count m) k o h) (later m (count m) (k - count m) (backs (count m) m o) (rounds m o one))

  -- going round, the lowest stays the same
  ring-turned : (n j o : ℕ) → Round m n o → lowest n m (backs j m o) (backs j m o) ≡ lowest n m o o
  ring-turned n zero o r = refl
  ring-turned n (suc j) o r = ring-turned n j (back m o) (later m n 1 o r) ∙ turned n o r

  -- the lowest is at most every output of the ring
  pub ring_le : (n j o : ℕ) → Round m n o → lowest n m o o ≤ backs j m o
  ring_le n j o r = subst (λ (y : ℕ). y ≤ backs j m o) (ring-turned n j o r) (lowest-low n (backs j m o) (backs j m o))

  -- it does not depend on how often one goes round
  ring-once : (a b o : ℕ) → Round m a o → Round m b o → lowest a m o o ≤ lowest b m o o
  ring-once a b o r s = let (j, h, e) = lowest-of b o (le_trans s.some s.few) in subst (λ (y : ℕ). lowest a m o o ≤ y) (sym e) (ring_le a j o r)

  round : (k o : ℕ) → 1 ≤ k → backs k m o ≡ o → Round m k o
  round k o one e = record { steps = k; some = one; few = le_refl k; same = e }

  -- on a ring the root is the lowest of its outputs
  pub root-lowest : (k o : ℕ) → 1 ≤ k → backs k m o ≡ o → root m o ≡ lowest k m o o
  unfolding root
  root-lowest k o one e = ⊎_elim (λ s. root_stays o s ∙ sym (lowest-stays k o s)) moving (still o)
    where
      moving : 1 ≤ count m → root m o ≡ lowest k m o o
      moving c =
          let r = rounds m o c in
          let s = later m k (count m) o (round k o one e) in
          le_antisymm (ring-once (count m) k (backs (count m) m o) r s) (ring-once k (count m) (backs (count m) m o) s r)
          ∙ ring-turned k (count m) o (round k o one e)

  -- so the root is on the ring, and at most every output of it
  pub root-on_ring : (k o : ℕ) → 1 ≤ k → backs k m o ≡ o → (j : ℕ) × (j < k) × (root m o ≡ backs j m o)
  root-on_ring k o one e = let (j, h, f) = lowest-of k o one in (j, h, root-lowest k o one e ∙ f)

  pub root_le : (k o j : ℕ) → 1 ≤ k → backs k m o ≡ o → root m o ≤ backs j m o
  root_le k o j one e = subst (λ (y : ℕ). y ≤ backs j m o) (sym (root-lowest k o one e)) (ring_le k j o (round k o one e))

  -- an output of the ring that is at most every other one is the root
  pub root-found : (k o j : ℕ) → 1 ≤ k → backs k m o ≡ o → ((i : ℕ) → i < k → backs j m o ≤ backs i m o) → root m o ≡ backs j m o
  root-found k o j one e low =
      let (i, h, f) = root-on_ring k o one e in
      le_antisymm (root_le k o j one e) (subst (λ (y : ℕ). backs j m o ≤ y) (sym f) (low i h))

  -- an output that is its own root is on a ring, or stays
  pub root_ring : (o : ℕ) → root m o ≡ o → (k : ℕ) × (1 ≤ k) × (backs k m o ≡ o)
  root_ring o e = ⊎_elim (λ s. (1, le_refl 1, s)) (λ c. let (k, h, f) = root-reached o in (k, omega arith, sym f ∙ e)) (still o)

  -- ---- these determine it

  -- the document's sentences, on any netlist: an output that stays (a part's, or a point's whose input is a pin) is its own root;
  -- else the root is that of the output that drives the point's input; on a ring it is the lowest
  pub record IsRoot (r : ℕ → ℕ) : Type 0 where
    pub stays : (o : ℕ) → back m o ≡ o → r o ≡ o
    pub goes_on : (o : ℕ) → r o ≡ r (back m o)
    pub rings : (k o : ℕ) → 1 ≤ k → backs k m o ≡ o → r o ≡ lowest k m o o

  pub root_is : IsRoot (root m)
  root_is = record { stays = root_stays; goes_on = λ o. sym (root-back o); rings = root-lowest }

  -- on outputs of which P holds, and holds on going back: what goes on to the next, and is the lowest on a ring, is the root
  module _ (r : ℕ → ℕ) (P : ℕ → Type 0) (on : (o : ℕ) → P o → P (back m o)) (goes_on : (o : ℕ) → P o → r o ≡ r (back m o))
      (rings : (k o : ℕ) → P o → 1 ≤ k → backs k m o ≡ o → r o ≡ lowest k m o o) where
    far : (k o : ℕ) → P o → P (backs k m o)
    far zero o h = h
    far (suc k) o h = far k (back m o) (on o h)

    goes-far : (k o : ℕ) → P o → r o ≡ r (backs k m o)
    goes-far zero o h = refl
    goes-far (suc k) o h = goes_on o h ∙ goes-far k (back m o) (on o h)

    pub only-root : (o : ℕ) → P o → r o ≡ root m o
    only-root o h = ⊎_elim (λ e. rings 1 o h (le_refl 1) e ∙ sym (root-lowest 1 o (le_refl 1) e)) moving (still o)
      where
        moving : 1 ≤ count m → r o ≡ root m o
        moving c =
            let q = rounds m o c in
            goes-far (count m) o h ∙ rings q.steps _ (far (count m) o h) q.some q.same ∙ sym (root-lowest q.steps _ q.some q.same) ∙ root_steps (count m) o

  pub root_only : (r : ℕ → ℕ) → IsRoot r → (o : ℕ) → r o ≡ root m o
  root_only r i o = only-root r (λ _. Unit {0}) (λ _ _. tt) (λ x _. i.goes_on x) (λ k x _. i.rings k x) o tt
