-- Going back from an output: where it is settled, or comes round. Assumes nothing.
use Prim.Native.Nat.{ℕ, zero, suc, ◌+◌, ◌-◌, ◌*◌, ◌≤◌, ◌<◌, min}
use mathlib.Core.Path.{◌≡◌, refl, sym, ap, ◌∙◌, subst}
use mathlib.Core.Logic.{⊎_elim}
use mathlib.Core.List.{List, [], ◌∷◌}
use native.Mathlib.Omega.{arith}
use native.Mathlib.Numerals.{add-one}
use native.Mathlib.Nat.{le_antisymm, le_refl, min-eq_left}
use native.Mathlib.Decide.{ℕ_discrete}
use lib.Dec.{T}
use lib.ListN.{get_or}
use Rattle.calculus.specs.Terms.{part_at}
use Rattle.calculus.specs.Net.{Element, point, part, Net}
use Rattle.calculus.specs.Lean.{point_count, back, backs, lowest, root}
use Rattle.calculus.specs.Inputs.{is_out}
use Rattle.circuit_theorems.specs.Formed.{Rising}
use Rattle.circuit_theorems.proofs.Rings.{Round, count, backs_add}
use Rattle.circuit_theorems.proofs.RootLaws.{lowest-reached, backs-back, still, root_steps, ring_reached, ring_le, root-lowest}
use Rattle.memory.specs.Map.{net_in}
use Rattle.lean.specs.Table.{entry, Partly, Comes, WalkedBack, Met}
use Rattle.lean.proofs.DriverLaws.{rising}
use Rattle.lean.proofs.SettleLaws.{back_below}

-- a point takes two terminals
points-few : (es : List Element) (n e : ℕ) → Rising es n e → n + 2 * point_count es ≤ e
points-few [] n e a = omega arith
points-few (point i ∷ es) n e a = let l = a.0 in omega (arith, points-few es (i + 2) e a.1)
points-few (part p i ∷ es) n e a = let l = a.0 in omega (arith, points-few es (i + (part_at p).inputs + 1) e a.1)

module _ (m : Net) where
  round-le : (a b x : ℕ) → Round m a x → lowest a m x x ≤ lowest b m x x
  round-le a b x r = let (j, z) = lowest-reached m b x in subst (λ (y : ℕ). lowest a m x x ≤ y) (sym z) (ring_le m a j x r)

  -- once round or more, the lowest is the root
  pub root_round : (x k : ℕ) → Comes m x → 8192 ≤ k → root m x ≡ lowest k m x x
  root_round x k r h =
      let s : Round m r.steps x = record { steps = r.steps; some = r.some; few = le_refl r.steps; same = r.same } in
      let l : r.steps ≤ k = let f = r.few in omega arith in
      let t : Round m k x = record { steps = r.steps; some = r.some; few = l; same = r.same } in
      root-lowest m r.steps x r.some r.same ∙ le_antisymm (round-le r.steps k x s) (round-le k r.steps x t)

  pub lowest-more : (k o low : ℕ) → lowest (k + 1) m o low ≡ min (lowest k m o low) (backs k m o)
  lowest-more k o low = rw (add-one k) (by k o low)
    where
      by : (k o low : ℕ) → lowest (suc k) m o low ≡ min (lowest k m o low) (backs k m o)
      by zero o low = refl
      by (suc k) o low = by k (back m o) (min low o)

  pub backs-more : (k o : ℕ) → backs (k + 1) m o ≡ back m (backs k m o)
  backs-more k o = rw (add-one k) (backs-back m k o)

-- on the way back from the mark: x is reached
pub record Walking (m : Net) (mark x steps taken : ℕ) : Type 0 where
  pub output : T (is_out m.elements x)
  pub near : backs taken m mark ≡ x
  pub few : taken ≤ steps

-- on the way back from o: the mark stands where all walks before have ended
pub record Meeting (m : Net) (o mark span : ℕ) : Type 0 where
  pub output : T (is_out m.elements mark)
  pub far : backs (span - 1) m o ≡ mark
  pub some : 1 ≤ span

-- on the way round from o: x is reached, and the lowest so far is low
pub record Rounding (w : List ℕ) (m : Net) (o x low taken : ℕ) : Type 0 where
  pub output : T (is_out m.elements x)
  pub far : backs taken m o ≡ x
  pub first : (entry w o ≡ 65535 → ⊥) → (x ≡ o) × (taken ≡ 0)
  pub lowest_so : lowest (taken + 1) m o o ≡ low
  pub few : taken ≤ 8192

module _ (w : List ℕ) (e k p : ℕ) (q : Partly w e k p) where
  abbrev m : Net
  m = net_in w e k p

  -- 8,192 steps back it comes round
  comes : (o : ℕ) → Comes m (backs 8192 m o)
  comes o = ⊎_elim halts rings (still m (backs 8192 m o))
    where
      halts : back m (backs 8192 m o) ≡ backs 8192 m o → Comes m (backs 8192 m o)
      halts z = record { steps = 1; some = omega arith; few = omega arith; same = z }

      rings : 1 ≤ count m → Comes m (backs 8192 m o)
      rings one =
          let f = points-few m.elements 0 q.ready.end (rising w e k p q.ready) in
          let b = q.ready.below in
          let r = ring_reached m 8192 o one (omega arith) in
          let l = r.few in
          record { steps = r.steps; some = r.some; few = omega arith; same = r.same }

  -- .. and any more steps back
  comes-far : (o n : ℕ) → 8192 ≤ n → Comes m (backs n m o)
  comes-far o n h =
      let z : n - 8192 + 8192 ≡ n = omega arith in
      subst (Comes m) (sym (backs_add m (n - 8192) 8192 o) ∙ ap (λ (y : ℕ). backs y m o) z) (comes (backs (n - 8192) m o))

  pub walking_start : (mark steps : ℕ) → T (is_out m.elements mark) → Walking m mark mark steps 0
  walking_start mark steps t = record { output = t; near = refl; few = omega arith }

  pub walking_step : (mark x steps taken : ℕ) → Walking m mark x steps taken → taken < steps → entry w x ≡ 65535 → Walking m mark (get_or w (x - 1) 0) steps (taken + 1)
  walking_step mark x steps taken g h z = record {
    output = back_below w e k p q x g.output z;
    near = backs-more m taken mark ∙ ap (back m) g.near ∙ (q.loose x g.output z).1;
    few = omega arith;
  }

  pub walked-settled : (mark x steps taken : ℕ) → Walking m mark x steps taken → (entry w x ≡ 65535 → ⊥) → WalkedBack w e k p mark steps x
  walked-settled mark x steps taken g d = record { taken = taken; few = g.few; output = g.output; near = g.near; some = λ _ z. absurd (d z); whole = λ _ z. absurd (d z) }

  pub walked-mark : (mark x steps taken : ℕ) → Walking m mark x steps taken → 0 < taken → x ≡ mark → WalkedBack w e k p mark steps x
  walked-mark mark x steps taken g h z = record { taken = taken; few = g.few; output = g.output; near = g.near; some = λ _ _. h; whole = λ d _. absurd (d z) }

  pub walked_end : (mark x steps : ℕ) → Walking m mark x steps steps → 1 ≤ steps → WalkedBack w e k p mark steps x
  walked_end mark x steps g h = record { taken = steps; few = g.few; output = g.output; near = g.near; some = λ _ _. h; whole = λ _ _. refl }

  -- ---- one walk after the other

  pub meeting_start : (o : ℕ) → T (is_out m.elements o) → Meeting m o o 1
  meeting_start o t = record { output = t; far = refl; some = omega arith }

  module _ (o mark span x : ℕ) (g : Meeting m o mark span) (a : WalkedBack w e k p mark span x) where
    x-far : backs (span - 1 + a.taken) m o ≡ x
    x-far = backs_add m (span - 1) a.taken o ∙ ap (backs a.taken m) g.far ∙ a.near

    x-root : root m x ≡ root m o
    x-root = ap (root m) (sym x-far) ∙ root_steps m (span - 1 + a.taken) o

    pub meeting-step : (x ≡ mark → ⊥) → entry w x ≡ 65535 → Meeting m o x (2 * span)
    meeting-step d z =
        let n : span - 1 + a.taken ≡ 2 * span - 1 = let h = a.whole d z in let s = g.some in omega arith in
        record { output = a.output; far = sym (ap (λ (y : ℕ). backs y m o) n) ∙ x-far; some = let s = g.some in omega arith }

    pub met-settled : (entry w x ≡ 65535 → ⊥) → Met w e k p o x
    met-settled d = record { output = a.output; same = x-root; ring = λ z. absurd (d z) }

    pub met-mark : span ≤ 8192 → x ≡ mark → Met w e k p o x
    met-mark h y = record {
      output = a.output;
      same = x-root;
      ring = λ z. record { steps = a.taken; some = a.some y z; few = let l = a.few in omega arith; same = ap (backs a.taken m) y ∙ a.near };
    }

  pub met-end : (o mark span : ℕ) → Meeting m o mark span → 8192 < span → Met w e k p o mark
  met-end o mark span g h = record {
    output = g.output;
    same = ap (root m) (sym g.far) ∙ root_steps m (span - 1) o;
    ring = λ _. subst (Comes m) g.far (comes-far o (span - 1) (omega arith));
  }

  -- ---- once round

  pub rounding-start : (o : ℕ) → T (is_out m.elements o) → Rounding w m o o o 0
  rounding-start o t = record { output = t; far = refl; first = λ d. (refl, refl); lowest_so = min-eq_left (le_refl o); few = omega arith }

  -- one step further, with the lower of the two
  pub rounding-step : (o x y low taken : ℕ) → Rounding w m o x low taken → taken < 8192 → entry w x ≡ 65535 → y ≡ min low (get_or w (x - 1) 0)
      → Rounding w m o (get_or w (x - 1) 0) y (taken + 1)
  rounding-step o x y low taken g h z f =
      let s = (q.loose x g.output z).1 in
      let far : backs (taken + 1) m o ≡ get_or w (x - 1) 0 = backs-more m taken o ∙ ap (back m) g.far ∙ s in
      record {
        output = back_below w e k p q x g.output z;
        far = far;
        first = λ d. absurd (d (ap (entry w) (sym (g.first d).0) ∙ z));
        lowest_so = lowest-more m (taken + 1) o o ∙ rw (g.lowest_so, far) (sym f);
        few = omega arith;
      }

  pub round_settled : (o x low taken : ℕ) → Rounding w m o x low taken → (entry w x ≡ 65535 → ⊥) → entry w x ≡ root m o
  round_settled o x low taken g d = q.right x g.output d ∙ ap (root m) (sym g.far) ∙ root_steps m taken o

  pub round_back : (o x low taken : ℕ) → Rounding w m o x low taken → entry w x ≡ 65535 → get_or w (x - 1) 0 ≡ o → low ≡ root m o
  round_back o x low taken g z f =
      let s = (q.loose x g.output z).1 in
      sym (root-lowest m (taken + 1) o (omega arith) (backs-more m taken o ∙ ap (back m) g.far ∙ s ∙ f) ∙ g.lowest_so)

  pub round_end : (o x low taken : ℕ) → Rounding w m o x low taken → 8192 ≤ taken → (entry w o ≡ 65535 → Comes m o) → low ≡ root m o
  round_end o x low taken g h c =
      elim (ℕ_discrete (entry w o) 65535) [
        | yes f ↦ sym (root_round m o (taken + 1) (c f) (omega arith) ∙ g.lowest_so)
        | no d ↦ absurd (let f = (g.first d).1 in omega arith)
      ]
