-- One output more is settled: the table stays partly done. Assumes nothing.
use Prim.Native.Nat.{ℕ, ◌+◌, ◌-◌, ◌<◌}
use mathlib.Core.Path.{◌≡◌, refl, sym, ap, ◌∙◌, subst}
use mathlib.Core.Bool.{Bool, true, false, cond}
use mathlib.Core.List.{List}
use native.Mathlib.Omega.{arith}
use native.Mathlib.Decide.{ℕ_discrete}
use lib.Dec.{T}
use lib.ListN.{get_or, set}
use Rattle.laws.proofs.Tests.{false_not_T}
use Rattle.calculus.specs.Net.{Net}
use Rattle.calculus.specs.Lean.{back, root}
use Rattle.calculus.specs.Inputs.{is_out}
use Rattle.circuit_theorems.proofs.RootLaws.{root-reached, root-back, root_stays}
use Rattle.circuit_theorems.proofs.BackLaws.{back-out, backs-out}
use Rattle.memory.specs.Map.{roots_at, net_in, Ready}
use Rattle.lean.specs.Table.{entry, Within, Partly, Met, Settled, Rooted}
use Rattle.lean.proofs.TableLaws.{within_none, within_then, within-set, entry-same, entry_other}
use Rattle.memory.proofs.NetStays.{net-same}
use Rattle.lean.proofs.DriverLaws.{output-below}
use Rattle.lean.proofs.StartLaws.{Says, partly_of}

module _ (w : List ℕ) (e k p : ℕ) (q : Partly w e k p) where
  abbrev m : Net
  m = net_in w e k p

  -- a root is an output
  pub root_out : (o : ℕ) → T (is_out m.elements o) → T (is_out m.elements (root m o))
  root_out o t = let (j, _, z) = root-reached m o in subst (λ (x : ℕ). T (is_out m.elements x)) (sym z) (backs-out m q.ready.formed j o t)

  pub root_below : (o : ℕ) → T (is_out m.elements o) → root m o < 8192
  root_below o t = output-below w e k p q.ready (root m o) (root_out o t)

  says_of : (o : ℕ) → T (is_out m.elements o) → Says w e k p q.ready o (entry w o)
  says_of o t = (q.right o t, q.loose o t)

  -- from an output that is not settled, back
  pub back_below : (o : ℕ) → T (is_out m.elements o) → entry w o ≡ 65535 → T (is_out m.elements (get_or w (o - 1) 0))
  back_below o t z = subst (λ (x : ℕ). T (is_out m.elements x)) (q.loose o t z).1 (back-out m q.ready.formed o t)

  -- an entry that is not settled is an output's
  pub loose_out : (x : ℕ) → x < 8192 → entry w x ≡ 65535 → T (is_out m.elements x)
  loose_out x l z = by (is_out m.elements x) refl
    where
      by : (b : Bool) → is_out m.elements x ≡ b → T b
      by true f = tt
      by false f = let g = q.other x l f in absurd (omega arith)

  module _ (o : ℕ) (t : T (is_out m.elements o)) where
    set_says : (x : ℕ) → T (is_out m.elements x) → Says w e k p q.ready x (entry (set w (roots_at + o) (root m o)) x)
    set_says x h =
        elim (ℕ_discrete x o) [
          | yes z ↦ subst (λ (y : ℕ). Says w e k p q.ready y (entry (set w (roots_at + o) (root m o)) y)) (sym z)
              (subst (λ (y : ℕ). Says w e k p q.ready o y) (sym (entry-same w o (root m o) q.ready.size (output-below w e k p q.ready o t)))
              ((λ d. refl), λ f. absurd (let l = root_below o t in omega arith)))
          | no d ↦ subst (λ (y : ℕ). Says w e k p q.ready x y) (sym (entry_other w o x (root m o) d)) (says_of x h)
        ]

    set_other : (x : ℕ) → x < 8192 → is_out m.elements x ≡ false → entry (set w (roots_at + o) (root m o)) x ≡ 0
    set_other x l h =
        entry_other w o x (root m o) (λ z. false_not_T (is_out m.elements x) h (subst (λ (y : ℕ). T (is_out m.elements y)) (sym z) t))
        ∙ q.other x l h

    -- its root is entered
    pub partly-set : Partly (set w (roots_at + o) (root m o)) e k p
    partly-set = partly_of w e k p q.ready (set w (roots_at + o) (root m o)) (within-set w o (root m o) (output-below w e k p q.ready o t)) set_other set_says

-- what is met on the way back from o has the same root
pub met-root : (w : List ℕ) (e k p o x r : ℕ) → Met w e k p o x → r ≡ root (net_in w e k p) x → r ≡ root (net_in w e k p) o
met-root w e k p o x r m z = z ∙ m.same

-- ---- from o back, each gets the root r; x is next

pub record SettlingOne (w₀ w : List ℕ) (e k p o r x taken : ℕ) : Type 0 where
  pub within : Within w₀ w
  pub partly : Partly w e k p
  pub output : T (is_out (net_in w e k p).elements x)
  pub same : r ≡ root (net_in w e k p) x
  pub still : (y : ℕ) → (entry w₀ y ≡ 65535 → ⊥) → entry w y ≡ 65535 → ⊥
  pub first : entry w o ≡ 65535 → (x ≡ o) × (taken ≡ 0)

pub settling_start : (w : List ℕ) (e k p o r : ℕ) → Partly w e k p → T (is_out (net_in w e k p).elements o) → r ≡ root (net_in w e k p) o
    → SettlingOne w w e k p o r o 0
settling_start w e k p o r q t z = record { within = within_none w; partly = q; output = t; same = z; still = λ y d. d; first = λ f. (refl, refl) }

module _ (w₀ w : List ℕ) (e k p o r x taken : ℕ) (s : SettlingOne w₀ w e k p o r x taken) where
  -- x is settled already
  pub settled-met : (entry w x ≡ 65535 → ⊥) → Settled w₀ w e k p o
  settled-met d = record {
    within = s.within;
    partly = s.partly;
    done = λ z. d (ap (entry w) (s.first z).0 ∙ z);
    still = s.still;
  }

  -- a step was made
  pub settled-end : 0 < taken → Settled w₀ w e k p o
  settled-end l = record {
    within = s.within;
    partly = s.partly;
    done = λ z. let f = (s.first z).1 in omega arith;
    still = s.still;
  }

  abbrev m₁ : Net
  m₁ = net_in w e k p

  x_below : x < 8192
  x_below = output-below w e k p s.partly.ready x s.output

  abbrev w₁ : List ℕ
  w₁ = set w (roots_at + x) r

  r-below : r < 8192
  r-below = rw s.same (root_below w e k p s.partly x s.output)

  -- what is set stays set
  set-still : (y : ℕ) → (entry w y ≡ 65535 → ⊥) → entry w₁ y ≡ 65535 → ⊥
  set-still y d z =
      elim (ℕ_discrete y x) [
        | yes f ↦ let g : entry w₁ y ≡ r = ap (entry w₁) f ∙ entry-same w x r s.partly.ready.size x_below in let l = r-below in omega arith
        | no f ↦ d (sym (entry_other w x y r f) ∙ z)
      ]

  set_first : entry w₁ o ≡ 65535 → ⊥
  set_first z =
      elim (ℕ_discrete o x) [
        | yes f ↦ let g : entry w₁ o ≡ r = ap (entry w₁) f ∙ entry-same w x r s.partly.ready.size x_below in let l = r-below in omega arith
        | no f ↦ f (sym (s.first (sym (entry_other w x o r f) ∙ z)).0)
      ]

  pub settling_step : entry w x ≡ 65535 → SettlingOne w₀ w₁ e k p o r (get_or w (x - 1) 0) (taken + 1)
  settling_step z =
      let h = within-set w x r x_below in
      let net = net-same w e k p s.partly.ready w₁ h.size h.below in
      record {
        within = within_then s.within h;
        partly = subst (λ (y : ℕ). Partly (set w (roots_at + x) y) e k p) (sym s.same) (partly-set w e k p s.partly x s.output);
        output = rw net (back_below w e k p s.partly x s.output z);
        same = rw net (s.same ∙ sym (root-back m₁ x) ∙ ap (root m₁) (s.partly.loose x s.output z).1);
        still = λ y d. set-still y (s.still y d);
        first = λ f. absurd (set_first f);
      }

-- ---- by one step back

module _ (w : List ℕ) (e k p o : ℕ) (q : Partly w e k p) (t : T (is_out (net_in w e k p).elements o)) (z : entry w o ≡ 65535) where
  abbrev m₂ : Net
  m₂ = net_in w e k p

  -- to itself
  pub near_itself : get_or w (o - 1) 0 ≡ o → o ≡ root m₂ o
  near_itself h = sym (root_stays m₂ o ((q.loose o t z).1 ∙ h))

  -- to one that is settled
  pub near_settled : (d : ℕ) → d ≡ get_or w (o - 1) 0 → (entry w d ≡ 65535 → ⊥) → entry w d ≡ root m₂ o
  near_settled d h n =
      let b : back m₂ o ≡ d = (q.loose o t z).1 ∙ sym h in
      let out = subst (λ (x : ℕ). T (is_out m₂.elements x)) b (back-out m₂ q.ready.formed o t) in
      q.right d out n ∙ ap (root m₂) (sym b) ∙ root-back m₂ o

  pub near_out : (d : ℕ) → d ≡ get_or w (o - 1) 0 → d < 8192
  near_out d h = rw h (output-below w e k p q.ready (get_or w (o - 1) 0) (back_below w e k p q o t z))

  -- that root is entered
  pub settled_near : (r : ℕ) → r ≡ root m₂ o → Settled w (set w (roots_at + o) r) e k p o
  settled_near r h =
      settled-end w (set w (roots_at + o) r) e k p o r (get_or w (o - 1) 0) 1
      (settling_step w w e k p o r o 0 (settling_start w e k p o r q t h) z) (omega arith)

-- ---- all are settled

pub rooted : (w v : List ℕ) (e k p : ℕ) → Ready w e k p → Within w v → Partly v e k p → ((x : ℕ) → T (is_out (net_in w e k p).elements x) → entry v x ≡ 65535 → ⊥) → Rooted w v e k p
rooted w v e k p r h q d = record {
  within = h;
  net = same;
  whole = record { ready = q.ready; table = λ x l. by x l (is_out (net_in v e k p).elements x) refl };
}
  where
    same : net_in v e k p ≡ net_in w e k p
    same = net-same w e k p r v h.size h.below

    by : (x : ℕ) → x < 8192 → (b : Bool) → is_out (net_in v e k p).elements x ≡ b → entry v x ≡ cond b (root (net_in v e k p) x) 0
    by x l true z = let t = subst T (sym z) tt in q.right x t (d x (subst (λ (m : Net). T (is_out m.elements x)) same t))
    by x l false z = q.other x l z
