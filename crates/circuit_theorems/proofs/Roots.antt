-- In a possible record an output and its root have the same bits. Assumes nothing.
use Prim.Native.Nat.{ℕ, zero, suc, ◌+◌, min}
use mathlib.Core.Path.{◌≡◌, refl, sym, ◌∙◌, subst}
use mathlib.Core.List.{List, [], ◌∷◌}
use native.Mathlib.Nat.{min-eq_left, min-eq_right, le_of_lt, lt_of_not-le}
use native.Mathlib.Decide.{dec_le}
use lib.Dec.{eqb, eqb→eq}
use Rattle.laws.proofs.Tests.{on_cond}
use Rattle.calculus.specs.Net.{Element, point, part, Wire, Net}
use Rattle.calculus.specs.Lean.{driver, is_pin, point_count, back_in, back, backs, lowest, root}
use Rattle.calculus.specs.Record.{Bits, Law, All, Same, Works, Joined, Possible}

on_min : (a b : ℕ) (P : ℕ → Type 0) → P a → P b → P (min a b)
on_min a b P x y = elim (dec_le a b) [ yes h ↦ rw (min-eq_left h) x | no h ↦ rw (min-eq_right (le_of_lt (lt_of_not-le h))) y ]

module _ (n : ℕ) (β : Bits) where
  -- output o has the bits of output p
  abbrev pub Like : ℕ → ℕ → Type 0
  Like p o = Same n β o p

  pub driver_like : (ws : List Wire) → All (Joined n β) ws → (i d : ℕ) → Like i d → Like i (driver ws i d)
  driver_like [] a i d h = h
  driver_like (w ∷ ws) a i d h =
      on_cond (Like i) (eqb w.to i) w.from (driver ws i d)
      (λ e. subst (λ (j : ℕ). Like j w.from) (eqb→eq w.to i e) a.0)
      (driver_like ws a.1 i d h)

  module _ (law : Law) (m : Net) (p : Possible law m n β) where
    back-in : (es : List Element) → All (Works law n β) es → (o : ℕ) → Like o (back_in es m o)
    back-in [] a o = λ t h. refl
    back-in (point i ∷ es) a o =
        on_cond (Like o) (eqb (i + 1) o) _ _
        (λ e. on_cond (Like o) (is_pin m.pins i) o (driver m.wires i o) (λ _. λ t h. refl)
        (λ t h.
        let same : β i t ≡ β o t = subst (λ (x : ℕ). β i t ≡ β x t) (eqb→eq (i + 1) o e) (a.0 t h) in
        driver_like m.wires p.wires i o (λ t h. sym (subst (λ (x : ℕ). β i t ≡ β x t) (eqb→eq (i + 1) o e) (a.0 t h))) t h ∙ same))
        (back-in es a.1 o)
    back-in (part q i ∷ es) a o = back-in es a.1 o

    back-like : (o : ℕ) → Like o (back m o)
    back-like o = back-in m.elements p.elements o

    backs-like : (k o : ℕ) → Like o (backs k m o)
    backs-like zero o t h = refl
    backs-like (suc k) o t h = backs-like k (back m o) t h ∙ back-like o t h

    lowest-like : (k o low q : ℕ) → Like q o → Like q low → Like q (lowest k m o low)
    lowest-like zero o low q a b = b
    lowest-like (suc k) o low q a b =
        lowest-like k (back m o) (min low o) q (λ t h. back-like o t h ∙ a t h) (on_min low o (Like q) b a)

    pub root-like : (o : ℕ) → Like o (root m o)
    unfolding root
    root-like o =
        let c = point_count m.elements in
        let r = backs-like c o in
        lowest-like c (backs c m o) (backs c m o) o r r
