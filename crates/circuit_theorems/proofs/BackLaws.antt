-- One step back, element by element, and the document's sentences on roots said of elements: a part's output, a point whose input is a
-- pin, a point whose input is driven; on a formed netlist these determine the root of every output. Assumes nothing.
use Prim.Native.Nat.{ℕ, zero, suc, ◌+◌, ◌<◌, ◌≤◌}
use mathlib.Core.Path.{◌≡◌, refl, sym, ap, ◌∙◌, subst}
use mathlib.Core.Logic.{⊎_elim}
use mathlib.Core.Bool.{Bool, true, false, cond}
use mathlib.Core.List.{List, [], ◌∷◌}
use native.Mathlib.Omega.{arith}
use lib.Dec.{T, eqb, eqb→eq, eqb_refl}
use lib.ListN.{length, get_or}
use Rattle.laws.proofs.Tests.{by_eqb, or_cases, or_elim, or_left, or_right, T-is}
use Rattle.calculus.specs.Terms.{part_at}
use Rattle.calculus.specs.Net.{Element, point, part, Net}
use Rattle.calculus.specs.Lean.{driver, is_pin, back_in, back, backs, root, Says, Sentences}
use Rattle.calculus.specs.Record.{All}
use Rattle.calculus.specs.Inputs.{is_out}
use Rattle.circuit_theorems.specs.Terminals.{has}
use Rattle.circuit_theorems.specs.Formed.{Rising, Formed}
use Rattle.circuit_theorems.proofs.Rings.{point_outs, moves_in}
use Rattle.circuit_theorems.proofs.RootLaws.{root_stays, root-back, root-lowest, only-root}
use Rattle.circuit_theorems.proofs.Lists.{all-at}
use Rattle.circuit_theorems.proofs.Terminals.{point_in, out_low, outs_out, driver-is}

-- ---- one step back

module _ (m : Net) where
  point_in_lem : (es : List Element) (i : ℕ) → T (point_in es i) → is_pin m.pins i ≡ false → back_in es m (i + 1) ≡ driver m.wires i (i + 1)
  point_in_lem [] i h u = absurd h
  point_in_lem (point j ∷ es) i h u =
      by_eqb (λ b. cond b (cond (is_pin m.pins j) (i + 1) (driver m.wires j (i + 1))) (back_in es m (i + 1)) ≡ driver m.wires i (i + 1)) (j + 1) (i + 1)
      (λ e. let f : j ≡ i = omega arith in rw (f, u))
      (λ d. point_in_lem es i (⊎_elim (λ t. absurd (d (ap (λ (k : ℕ). k + 1) (eqb→eq j i t)))) (λ t. t) (or_cases (eqb j i) (point_in es i) h)) u)
  point_in_lem (part q j ∷ es) i h u = point_in_lem es i h u

  -- from a point whose input is no pin: to the output that drives the input
  pub back_point : (i : ℕ) → T (point_in m.elements i) → is_pin m.pins i ≡ false → back m (i + 1) ≡ driver m.wires i (i + 1)
  back_point i h u = point_in_lem m.elements i h u

  pin_in : (es : List Element) (i : ℕ) → T (is_pin m.pins i) → back_in es m (i + 1) ≡ i + 1
  pin_in [] i u = refl
  pin_in (point j ∷ es) i u =
      by_eqb (λ b. cond b (cond (is_pin m.pins j) (i + 1) (driver m.wires j (i + 1))) (back_in es m (i + 1)) ≡ i + 1) (j + 1) (i + 1)
      (λ e. let f : j ≡ i = omega arith in rw (f, T-is (is_pin m.pins i) u))
      (λ _. pin_in es i u)
  pin_in (part q j ∷ es) i u = pin_in es i u

  -- a point whose input is a pin: its output stays
  pub back_pin : (i : ℕ) → T (is_pin m.pins i) → back m (i + 1) ≡ i + 1
  back_pin i u = pin_in m.elements i u

  -- an output that is no point's stays
  pub back-other : (o : ℕ) → (T (has (point_outs m.elements) o) → ⊥) → back m o ≡ o
  back-other o v = ⊎_elim (λ q. q) (λ t. absurd (v t)) (moves_in m m.elements o)

  -- an element that is a part: its output stays
  abbrev pub PartStays : Element → Type 0
  PartStays (point i) = Unit {0}
  PartStays (part p i) = back m (i + (part_at p).inputs) ≡ i + (part_at p).inputs

  -- from the first terminal of an element on, only it and those behind it count
  parts_in : (es : List Element) (n e : ℕ) → Rising es n e → ((x : ℕ) → n ≤ x → T (has (point_outs m.elements) x) → T (has (point_outs es) x)) → All PartStays es
  parts_in [] n e a h = tt
  parts_in (point i ∷ es) n e a h =
      let r = a.0 in
      (tt, parts_in es (i + 2) e a.1 (λ x l t. or_elim (eqb (i + 1) x) (has (point_outs es) x) (h x (omega arith) t) (λ u. let q = eqb→eq (i + 1) x u in absurd (omega arith)) (λ u. u)))
  parts_in (part p i ∷ es) n e a h =
      let r = a.0 in (
        back-other (i + (part_at p).inputs) (λ t. let q = out_low es (i + (part_at p).inputs + 1) e (i + (part_at p).inputs) a.1 (outs_out es _ (h _ (omega arith) t)) in omega arith),
        parts_in es (i + (part_at p).inputs + 1) e a.1 (λ x l t. h x (omega arith) t),
      )

  pub back-parts : (e : ℕ) → Rising m.elements 0 e → All PartStays m.elements
  back-parts e a = parts_in m.elements 0 e a (λ x l t. t)

  -- the k-th element is this part: its output stays
  pub back-part : (e k p i : ℕ) (d : Element) → Rising m.elements 0 e → k < length m.elements → get_or m.elements k d ≡ part p i
      → back m (i + (part_at p).inputs) ≡ i + (part_at p).inputs
  back-part e k p i d a h q = subst PartStays q (all-at PartStays m.elements k d (back-parts e a) h)

  -- ---- the document's sentences

  -- a part's output is its own root
  pub part-root : (e k p i : ℕ) (d : Element) → Rising m.elements 0 e → k < length m.elements → get_or m.elements k d ≡ part p i
      → root m (i + (part_at p).inputs) ≡ i + (part_at p).inputs
  part-root e k p i d a h q = root_stays m (i + (part_at p).inputs) (back-part e k p i d a h q)

  -- a point's output is its own root, if the point's input is a pin
  pub pin_root : (i : ℕ) → T (is_pin m.pins i) → root m (i + 1) ≡ i + 1
  pin_root i u = root_stays m (i + 1) (back_pin i u)

  -- otherwise it has the root of the output that drives the point's input
  pub point_root : (i : ℕ) → T (point_in m.elements i) → is_pin m.pins i ≡ false → root m (i + 1) ≡ root m (driver m.wires i (i + 1))
  point_root i h u = sym (root-back m (i + 1)) ∙ ap (root m) (back_point i h u)

  says-in : (es : List Element) → ((x : ℕ) → T (point_in es x) → T (point_in m.elements x)) → All PartStays es → All (Says m (root m)) es
  says-in [] f a = tt
  says-in (point i ∷ es) f a =
      ((pin_root i, point_root i (f i (or_left (eqb i i) (point_in es i) (eqb_refl i)))), says-in es (λ x t. f x (or_right (eqb i x) (point_in es x) t)) a.1)
  says-in (part p i ∷ es) f a = (root_stays m (i + (part_at p).inputs) a.0, says-in es f a.1)

  module _ (ok : Formed m) where
    -- they hold of the root ..
    pub root-says : Sentences m (root m)
    root-says = record {
      elements = says-in m.elements (λ x t. t) (back-parts ok.end ok.rising);
      rings = λ k o h one e. root-lowest m k o one e;
    }

    -- an output's step back is an output
    back-out-in : (es : List Element) (o : ℕ) → T (is_out m.elements o) → T (is_out m.elements (back_in es m o))
    back-out-in [] o h = h
    back-out-in (point i ∷ es) o h =
        by_eqb (λ b. T (is_out m.elements (cond b (cond (is_pin m.pins i) o (driver m.wires i o)) (back_in es m o)))) (i + 1) o
        (λ e. on-pin (is_pin m.pins i)) (λ d. back-out-in es o h)
      where
        on-pin : (b : Bool) → T (is_out m.elements (cond b o (driver m.wires i o)))
        on-pin true = h
        on-pin false = driver-is (λ x. T (is_out m.elements x)) m.wires i o ok.from h
    back-out-in (part p i ∷ es) o h = back-out-in es o h

    pub back-out : (o : ℕ) → T (is_out m.elements o) → T (is_out m.elements (back m o))
    back-out o h = back-out-in m.elements o h

    pub backs-out : (k o : ℕ) → T (is_out m.elements o) → T (is_out m.elements (backs k m o))
    backs-out zero o h = h
    backs-out (suc k) o h = backs-out k (back m o) (back-out o h)

    module _ (r : ℕ → ℕ) (s : Sentences m r) where
      goes_in : (es : List Element) (o : ℕ) → All (Says m r) es → All PartStays es → T (is_out es o) → ((x : ℕ) → T (point_in es x) → T (point_in m.elements x)) → r o ≡ r (back m o)
      goes_in [] o a b h f = absurd h
      goes_in (point i ∷ es) o a b h f =
          or_elim (eqb (i + 1) o) (is_out es o) h
          (λ t. subst (λ (x : ℕ). r x ≡ r (back m x)) (eqb→eq (i + 1) o t) (here (is_pin m.pins i) refl))
          (λ t. goes_in es o a.1 b.1 t (λ x u. f x (or_right (eqb i x) (point_in es x) u)))
        where
          here : (b : Bool) → is_pin m.pins i ≡ b → r (i + 1) ≡ r (back m (i + 1))
          here true q = ap r (sym (back_pin i (subst T (sym q) tt)))
          here false q = a.0.1 q ∙ ap r (sym (back_point i (f i (or_left (eqb i i) (point_in es i) (eqb_refl i))) q))
      goes_in (part p i ∷ es) o a b h f =
          or_elim (eqb (i + (part_at p).inputs) o) (is_out es o) h
          (λ t. subst (λ (x : ℕ). r x ≡ r (back m x)) (eqb→eq (i + (part_at p).inputs) o t) (ap r (sym b.0)))
          (λ t. goes_in es o a.1 b.1 t f)

      -- .. and of nothing else
      pub sentences-only : (o : ℕ) → T (is_out m.elements o) → r o ≡ root m o
      sentences-only =
          only-root m r (λ x. T (is_out m.elements x)) back-out
          (λ o h. goes_in m.elements o s.elements (back-parts ok.end ok.rising) h (λ x t. t)) s.rings
