-- What the equivalence of the two netlists stands on, from a formed netlist. Assumes nothing.
use Prim.Native.Nat.{ℕ, ◌+◌, ◌≤◌}
use mathlib.Core.Path.{◌≡◌, sym, ap, ◌∙◌, subst}
use mathlib.Core.Logic.{◌⊎◌}
use mathlib.Core.Bool.{Bool, true, false, cond}
use mathlib.Core.List.{List, [], ◌∷◌}
use native.Mathlib.Omega.{arith}
use lib.Dec.{T, eqb, eqb→eq, eqb_refl}
use Rattle.laws.proofs.Tests.{or_elim, or_left, or_right, is_false, T-is}
use Rattle.calculus.specs.Terms.{part_at}
use Rattle.calculus.specs.Net.{Terminal, inp, out, Interface, Element, point, part, Net}
use Rattle.calculus.specs.Lean.{driver, is_pin, root}
use Rattle.calculus.specs.Record.{All}
use Rattle.calculus.specs.Inputs.{made_at_lem, targets, ins, is_out}
use Rattle.circuit_theorems.specs.Terminals.{has}
use Rattle.circuit_theorems.specs.Formed.{Shown, Rising, Formed}
use Rattle.circuit_theorems.proofs.Rings.{point_outs}
use Rattle.circuit_theorems.proofs.RootLaws.{root_stays}
use Rattle.circuit_theorems.proofs.BackLaws.{back-other, point_root}
use Rattle.circuit_theorems.proofs.Lists.{all_map, all_zip}
use Rattle.circuit_theorems.proofs.Outputs.{EndHolds}
use Rattle.circuit_theorems.proofs.Terminals.{point_in, part_in_lem, in_low, out_low, out_not_in, outs_out, made_one, made_in, part-made, each_target, unique, pin_ins, no_ins}

-- the output that stands for a terminal
abbrev pub stand_in : Net → ℕ → ℕ
stand_in m x = cond (point_in m.elements x) (root m (x + 1)) (root m x)

-- a point's output is no point's input, and a part's terminals stand for themselves
abbrev pub StandsApart : Net → Element → Type 0
StandsApart m (point i) = (point_in m.elements (i + 1) ≡ false) × (point_in m.elements i ≡ true)
StandsApart m (part p i) = (x : ℕ) → i ≤ x → x ≤ i + (part_at p).inputs → stand_in m x ≡ x

abbrev pub PinOk : Net → Terminal → Type 0
PinOk m (inp i) = T (point_in m.elements i) ⊎ T (part_in_lem m.elements i)
PinOk m (out o) = point_in m.elements o ≡ false

pub record Wired (m : Net) : Type 0 where
  pub clear : All (StandsApart m) m.elements
  pub from_out : All (λ w. point_in m.elements w.from ≡ false) m.wires
  pub to_in : All (λ w. T (point_in m.elements w.to) ⊎ T (part_in_lem m.elements w.to)) m.wires
  pub no_pin : All (λ w. is_pin m.pins w.to ≡ false) m.wires
  pub one : All (λ w. (d : ℕ) → driver m.wires w.to d ≡ w.from) m.wires
  pub fed : (i : ℕ) → T (part_in_lem m.elements i) → is_pin m.pins i ≡ false → 1 ≤ targets m.wires i
  pub pins_ok : All (PinOk m) m.pins

module _ (m : Net) (ok : Formed m) where
  -- a terminal that is neither a point's input nor its output stands for itself
  stands : (x : ℕ) → point_in m.elements x ≡ false → (T (has (point_outs m.elements) x) → ⊥) → stand_in m x ≡ x
  stands x u v = subst (λ (b : Bool). cond b (root m (x + 1)) (root m x) ≡ x) (sym u) (root_stays m x (back-other m x v))

  -- every element, seen from the whole list: from its first terminal on, only it and those behind it count
  clears : (es : List Element) (n e : ℕ) → Rising es n e
      → ((x : ℕ) → T (point_in es x) → T (point_in m.elements x))
      → ((x : ℕ) → n ≤ x → T (point_in m.elements x) → T (point_in es x))
      → ((x : ℕ) → n ≤ x → T (has (point_outs m.elements) x) → T (has (point_outs es) x)) → All (StandsApart m) es
  clears [] n e a f g h = tt
  clears (point i ∷ es) n e a f g h =
      let r = a.0 in (
        (
          is_false _ (λ t. or_elim (eqb i (i + 1)) (point_in es (i + 1)) (g (i + 1) (omega arith) t) (λ u. let q = eqb→eq i (i + 1) u in omega arith) (λ u. let q = in_low es (i + 2) e (i + 1) a.1 u in omega arith)),
          T-is _ (f i (or_left (eqb i i) (point_in es i) (eqb_refl i))),
        ),
        clears es (i + 2) e a.1 (λ x t. f x (or_right (eqb i x) (point_in es x) t))
            (λ x l t. or_elim (eqb i x) (point_in es x) (g x (omega arith) t) (λ u. let q = eqb→eq i x u in absurd (omega arith)) (λ u. u))
            (λ x l t. or_elim (eqb (i + 1) x) (has (point_outs es) x) (h x (omega arith) t) (λ u. let q = eqb→eq (i + 1) x u in absurd (omega arith)) (λ u. u)),
      )
  clears (part p i ∷ es) n e a f g h =
      let r = a.0 in (
        (λ x lo hi. stands x
            (is_false _ (λ t. let q = in_low es (i + (part_at p).inputs + 1) e x a.1 (g x (omega arith) t) in omega arith))
            (λ t. let q = out_low es (i + (part_at p).inputs + 1) e x a.1 (outs_out es x (h x (omega arith) t)) in omega arith)),
        clears es (i + (part_at p).inputs + 1) e a.1 f (λ x l t. g x (omega arith) t) (λ x l t. h x (omega arith) t),
      )

  out-clear : (o : ℕ) → T (is_out m.elements o) → point_in m.elements o ≡ false
  out-clear o t = is_false _ (λ u. out_not_in m.elements 0 ok.end o ok.rising t u)

  -- ---- demand 3, first half, for any formed netlist

  pub input-once : (i : ℕ) → made_at_lem m.elements i ≤ 1
  input-once i = made_one m.elements 0 ok.end i ok.rising

  pub target_one : (i : ℕ) → targets m.wires i ≤ 1
  target_one i = omega (arith, ok.reached i, input-once i)

  -- an input has one wire or one pin, and never both
  pub one_driver : (i : ℕ) → made_at_lem m.elements i ≡ 1 → targets m.wires i + ins m.pins i ≡ 1
  one_driver i e = ok.reached i ∙ e

  -- what is no input has neither
  pub no_driver : (i : ℕ) → made_at_lem m.elements i ≡ 0 → (targets m.wires i ≡ 0) × (ins m.pins i ≡ 0)
  no_driver i e = let q = ok.reached i in (omega arith, omega arith)

  -- an input that is no pin has a wire, and a pin has none
  pub free_driven : (i : ℕ) → made_at_lem m.elements i ≡ 1 → is_pin m.pins i ≡ false → targets m.wires i ≡ 1
  free_driven i e u = omega (arith, one_driver i e, no_ins m.pins i u)

  pub pin_undriven : (i : ℕ) → T (is_pin m.pins i) → targets m.wires i ≡ 0
  pin_undriven i u = omega (arith, ok.reached i, input-once i, pin_ins m.pins i u)

  -- wires run from outputs to inputs that are made
  pub wires_run : All (λ w. T (is_out m.elements w.from) × (made_at_lem m.elements w.to ≡ 1)) m.wires
  wires_run =
      all_zip (λ w. T (is_out m.elements w.from)) (λ w. made_at_lem m.elements w.to ≡ 1) m.wires ok.from
      (all_map (λ w. 1 ≤ targets m.wires w.to) (λ w. made_at_lem m.elements w.to ≡ 1) (λ w t. omega (arith, ok.reached w.to, input-once w.to)) m.wires (each_target m.wires))

  -- pins show outputs and inputs that are made
  pub pins_show : All (EndHolds (λ i. made_at_lem m.elements i ≡ 1) (λ o. T (is_out m.elements o))) m.pins
  pins_show = shows m.pins ok.shown (λ i u. u)
    where
      shows : (ps : Interface) → All (Shown m.elements) ps → ((i : ℕ) → T (is_pin ps i) → T (is_pin m.pins i)) → All (EndHolds (λ i. made_at_lem m.elements i ≡ 1) (λ o. T (is_out m.elements o))) ps
      shows [] s k = tt
      shows (inp i ∷ ps) s k =
          (omega (arith, ok.reached i, input-once i, pin_ins m.pins i (k i (or_left (eqb i i) (is_pin ps i) (eqb_refl i)))), shows ps s.1 (λ j u. k j (or_right (eqb i j) (is_pin ps j) u)))
      shows (out o ∷ ps) s k = (s.0, shows ps s.1 k)

  -- ---- the facts that the equivalence uses

  pin-ok : (p : Terminal) → EndHolds (λ i. made_at_lem m.elements i ≡ 1) (λ o. T (is_out m.elements o)) p → PinOk m p
  pin-ok (inp i) e = made_in m.elements i (omega arith)
  pin-ok (out o) t = out-clear o t

  pub wired-net : Wired m
  wired-net = record {
    clear = clears m.elements 0 ok.end ok.rising (λ x t. t) (λ x l t. t) (λ x l t. t);
    from_out = all_map (λ w. T (is_out m.elements w.from)) _ (λ w t. out-clear w.from t) m.wires ok.from;
    to_in = all_map (λ w. T (is_out m.elements w.from) × (made_at_lem m.elements w.to ≡ 1)) _ (λ w t. made_in m.elements w.to (let q = t.1 in omega arith)) m.wires wires_run;
    no_pin = all_map (λ w. 1 ≤ targets m.wires w.to) _ (λ w t. is_false _ (λ u. omega (arith, pin_undriven w.to u))) m.wires (each_target m.wires);
    one = unique m.wires target_one;
    fed = λ i h u. omega (arith, ok.reached i, no_ins m.pins i u, part-made m.elements i h);
    pins_ok = all_map (EndHolds (λ i. made_at_lem m.elements i ≡ 1) (λ o. T (is_out m.elements o))) (PinOk m) pin-ok m.pins pins_show;
  }

  -- the root of a point's output is the root of the output that drives the point's input
  pub wire-root : All (λ w. T (point_in m.elements w.to) → root m (w.to + 1) ≡ root m w.from) m.wires
  wire-root =
      all_map (λ w. (is_pin m.pins w.to ≡ false) × ((d : ℕ) → driver m.wires w.to d ≡ w.from)) _
      (λ w f h. point_root m w.to h f.0 ∙ ap (root m) (f.1 (w.to + 1))) m.wires
      (all_zip _ _ m.wires wired-net.no_pin wired-net.one)
