-- The netlist that comes back has its open inputs and all part outputs as pins, and its parts are driven (document 02, L11). Assumes nothing.
use Prim.Native.Nat.{ℕ, zero, suc, ◌+◌, ◌-◌, ◌*◌, ◌<◌}
use mathlib.Core.Path.{◌≡◌, refl, sym, ap, ap₂, subst, ◌∙◌}
use mathlib.Core.Bool.{Bool, ◌||◌}
use mathlib.Core.List.{List, [], ◌∷◌, ◌++◌, map}
use native.Mathlib.Omega.{arith}
use lib.Dec.{T, eqb, eqb_refl}
use lib.ListN.{length}
use Rattle.laws.proofs.Tests.{or_left, or_right, by_eqb}
use Rattle.calculus.specs.Answer.{good}
use Rattle.calculus.proofs.Answers.{good-inj}
use Rattle.calculus.specs.Terms.{part_at}
use Rattle.calculus.specs.Net.{inp, out, Interface, Element, Wire, Net}
use Rattle.calculus.specs.Lean.{lean}
use Rattle.calculus.specs.Inputs.{has_wire}
use Rattle.calculus.specs.NetRead.{read_net}
use Rattle.calculus.specs.Record.{All}
use Rattle.calculus.specs.Translate.{full}
use Rattle.foreign_calculus.specs.Foreign.{Bytes}
use Rattle.circuit_theorems.proofs.Lists.{all_append}
use Rattle.back_calculus.specs.Back.{DrivenBy, Gate, gates, open_ins, points_from, parts_from, inputs_from, outputs_from, source_at, gate_wires, all_wires, back_net}
use Rattle.back_calculus.specs.Returned.{returned}
use Rattle.back_calculus.specs.Promises.{Returns, Back, LeanOf}
use Rattle.back_calculus.specs.Pins.{point_ins, part_outs, InputsWired, NewPins}
use Rattle.back_theorems.proofs.Typing.{GateIn}
use Rattle.back_theorems.proofs.CameBack.{gates-length, gates_in}
use Rattle.back_theorems.proofs.Main.{accepts-read, back-exact, came-back}

-- ---- pins

parts_no_input : (gs : List Gate) (n : ℕ) → point_ins (parts_from gs n) ≡ []
parts_no_input [] n = refl
parts_no_input (g ∷ gs) n = parts_no_input gs (n + (part_at g.part).inputs + 1)

points-count : (k n : ℕ) (gs : List Gate) (t : ℕ) → length (point_ins (points_from k n ++ parts_from gs t)) ≡ k
points-count zero n gs t = ap length (parts_no_input gs t)
points-count (suc k) n gs t = ap suc (points-count k (n + 2) gs t)

points_pins : (k n : ℕ) (gs : List Gate) (t : ℕ) → map inp (point_ins (points_from k n ++ parts_from gs t)) ≡ inputs_from k n
points_pins zero n gs t = ap (map inp) (parts_no_input gs t)
points_pins (suc k) n gs t = ap (λ (s : Interface). inp n ∷ s) (points_pins k (n + 2) gs t)

parts_pins : (gs : List Gate) (t : ℕ) → map out (part_outs (parts_from gs t)) ≡ outputs_from gs t
parts_pins [] t = refl
parts_pins (g ∷ gs) t = ap (λ (s : Interface). out (t + (part_at g.part).inputs) ∷ s) (parts_pins gs (t + (part_at g.part).inputs + 1))

points_no_output : (k n : ℕ) (es : List Element) → part_outs (points_from k n ++ es) ≡ part_outs es
points_no_output zero n es = refl
points_no_output (suc k) n es = points_no_output k (n + 2) es

-- ---- wires

wired-left : (ws vs : List Wire) (i : ℕ) → T (has_wire ws i) → T (has_wire (ws ++ vs) i)
wired-left [] vs i h = absurd h
wired-left (w ∷ ws) vs i h =
    by_eqb (λ (b : Bool). T (b || has_wire ws i) → T (b || has_wire (ws ++ vs) i)) w.to i (λ e q. tt) (λ d q. wired-left ws vs i q) h

wired-right : (ws vs : List Wire) (i : ℕ) → T (has_wire vs i) → T (has_wire (ws ++ vs) i)
wired-right [] vs i h = h
wired-right (w ∷ ws) vs i h = or_right (eqb w.to i) (has_wire (ws ++ vs) i) (wired-right ws vs i h)

-- the wires to a part's inputs, one after the other
gate-wired : (f : DrivenBy → ℕ) (ss : List DrivenBy) (i x : ℕ) → x < length ss → T (has_wire (gate_wires f ss i) (i + x))
gate-wired f [] i x h = absurd (omega arith)
gate-wired f (s ∷ ss) i zero h = or_left (eqb i (i + 0)) (has_wire (gate_wires f ss (i + 1)) (i + 0)) (let e : i + 0 ≡ i = omega arith in subst (λ (y : ℕ). T (eqb i y)) (sym e) (eqb_refl i))
gate-wired f (s ∷ ss) i (suc x) h =
    let l : suc x < suc (length ss) = h in
    let e : i + 1 + x ≡ i + suc x = omega arith in
    or_right (eqb i (i + suc x)) (has_wire (gate_wires f ss (i + 1)) (i + suc x)) (subst (λ (y : ℕ). T (has_wire (gate_wires f ss (i + 1)) y)) e (gate-wired f ss (i + 1) x (omega arith)))

points-wired : (ws : List Wire) (k n : ℕ) → All (InputsWired ws) (points_from k n)
points-wired ws zero n = tt
points-wired ws (suc k) n = (tt, points-wired ws k (n + 2))

module _ (k q : ℕ) (f : DrivenBy → ℕ) (ws : List Wire) where
  parts-wired : (gs : List Gate) (n : ℕ) → All (GateIn k q) gs → ((i : ℕ) → T (has_wire (all_wires f gs n) i) → T (has_wire ws i)) → All (InputsWired ws) (parts_from gs n)
  parts-wired [] n o h = tt
  parts-wired (g ∷ gs) n o h =
      let t = n + (part_at g.part).inputs + 1 in
      let c = o.0.whole in (
        (λ x l. h (n + x) (wired-left (gate_wires f g.ins n) (all_wires f gs t) (n + x) (gate-wired f g.ins n x (omega arith)))),
        parts-wired gs t o.1 (λ i w. h i (wired-right (gate_wires f g.ins n) (all_wires f gs t) i w)),
      )

-- ---- the whole

new_pins : (m : Net) → Returns m → (b : Net) → b ≡ back_net (open_ins (gates m)) (gates m) → NewPins m b
new_pins m ok b e = subst (NewPins m) (sym e) of-back
  where
    of-back : NewPins m (back_net (open_ins (gates m)) (gates m))
    of-back =
        let k = open_ins (gates m) in
        let gs = gates m in
        let n = gates-length m m.elements 0 ok.parts in
        let q = length m.elements - 1 in
        let s = ok.some in
        let o : All (GateIn k q) gs = gates_in m ok q (omega arith) k m.elements 0 ok.parts (omega arith) in
        let t = 2 * k + 2 * length gs in
        let ws = all_wires (source_at gs t) gs t in
        record {
          points = points-count k 0 gs t;
          pins = sym (ap₂ ◌++◌ (points_pins k 0 gs t) (ap (map out) (points_no_output k 0 (parts_from gs t)) ∙ parts_pins gs t));
          wired = all_append (InputsWired ws) (points_from k 0) (parts_from gs t) (points-wired ws k 0) (parts-wired k q (source_at gs t) ws gs t o (λ i w. w));
        }

-- the lean netlist of the sheet that is written: its pins are the open inputs, then all part outputs, and its parts are driven
pub pins_back : (told : Bool) (s sheet : List ℕ) → Bytes s → returned told s ≡ good sheet → (m net : Net) → read_net s ≡ good m → full sheet ≡ good net → NewPins m (lean net)
pins_back told s sheet b e m net r f = go ((back-exact told s sheet b).0 e) (came-back told s sheet b e m r)
  where
    go : Back told s sheet → LeanOf sheet (back_net (open_ins (gates m)) (gates m)) → NewPins m (lean net)
    go k c =
        let n : k.accepts.net ≡ m = good-inj (sym (accepts-read told s k.accepts) ∙ r) in
        let l : lean net ≡ back_net (open_ins (gates m)) (gates m) = ap lean (good-inj (sym f ∙ c.accepted)) ∙ c.lean_is in
        new_pins m (subst Returns n k.returns) (lean net) l
