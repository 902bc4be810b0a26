-- The lean netlist says what document 01 says of it ("The lean netlist"): which elements it keeps, and that its wires go by rising target.
-- Assumes nothing.
use Prim.Native.Nat.{ℕ, zero, suc, ◌+◌, ◌≤◌}
use mathlib.Core.Path.{◌≡◌, refl, ap, subst}
use mathlib.Core.Bool.{Bool, true, false, cond, not, ◌&&◌}
use mathlib.Core.Logic.{◌↔◌}
use mathlib.Core.List.{List, [], ◌∷◌, ◌++◌, append_assoc}
use native.Mathlib.Omega.{arith}
use native.Mathlib.Nat.{le_refl}
use lib.Dec.{T, eqb, eqb→eq}
use lib.ListN.{length, length-map}
use Rattle.laws.proofs.Tests.{or_elim, or_left, or_right}
use Rattle.calculus.specs.Terms.{part_at}
use Rattle.calculus.specs.Net.{Element, point, part, Wire, Net}
use Rattle.calculus.specs.Lean.{driver, is_pin, root, kept, keep, to_inputs, lean_wires, lean_pin, lean, backs}
use Rattle.calculus.specs.Inputs.{is_out}
use Rattle.circuit_theorems.specs.Formed.{Rising, Formed}
use Rattle.circuit_theorems.proofs.RootLaws.{root_ring, root_stays}
use Rattle.circuit_theorems.proofs.BackLaws.{back-parts, PartStays}
use Rattle.circuit_theorems.proofs.Forming.{keep_out}
use Rattle.calculus.specs.Record.{All}

-- ---- the elements

-- the parts of a list of elements, in order
abbrev pub parts_of : List Element → List Element
parts_of [] = []
parts_of (point i ∷ es) = parts_of es
parts_of (part p i ∷ es) = part p i ∷ parts_of es

module _ (m : Net) where
  keep-parts : (es : List Element) → parts_of (keep m es) ≡ parts_of es
  keep-parts [] = refl
  keep-parts (point i ∷ es) = by-kept (kept m (point i)) (keep-parts es)
    where
      by-kept : (b : Bool) → parts_of (keep m es) ≡ parts_of es → parts_of (cond b (point i ∷ keep m es) (keep m es)) ≡ parts_of es
      by-kept true e = e
      by-kept false e = e
  keep-parts (part p i ∷ es) = ap (λ (l : List Element). part p i ∷ l) (keep-parts es)

  -- it keeps all parts
  pub lean-parts : parts_of (lean m).elements ≡ parts_of m.elements
  unfolding lean
  lean-parts = keep-parts m.elements

  keep-few : (es : List Element) → length (keep m es) ≤ length es
  keep-few [] = le_refl 0
  keep-few (point i ∷ es) = by-kept (kept m (point i)) (keep-few es)
    where
      by-kept : (b : Bool) → length (keep m es) ≤ length es → length (cond b (point i ∷ keep m es) (keep m es)) ≤ suc (length es)
      by-kept true h = omega arith
      by-kept false h = omega arith
  keep-few (part p i ∷ es) = omega (arith, keep-few es)

  pub lean-elements_few : length (lean m).elements ≤ length m.elements
  unfolding lean
  lean-elements_few = keep-few m.elements

  pub lean_pins : length (lean m).pins ≡ length m.pins
  unfolding lean
  lean_pins = length-map m.pins (lean_pin m)

  kept-root : (es : List Element) (x : ℕ) → All (PartStays m) es → T (is_out (keep m es) x) → (root m x ≡ x) × T (is_out es x)
  kept-root [] x a h = absurd h
  kept-root (point i ∷ es) x a h = by-kept (kept m (point i)) (λ t. t) (kept-root es x a.1) h
    where
      by-kept : (b : Bool) → (T b → T (kept m (point i))) → (T (is_out (keep m es) x) → (root m x ≡ x) × T (is_out es x)) → T (is_out (cond b (point i ∷ keep m es) (keep m es)) x)
          → (root m x ≡ x) × T (is_out (point i ∷ es) x)
      by-kept true k r h =
          or_elim (eqb (i + 1) x) (is_out (keep m es) x) h
          (λ t. (subst (λ (y : ℕ). root m y ≡ y) (eqb→eq (i + 1) x t) (eqb→eq (root m (i + 1)) (i + 1) (k tt)), or_left (eqb (i + 1) x) (is_out es x) t))
          (λ t. ((r t).0, or_right (eqb (i + 1) x) (is_out es x) (r t).1))
      by-kept false k r h = ((r h).0, or_right (eqb (i + 1) x) (is_out es x) (r h).1)
  kept-root (part p i ∷ es) x a h =
      or_elim (eqb (i + (part_at p).inputs) x) (is_out (keep m es) x) h
      (λ t. (subst (λ (y : ℕ). root m y ≡ y) (eqb→eq (i + (part_at p).inputs) x t) (root_stays m (i + (part_at p).inputs) a.0), or_left (eqb (i + (part_at p).inputs) x) (is_out es x) t))
      (λ t. let r = kept-root es x a.1 t in (r.0, or_right (eqb (i + (part_at p).inputs) x) (is_out es x) r.1))

  -- its outputs are just the outputs that are roots
  pub lean-outputs : Formed m → (x : ℕ) → T (is_out (lean m).elements x) ↔ ((root m x ≡ x) × T (is_out m.elements x))
  unfolding lean
  lean-outputs ok x = (kept-root m.elements x (back-parts m ok.end ok.rising), (λ r. keep_out m m.elements x r.0 r.1))

  -- a kept point's output comes round: it is on a ring, or stays because its input is a pin
  pub kept_ring : (i : ℕ) → T (kept m (point i)) → (k : ℕ) × (1 ≤ k) × (backs k m (i + 1) ≡ i + 1)
  kept_ring i h = root_ring m (i + 1) (eqb→eq (root m (i + 1)) (i + 1) h)

-- ---- the wires

-- targets rise, the first at n or above
abbrev pub Ascending : ℕ → List Wire → Type 0
Ascending n [] = Unit {0}
Ascending n (w ∷ ws) = (n ≤ w.to) × Ascending (w.to + 1) ws

ascending_lower : (k n : ℕ) (ws : List Wire) → k ≤ n → Ascending n ws → Ascending k ws
ascending_lower k n [] h a = tt
ascending_lower k n (w ∷ ws) h a = (let q = a.0 in omega arith, a.1)

-- one wire, or none, before those from its target's next terminal on
ascending_cond : (b : Bool) (n : ℕ) (w : Wire) (ws : List Wire) → n ≤ w.to → Ascending (w.to + 1) ws → Ascending n (cond b (w ∷ []) [] ++ ws)
ascending_cond true n w ws h a = (h, a)
ascending_cond false n w ws h a = ascending_lower n (w.to + 1) ws (omega arith) a

ascending_unless : (b : Bool) (n : ℕ) (w : Wire) (ws : List Wire) → n ≤ w.to → Ascending (w.to + 1) ws → Ascending n (cond b [] (w ∷ []) ++ ws)
ascending_unless true = ascending_cond false
ascending_unless false = ascending_cond true

module _ (m : Net) where
  inputs-ascending : (k i : ℕ) (ws : List Wire) → Ascending (i + k) ws → Ascending i (to_inputs m k i ++ ws)
  inputs-ascending zero i ws a = let e : i + 0 ≡ i = omega arith in subst (λ (x : ℕ). Ascending x ws) e a
  inputs-ascending (suc k) i ws a =
      rw (append_assoc (cond (is_pin m.pins i) [] (record { from = root m (driver m.wires i 0); to = i } ∷ [])) (to_inputs m k (i + 1)) ws)
      (ascending_unless (is_pin m.pins i) i (record { from = root m (driver m.wires i 0); to = i }) (to_inputs m k (i + 1) ++ ws) (le_refl i)
      (inputs-ascending k (i + 1) ws (let e : i + suc k ≡ i + 1 + k = omega arith in subst (λ (x : ℕ). Ascending x ws) e a)))

  wires-ascending : (es : List Element) (n e : ℕ) → Rising es n e → Ascending n (lean_wires m es)
  wires-ascending [] n e a = tt
  wires-ascending (point i ∷ es) n e a =
      ascending_cond (kept m (point i) && not (is_pin m.pins i)) n (record { from = i + 1; to = i }) (lean_wires m es) a.0
      (ascending_lower (i + 1) (i + 2) (lean_wires m es) (omega arith) (wires-ascending es (i + 2) e a.1))
  wires-ascending (part p i ∷ es) n e a =
      ascending_lower n i (to_inputs m (part_at p).inputs i ++ lean_wires m es) a.0
      (inputs-ascending (part_at p).inputs i (lean_wires m es)
      (ascending_lower (i + (part_at p).inputs) (i + (part_at p).inputs + 1) (lean_wires m es) (omega arith) (wires-ascending es (i + (part_at p).inputs + 1) e a.1)))

  -- its wires go by rising target
  pub lean_ascending : Formed m → Ascending 0 (lean m).wires
  unfolding lean
  lean_ascending ok = wires-ascending m.elements 0 ok.end ok.rising
