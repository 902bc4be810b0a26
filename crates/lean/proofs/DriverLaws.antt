-- The table of drivers on a netlist that stands in the memory: an input has none just where it is a pin. Assumes nothing.
use Prim.Native.Nat.{ℕ, ◌+◌, ◌≤◌, ◌<◌}
use mathlib.Core.Path.{◌≡◌, refl, sym, ◌∙◌, subst}
use mathlib.Core.Bool.{Bool, true, false}
use mathlib.Core.List.{List}
use native.Mathlib.Omega.{arith}
use native.Mathlib.Decide.{ℕ_discrete}
use lib.Dec.{T, eqb}
use lib.ListN.{get_or}
use borrow.Author.Tests.{ne_eqb, eq-eqb}
use Rattle.calculus.specs.Net.{Net}
use Rattle.calculus.specs.Lean.{driver, is_pin, back, root}
use Rattle.calculus.specs.Inputs.{targets, made_at_lem, is_out}
use Rattle.circuit_theorems.specs.Formed.{Rising}
use Rattle.circuit_theorems.proofs.Lists.{all_map}
use Rattle.circuit_theorems.proofs.Terminals.{point_in, made-high, made_one, tiled-rising, out_high, point_made, driver-is, driver-fed, driver-any, pin_ins, no_ins}
use Rattle.circuit_theorems.proofs.Drive.{driver-none}
use Rattle.circuit_theorems.proofs.NetRead.{out_not_made}
use Rattle.circuit_theorems.proofs.BackLaws.{back_point, pin_root}
use Rattle.memory.specs.Map.{net_in, Ready}

module _ (w : List ℕ) (e k p : ℕ) (r : Ready w e k p) where
  abbrev m : Net
  m = net_in w e k p

  pub rising : Rising m.elements 0 r.end
  rising = tiled-rising m.elements 0 r.end r.tiled

  pub output-below : (o : ℕ) → T (is_out m.elements o) → o < 8192
  output-below o h = let b = r.below in omega (arith, out_high m.elements 0 r.end o rising h)

  pub input-below : (i : ℕ) → 1 ≤ made_at_lem m.elements i → i < 8192
  input-below i h =
      elim (ℕ_discrete (made_at_lem m.elements i) 0) [
        | yes z ↦ absurd (omega arith)
        | no z ↦ let b = r.below in lt (λ l. z (made-high m.elements 0 r.end i rising l)) b
      ]
    where
      lt : (r.end ≤ i → ⊥) → r.end ≤ 8192 → i < 8192
      lt f b = omega arith

  -- no wire goes to an output
  pub output_free : (o : ℕ) → T (is_out m.elements o) → get_or w o 0 ≡ 65535
  output_free o t =
      let z = r.formed.reached o in
      let n = out_not_made m.elements 0 r.end o rising t in
      r.table o (output-below o t) ∙ driver-none m.wires o 65535 (omega arith)

  -- a driver is an output
  pub driver_out : (i : ℕ) → i < 8192 → (get_or w i 0 ≡ 65535 → ⊥) → T (is_out m.elements (get_or w i 0))
  driver_out i l d =
      subst (λ (x : ℕ). (x ≡ 65535 → ⊥) → T (is_out m.elements x)) (sym (r.table i l))
      (driver-is (λ x. (x ≡ 65535 → ⊥) → T (is_out m.elements x)) m.wires i 65535
      (all_map (λ v. T (is_out m.elements v.from)) (λ v. (v.from ≡ 65535 → ⊥) → T (is_out m.elements v.from)) (λ v t z. t) m.wires r.formed.from) (λ z. absurd (z refl))) d

  -- a made input that is no pin is reached by a wire
  pub fed : (i : ℕ) → 1 ≤ made_at_lem m.elements i → is_pin m.pins i ≡ false → 1 ≤ targets m.wires i
  fed i h u = omega (arith, r.formed.reached i, no_ins m.pins i u)

  fed-driven : (i : ℕ) → 1 ≤ made_at_lem m.elements i → is_pin m.pins i ≡ false → get_or w i 0 ≡ 65535 → ⊥
  fed-driven i h u z =
      let o = driver-fed (λ x. T (is_out m.elements x)) m.wires i 65535 r.formed.from (fed i h u) in
      let q = r.table i (input-below i h) in
      let s = output-below (driver m.wires i 65535) o in
      omega arith

  pin-driven : (i : ℕ) → 1 ≤ made_at_lem m.elements i → is_pin m.pins i ≡ true → get_or w i 0 ≡ 65535
  pin-driven i h u =
      r.table i (input-below i h)
      ∙ driver-none m.wires i 65535 (omega (arith, r.formed.reached i, made_one m.elements 0 r.end i rising, pin_ins m.pins i (subst T (sym u) tt)))

  -- a made input is a pin just where the table has no driver
  pub pin_none : (i : ℕ) → 1 ≤ made_at_lem m.elements i → is_pin m.pins i ≡ eqb (get_or w i 0) 65535
  pin_none i h = by (is_pin m.pins i) refl
    where
      by : (b : Bool) → is_pin m.pins i ≡ b → b ≡ eqb (get_or w i 0) 65535
      by true u = sym (eq-eqb (get_or w i 0) 65535 (pin-driven i h u))
      by false u = sym (ne_eqb (get_or w i 0) 65535 (fed-driven i h u))

  -- the driver of an input that is no pin
  pub driver_in : (i d : ℕ) → 1 ≤ made_at_lem m.elements i → is_pin m.pins i ≡ false → driver m.wires i d ≡ get_or w i 0
  driver_in i d h u = driver-any m.wires i d 65535 (fed i h u) ∙ sym (r.table i (input-below i h))

  -- a point without a driver is its own root ..
  pub point_none : (i : ℕ) → T (point_in m.elements i) → get_or w i 0 ≡ 65535 → root m (i + 1) ≡ i + 1
  point_none i h z = pin_root m i (subst T (sym (pin_none i (point_made m.elements i h) ∙ eq-eqb (get_or w i 0) 65535 z)) tt)

  -- .. and any other goes back to its driver
  pub point_driven : (i : ℕ) → T (point_in m.elements i) → (get_or w i 0 ≡ 65535 → ⊥) → back m (i + 1) ≡ get_or w i 0
  point_driven i h d =
      let c = point_made m.elements i h in
      let u = pin_none i c ∙ ne_eqb (get_or w i 0) 65535 d in
      back_point m i h u ∙ driver_in i (i + 1) c u
