-- The netlist in the memory stays where nothing below the table of roots changes. Assumes nothing.
use Prim.Native.Nat.{ℕ, ◌+◌, ◌≤◌, ◌<◌}
use mathlib.Core.Path.{◌≡◌, refl, sym, ap, ◌∙◌}
use mathlib.Core.List.{List, [], ◌∷◌}
use native.Mathlib.Omega.{arith}
use native.Mathlib.Decide.{dec_le}
use lib.ListN.{length, get_or}
use Rattle.laws.proofs.Regions.{region_ext}
use Rattle.calculus.specs.Net.{Net}
use Rattle.calculus.specs.Record.{All}
use Rattle.calculus.specs.Inputs.{targets}
use Rattle.calculus.specs.Lean.{driver}
use Rattle.circuit_theorems.proofs.Lists.{all_map}
use Rattle.circuit_theorems.proofs.Terminals.{each_target, made-high, tiled-rising}
use Rattle.memory.specs.Map.{targets_at, elements_at, stack_at, roots_at, region, wires_from, net_in, Ready}

wires_to : (w is : List ℕ) (P : ℕ → Type 0) → All (λ x. P x.to) (wires_from w is) → All P is
wires_to w [] P a = tt
wires_to w (i ∷ is) P a = (a.0, wires_to w is P a.1)

wires_same : (w w' is : List ℕ) → ((j : ℕ) → j < roots_at → get_or w' j 0 ≡ get_or w j 0) → All (λ i. i < 8192) is → wires_from w' is ≡ wires_from w is
wires_same w w' [] h a = refl
wires_same w w' (i ∷ is) h a = let l = a.0 in rw (h i (omega arith), wires_same w w' is h a.1)

module _ (w : List ℕ) (e k p : ℕ) (r : Ready w e k p) where
  -- what is reached is made, and so below the end
  made-low : (i : ℕ) → 1 ≤ targets (net_in w e k p).wires i → i < 8192
  made-low i h =
      elim (dec_le r.end i) [
        | yes l ↦ absurd (omega (arith, r.formed.reached i, made-high (net_in w e k p).elements 0 r.end i (tiled-rising (net_in w e k p).elements 0 r.end r.tiled) l))
        | no l ↦ let b = r.below in omega arith
      ]

  targets-low : All (λ i. i < 8192) (region w targets_at k)
  unfolding net_in
  targets-low =
      wires_to w (region w targets_at k) (λ i. i < 8192)
      (all_map (λ x. 1 ≤ targets (net_in w e k p).wires x.to) (λ x. x.to < 8192) (λ x h. made-low x.to h) (net_in w e k p).wires (each_target (net_in w e k p).wires))

  module _ (w' : List ℕ) (z : length w' ≡ length w) (h : (j : ℕ) → j < roots_at → get_or w' j 0 ≡ get_or w j 0) where
    low_same : (at n : ℕ) → at + n ≤ roots_at → region w' at n ≡ region w at n
    low_same at n l =
        let s = r.size in
        region_ext at n w w' (omega arith) (omega arith) (λ j a b. h j (omega arith))

    pub net-same : net_in w' e k p ≡ net_in w e k p
    unfolding net_in
    net-same =
        let a = r.few_elements in
        let b = r.few_wires in
        let c = r.few_pins in
        rw (low_same elements_at e (omega arith), low_same targets_at k (omega arith), low_same stack_at p (omega arith), wires_same w w' (region w targets_at k) h targets-low)

    pub ready_same : Ready w' e k p
    ready_same =
        let s = r.size in
        record {
          size = omega arith;
          few_elements = r.few_elements;
          few_wires = r.few_wires;
          few_pins = r.few_pins;
          end = r.end;
          below = r.below;
          tiled = rw net-same r.tiled;
          formed = rw net-same r.formed;
          table = λ i l. h i (omega arith) ∙ r.table i l ∙ ap (λ (m : Net). driver m.wires i 65535) (sym net-same);
        }
