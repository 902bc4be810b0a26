-- Interfaces on the stack: two of them wired, and one moved down. Assumes nothing.
use Prim.Native.Nat.{ℕ, ◌+◌, ◌≤◌, ◌<◌}
use mathlib.Core.Path.{◌≡◌, sym, ap, ◌∙◌, subst}
use mathlib.Core.Bool.{not}
use mathlib.Core.List.{List, [], ◌++◌, map}
use native.Mathlib.Omega.{arith}
use lib.ListN.{length, get_or, length-append, length-map}
use lib.Seq.{sets}
use Rattle.calculus.specs.Net.{Interface, join}
use Rattle.calculus.specs.Record.{All}
use Rattle.memory.specs.Map.{elements_at, stack_at, region, code}
use Rattle.circuit_theorems.specs.Scope.{dirs}
use Rattle.circuit_theorems.proofs.Lists.{all_left, all_right}
use Rattle.wiring.specs.Links.{links, Apart}
use Rattle.wiring.specs.Store.{Store, Lies, Low, Holds, at_stack, more_wires}
use Rattle.laws.proofs.Regions.{region-at}
use Rattle.wiring.proofs.StoreLaws.{lies_region, cut_stack, push_stack, links_hold}
use Rattle.wiring.proofs.LeafLaws.{low-at}

-- numbers ys on the stack, above xs
pub record StackPart (m : Store) (xs ys : List ℕ) : Type 0 where
  pub above : List ℕ
  pub stack_is : m.stack ≡ xs ++ (ys ++ above)

module _ {w : List ℕ} {m : Store} (H : Holds w m) where
  pub part-within : {xs ys : List ℕ} → StackPart m xs ys → (at l : ℕ) → at ≡ stack_at + length xs → length ys ≡ l → (length xs + l ≤ 8448) × (at + l ≤ length w) × (elements_at ≤ at)
  part-within {xs} {ys} p at l ea el =
      let e = ap length p.stack_is ∙ length-append xs (ys ++ p.above) in
      let e₂ = length-append ys p.above in
      (omega (arith, H.stack.fits), omega (arith, H.stack.fits, H.size), omega arith)

  pub part-region : {xs ys : List ℕ} → StackPart m xs ys → (at l : ℕ) → at ≡ stack_at + length xs → length ys ≡ l → region w at l ≡ ys
  part-region {xs} {ys} p at l ea el =
      let L = subst (Lies w stack_at 8448) p.stack_is H.stack in
      ap (region w at) (sym el) ∙ lies_region xs ys p.above L (omega (arith, H.size)) at ea

  pub part_low : {xs ys : List ℕ} → StackPart m xs ys → All Low ys
  part_low {xs} {ys} p = all_left Low ys p.above (all_right Low xs (ys ++ p.above) (subst (All Low) p.stack_is H.low))

  low-there : {xs ys : List ℕ} → StackPart m xs ys → (at l : ℕ) → at ≡ stack_at + length xs → length ys ≡ l → (j : ℕ) → j < l → get_or w (at + j) 0 < 16384
  low-there {xs} {ys} p at l ea el j h = subst Low (ap (λ (x : List ℕ). get_or x j 0) (sym (part-region p at l ea el)) ∙ region-at w at l j h) (low-at ys (part_low p) j)

  -- two interfaces of opposite directions, wired
  module _ (a f : Interface) {xs ys : List ℕ} (p : StackPart m xs (map code a)) (q : StackPart m ys (map code f)) (pa pf l k : ℕ)
      (ea : pa ≡ stack_at + length xs) (ef : pf ≡ stack_at + length ys) (la : length a ≡ l) (lf : length f ≡ l) (ek : k ≡ length m.targets) (few : k + l ≤ 5632) where
    pub wired-apart : Apart w pa pf l k
    wired-apart =
        let ca = length-map a code ∙ la in
        let cf = length-map f code ∙ lf in
        let ba = part-within p pa l ea ca in
        let bf = part-within q pf l ef cf in
        record {
          size = H.size;
          high_a = ba.2;
          high_f = bf.2;
          in_a = ba.1;
          in_f = bf.1;
          low_a = low-there p pa l ea ca;
          low_f = low-there q pf l ef cf;
          few = few;
        }

    pub wired-holds : dirs f ≡ map not (dirs a) → Holds (links w k (region w pa l) (region w pf l)) (more_wires m (join a f))
    wired-holds d =
        let ca = length-map a code ∙ la in
        let cf = length-map f code ∙ lf in
        rw (part-region p pa l ea ca, part-region q pf l ef cf) (links_hold a f w m k H d (part_low p) (part_low q) ek (omega arith))

  -- one moved down
  pub moved_holds : {xs ys zs : List ℕ} → StackPart m xs ys → StackPart m zs [] → (from to l : ℕ) → from ≡ stack_at + length xs → to ≡ stack_at + length zs → to ≤ from → length ys ≡ l
      → Holds (sets w to (region w from l)) (at_stack m (zs ++ ys))
  moved_holds {xs} {ys} {zs} p z from to l ef et down el =
      let b = part-within p from l ef el in
      rw (part-region p from l ef el) (push_stack (cut_stack H zs z.above z.stack_is) ys to et (omega arith) (part_low p))
