-- Laws of what the working memory holds: a run of stores behind a list makes it longer and leaves the others; what is behind a list may be
-- forgotten; wires make drivers and targets. Assumes nothing.
use Prim.Native.Nat.{ℕ, suc, ◌+◌, ◌*◌, ◌-◌, ◌≤◌, ◌<◌}
use mathlib.Core.Path.{◌≡◌, sym, ap, ◌∙◌, subst}
use mathlib.Core.Bool.{not, true≢false, false≢true}
use mathlib.Core.List.{List, [], ◌∷◌, ◌++◌, map, append_assoc, append-nil, nil≢cons, head-eq_of_cons-eq, tail-eq_of_cons-eq}
use native.Mathlib.Omega.{arith}
use native.Mathlib.Decide.{dec_le, ℕ_discrete}
use lib.ListN.{length, get_or, set, length-append, length-set, get_or-append}
use lib.Seq.{sets, length-sets, get_or-set_same, get_or-set_other, get_or-append-add, drop-set-lt, ext_get_or}
use Rattle.laws.proofs.Regions.{sets-before, sets_outside, sets-drop, sets-at, region-length, region-at}
use Rattle.calculus.specs.Net.{inp, out, Interface, Wire, join}
use Rattle.calculus.specs.Record.{All}
use Rattle.memory.specs.Map.{targets_at, elements_at, stack_at, binders_at, memory_size, region, code}
use Rattle.circuit_theorems.specs.Drive.{drive_all}
use Rattle.circuit_theorems.proofs.Lists.{all_append, all_left}
use Rattle.circuit_theorems.specs.Scope.{dirs}
use Rattle.wiring.specs.Links.{wired, linked, links}
use Rattle.wiring.specs.Store.{Store, Lies, Low, Holds, more_kinds, at_stack, at_binders, target, more_wires}
use Rattle.wiring.proofs.LinkLaws.{linked_codes}

-- ---- one list

module _ {w : List ℕ} {from room : ℕ} {xs : List ℕ} (L : Lies w from room xs) where
  -- a run past the room, or before it
  pub lies_under : (vs : List ℕ) (i : ℕ) → from + room ≤ i → Lies (sets w i vs) from room xs
  lies_under vs i h = record { fits = L.fits; here = λ j l. sets-before vs w i (from + j) 0 (omega (arith, L.fits)) ∙ L.here j l }

  pub lies_above : (vs : List ℕ) (i : ℕ) → i + length vs ≤ from → Lies (sets w i vs) from room xs
  lies_above vs i h = record { fits = L.fits; here = λ j l. sets_outside vs w i (from + j) 0 (omega arith) (omega arith) ∙ L.here j l }

  -- a run right behind the list
  pub lies_push : (vs : List ℕ) (i : ℕ) → i ≡ from + length xs → length xs + length vs ≤ room → from + room ≤ length w → Lies (sets w i vs) from room (xs ++ vs)
  lies_push vs i e h g = record {
    fits = rw length-append h;
    here = λ j l. elim (dec_le (suc j) (length xs)) [
      | yes lt ↦ sets-before vs w i (from + j) 0 (omega arith) ∙ L.here j lt ∙ sym (get_or-append xs vs 0 j lt)
      | no ge ↦ let k = j - length xs in
          let ej : j ≡ length xs + k = omega arith in
          let ek : from + j ≡ i + k = omega arith in
          let lk : k < length vs = omega (arith, length-append xs vs) in
          rw ek (sets-at vs w i k (omega arith) lk) ∙ sym (ap (λ (x : ℕ). get_or (xs ++ vs) x 0) ej ∙ get_or-append-add xs vs k 0)
    ];
  }

  -- one entry changed
  pub lies_set : (i v : ℕ) → i < length xs → from + room ≤ length w → Lies (set w (from + i) v) from room (set xs i v)
  lies_set i v h g = record {
    fits = rw length-set L.fits;
    here = λ j l. elim (ℕ_discrete j i) [
      | yes e ↦ rw e (get_or-set_same w (from + i) v 0 (omega (arith, L.fits)) ∙ sym (get_or-set_same xs i v 0 h))
      | no ne ↦ get_or-set_other w (from + i) (from + j) v 0 (λ e. ne (omega arith)) ∙ L.here j (rw length-set at l) ∙ sym (get_or-set_other xs i j v 0 ne)
    ];
  }

-- what is behind a list may be forgotten
pub lies_front : {w : List ℕ} {from room : ℕ} (xs ys : List ℕ) → Lies w from room (xs ++ ys) → Lies w from room xs
lies_front xs ys L =
    let e = length-append xs ys in
    record { fits = omega (arith, L.fits); here = λ j l. L.here j (omega arith) ∙ get_or-append xs ys 0 j l }

-- a part of a list, as a region
pub lies_region : {w : List ℕ} {from room : ℕ} (xs ys zs : List ℕ) → Lies w from room (xs ++ (ys ++ zs)) → from + room ≤ length w → (a : ℕ) → a ≡ from + length xs → region w a (length ys) ≡ ys
lies_region {w} {from} {room} xs ys zs L g a ea =
    let e₁ = length-append xs (ys ++ zs) in
    let e₂ = length-append ys zs in
    let h : a + length ys ≤ length w = omega (arith, L.fits) in
    ext_get_or 0 (region w a (length ys)) ys (region-length w a (length ys) h)
    (λ i l. let lt : i < length ys = omega (arith, region-length w a (length ys) h) in
    let e₃ : a + i ≡ from + (length xs + i) = omega arith in
    region-at w a (length ys) i lt ∙ rw e₃ (L.here (length xs + i) (omega arith)) ∙ get_or-append-add xs (ys ++ zs) i 0 ∙ get_or-append ys zs 0 i lt)

-- ---- the whole

module _ {w : List ℕ} {m : Store} (H : Holds w m) where
  pub push_kinds : (vs : List ℕ) (i : ℕ) → i ≡ elements_at + length m.kinds → length m.kinds + length vs ≤ 5120 → Holds (sets w i vs) (more_kinds m vs)
  push_kinds vs i e h =
      let z = length-sets w i vs in
      record {
        size = omega (arith, H.size);
        drivers = lies_under H.drivers vs i (omega arith);
        all = H.all;
        targets = lies_under H.targets vs i (omega arith);
        kinds = lies_push H.kinds vs i e h (omega (arith, H.size));
        stack = lies_above H.stack vs i (omega arith);
        low = H.low;
        binders = lies_above H.binders vs i (omega arith);
        rest = sets-drop vs w i memory_size (omega arith) ∙ H.rest;
      }

  pub push_stack : (vs : List ℕ) (i : ℕ) → i ≡ stack_at + length m.stack → length m.stack + length vs ≤ 8448 → All Low vs → Holds (sets w i vs) (at_stack m (m.stack ++ vs))
  push_stack vs i e h lo =
      let z = length-sets w i vs in
      record {
        size = omega (arith, H.size);
        drivers = lies_under H.drivers vs i (omega arith);
        all = H.all;
        targets = lies_under H.targets vs i (omega arith);
        kinds = lies_under H.kinds vs i (omega arith);
        stack = lies_push H.stack vs i e h (omega (arith, H.size));
        low = all_append Low m.stack vs H.low lo;
        binders = lies_above H.binders vs i (omega arith);
        rest = sets-drop vs w i memory_size (omega arith) ∙ H.rest;
      }

  pub push_binders : (vs : List ℕ) (i : ℕ) → i ≡ binders_at + length m.binders → length m.binders + length vs ≤ 256 → Holds (sets w i vs) (at_binders m (m.binders ++ vs))
  push_binders vs i e h =
      let z = length-sets w i vs in
      record {
        size = omega (arith, H.size);
        drivers = lies_under H.drivers vs i (omega arith);
        all = H.all;
        targets = lies_under H.targets vs i (omega arith);
        kinds = lies_under H.kinds vs i (omega arith);
        stack = lies_under H.stack vs i (omega arith);
        low = H.low;
        binders = lies_push H.binders vs i e h (omega (arith, H.size));
        rest = sets-drop vs w i memory_size (omega arith) ∙ H.rest;
      }

  pub cut_stack : (xs ys : List ℕ) → m.stack ≡ xs ++ ys → Holds w (at_stack m xs)
  cut_stack xs ys e = record {
    size = H.size;
    drivers = H.drivers;
    all = H.all;
    targets = H.targets;
    kinds = H.kinds;
    stack = lies_front xs ys (rw e at H.stack);
    low = all_left Low xs ys (rw e at H.low);
    binders = H.binders;
    rest = H.rest;
  }

  pub cut_binders : (xs ys : List ℕ) → m.binders ≡ xs ++ ys → Holds w (at_binders m xs)
  cut_binders xs ys e = record {
    size = H.size;
    drivers = H.drivers;
    all = H.all;
    targets = H.targets;
    kinds = H.kinds;
    stack = H.stack;
    low = H.low;
    binders = lies_front xs ys (rw e at H.binders);
    rest = H.rest;
  }

  pub push_wire : (k o i : ℕ) → k ≡ length m.targets → k < 5632 → i < 8192 → Holds (wired w k o i) (more_wires m (record { from = o; to = i } ∷ []))
  push_wire k o i e h l =
      let z₁ = length-set w i o in
      let z₀ : 0 + i ≡ i = omega arith in
      let D : Lies (set w i o) 0 8192 (set m.drivers i o) = rw z₀ at (lies_set H.drivers i o (omega (arith, H.all)) (omega (arith, H.size))) in
      let T₁ = lies_above H.targets (o ∷ []) i (omega arith) in
      let e₂ : targets_at + k ≡ targets_at + length m.targets = omega arith in
      record {
        size = rw (length-set, length-set) H.size;
        drivers = lies_under D (i ∷ []) (targets_at + k) (omega arith);
        all = rw length-set H.all;
        targets = lies_push T₁ (i ∷ []) (targets_at + k) e₂ (omega arith) (omega (arith, H.size));
        kinds = lies_above (lies_above H.kinds (o ∷ []) i (omega arith)) (i ∷ []) (targets_at + k) (omega arith);
        stack = lies_above (lies_above H.stack (o ∷ []) i (omega arith)) (i ∷ []) (targets_at + k) (omega arith);
        low = H.low;
        binders = lies_above (lies_above H.binders (o ∷ []) i (omega arith)) (i ∷ []) (targets_at + k) (omega arith);
        rest = drop-set-lt memory_size (set w i o) (targets_at + k) i (omega arith) ∙ drop-set-lt memory_size w i o (omega arith) ∙ H.rest;
      }

-- ---- the wires between two interfaces

-- one wire, then the others
then_wires : {w : List ℕ} (m : Store) (v : Wire) (ws : List Wire) → Holds w (more_wires (more_wires m (v ∷ [])) ws) → Holds w (more_wires m (v ∷ ws))
then_wires {w} m v ws H = subst (λ (x : List ℕ). Holds w (record { drivers = drive_all ws (set m.drivers v.to v.from); targets = x; kinds = m.kinds; stack = m.stack; binders = m.binders; rest = m.rest })) (append_assoc m.targets (v.to ∷ []) (map target ws)) H

pub links_hold : (a f : Interface) (w : List ℕ) (m : Store) (k : ℕ) → Holds w m → dirs f ≡ map not (dirs a) → All Low (map code a) → All Low (map code f)
    → k ≡ length m.targets → k + length a ≤ 5632 → Holds (links w k (map code a) (map code f)) (more_wires m (join a f))
links_hold [] f w m k H d la lf e h = subst (λ (x : List ℕ). Holds w (record { drivers = m.drivers; targets = x; kinds = m.kinds; stack = m.stack; binders = m.binders; rest = m.rest })) (sym (append-nil m.targets)) H
links_hold (x ∷ a) [] w m k H d la lf e h = absurd (nil≢cons d)
links_hold (out o ∷ a) (inp i ∷ f) w m k H d la lf e h =
    let v : Wire = record { from = o; to = i } in
    let P = push_wire H k o i e (omega arith) (omega (arith, lf.0)) in
    then_wires m v (join a f)
    (links_hold a f (linked w k (2 * o + 1) (2 * i)) (more_wires m (v ∷ [])) (suc k) (rw (linked_codes w k (out o) (inp i)) P) (tail-eq_of_cons-eq d) la.1 lf.1 (omega (arith, length-append m.targets (i ∷ []))) (omega arith))
links_hold (inp i ∷ a) (out o ∷ f) w m k H d la lf e h =
    let v : Wire = record { from = o; to = i } in
    let P = push_wire H k o i e (omega arith) (omega (arith, la.0)) in
    then_wires m v (join a f)
    (links_hold a f (linked w k (2 * i) (2 * o + 1)) (more_wires m (v ∷ [])) (suc k) (rw (linked_codes w k (inp i) (out o)) P) (tail-eq_of_cons-eq d) la.1 lf.1 (omega (arith, length-append m.targets (i ∷ []))) (omega arith))
links_hold (out o ∷ a) (out p ∷ f) w m k H d la lf e h = absurd (false≢true (head-eq_of_cons-eq d))
links_hold (inp i ∷ a) (inp j ∷ f) w m k H d la lf e h = absurd (true≢false (head-eq_of_cons-eq d))
