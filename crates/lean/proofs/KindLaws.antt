-- Laws of elements that their kinds tell: the terminals that they take. Assumes nothing.
use Prim.Native.Nat.{ℕ, ◌+◌, ◌≤◌, ◌<◌}
use mathlib.Core.Path.{◌≡◌, refl}
use mathlib.Core.Bool.{Bool, true, false, cond}
use mathlib.Core.List.{List, [], ◌∷◌}
use native.Mathlib.Omega.{arith}
use native.Mathlib.Numerals.{add-one}
use lib.Dec.{eqb}
use borrow.Author.Tests.{ne_eqb, eq-eqb}
use lib.ListN.{length, get_or, drop}
use lib.Seq.{drop-cons, get_or-take, get_or-drop}
use Rattle.laws.proofs.Regions.{drop_past}
use Rattle.calculus.specs.Terms.{part_at}
use Rattle.circuit_theorems.specs.Formed.{Tiled}
use Rattle.memory.specs.Map.{region, elements_from}
use Rattle.netlist.specs.Elements.{output_of, after, after_all}
use Rattle.circuit_theorems.proofs.Bounds.{tiled-end}
use Rattle.netlist.proofs.Elements.{kinds-tiled}
use Rattle.laws.proofs.Regions.{region-length}

-- the next free terminal is one behind the output
pub after-output : (k n : ℕ) → output_of k n + 1 ≡ after k n
after-output k n = by (eqb k 7)
  where
    by : (b : Bool) → cond b (n + 1) (n + (part_at k).inputs) + 1 ≡ cond b (n + 2) (n + (part_at k).inputs + 1)
    by true = omega arith
    by false = refl

pub output-from : (k n : ℕ) → n ≤ output_of k n
output-from k n = by (eqb k 7)
  where
    by : (b : Bool) → n ≤ cond b (n + 1) (n + (part_at k).inputs)
    by true = omega arith
    by false = omega arith

pub tiled-after : (ks : List ℕ) (n e : ℕ) → Tiled (elements_from ks n) n e → after_all ks n ≡ e
tiled-after ks n e t = tiled-end (elements_from ks n) n (after_all ks n) e (kinds-tiled ks n) t

-- ---- n numbers from `at` on, one after the other

pub region-next : (w : List ℕ) (at n i : ℕ) → at + n ≤ length w → i < n → drop i (region w at n) ≡ get_or w (at + i) 0 ∷ drop (i + 1) (region w at n)
region-next w at n i h lt =
    let l = region-length w at n h in
    rw (add-one i, drop-cons (region w at n) i 0 (omega arith), get_or-take n (drop at w) i 0 lt, get_or-drop at w i 0)

pub region-end : (w : List ℕ) (at n i : ℕ) → at + n ≤ length w → n ≤ i → drop i (region w at n) ≡ []
region-end w at n i h le = drop_past (region w at n) i (omega (arith, region-length w at n h))

-- ---- a choice by the kind

pub output-low : (k n e : ℕ) → after k n ≤ e → output_of k n < e
output-low k n e h = omega (arith, after-output k n)

pub first_low : (k n e : ℕ) → after k n ≤ e → n < e
first_low k n e h = omega (arith, after-output k n, output-from k n)

pub point_low : (k n e : ℕ) → k ≡ 7 → after k n ≤ e → n + 2 ≤ e
point_low k n e z h = rw (eq-eqb k 7 z) at h

pub part_low : (k n e : ℕ) → (k ≡ 7 → ⊥) → after k n ≤ e → n + (part_at k).inputs + 1 ≤ e
part_low k n e d h = rw (ne_eqb k 7 d) at h
