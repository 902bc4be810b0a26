-- A run of stores, one at each turn of a loop: what is still to be stored, stored over what stands, is the whole. Assumes nothing.
use Prim.Native.Nat.{ℕ, zero, suc, ◌+◌, ◌*◌, ◌≤◌, ◌<◌}
use mathlib.Core.Path.{◌≡◌, refl, ap, ap₂, ◌∙◌}
use mathlib.Core.Bool.{Bool, true, false, not, beq}
use mathlib.Core.Logic.{◌⊎◌, inl, inr, ⊎_elim}
use mathlib.Core.List.{List, [], ◌∷◌, ◌++◌, map}
use native.Mathlib.Omega.{arith}
use native.Mathlib.Nat.{add-zero}
use native.Mathlib.Numerals.{add-one}
use lib.ListN.{length, get_or, set, take, drop, replicate, length-replicate}
use lib.Seq.{sets, sets-eq, drop-cons, get_or-set_other}
use Rattle.laws.proofs.Regions.{drop_past}
use Rattle.calculus.specs.Net.{part_side}
use Rattle.memory.specs.Map.{code}
use Rattle.wiring.specs.Sides.{point_end, face}

pub run-start : (vs w : List ℕ) (to : ℕ) → sets w (to + 0) (drop 0 vs) ≡ sets w to vs
run-start vs w to = rw add-zero

module _ (vs work : List ℕ) {whole : List ℕ} (to i : ℕ) (e : sets work (to + i) (drop i vs) ≡ whole) where
  pub run-again : i < length vs → (x : ℕ) → x ≡ get_or vs i 0 → sets (set work (to + i) x) (to + (i + 1)) (drop (i + 1) vs) ≡ whole
  run-again h x g =
      let s : to + (i + 1) ≡ suc (to + i) = omega arith in
      rw (s, add-one i, g) (rw (drop-cons vs i 0 h) at e)

  pub run_end : length vs ≤ i → work ≡ whole
  run_end h = rw (drop_past vs i h) at e

-- a run stored at once
pub run-whole : (vs w : List ℕ) (to n : ℕ) → length vs ≡ n → to + n ≤ length w → sets w to vs ≡ take to w ++ vs ++ drop (to + n) w
run-whole vs w to n e h = sets-eq vs w to (omega arith) ∙ ap (λ (k : ℕ). take to w ++ vs ++ drop (to + k) w) e

-- ---- what is stored

pub face-length : (output : Bool) (bs : List Bool) (n : ℕ) → length (face output bs n) ≡ length bs
face-length output [] n = refl
face-length output (b ∷ bs) n = ap suc (face-length output bs (n + 2))

-- where no bit is turned, all ends are alike
pub unturned-length : (output : Bool) (l n : ℕ) → length (face output (replicate l false) n) ≡ l
unturned-length output l n = face-length output (replicate l false) n ∙ length-replicate l false

pub unturned-at : (output : Bool) (l n j : ℕ) → j < l → get_or (face output (replicate l false) n) j 0 ≡ point_end (n + 2 * j) (not output)
unturned-at output zero n j h = absurd (omega arith)
unturned-at output (suc l) n zero h = let e : n + 2 * 0 ≡ n = omega arith in rw e (ap (point_end n) (other output))
  where
    other : (b : Bool) → beq false b ≡ not b
    other true = refl
    other false = refl
unturned-at output (suc l) n (suc j) h =
    let e : n + 2 * suc j ≡ n + 2 + 2 * j = omega arith in
    rw e (unturned-at output l (n + 2) j (omega arith))

pub face-append : (output : Bool) (bs cs : List Bool) (n : ℕ) → face output (bs ++ cs) n ≡ face output bs n ++ face output cs (n + 2 * length bs)
face-append output [] cs n = let e : n + 2 * 0 ≡ n = omega arith in rw e
face-append output (b ∷ bs) cs n =
    let e : n + 2 * suc (length bs) ≡ n + 2 + 2 * length bs = omega arith in
    rw e (ap (λ (l : List ℕ). point_end n (beq b output) ∷ l) (face-append output bs cs (n + 2)))

other-end : (b output : Bool) → beq (not b) output ≡ beq b (not output)
other-end true true = refl
other-end true false = refl
other-end false true = refl
other-end false false = refl

-- an interface of which each bit is turned is the other one
pub face-turned : (output : Bool) (bs : List Bool) (n : ℕ) → face output (map not bs) n ≡ face (not output) bs n
face-turned output [] n = refl
face-turned output (b ∷ bs) n = ap₂ ◌∷◌ (ap (point_end n) (other-end b output)) (face-turned output bs (n + 2))

pub part_length : (k n : ℕ) → length (map code (part_side k n)) ≡ k + 1
part_length zero n = refl
part_length (suc k) n = omega (arith, part_length k (n + 1))

pub part-input : (k n i : ℕ) → i < k → 2 * (n + i) ≡ get_or (map code (part_side k n)) i 0
part-input zero n i h = absurd (omega arith)
part-input (suc k) n zero h = let e : n + 0 ≡ n = omega arith in rw e
part-input (suc k) n (suc i) h = let e : n + suc i ≡ n + 1 + i = omega arith in rw e (part-input k (n + 1) i (omega arith))

pub part-output : (k n : ℕ) → 2 * (n + k) + 1 ≡ get_or (map code (part_side k n)) k 0
part-output zero n = let e : n + 0 ≡ n = omega arith in rw e
part-output (suc k) n = let e : n + suc k ≡ n + 1 + k = omega arith in rw e (part-output k (n + 1))

-- ---- what is left alone

-- a store at `to + i` leaves what stands before `to` and what stands past `to + i`
pub outside_again : (w₀ w : List ℕ) (to i x : ℕ) → ((j : ℕ) → (j < to) ⊎ (to + i ≤ j) → get_or w j 0 ≡ get_or w₀ j 0)
    → (j : ℕ) → (j < to) ⊎ (to + (i + 1) ≤ j) → get_or (set w (to + i) x) j 0 ≡ get_or w₀ j 0
outside_again w₀ w to i x same j h =
    ⊎_elim (λ l. get_or-set_other w (to + i) j x 0 (omega arith) ∙ same j (inl l))
    (λ l. get_or-set_other w (to + i) j x 0 (omega arith) ∙ same j (inr (omega arith))) h
