-- What a run and a gap have of bytes that pass a test. Assumes nothing.
use Prim.Native.Nat.{ℕ, zero, suc, ◌+◌, ◌-◌, ◌≤◌, ◌<◌}
use mathlib.Core.Path.{◌≡◌, refl, sym, ap}
use mathlib.Core.Bool.{Bool, true, false}
use mathlib.Core.List.{List}
use native.Mathlib.Omega.{arith}
use lib.Dec.{leb}
use lib.ListN.{length, get_or, drop}
use borrow.Author.Tests.{leb-true, leb-false}
use Rattle.notation_calculus.specs.Words.{in_name, blank, run, gap}
use Rattle.words.specs.Steps.{PassedTo}
use Rattle.words.proofs.WordLaws.{run_on, run-stops, run_past, gap-blank}

-- ---- runs and gaps

abbrev pub TestTold : (ℕ → Bool) → (ℕ → Bool → Type 0) → Type 0
TestTold test says = (c : ℕ) (b : Bool) → says c b → b ≡ test c

-- as many bytes as are left before the end of the stretch
run_over : (s : List ℕ) (r k at : ℕ) → r ≡ at + k → r ≤ length s → ((i : ℕ) → at ≤ i → i < r → in_name (get_or s i 0) ≡ true) → (r < length s → in_name (get_or s r 0) ≡ false) → r ≡ at + run (drop at s)
run_over s r zero at e h all stops = by_end (leb (length s) r) refl
  where
    here : r ≡ at
    here = omega (arith, e)

    none : run (drop r s) ≡ 0 → r ≡ at + run (drop at s)
    none z = let y = ap (λ (j : ℕ). run (drop j s)) here in omega (arith, sym y, z, here)

    by_end : (x : Bool) → leb (length s) r ≡ x → r ≡ at + run (drop at s)
    by_end true f = none (run_past s r (leb-true (length s) r f))
    by_end false f = let l = leb-false (length s) r f in none (run-stops s r (omega (arith, l)) (stops (omega (arith, l))))
run_over s r (suc k) at e h all stops =
    let on = run_on s at (omega (arith, e, h)) (all at (omega arith) (omega (arith, e))) in
    let more = run_over s r k (at + 1) (omega (arith, e)) h (λ i f g. all i (omega (arith, f)) g) stops in
    omega (arith, on, more)

gap_over : (s : List ℕ) (r k at : ℕ) → r ≡ at + k → r ≤ length s → ((i : ℕ) → at ≤ i → i < r → blank (get_or s i 0) ≡ true) → r + gap false (drop r s) ≡ at + gap false (drop at s)
gap_over s r zero at e h all = let here : r ≡ at = omega (arith, e) in ap (λ (j : ℕ). j + gap false (drop j s)) here
gap_over s r (suc k) at e h all =
    let on = gap-blank s at (omega (arith, e, h)) (all at (omega arith) (omega (arith, e))) in
    let more = gap_over s r k (at + 1) (omega (arith, e)) h (λ i f g. all i (omega (arith, f)) g) in
    omega (arith, on, more)

pub run_passed : (says : ℕ → Bool → Type 0) (s : List ℕ) (at r : ℕ) → TestTold in_name says → PassedTo says s at r → r ≡ at + run (drop at s)
run_passed says s at r tells p =
    run_over s r (r - at) at (omega (arith, p.behind)) p.inside (λ i f g. sym (tells (get_or s i 0) true (p.passed i f g))) (λ f. sym (tells (get_or s r 0) false (p.stops f)))

pub gap_passed : (says : ℕ → Bool → Type 0) (s : List ℕ) (at r : ℕ) → TestTold blank says → PassedTo says s at r → r + gap false (drop r s) ≡ at + gap false (drop at s)
gap_passed says s at r tells p =
    gap_over s r (r - at) at (omega (arith, p.behind)) p.inside (λ i f g. sym (tells (get_or s i 0) true (p.passed i f g)))
