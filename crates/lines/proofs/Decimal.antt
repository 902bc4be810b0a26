-- Laws of a number in decimal: it ends with its last digit, and below 2 to the 64th it has at most 20. Assumes nothing.
use mathlib.Core.Path.{◌≡◌, refl, ap, sym}
use mathlib.Core.Bool.{Bool, true, false, cond}
use mathlib.Core.List.{[], ◌∷◌, ◌++◌, append-nil, append_assoc}
use Prim.Native.Nat.{ℕ, zero, suc, ◌+◌, ◌*◌, ◌/◌, ◌%◌, ◌^◌, ◌≤◌, ◌<◌}
use native.Mathlib.Omega.{arith}
use borrow.Author.Tests.{lt-ltb, le-ltb}
use lib.Dec.{ltb}
use lib.ListN.{length, length-append}
use Rattle.calculus.specs.Listing.{Text, digits, terminal_fields}
use Rattle.lines.specs.Figure.{figure, figures}

abbrev tens : ℕ → ℕ
tens zero = 1
tens (suc k) = 10 * tens k

-- room for more digits changes nothing
digits_more : (k n : ℕ) → n < tens (suc k) → digits (suc k) n ≡ digits (suc (suc k)) n
digits_more zero n h = rw (lt-ltb n 10 (omega arith))
digits_more (suc k) n h = by (ltb n 10) (digits_more k (n / 10) (omega arith))
  where
    by : (b : Bool) → digits (suc k) (n / 10) ≡ digits (suc (suc k)) (n / 10)
        → cond b ((48 + n) ∷ []) (digits (suc k) (n / 10) ++ ((48 + n % 10) ∷ [])) ≡ cond b ((48 + n) ∷ []) (digits (suc (suc k)) (n / 10) ++ ((48 + n % 10) ∷ []))
    by true e = refl
    by false e = rw e

digits-few : (k n : ℕ) → length (digits k n) ≤ k
digits-few zero n = omega arith
digits-few (suc k) n = by (ltb n 10) (digits-few k (n / 10))
  where
    by : (b : Bool) → length (digits k (n / 10)) ≤ k → length (cond b ((48 + n) ∷ []) (digits k (n / 10) ++ ((48 + n % 10) ∷ []))) ≤ suc k
    by true h = omega arith
    by false h = rw length-append (omega arith)

-- ---- at most 20 digits

one_less : (n : ℕ) → n < 2 ^ 64 → digits 19 (n / 10) ≡ digits 20 (n / 10)
one_less n h = digits_more 18 (n / 10) (omega arith)

pub figure_one : (n : ℕ) → n < 10 → (48 + n) ∷ [] ≡ figure n
unfolding figure
figure_one n h = rw (lt-ltb n 10 h)

pub figure-more : (n : ℕ) → n < 2 ^ 64 → 10 ≤ n → figure (n / 10) ++ ((48 + n % 10) ∷ []) ≡ figure n
unfolding figure
figure-more n h g = rw (le-ltb n 10 g) (ap (λ (x : Text). x ++ ((48 + n % 10) ∷ [])) (sym (one_less n h)))

pub figure-few : (n : ℕ) → length (figure n) ≤ 20
unfolding figure
figure-few n = digits-few 20 n

pub figure_fewer : (n : ℕ) → n < 2 ^ 64 → length (figure (n / 10)) ≤ 19
unfolding figure
figure_fewer n h = omega (arith, ap length (one_less n h), digits-few 19 (n / 10))

-- ---- numbers in a row

pub figures-more : (k i : ℕ) → figures (k + 1) i ≡ figures k i ++ (32 ∷ figure (i + k))
figures-more zero i = let e : i + 0 ≡ i = omega arith in rw (e, append-nil)
figures-more (suc k) i =
    let e : suc k + 1 ≡ suc (k + 1) = omega arith in
    let f : i + suc k ≡ i + 1 + k = omega arith in
    rw (e, f, figures-more k (i + 1), append_assoc (figure i) (figures k (i + 1)) (32 ∷ figure (i + 1 + k)))

pub figures-few : (k i : ℕ) → length (figures k i) ≤ 21 * k
figures-few zero i = omega arith
figures-few (suc k) i = let h = figures-few k (i + 1) in rw length-append (omega (arith, figure-few i))

-- as the definitions have them
pub figures_are : (k i : ℕ) → figures k i ≡ terminal_fields k i
unfolding figure
figures_are zero i = refl
figures_are (suc k) i = rw (figures_are k (i + 1))
