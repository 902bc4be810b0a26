-- Laws of numbers of 0 and 1 that are kept a bit each: a digit is read by a shift, and set by taking the old one away. Assumes nothing.
use Prim.Native.Nat.{ℕ, zero, suc, ◌+◌, ◌-◌, ◌*◌, ◌/◌, ◌%◌, ◌^◌, ◌<◌, ◌≤◌}
use mathlib.Core.Path.{◌≡◌, refl, sym, ap, ap₂, ◌∙◌}
use mathlib.Core.List.{List, [], ◌∷◌, ◌++◌}
use native.Mathlib.Omega.{arith}
use lib.Dec.{lit<}
use lib.Pow.{shl_exact}
use native.Mathlib.Nat.{mod-lt, pow-suc, div-div-eq-div-mul, mul_comm, mul_assoc}
use borrow.Author.Tests.{lt-ltb, le-ltb}
use native.Mathlib.Decide.{dec_le}
use lib.ListN.{length, get_or, set, length-append, get_or-append}
use lib.Seq.{get_or-append-add, set-append_left}
use Rattle.binders.specs.Stacks.{binary_digits, set_digit, bits_of, with_bit}

pub digits-length : (n w : ℕ) → length (binary_digits n w) ≡ n
unfolding binary_digits
digits-length zero w = refl
digits-length (suc n) w = ap suc (digits-length n (w / 2))

-- one more power of two
double : (j : ℕ) → 2 ^ suc j ≡ 2 * 2 ^ j
double j = pow-suc 2 j ∙ mul_comm (2 ^ j) 2

half_power : (w j : ℕ) → w / 2 ^ suc j ≡ w / 2 / 2 ^ j
half_power w j = ap (λ (x : ℕ). w / x) (double j) ∙ sym (div-div-eq-div-mul w 2 (2 ^ j))

pub digit_at : (n j w : ℕ) → j < n → w / 2 ^ j % 2 ≡ get_or (binary_digits n w) j 0
unfolding binary_digits
digit_at zero j w h = absurd (omega arith)
digit_at (suc n) zero w h = let e : w / 1 ≡ w = omega arith in ap (λ (x : ℕ). x % 2) e
digit_at (suc n) (suc j) w h = ap (λ (x : ℕ). x % 2) (half_power w j) ∙ digit_at n j (w / 2) (omega arith)

pub digits-set : (n j w x : ℕ) → x < 2 → binary_digits n (set_digit j w x) ≡ set (binary_digits n w) j x
unfolding binary_digits set_digit
digits-set zero j w x h = refl
digits-set (suc n) zero w x h =
    let e : (w / 2 * 2 + x) % 2 ≡ x = omega arith in
    let f : (w / 2 * 2 + x) / 2 ≡ w / 2 = omega arith in
    ap₂ (λ (a b : ℕ). a ∷ binary_digits n b) e f
digits-set (suc n) (suc j) w x h =
    let e : (set_digit j (w / 2) x * 2 + w % 2) % 2 ≡ w % 2 = omega arith in
    let f : (set_digit j (w / 2) x * 2 + w % 2) / 2 ≡ set_digit j (w / 2) x = omega arith in
    ap₂ (λ (a b : ℕ). a ∷ binary_digits n b) e f ∙ ap (λ (l : List ℕ). w % 2 ∷ l) (digits-set n j (w / 2) x h)

twice : (a p : ℕ) → a * (2 * p) ≡ 2 * (a * p)
twice a p = sym (mul_assoc a 2 p) ∙ ap (λ (x : ℕ). x * p) (mul_comm a 2) ∙ mul_assoc 2 a p

-- the old digit's part of the word
pub digit-part : (j w : ℕ) → (w / 2 ^ j % 2) * 2 ^ j ≤ w
digit-part zero w = let e : w / 1 ≡ w = omega arith in rw e (omega arith)
digit-part (suc j) w = let ih = digit-part j (w / 2) in rw (half_power w j, double j, twice (w / 2 / 2 ^ j % 2) (2 ^ j)) (omega arith)

-- .. taken away, and the new one's added
pub digit-put : (j w x : ℕ) → w - (w / 2 ^ j % 2) * 2 ^ j + x * 2 ^ j ≡ set_digit j w x
unfolding set_digit
digit-put zero w x = let e : w / 1 ≡ w = omega arith in rw e (omega arith)
digit-put (suc j) w x =
    let ih = digit-put j (w / 2) x in
    let l = digit-part j (w / 2) in
    rw (half_power w j, double j, twice (w / 2 / 2 ^ j % 2) (2 ^ j), twice x (2 ^ j)) (omega arith)

pub digit-fits : (n j w x : ℕ) → j < n → w < 2 ^ n → x < 2 → set_digit j w x < 2 ^ n
unfolding set_digit
digit-fits zero j w x h l k = absurd (omega arith)
digit-fits (suc n) zero w x h l k = let m = rw (double n) at l in rw (double n) (omega arith)
digit-fits (suc n) (suc j) w x h l k =
    let m = rw (double n) at l in
    let ih = digit-fits n j (w / 2) x (omega arith) (omega arith) k in
    rw (double n) (omega arith)

pub digit-below : (j w : ℕ) → w / 2 ^ j % 2 < 2
digit-below j w = mod-lt (w / 2 ^ j) (lit< tt)

-- a digit shifted is not lost
pub shifted : (j d : ℕ) → j < 64 → d < 2 → (d * 2 ^ j) % 2 ^ 64 ≡ d * 2 ^ j
shifted j d h k = shl_exact 1 j 64 k (omega arith)

-- ---- two words

set_back : (xs ys : List ℕ) (k x : ℕ) → set (xs ++ ys) (length xs + k) x ≡ xs ++ set ys k x
set_back [] ys k x = let e : 0 + k ≡ k = omega arith in rw e
set_back (a ∷ xs) ys k x = let e : suc (length xs) + k ≡ suc (length xs + k) = omega arith in rw e (ap (λ (l : List ℕ). a ∷ l) (set_back xs ys k x))

-- where a high digit stands
high-place : (v k : ℕ) → 64 ≤ k → length (binary_digits 64 v) + (k - 64) ≡ k
high-place v k h = omega (arith, digits-length 64 v)

module _ (ws : List ℕ) (k : ℕ) where
  pub bit-low : k < 64 → get_or (binary_digits 64 (get_or ws 0 0)) k 0 ≡ get_or (bits_of ws) k 0
  unfolding bits_of
  bit-low h = sym (get_or-append (binary_digits 64 (get_or ws 0 0)) (binary_digits 64 (get_or ws 1 0)) 0 k (omega (arith, digits-length 64 (get_or ws 0 0))))

  pub bit_high : 64 ≤ k → get_or (binary_digits 64 (get_or ws 1 0)) (k - 64) 0 ≡ get_or (bits_of ws) k 0
  unfolding bits_of
  bit_high h =
      sym (get_or-append-add (binary_digits 64 (get_or ws 0 0)) (binary_digits 64 (get_or ws 1 0)) (k - 64) 0)
      ∙ ap (λ (i : ℕ). get_or (binary_digits 64 (get_or ws 0 0) ++ binary_digits 64 (get_or ws 1 0)) i 0) (high-place (get_or ws 0 0) k h)

  pub with-low : (x : ℕ) → k < 64 → set_digit k (get_or ws 0 0) x ∷ get_or ws 1 0 ∷ [] ≡ with_bit ws k x
  unfolding with_bit
  with-low x h = rw (lt-ltb k 64 h)

  pub with-high : (x : ℕ) → 64 ≤ k → get_or ws 0 0 ∷ set_digit (k - 64) (get_or ws 1 0) x ∷ [] ≡ with_bit ws k x
  unfolding with_bit
  with-high x h = rw (le-ltb k 64 h)

  -- the digits are set as those of a list are
  pub bits_set : (x : ℕ) → x < 2 → bits_of (with_bit ws k x) ≡ set (bits_of ws) k x
  unfolding bits_of
  bits_set x h = elim (dec_le 64 k) [ yes l ↦ at_high l | no l ↦ at_low (omega arith) ]
    where
      at_low : k < 64 → binary_digits 64 (get_or (with_bit ws k x) 0 0) ++ binary_digits 64 (get_or (with_bit ws k x) 1 0) ≡ set (binary_digits 64 (get_or ws 0 0) ++ binary_digits 64 (get_or ws 1 0)) k x
      at_low l =
          rw (← with-low x l)
          (ap (λ (ds : List ℕ). ds ++ binary_digits 64 (get_or ws 1 0)) (digits-set 64 k (get_or ws 0 0) x h)
          ∙ sym (set-append_left (binary_digits 64 (get_or ws 0 0)) (binary_digits 64 (get_or ws 1 0)) k x (omega (arith, digits-length 64 (get_or ws 0 0)))))

      at_high : 64 ≤ k → binary_digits 64 (get_or (with_bit ws k x) 0 0) ++ binary_digits 64 (get_or (with_bit ws k x) 1 0) ≡ set (binary_digits 64 (get_or ws 0 0) ++ binary_digits 64 (get_or ws 1 0)) k x
      at_high l =
          rw (← with-high x l)
          (ap (λ (ds : List ℕ). binary_digits 64 (get_or ws 0 0) ++ ds) (digits-set 64 (k - 64) (get_or ws 1 0) x h)
          ∙ sym (set_back (binary_digits 64 (get_or ws 0 0)) (binary_digits 64 (get_or ws 1 0)) (k - 64) x)
          ∙ ap (λ (i : ℕ). set (binary_digits 64 (get_or ws 0 0) ++ binary_digits 64 (get_or ws 1 0)) i x) (high-place (get_or ws 0 0) k l))

pub bits_length : (ws : List ℕ) → length (bits_of ws) ≡ 128
unfolding bits_of
bits_length ws = rw length-append (omega (arith, digits-length 64 (get_or ws 0 0), digits-length 64 (get_or ws 1 0)))
