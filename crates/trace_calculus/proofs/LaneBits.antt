-- The bits of numbers, and of lists of numbers. Assumes nothing.
use Prim.Native.Nat.{ℕ, zero, suc, ◌+◌, ◌*◌, ◌/◌, ◌%◌, ◌^◌, ◌≤◌, ◌<◌}
use mathlib.Core.Path.{◌≡◌, refl, sym, ap, ap₂, ◌∙◌, subst}
use mathlib.Core.Bool.{Bool, true, false, not, ◌&&◌, ◌||◌, xor}
use mathlib.Core.List.{List, [], ◌∷◌, ◌++◌}
use native.Mathlib.Omega.{arith}
use native.Mathlib.Nat.{pow-suc, div-div-eq-div-mul, mul_comm}
use lib.Bits.{bit_and, bit_or, bit_xor, and_shr, or_shr, xor_shr, and_mod, or_mod, xor_mod}
use lib.Dec.{T, eqb, leb, leb→le}
use lib.ListN.{length, get_or, set}
use lib.Seq.{ext_get_or}
use borrow.Author.Tests.{le-leb}
use Rattle.trace_calculus.specs.Trace.{bit_byte_lem, all_bits}
use Rattle.trace_calculus.specs.Lanes.{lane_bit, lane, word_of, word}

half_power : (w j : ℕ) → w / 2 ^ suc j ≡ w / 2 / 2 ^ j
half_power w j = ap (λ (x : ℕ). w / x) (pow-suc 2 j ∙ mul_comm (2 ^ j) 2) ∙ sym (div-div-eq-div-mul w 2 (2 ^ j))

byte_low : (b : Bool) → bit_byte_lem b ≤ 1
byte_low true = omega arith
byte_low false = omega arith

pub lane_low : (k x : ℕ) → lane_bit k x ≤ 1
lane_low k x = omega arith

pub lane_zero_lem : (k : ℕ) → lane_bit k 0 ≡ 0
lane_zero_lem zero = refl
lane_zero_lem (suc k) = ap (λ (x : ℕ). x % 2) (half_power 0 k) ∙ lane_zero_lem k

pub lane_first : (x : ℕ) → lane_bit 0 x ≡ x % 2
lane_first x = let e : x / 1 ≡ x = omega arith in ap (λ (y : ℕ). y % 2) e

pub lane_byte : (x : ℕ) → x ≤ 1 → lane_bit 0 x ≡ x
lane_byte x h = lane_first x ∙ (let e : x % 2 ≡ x = omega arith in e)

-- ---- the number with given bits

lane_word_of : (n : ℕ) (f : ℕ → Bool) (k : ℕ) → k < n → lane_bit k (word_of n f) ≡ bit_byte_lem (f k)
lane_word_of zero f k h = absurd (omega arith)
lane_word_of (suc n) f zero h =
    let l = byte_low (f 0) in
    let e : (bit_byte_lem (f 0) + 2 * word_of n (λ k. f (suc k))) % 2 ≡ bit_byte_lem (f 0) = omega arith in
    lane_first (word_of (suc n) f) ∙ e
lane_word_of (suc n) f (suc k) h =
    let l = byte_low (f 0) in
    let e : (bit_byte_lem (f 0) + 2 * word_of n (λ k. f (suc k))) / 2 ≡ word_of n (λ k. f (suc k)) = omega arith in
    ap (λ (x : ℕ). x % 2) (half_power (word_of (suc n) f) k) ∙ ap (lane_bit k) e ∙ lane_word_of n (λ k. f (suc k)) k (omega arith)

pub lane_word : (f : ℕ → Bool) (k : ℕ) → k < 16 → lane_bit k (word f) ≡ bit_byte_lem (f k)
unfolding word
lane_word f k h = lane_word_of 16 f k h

word_of_same : (n : ℕ) (f g : ℕ → Bool) → ((k : ℕ) → k < n → f k ≡ g k) → word_of n f ≡ word_of n g
word_of_same zero f g e = refl
word_of_same (suc n) f g e = ap₂ (λ (b : Bool) (x : ℕ). bit_byte_lem b + 2 * x) (e 0 (omega arith)) (word_of_same n (λ k. f (suc k)) (λ k. g (suc k)) (λ k h. e (suc k) (omega arith)))

pub word_same : (f g : ℕ → Bool) → ((k : ℕ) → k < 16 → f k ≡ g k) → word f ≡ word g
unfolding word
word_same f g e = word_of_same 16 f g e

word_of_low : (n : ℕ) (f : ℕ → Bool) → word_of n f < 2 ^ n
word_of_low zero f = omega arith
word_of_low (suc n) f = let l = byte_low (f 0) in let r = word_of_low n (λ k. f (suc k)) in omega arith

pub word_low : (f : ℕ → Bool) → word f < 65536
unfolding word
word_low f = word_of_low 16 f

-- all bits set
pub lane_ones : (k : ℕ) → k < 16 → lane_bit k 65535 ≡ 1
unfolding word
lane_ones k h = lane_word (λ _. true) k h

-- ---- a number has no more than its bits

only_bits : (n x y : ℕ) → x < 2 ^ n → y < 2 ^ n → ((k : ℕ) → k < n → lane_bit k x ≡ lane_bit k y) → x ≡ y
only_bits zero x y h l e = omega arith
only_bits (suc n) x y h l e =
    let d : 2 ^ suc n ≡ 2 ^ n * 2 = pow-suc 2 n in
    let r = only_bits n (x / 2) (y / 2) (omega arith) (omega arith) (λ k q. sym (ap (λ (z : ℕ). z % 2) (half_power x k)) ∙ e (suc k) (omega arith) ∙ ap (λ (z : ℕ). z % 2) (half_power y k)) in
    let f : x % 2 ≡ y % 2 = sym (lane_first x) ∙ e 0 (omega arith) ∙ lane_first y in
    omega arith

pub number_only : (x y : ℕ) → x < 65536 → y < 65536 → ((k : ℕ) → k < 16 → lane_bit k x ≡ lane_bit k y) → x ≡ y
number_only x y h l e = only_bits 16 x y h l e

-- ---- lists

pub lane-length : (k : ℕ) (xs : List ℕ) → length (lane k xs) ≡ length xs
lane-length k [] = refl
lane-length k (x ∷ xs) = ap suc (lane-length k xs)

pub lane-at : (k : ℕ) (xs : List ℕ) (j : ℕ) → get_or (lane k xs) j 0 ≡ lane_bit k (get_or xs j 0)
lane-at k [] j = sym (lane_zero_lem k)
lane-at k (x ∷ xs) zero = refl
lane-at k (x ∷ xs) (suc j) = lane-at k xs j

pub lane-set : (k : ℕ) (xs : List ℕ) (j v : ℕ) → lane k (set xs j v) ≡ set (lane k xs) j (lane_bit k v)
lane-set k [] j v = refl
lane-set k (x ∷ xs) zero v = refl
lane-set k (x ∷ xs) (suc j) v = ap (λ (l : List ℕ). lane_bit k x ∷ l) (lane-set k xs j v)

pub lane-append : (k : ℕ) (xs ys : List ℕ) → lane k (xs ++ ys) ≡ lane k xs ++ lane k ys
lane-append k [] ys = refl
lane-append k (x ∷ xs) ys = ap (λ (l : List ℕ). lane_bit k x ∷ l) (lane-append k xs ys)

pub lane_bits : (k : ℕ) (xs : List ℕ) → all_bits (lane k xs) ≡ true
lane_bits k [] = refl
lane_bits k (x ∷ xs) = ap₂ ◌&&◌ (le-leb (lane_bit k x) 1 (lane_low k x)) (lane_bits k xs)

-- of bits, lane 0 is all
pub lane-bytes : (xs : List ℕ) → all_bits xs ≡ true → lane 0 xs ≡ xs
lane-bytes [] e = refl
lane-bytes (x ∷ xs) e = by (leb x 1) (all_bits xs) refl refl e (lane-bytes xs)
  where
    by : (a b : Bool) → leb x 1 ≡ a → all_bits xs ≡ b → (a && b) ≡ true → (all_bits xs ≡ true → lane 0 xs ≡ xs) → lane 0 (x ∷ xs) ≡ x ∷ xs
    by true true p q r f = ap₂ (λ (y : ℕ) (ys : List ℕ). y ∷ ys) (lane_byte x (leb→le x 1 (subst T (sym p) tt))) (f q)
    by true false p q r f = absurd (subst T (sym r) tt)
    by false b p q r f = absurd (subst T (sym r) tt)

-- lists of 16-bit numbers with the same lanes are the same
pub lists_only : (xs ys : List ℕ) → length xs ≡ length ys → ((j : ℕ) → get_or xs j 0 < 65536) → ((j : ℕ) → get_or ys j 0 < 65536) → ((k : ℕ) → k < 16 → lane k xs ≡ lane k ys) → xs ≡ ys
lists_only xs ys e h l f = ext_get_or 0 xs ys e (λ j _. number_only (get_or xs j 0) (get_or ys j 0) (h j) (l j) (λ k q. sym (lane-at k xs j) ∙ ap (λ (zs : List ℕ). get_or zs j 0) (f k q) ∙ lane-at k ys j))

-- ---- the bits of a number that was made of two, bit by bit

and_small : (x y : ℕ) → x ≤ 1 → y ≤ 1 → eqb (bit_and x y) 1 ≡ eqb x 1 && eqb y 1
and_small zero y h l = refl
and_small (suc zero) zero h l = refl
and_small (suc zero) (suc zero) h l = refl
and_small (suc zero) (suc (suc y)) h l = absurd (omega arith)
and_small (suc (suc x)) y h l = absurd (omega arith)

or_small : (x y : ℕ) → x ≤ 1 → y ≤ 1 → eqb (bit_or x y) 1 ≡ eqb x 1 || eqb y 1
or_small zero y h l = refl
or_small (suc zero) zero h l = refl
or_small (suc zero) (suc zero) h l = refl
or_small (suc zero) (suc (suc y)) h l = absurd (omega arith)
or_small (suc (suc x)) y h l = absurd (omega arith)

xor_small : (x y : ℕ) → x ≤ 1 → y ≤ 1 → eqb (bit_xor x y) 1 ≡ xor (eqb x 1) (eqb y 1)
unfolding xor
xor_small zero zero h l = refl
xor_small zero (suc zero) h l = refl
xor_small zero (suc (suc y)) h l = absurd (omega arith)
xor_small (suc zero) zero h l = refl
xor_small (suc zero) (suc zero) h l = refl
xor_small (suc zero) (suc (suc y)) h l = absurd (omega arith)
xor_small (suc (suc x)) y h l = absurd (omega arith)

-- bit k of a number, as a truth value
abbrev pub bit_at : ℕ → ℕ → Bool
bit_at k x = eqb (lane_bit k x) 1

pub and_bit : (k a b : ℕ) → bit_at k (bit_and a b) ≡ bit_at k a && bit_at k b
and_bit k a b = ap (λ (x : ℕ). eqb x 1) (ap (λ (x : ℕ). x % 2) (and_shr a b k) ∙ and_mod (a / 2 ^ k) (b / 2 ^ k) 1) ∙ and_small (lane_bit k a) (lane_bit k b) (lane_low k a) (lane_low k b)

pub or_bit : (k a b : ℕ) → bit_at k (bit_or a b) ≡ bit_at k a || bit_at k b
or_bit k a b = ap (λ (x : ℕ). eqb x 1) (ap (λ (x : ℕ). x % 2) (or_shr a b k) ∙ or_mod (a / 2 ^ k) (b / 2 ^ k) 1) ∙ or_small (lane_bit k a) (lane_bit k b) (lane_low k a) (lane_low k b)

pub xor_bit : (k a b : ℕ) → bit_at k (bit_xor a b) ≡ xor (bit_at k a) (bit_at k b)
xor_bit k a b = ap (λ (x : ℕ). eqb x 1) (ap (λ (x : ℕ). x % 2) (xor_shr a b k) ∙ xor_mod (a / 2 ^ k) (b / 2 ^ k) 1) ∙ xor_small (lane_bit k a) (lane_bit k b) (lane_low k a) (lane_low k b)

xor_true : (b : Bool) → xor b true ≡ not b
unfolding xor
xor_true true = refl
xor_true false = refl

pub not_bit : (k a : ℕ) → k < 16 → bit_at k (bit_xor a 65535) ≡ not (bit_at k a)
not_bit k a h = xor_bit k a 65535 ∙ ap (λ (x : ℕ). xor (bit_at k a) (eqb x 1)) (lane_ones k h) ∙ xor_true (bit_at k a)

-- a bit is what it says
pub bit_is : (k x : ℕ) (b : Bool) → bit_at k x ≡ b → lane_bit k x ≡ bit_byte_lem b
bit_is k x b e = by (lane_bit k x) (lane_low k x) ∙ ap bit_byte_lem e
  where
    by : (y : ℕ) → y ≤ 1 → y ≡ bit_byte_lem (eqb y 1)
    by zero h = refl
    by (suc zero) h = refl
    by (suc (suc y)) h = absurd (omega arith)
