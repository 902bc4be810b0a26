-- A form filled with its numbers, character by character. Assumes nothing.
use Prim.Native.Nat.{ℕ, zero, suc, ◌+◌, ◌*◌, ◌/◌, ◌%◌, ◌≤◌, ◌<◌}
use mathlib.Core.Path.{◌≡◌, refl, sym, ap, ◌∙◌}
use mathlib.Core.Bool.{Bool, true, false, cond}
use mathlib.Core.List.{List, [], ◌∷◌, ◌++◌, append_assoc, append-nil}
use native.Mathlib.Omega.{arith}
use native.Mathlib.Numerals.{add-one}
use lib.ListN.{length, get_or, take, set, length-append}
use lib.Seq.{sets, take-suc}
use Rattle.export_calculus.specs.Verilog.{four_digits, is_mark, pick, letter, filled}

-- a store past the end changes nothing
pub set_past : (l : List ℕ) (i v : ℕ) → length l ≤ i → set l i v ≡ l
set_past [] i v h = refl
set_past (x ∷ l) zero v h = absurd (omega arith)
set_past (x ∷ l) (suc i) v h = ap (λ (t : List ℕ). x ∷ t) (set_past l i v (omega arith))

-- four_digits stores are a number
pub four_stores : (o o₁ o₂ o₃ o₄ : List ℕ) (at n : ℕ) → o₁ ≡ set o at (48 + n / 10 / 10 / 10 % 10) → o₂ ≡ set o₁ (at + 1) (48 + n / 10 / 10 % 10)
    → o₃ ≡ set o₂ (at + 2) (48 + n / 10 % 10) → o₄ ≡ set o₃ (at + 3) (48 + n % 10) → o₄ ≡ sets o at (four_digits n)
four_stores o o₁ o₂ o₃ o₄ at n a b c d =
    let e₁ : at + 1 ≡ suc at = omega arith in
    let e₂ : at + 2 ≡ suc (suc at) = omega arith in
    let e₃ : at + 3 ≡ suc (suc (suc at)) = omega arith in
    d ∙ rw (c, b, a, e₁, e₂, e₃)

module _ (x y z : ℕ) where
  pub letter-mark : (c : ℕ) → is_mark c ≡ true → letter c x y z ≡ four_digits (pick c x y z)
  unfolding letter
  letter-mark c h = rw h

  pub letter-plain : (c : ℕ) → is_mark c ≡ false → letter c x y z ≡ c ∷ []
  unfolding letter
  letter-plain c h = rw h

  pub letter-few : (c : ℕ) → length (letter c x y z) ≤ 4
  unfolding letter
  letter-few c = by (is_mark c)
    where
      by : (b : Bool) → length (cond b (four_digits (pick c x y z)) (c ∷ [])) ≤ 4
      by true = omega arith
      by false = omega arith

  filled-append : (f g : List ℕ) → filled (f ++ g) x y z ≡ filled f x y z ++ filled g x y z
  filled-append [] g = refl
  filled-append (c ∷ f) g = ap (λ (t : List ℕ). letter c x y z ++ t) (filled-append f g) ∙ sym (append_assoc (letter c x y z) (filled f x y z) (filled g x y z))

  pub filled_more : (f : List ℕ) (i : ℕ) → i < length f → filled (take (i + 1) f) x y z ≡ filled (take i f) x y z ++ letter (get_or f i 0) x y z
  filled_more f i h =
      rw (add-one i, take-suc f i 0 h) (filled-append (take i f) (get_or f i 0 ∷ []) ∙ ap (λ (t : List ℕ). filled (take i f) x y z ++ t) (append-nil (letter (get_or f i 0) x y z)))

  pub filled-few : (f : List ℕ) → length (filled f x y z) ≤ 4 * length f
  filled-few [] = omega arith
  filled-few (c ∷ f) = omega (arith, letter-few c, filled-few f, length-append (letter c x y z) (filled f x y z))
