-- Rows: what the numbers of a table give, one after the other. Assumes nothing.
use Prim.Native.Nat.{ℕ, zero, suc, ◌+◌, ◌-◌, ◌*◌, ◌≤◌, ◌<◌}
use mathlib.Core.Path.{◌≡◌, refl, sym, ap, ◌∙◌}
use mathlib.Core.List.{List, [], ◌++◌, append_assoc, append-nil}
use native.Mathlib.Omega.{arith}
use lib.ListN.{length, get_or, length-append}
use Rattle.lean.specs.Layout.{row_in}

module _ {A : Type 0} (f : ℕ → ℕ → List A) (at : ℕ) (w : List ℕ) where
  pub row-append : (a b x : ℕ) → row_in f at w (a + b) x ≡ row_in f at w a x ++ row_in f at w b (x + a)
  row-append zero b x = let e : 0 + b ≡ b = omega arith in let g : x + 0 ≡ x = omega arith in rw (e, g)
  row-append (suc a) b x =
      let e : suc a + b ≡ suc (a + b) = omega arith in
      let g : x + suc a ≡ x + 1 + a = omega arith in
      rw (e, g, row-append a b (x + 1)) (sym (append_assoc (f (get_or w (at + x) 0) x) (row_in f at w a (x + 1)) (row_in f at w b (x + 1 + a))))

  -- one more
  pub row_more : (a : ℕ) → row_in f at w (a + 1) 0 ≡ row_in f at w a 0 ++ f (get_or w (at + a) 0) a
  row_more a =
      let z : 0 + a ≡ a = omega arith in
      row-append a 1 0 ∙ ap (λ (x : ℕ). row_in f at w a 0 ++ row_in f at w 1 x) z ∙ ap (λ (l : List A). row_in f at w a 0 ++ l) (append-nil (f (get_or w (at + a) 0) a))

  -- where each of them gives nothing
  pub row-none : (c x : ℕ) → ((y : ℕ) → x ≤ y → y < x + c → f (get_or w (at + y) 0) y ≡ []) → row_in f at w c x ≡ []
  row-none zero x h = refl
  row-none (suc c) x h = rw (h x (omega arith) (omega arith)) (row-none c (x + 1) (λ y a b. h y (omega arith) (omega arith)))

  -- where none of them gives more than b
  pub row-few : (b : ℕ) → ((v x : ℕ) → length (f v x) ≤ b) → (c x : ℕ) → length (row_in f at w c x) ≤ b * c
  row-few b h zero x = omega arith
  row-few b h (suc c) x =
      let e : b * suc c ≡ b + b * c = omega arith in
      omega (arith, h (get_or w (at + x) 0) x, row-few b h c (x + 1), length-append (f (get_or w (at + x) 0) x) (row_in f at w c (x + 1)))

  -- a text of the whole is the texts of its parts
  pub row-text : {B : Type 0} (g : List A → List B) → g [] ≡ [] → ((xs ys : List A) → g (xs ++ ys) ≡ g xs ++ g ys) → (c x : ℕ) → g (row_in f at w c x) ≡ row_in (λ v y. g (f v y)) at w c x
  row-text {B = B} g none both zero x = none
  row-text {B = B} g none both (suc c) x =
      both (f (get_or w (at + x) 0) x) (row_in f at w c (x + 1)) ∙ ap (λ (l : List B). g (f (get_or w (at + x) 0) x) ++ l) (row-text g none both c (x + 1))

-- ---- what is still to come, of c

module _ {A : Type 0} (f : ℕ → ℕ → List A) (at : ℕ) (w : List ℕ) (c : ℕ) where
  pub rest-start : row_in f at w (c - 0) 0 ≡ row_in f at w c 0
  rest-start = let e : c - 0 ≡ c = omega arith in ap (λ (n : ℕ). row_in f at w n 0) e

  pub rest-first : (x : ℕ) → x < c → row_in f at w (c - x) x ≡ f (get_or w (at + x) 0) x ++ row_in f at w (c - (x + 1)) (x + 1)
  rest-first x h = let e : c - x ≡ suc (c - (x + 1)) = omega arith in ap (λ (n : ℕ). row_in f at w n x) e

  pub rest_end : (x : ℕ) → c ≤ x → row_in f at w (c - x) x ≡ []
  rest_end x h = let e : c - x ≡ 0 = omega arith in ap (λ (n : ℕ). row_in f at w n x) e
