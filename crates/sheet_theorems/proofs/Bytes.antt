-- Bytes in front of a list, one after the other. Assumes nothing.
use Prim.Native.Nat.{ℕ, ◌+◌, ◌≤◌, ◌<◌}
use mathlib.Core.Path.{◌≡◌, refl, sym, ap, ◌∙◌}
use mathlib.Core.List.{List, [], ◌∷◌, ◌++◌}
use native.Mathlib.Omega.{arith}
use native.Mathlib.Numerals.{add-one}
use lib.ListN.{length, drop, get_or, length-append, length-drop}
use lib.Seq.{drop-cons, drop-drop, get_or-drop, drop-append_seam}
use Rattle.calculus.specs.Read.{byte}

-- the bytes from an offset on, the first of which is known, up to the next offset
pub front_one : (s : List ℕ) (at n : ℕ) {b : ℕ} → byte s at ≡ b → n ≡ at + 1 → n ≤ length s → drop at s ≡ b ∷ drop n s
front_one s at n k e h = rw (← k, e, add-one) (drop-cons s at 0 (omega arith))

pub front-two : (s : List ℕ) (at n : ℕ) {b : ℕ} → byte s at ≡ b → n ≡ at + 2 → n ≤ length s → drop at s ≡ b ∷ byte s (at + 1) ∷ drop n s
front-two s at n {b} k e h = front_one s at (at + 1) k refl (omega arith) ∙ ap (λ (l : List ℕ). b ∷ l) (front_one s (at + 1) n refl (omega arith) h)

pub front-three : (s : List ℕ) (at n : ℕ) {b : ℕ} → byte s at ≡ b → n ≡ at + 3 → n ≤ length s → drop at s ≡ b ∷ byte s (at + 1) ∷ byte s (at + 2) ∷ drop n s
front-three s at n {b} k e h = front-two s at (at + 2) k refl (omega arith) ∙ ap (λ (l : List ℕ). b ∷ byte s (at + 1) ∷ l) (front_one s (at + 2) n refl (omega arith) h)

-- ---- what is known to stand at an offset

pub first_byte : (s l : List ℕ) (at b : ℕ) → drop at s ≡ b ∷ l → byte s at ≡ b
first_byte s l at b e = let z : at + 0 ≡ at = omega arith in rw z at (sym (get_or-drop at s 0 0)) ∙ ap (λ (x : List ℕ). get_or x 0 0) e

-- behind bytes that stand there
pub behind : (s p l : List ℕ) (at : ℕ) → drop at s ≡ p ++ l → drop (at + length p) s ≡ l
behind s p l at e = sym (drop-drop (length p) at s) ∙ ap (λ (x : List ℕ). drop (length p) x) e ∙ drop-append_seam p l

-- bytes that stand there end within the list
pub within : (s p l : List ℕ) (at : ℕ) → drop at s ≡ p ++ l → 0 < length p → at + length p ≤ length s
within s p l at e h = omega (arith, ap length e, length-drop at s, length-append p l)

pub second-byte : (s l : List ℕ) (at k b : ℕ) → drop at s ≡ k ∷ b ∷ l → byte s (at + 1) ≡ b
second-byte s l at k b e = first_byte s l (at + 1) b (behind s (k ∷ []) (b ∷ l) at e)

pub third-byte : (s l : List ℕ) (at k a b : ℕ) → drop at s ≡ k ∷ a ∷ b ∷ l → byte s (at + 2) ≡ b
third-byte s l at k a b e = first_byte s l (at + 2) b (behind s (k ∷ a ∷ []) (b ∷ l) at e)
