-- Bytes by comparisons: what a byte is, by where it stands among the bytes. Assumes nothing.
use Prim.Native.Nat.{ℕ, ◌≤◌, ◌<◌}
use mathlib.Core.Path.{◌≡◌, refl, sym, ap, ◌∙◌}
use mathlib.Core.Bool.{Bool, true, false, ◌&&◌, ◌||◌}
use native.Mathlib.Omega.{arith}
use lib.Dec.{eqb, leb}
use borrow.Author.Tests.{ne_eqb, le-leb, lt-leb, leb-true, leb-false}
use Rattle.notation_calculus.specs.Words.{between, blank, digit, letter, in_name}

pub below : (a b c : ℕ) → c < a → between a b c ≡ false
below a b c h = ap (λ (x : Bool). x && leb c b) (lt-leb a c h)

pub above : (a b c : ℕ) → b < c → between a b c ≡ false
above a b c h = by (leb a c)
  where
    by : (x : Bool) → (x && leb c b) ≡ false
    by true = lt-leb c b h
    by false = refl

pub inside : (a b c : ℕ) → a ≤ c → c ≤ b → between a b c ≡ true
inside a b c h g = ap (λ (x : Bool). x && leb c b) (le-leb a c h) ∙ le-leb c b g

other : (c d : ℕ) → ¬ (c ≡ d) → eqb c d ≡ false
other c d h = ne_eqb c d h

or_none_lem : (x : Bool) → (x || false) ≡ x
or_none_lem true = refl
or_none_lem false = refl

pub late_blank : (c : ℕ) → 32 < c → blank c ≡ false
late_blank c h = ap (λ (x : Bool). x || eqb c 32) (above 9 13 c (omega arith)) ∙ other c 32 (λ e. absurd (omega arith))

-- ---- letters

pub early_letter : (c : ℕ) → c < 65 → letter c ≡ false
early_letter c h = ap (λ (x : Bool). x || between 97 122 c || eqb c 95) (below 65 90 c h) ∙ ap (λ (x : Bool). x || eqb c 95) (below 97 122 c (omega arith)) ∙ other c 95 (λ e. absurd (omega arith))

late_letter : (c : ℕ) → 97 ≤ c → letter c ≡ leb c 122
late_letter c h = ap (λ (x : Bool). x || between 97 122 c || eqb c 95) (above 65 90 c (omega arith)) ∙ ap (λ (x : Bool). (x && leb c 122) || eqb c 95) (le-leb 97 c h) ∙ ap (λ (x : Bool). leb c 122 || x) (other c 95 (λ e. absurd (omega arith))) ∙ or_none_lem (leb c 122)

middle-letter : (c : ℕ) → c < 97 → letter c ≡ (between 65 90 c || eqb c 95)
middle-letter c h = ap (λ (x : Bool). between 65 90 c || x || eqb c 95) (below 97 122 c h) ∙ ap (λ (x : Bool). x || eqb c 95) (or_none_lem (between 65 90 c))

pub letter-high : (c : ℕ) → letter c ≡ true → 65 ≤ c
letter-high c e = by (leb 65 c) refl
  where
    by : (b : Bool) → leb 65 c ≡ b → 65 ≤ c
    by true h = leb-true 65 c h
    by false h = let z : ◌≡◌ {A = Bool} true false = sym e ∙ early_letter c (leb-false 65 c h) in let w : ◌≡◌ {A = ℕ} 0 1 = cc in absurd (omega arith)

-- ---- what a name goes on with

name_by : (c : ℕ) (x y z : Bool) → letter c ≡ x → digit c ≡ y → eqb c 39 ≡ z → (x || y || z) ≡ in_name c
name_by c x y z e f g = sym (ap (λ (b : Bool). b || digit c || eqb c 39) e ∙ ap (λ (b : Bool). x || b || eqb c 39) f ∙ ap (λ (b : Bool). x || y || b) g)

pub late_name : (c : ℕ) → 97 ≤ c → leb c 122 ≡ in_name c
late_name c h = sym (or_none_lem (leb c 122)) ∙ ap (λ (b : Bool). b || false) (sym (or_none_lem (leb c 122))) ∙ name_by c (leb c 122) false false (late_letter c h) (above 48 57 c (omega arith)) (other c 39 (λ e. absurd (omega arith)))

pub middle-name : (c : ℕ) → 57 < c → c < 97 → (between 65 90 c || eqb c 95) ≡ in_name c
middle-name c h g =
    let l = between 65 90 c || eqb c 95 in
    sym (or_none_lem l) ∙ ap (λ (b : Bool). b || false) (sym (or_none_lem l)) ∙ name_by c l false false (middle-letter c g) (above 48 57 c h) (other c 39 (λ e. absurd (omega arith)))

pub letter-name : (c : ℕ) → letter c ≡ true → in_name c ≡ true
letter-name c e = ap (λ (b : Bool). b || digit c || eqb c 39) e
