-- Numbers in decimal as parts of names: digits, at least one, and two numbers below 2 to the 64th do not share them. Assumes nothing.
use Prim.Native.Nat.{ℕ, zero, suc, ◌+◌, ◌*◌, ◌-◌, ◌/◌, ◌%◌, ◌^◌, ◌≤◌, ◌<◌}
use mathlib.Core.Path.{◌≡◌, refl, sym, ap, subst, ◌∙◌}
use mathlib.Core.Bool.{Bool, true, false, cond}
use mathlib.Core.List.{List, [], ◌∷◌, ◌++◌}
use native.Mathlib.Omega.{arith}
use lib.Dec.{T, eqb, ltb, eqb→eq, ltb→lt, eqb_refl}
use Rattle.calculus.specs.Listing.{digits, decimal}
use Rattle.laws.proofs.Tests.{T-is, is_false}
use Rattle.notation_calculus.specs.Words.{same_name}
use Rattle.notation_theorems.proofs.TypesMean.{same→eq}

-- every byte is a digit
abbrev pub Figures : List ℕ → Type 0
Figures [] = Unit {0}
Figures (c ∷ s) = (48 ≤ c) × (c ≤ 57) × Figures s

pub figures_then : (s : List ℕ) (c : ℕ) → Figures s → 48 ≤ c → c ≤ 57 → Figures (s ++ c ∷ [])
figures_then [] c h g k = (g, k, tt)
figures_then (d ∷ s) c (a, b, h) g k = (a, b, figures_then s c h g k)

pub digits_are : (k n : ℕ) → Figures (digits k n)
digits_are zero n = tt
digits_are (suc k) n = by (digits_are k (n / 10)) (ltb n 10) refl
  where
    by : Figures (digits k (n / 10)) → (b : Bool) → ltb n 10 ≡ b → Figures (cond b ((48 + n) ∷ []) (digits k (n / 10) ++ ((48 + n % 10) ∷ [])))
    by f true e = let h = ltb→lt n 10 (subst (λ (b : Bool). T b) (sym e) tt) in (omega arith, omega arith, tt)
    by f false e = figures_then (digits k (n / 10)) (48 + n % 10) f (omega arith) (omega arith)

pub decimal_are : (n : ℕ) → Figures (decimal n)
decimal_are n = digits_are 20 n

-- .. and there is one
pub data OneOrMore : List ℕ → Type 0 where
  some : {c : ℕ} {s : List ℕ} → OneOrMore (c ∷ s)

some_then : (s : List ℕ) (c : ℕ) → OneOrMore (s ++ c ∷ [])
some_then [] c = some
some_then (d ∷ s) c = some

pub decimal-some : (n : ℕ) → OneOrMore (decimal n)
decimal-some n = by (ltb n 10)
  where
    by : (b : Bool) → OneOrMore (cond b ((48 + n) ∷ []) (digits 19 (n / 10) ++ ((48 + n % 10) ∷ [])))
    by true = some
    by false = some_then (digits 19 (n / 10)) (48 + n % 10)

-- ---- the value

abbrev value : ℕ → List ℕ → ℕ
value n [] = n
value n (c ∷ s) = value (10 * n + (c - 48)) s

value_then : (s : List ℕ) (n c : ℕ) → value n (s ++ c ∷ []) ≡ 10 * value n s + (c - 48)
value_then [] n c = refl
value_then (d ∷ s) n c = value_then s (10 * n + (d - 48)) c

abbrev top : ℕ → ℕ
top zero = 1
top (suc k) = 10 * top k

value-digits : (k n : ℕ) → n < top k → value 0 (digits k n) ≡ n
value-digits zero n h = omega arith
value-digits (suc k) n h = by (value-digits k (n / 10) (omega arith)) (ltb n 10) refl
  where
    by : value 0 (digits k (n / 10)) ≡ n / 10 → (b : Bool) → ltb n 10 ≡ b → value 0 (cond b ((48 + n) ∷ []) (digits k (n / 10) ++ ((48 + n % 10) ∷ []))) ≡ n
    by f true e = omega arith
    by f false e = value_then (digits k (n / 10)) 0 (48 + n % 10) ∙ omega (arith, f)

pub decimal_one : (a b : ℕ) → a < 2 ^ 64 → b < 2 ^ 64 → decimal a ≡ decimal b → a ≡ b
decimal_one a b g h e = sym (value-digits 20 a (omega arith)) ∙ ap (λ (s : List ℕ). value 0 s) e ∙ value-digits 20 b (omega arith)

-- ---- names

pub same_self : (n : List ℕ) → same_name n n ≡ true
same_self [] = refl
same_self (c ∷ n) = rw (T-is (eqb c c) (eqb_refl c)) (same_self n)

-- two numbers below 2 to the 64th, behind the same letter
pub same-decimal : (c a b : ℕ) → a < 2 ^ 64 → b < 2 ^ 64 → same_name (c ∷ decimal a) (c ∷ decimal b) ≡ eqb a b
same-decimal c a b g h = by (eqb a b) refl
  where
    by : (r : Bool) → eqb a b ≡ r → same_name (c ∷ decimal a) (c ∷ decimal b) ≡ r
    by true e = ap (λ (n : ℕ). same_name (c ∷ decimal a) (c ∷ decimal n)) (sym (eqb→eq a b (subst (λ (x : Bool). T x) (sym e) tt))) ∙ same_self (c ∷ decimal a)
    by false e = is_false (same_name (c ∷ decimal a) (c ∷ decimal b)) λ t. absurd (subst (λ (x : Bool). T x) e (subst (λ (m : ℕ). T (eqb a m)) (decimal_one a b g h (tails (same→eq (c ∷ decimal a) (c ∷ decimal b) t))) (eqb_refl a)))
      where
        rest : List ℕ → List ℕ
        rest [] = []
        rest (x ∷ xs) = xs

        tails : c ∷ decimal a ≡ c ∷ decimal b → decimal a ≡ decimal b
        tails p = ap rest p
