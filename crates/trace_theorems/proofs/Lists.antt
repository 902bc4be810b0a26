-- Members of lists of numbers, their places, and lists that rise. Assumes nothing.
use Prim.Native.Nat.{ℕ, zero, suc, ◌+◌, ◌≤◌, ◌<◌}
use mathlib.Core.Path.{◌≡◌, refl, sym, ap, subst}
use mathlib.Core.Bool.{Bool, true, false, cond, ◌||◌}
use mathlib.Core.List.{List, [], ◌∷◌, map}
use native.Mathlib.Omega.{arith}
use native.Mathlib.Nat.{not-suc-le-zero, le_of_suc-le-suc}
use lib.Dec.{T, eqb, eqb→eq, eqb_refl}
use lib.ListN.{length, get_or}
use Rattle.calculus.specs.Record.{Among, here, there}
use Rattle.circuit_theorems.specs.Terminals.{has}
use Rattle.laws.proofs.Tests.{by_eqb, or_left, or_right, or_elim}
use Rattle.trace_calculus.specs.Trace.{place}

-- ---- members

pub has_in : (xs : List ℕ) (x : ℕ) → T (has xs x) → Among x xs
has_in [] x t = absurd t
has_in (y ∷ xs) x t = or_elim (eqb y x) (has xs x) t (λ u. subst (λ (z : ℕ). Among x (z ∷ xs)) (sym (eqb→eq y x u)) here) (λ u. there (has_in xs x u))

pub in_has : {x : ℕ} {xs : List ℕ} → Among x xs → T (has xs x)
in_has {x = x} (here {xs = xs}) = or_left (eqb x x) (has xs x) (eqb_refl x)
in_has {x = x} (there {y = y} {xs = xs} h) = or_right (eqb y x) (has xs x) (in_has h)

pub has-at : (xs : List ℕ) (k : ℕ) → k < length xs → T (has xs (get_or xs k 0))
has-at [] k h = absurd (not-suc-le-zero h)
has-at (x ∷ xs) zero h = or_left (eqb x x) (has xs x) (eqb_refl x)
has-at (x ∷ xs) (suc k) h = or_right (eqb x (get_or xs k 0)) (has xs (get_or xs k 0)) (has-at xs k (le_of_suc-le-suc h))

-- ---- places

abbrev pub Once : List ℕ → Type 0
Once [] = Unit {0}
Once (x ∷ xs) = (T (has xs x) → ⊥) × Once xs

pub place_at : (xs : List ℕ) → Once xs → (k : ℕ) → k < length xs → place xs (get_or xs k 0) ≡ k
place_at [] o k h = absurd (not-suc-le-zero h)
place_at (x ∷ xs) o zero h = by_eqb (λ b. cond b 0 (suc (place xs x)) ≡ 0) x x (λ _. refl) (λ d. absurd (d refl))
place_at (x ∷ xs) o (suc k) h =
    by_eqb (λ b. cond b 0 (suc (place xs (get_or xs k 0))) ≡ suc k) x (get_or xs k 0)
    (λ e. absurd (o.0 (subst (λ (z : ℕ). T (has xs z)) (sym e) (has-at xs k (le_of_suc-le-suc h)))))
    (λ _. ap suc (place_at xs o.1 k (le_of_suc-le-suc h)))

-- a member stands at its place
pub at_place : (xs : List ℕ) (i : ℕ) → T (has xs i) → (place xs i < length xs) × (get_or xs (place xs i) 0 ≡ i)
at_place [] i t = absurd t
at_place (x ∷ xs) i t = by (eqb x i) refl t (at_place xs i)
  where
    by : (b : Bool) → eqb x i ≡ b → T (b || has xs i) → (T (has xs i) → (place xs i < length xs) × (get_or xs (place xs i) 0 ≡ i)) → (cond b 0 (suc (place xs i)) < suc (length xs)) × (get_or (x ∷ xs) (cond b 0 (suc (place xs i))) 0 ≡ i)
    by true e t f = (omega arith, eqb→eq x i (subst T (sym e) tt))
    by false e t f = let r = f t in (omega (arith, r.0), r.1)

-- ---- rising lists

-- each at n or above, and above the one before
abbrev pub Up : List ℕ → ℕ → Type 0
Up [] n = Unit {0}
Up (i ∷ is) n = (n ≤ i) × Up is (i + 1)

pub up_low : (is : List ℕ) (n i : ℕ) → Up is n → T (has is i) → n ≤ i
up_low [] n i u t = absurd t
up_low (j ∷ is) n i u t = or_elim (eqb j i) (has is i) t (λ v. let e = eqb→eq j i v in omega (arith, u.0)) (λ v. let l = up_low is (j + 1) i u.1 v in omega (arith, u.0))

pub up_weaken : (is : List ℕ) (a n : ℕ) → n ≤ a → Up is a → Up is n
up_weaken [] a n l u = tt
up_weaken (x ∷ is) a n l u = (omega (arith, u.0), u.1)

pub up_once : (is : List ℕ) (n : ℕ) → Up is n → Once is
up_once [] n u = tt
up_once (i ∷ is) n u = ((λ t. let l = up_low is (i + 1) i u.1 t in omega arith), up_once is (i + 1) u.1)

up_at : (is : List ℕ) (n k : ℕ) → Up is n → k < length is → n ≤ get_or is k 0
up_at [] n k u h = absurd (not-suc-le-zero h)
up_at (i ∷ is) n zero u h = u.0
up_at (i ∷ is) n (suc k) u h = omega (arith, u.0, up_at is (i + 1) k u.1 (le_of_suc-le-suc h))

-- a later one is above an earlier one
pub up_rises : (is : List ℕ) (n : ℕ) → Up is n → (j k : ℕ) → j < k → k < length is → get_or is j 0 < get_or is k 0
up_rises [] n u j k l h = absurd (not-suc-le-zero h)
up_rises (i ∷ is) n u j zero l h = absurd (not-suc-le-zero l)
up_rises (i ∷ is) n u zero (suc k) l h = omega (arith, up_at is (i + 1) k u.1 (le_of_suc-le-suc h))
up_rises (i ∷ is) n u (suc j) (suc k) l h = up_rises is (i + 1) u.1 j k (le_of_suc-le-suc l) (le_of_suc-le-suc h)

pub up_next : (is : List ℕ) (n : ℕ) → Up is n → Up (map (λ i. i + 1) is) (n + 1)
up_next [] n u = tt
up_next (i ∷ is) n u = (omega (arith, u.0), up_next is (i + 1) u.1)
