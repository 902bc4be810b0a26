-- Laws of `All`: a fact of every element of a list. Assumes nothing.
use Prim.Native.Nat.{ℕ, zero, suc, ◌<◌}
use mathlib.Core.Bool.{Bool, true, false, cond, not}
use mathlib.Core.List.{List, [], ◌∷◌, ◌++◌}
use native.Mathlib.Nat.{not-suc-le-zero, le_of_suc-le-suc}
use lib.Dec.{T}
use lib.ListN.{length, get_or, take, drop}
use Rattle.calculus.specs.Record.{All}

pub all_map : {A : Type 0} (F G : A → Type 0) → ((x : A) → F x → G x) → (xs : List A) → All F xs → All G xs
all_map F G f [] a = tt
all_map F G f (x ∷ xs) a = (f x a.0, all_map F G f xs a.1)

pub all_zip : {A : Type 0} (F G : A → Type 0) (xs : List A) → All F xs → All G xs → All (λ x. F x × G x) xs
all_zip F G [] a b = tt
all_zip F G (x ∷ xs) a b = ((a.0, b.0), all_zip F G xs a.1 b.1)

pub all_append : {A : Type 0} (F : A → Type 0) (xs ys : List A) → All F xs → All F ys → All F (xs ++ ys)
all_append F [] ys a b = b
all_append F (x ∷ xs) ys a b = (a.0, all_append F xs ys a.1 b)

pub all_left : {A : Type 0} (F : A → Type 0) (xs ys : List A) → All F (xs ++ ys) → All F xs
all_left F [] ys a = tt
all_left F (x ∷ xs) ys a = (a.0, all_left F xs ys a.1)

pub all_right : {A : Type 0} (F : A → Type 0) (xs ys : List A) → All F (xs ++ ys) → All F ys
all_right F [] ys a = a
all_right F (x ∷ xs) ys a = all_right F xs ys a.1

pub all_cond : {A : Type 0} (F : A → Type 0) (b : Bool) (xs ys : List A) → (T b → All F xs) → (T (not b) → All F ys) → All F (cond b xs ys)
all_cond F true xs ys f g = f tt
all_cond F false xs ys f g = g tt

-- the k-th element
pub all-at : {A : Type 0} (F : A → Type 0) (xs : List A) (k : ℕ) (d : A) → All F xs → k < length xs → F (get_or xs k d)
all-at F [] k d a h = absurd (not-suc-le-zero h)
all-at F (x ∷ xs) zero d a h = a.0
all-at F (x ∷ xs) (suc k) d a h = all-at F xs k d a.1 (le_of_suc-le-suc h)

pub all_take : {A : Type 0} (F : A → Type 0) (k : ℕ) (xs : List A) → All F xs → All F (take k xs)
all_take F zero xs a = tt
all_take F (suc k) [] a = tt
all_take F (suc k) (x ∷ xs) a = (a.0, all_take F k xs a.1)

pub all_drop : {A : Type 0} (F : A → Type 0) (k : ℕ) (xs : List A) → All F xs → All F (drop k xs)
all_drop F zero xs a = a
all_drop F (suc k) [] a = tt
all_drop F (suc k) (x ∷ xs) a = all_drop F k xs a.1

-- the i-th element, or what holds anyway
pub all_get_d : {A : Type 0} (F : A → Type 0) (xs : List A) (i : ℕ) (d : A) → All F xs → F d → F (get_or xs i d)
all_get_d F [] i d a h = h
all_get_d F (x ∷ xs) zero d a h = a.0
all_get_d F (x ∷ xs) (suc i) d a h = all_get_d F xs i d a.1 h
