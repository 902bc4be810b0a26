-- Laws of the stack of binders over its three arrays. Assumes nothing.
use Prim.Native.Nat.{ℕ, zero, suc, ◌+◌, ◌-◌, ◌<◌, ◌≤◌}
use mathlib.Core.Path.{◌≡◌, refl, ap}
use mathlib.Core.Bool.{Bool, true, false, not, cond}
use mathlib.Core.List.{List, [], ◌∷◌}
use native.Mathlib.Omega.{arith}
use native.Mathlib.Numerals.{add-one}
use borrow.Author.Tests.{lt-ltb, leb-true, leb-false, ne_eqb}
use lib.Dec.{leb, ltb, eqb}
use lib.ListN.{length, get_or, set, drop}
use lib.Seq.{get_or-set_same, get_or-set_other}
use Rattle.laws.proofs.Tests.{on_cond}
use Rattle.calculus.specs.Answer.{refuse}
use Rattle.calculus.specs.Walk.{Binder, shared, linear, Stack, under, use_shared, use_linear}
use Rattle.binders.specs.declared.Binders.{Binders}
use Rattle.std.specs.declared.result.Result.TheVariants.{Ok, Err}
use Rattle.answers.specs.declared.Reason.{Reason}
use Rattle.binders.specs.Stacks.{Use, bits_of, is_used, binder_of, stack_from, stack_of, no_binders, slot_of, shared_at, shared_use, linear_at, linear_use, said_use}

-- the code's test of a mark
pub mark-test : (u : ℕ) → not (eqb u 0) ≡ is_used u
mark-test zero = refl
mark-test (suc u) = rw (ne_eqb (suc u) 0 (λ e. omega arith))

-- ---- a binder by the code's tests of its numbers

pub sharable : (t s u : ℕ) → s ≡ 0 → binder_of t s u ≡ shared t
sharable t s u e = rw e

pub linear_of : (t s u : ℕ) → ¬ (s ≡ 0) → binder_of t s u ≡ linear t (is_used u)
linear_of t zero u d = absurd (d refl)
linear_of t (suc s) u d = refl

pub marked : (u : ℕ) → ¬ (u ≡ 0) → is_used u ≡ true
marked zero d = absurd (d refl)
marked (suc u) d = refl

-- ---- where a binder stands

slot_in : (n i : ℕ) → i < n → slot_of n i + suc i ≡ n
unfolding slot_of
slot_in n i h = rw (lt-ltb i n h) (omega arith)

pub slot-low : (n i : ℕ) {k : ℕ} → k ≡ slot_of n i → n ≤ 128 → k < 128
unfolding slot_of
slot-low n i e h = rw e (on_cond (λ (x : ℕ). x < 128) (ltb i n) (n - 1 - i) 0 (λ _. omega arith) (omega arith))

-- by cases of the code's test of scope
by_leb : (F : Bool → Type 0) (a b : ℕ) → (a ≤ b → F true) → (b < a → F false) → F (leb a b)
by_leb F a b f g = by-test (leb a b) refl
  where
    by-test : (t : Bool) → leb a b ≡ t → F t
    by-test true e = f (leb-true a b e)
    by-test false e = g (leb-false a b e)

-- ---- a use of the nearest binder, and of one farther out

shared_top : (t s u : ℕ) (st : Stack) (n : ℕ) → said_use (shared_at (binder_of t s 0)) (binder_of t s u ∷ st) n ≡ use_shared (binder_of t s u ∷ st) 0 n
shared_top t zero u st n = refl
shared_top t (suc s) u st n = refl

linear_top : (t s u : ℕ) (st : Stack) (n : ℕ) → said_use (linear_at (binder_of t s u)) (binder_of t s 1 ∷ st) n ≡ use_linear (binder_of t s u ∷ st) 0 n
linear_top t zero u st n = refl
linear_top t (suc s) zero st n = refl
linear_top t (suc s) (suc u) st n = refl

under_said : (v : Use) (b : Binder) (st : Stack) (n : ℕ) → said_use v (b ∷ st) n ≡ under b (said_use v st n)
under_said (Ok t) b st n = refl
under_said (Err why) b st n = refl

module _ (ts ss us : List ℕ) where
  -- ---- entering and leaving a scope

  -- a store past the binders in scope changes none of them
  pub past : (i a b c n : ℕ) → n ≤ i → stack_from (set ts i a) (set ss i b) (set us i c) n ≡ stack_from ts ss us n
  unfolding stack_from
  past i a b c zero le = refl
  past i a b c (suc n) le =
      rw (get_or-set_other ts i n a 0 (λ e. omega arith), get_or-set_other ss i n b 0 (λ e. omega arith), get_or-set_other us i n c 0 (λ e. omega arith), past i a b c n (omega arith))

  -- .. whatever the marks are
  pub past-kept : (i a b n : ℕ) → n ≤ i → stack_from (set ts i a) (set ss i b) us n ≡ stack_from ts ss us n
  unfolding stack_from
  past-kept i a b zero le = refl
  past-kept i a b (suc n) le = rw (get_or-set_other ts i n a 0 (λ e. omega arith), get_or-set_other ss i n b 0 (λ e. omega arith), past-kept i a b n (omega arith))

  pub pushed : (a b c n : ℕ) → n < length ts → n < length ss → n < length us
      → stack_from (set ts n a) (set ss n b) (set us n c) (n + 1) ≡ binder_of a b c ∷ stack_from ts ss us n
  unfolding stack_from
  pushed a b c n h₁ h₂ h₃ = rw (add-one n, get_or-set_same ts n a 0 h₁, get_or-set_same ss n b 0 h₂, get_or-set_same us n c 0 h₃, past n a b c n (omega arith))

  pub nearest : (n : ℕ) → stack_from ts ss us (n + 1) ≡ binder_of (get_or ts n 0) (get_or ss n 0) (get_or us n 0) ∷ stack_from ts ss us n
  unfolding stack_from
  nearest n = rw (add-one n)

  pub left : (k n : ℕ) → k ≤ n → stack_from ts ss us (n - k) ≡ drop k (stack_from ts ss us n)
  unfolding stack_from
  left zero n h = let e : n - 0 ≡ n = omega arith in rw e
  left (suc k) zero h = absurd (omega arith)
  left (suc k) (suc n) h = let e : suc n - suc k ≡ n - k = omega arith in rw e (left k n (omega arith))

  -- ---- variables

  module _ (place : ℕ) where
    shared_out : (n i : ℕ) → n ≤ i → refuse 10 place ≡ use_shared (stack_from ts ss us n) i place
    unfolding stack_from
    shared_out zero i h = refl
    shared_out (suc n) zero h = absurd (omega arith)
    shared_out (suc n) (suc i) h = rw (← shared_out n i (omega arith))

    shared-in : (n i a : ℕ) → a + suc i ≡ n → said_use (shared_at (binder_of (get_or ts a 0) (get_or ss a 0) 0)) (stack_from ts ss us n) place ≡ use_shared (stack_from ts ss us n) i place
    unfolding stack_from
    shared-in zero i a h = absurd (omega arith)
    shared-in (suc n) zero a h = let e : n ≡ a = omega arith in rw e (shared_top (get_or ts a 0) (get_or ss a 0) (get_or us a 0) _ place)
    shared-in (suc n) (suc i) a h = rw (← shared-in n i a (omega arith)) (under_said (shared_at (binder_of (get_or ts a 0) (get_or ss a 0) 0)) _ _ place)

    -- what the code finds of a sharable variable
    pub shared-said : (n i : ℕ) → said_use (shared_use n i (binder_of (get_or ts (slot_of n i) 0) (get_or ss (slot_of n i) 0) 0)) (stack_from ts ss us n) place ≡ use_shared (stack_from ts ss us n) i place
    unfolding shared_use
    shared-said n i =
        by_leb (λ (t : Bool). said_use (cond t (Err Reason.NotInScope) (shared_at (binder_of (get_or ts (slot_of n i) 0) (get_or ss (slot_of n i) 0) 0))) (stack_from ts ss us n) place ≡ use_shared (stack_from ts ss us n) i place) n i
        (λ h. shared_out n i h)
        (λ h. shared-in n i (slot_of n i) (slot_in n i h))

    linear_out : (n i : ℕ) → n ≤ i → refuse 10 place ≡ use_linear (stack_from ts ss us n) i place
    unfolding stack_from
    linear_out zero i h = refl
    linear_out (suc n) zero h = absurd (omega arith)
    linear_out (suc n) (suc i) h = rw (← linear_out n i (omega arith))

    mark-past : (n a : ℕ) → n ≤ a → stack_from ts ss (set us a 1) n ≡ stack_from ts ss us n
    unfolding stack_from
    mark-past zero a h = refl
    mark-past (suc n) a h = rw (mark-past n a (omega arith), get_or-set_other us a n 1 0 (λ e. omega arith))

    linear-in : (n i a : ℕ) → a + suc i ≡ n → n ≤ length us
        → said_use (linear_at (binder_of (get_or ts a 0) (get_or ss a 0) (get_or us a 0))) (stack_from ts ss (set us a 1) n) place ≡ use_linear (stack_from ts ss us n) i place
    unfolding stack_from
    linear-in zero i a h l = absurd (omega arith)
    linear-in (suc n) zero a h l =
        let e : n ≡ a = omega arith in
        rw (e, mark-past a a (omega arith), get_or-set_same us a 1 0 (omega arith)) (linear_top (get_or ts a 0) (get_or ss a 0) (get_or us a 0) _ place)
    linear-in (suc n) (suc i) a h l =
        rw (← linear-in n i a (omega arith) (omega arith), get_or-set_other us a n 1 0 (λ e. omega arith)) (under_said (linear_at (binder_of (get_or ts a 0) (get_or ss a 0) (get_or us a 0))) _ _ place)

    -- .. and of a linear one, which its user marks
    pub linear-said : (n i : ℕ) → n ≤ length us
        → said_use (linear_use n i (binder_of (get_or ts (slot_of n i) 0) (get_or ss (slot_of n i) 0) (get_or us (slot_of n i) 0))) (stack_from ts ss (set us (slot_of n i) 1) n) place ≡ use_linear (stack_from ts ss us n) i place
    unfolding linear_use
    linear-said n i l =
        by_leb (λ (t : Bool). said_use (cond t (Err Reason.NotInScope) (linear_at (binder_of (get_or ts (slot_of n i) 0) (get_or ss (slot_of n i) 0) (get_or us (slot_of n i) 0)))) (stack_from ts ss (set us (slot_of n i) 1) n) place ≡ use_linear (stack_from ts ss us n) i place) n i
        (λ h. linear_out n i h)
        (λ h. linear-in n i (slot_of n i) (slot_in n i h) l)

  stack-length : (n : ℕ) → length (stack_from ts ss us n) ≡ n
  unfolding stack_from
  stack-length zero = refl
  stack-length (suc n) = ap suc (stack-length n)

-- as many binders as the stack counts
pub length_of : (b : Binders) → length (stack_of b) ≡ b.count
length_of b = stack-length b.types (bits_of b.sorts) (bits_of b.used) b.count

-- no binder is in scope
pub none_in_scope : {b : Binders} → b ≡ no_binders → stack_of b ≡ []
unfolding no_binders stack_from
none_in_scope e = rw e
