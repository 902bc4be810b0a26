-- Marks that are node numbers name one constant each. Assumes nothing.
use Prim.Native.Nat.{ℕ, suc, ◌+◌, ◌<◌, ◌≤◌}
use mathlib.Core.Path.{◌≡◌, refl}
use mathlib.Core.Bool.{Bool, cond}
use mathlib.Core.List.{List, [], ◌∷◌, ◌++◌}
use native.Mathlib.Omega.{arith}
use native.Mathlib.Decide.{dec_le}
use Rattle.laws.proofs.Tests.{by_eqb}
use Rattle.calculus.specs.Terms.{nodes}
use Rattle.linear_theorems.specs.Marked.{Marked, mvar, mlvar, mfun, mapp, mlfun, mlapp, mpair, mproj, mfix, mcon, plain, marks, ByNode, times}

pub times-append : (k : ℕ) (xs ys : List ℕ) → times k (xs ++ ys) ≡ times k xs + times k ys
times-append k [] ys = omega arith
times-append k (x ∷ xs) ys = omega (arith, times-append k xs ys)

module _ (k : ℕ) where
  -- k stands at most once in the list, and only if it is from a up to b
  pub record Span (xs : List ℕ) (a b : ℕ) : Type 0 where
    pub low : k < a → times k xs ≡ 0
    pub high : b ≤ k → times k xs ≡ 0
    pub once : times k xs ≤ 1

  no-mark : (a b : ℕ) → Span [] a b
  no-mark a b = record { low = λ h. refl; high = λ h. refl; once = omega arith }

  one-mark : (x a b : ℕ) → a ≤ x → x < b → Span (x ∷ []) a b
  one-mark x a b lo hi = record {
    low = λ h. by_eqb (λ (t : Bool). cond t 1 0 + 0 ≡ 0) x k (λ e. absurd (omega arith)) (λ d. refl);
    high = λ h. by_eqb (λ (t : Bool). cond t 1 0 + 0 ≡ 0) x k (λ e. absurd (omega arith)) (λ d. refl);
    once = by_eqb (λ (t : Bool). cond t 1 0 + 0 ≤ 1) x k (λ e. omega arith) (λ d. omega arith);
  }

  wider : (xs : List ℕ) (a b c d : ℕ) → c ≤ a → b ≤ d → Span xs a b → Span xs c d
  wider xs a b c d lo hi s = record { low = λ h. s.low (omega arith); high = λ h. s.high (omega arith); once = s.once }

  two-marks : (xs ys : List ℕ) (a b c : ℕ) → a ≤ b → b ≤ c → Span xs a b → Span ys b c → Span (xs ++ ys) a c
  two-marks xs ys a b c p q s t = record {
    low = λ h. omega (arith, times-append k xs ys, s.low h, t.low (omega arith));
    high = λ h. omega (arith, times-append k xs ys, s.high (omega arith), t.high h);
    once = elim (dec_le b k) [ yes l ↦ omega (arith, times-append k xs ys, s.high l, t.once) | no l ↦ omega (arith, times-append k xs ys, s.once, t.low (omega arith)) ];
  }

  -- a node with two subterms
  both : (xs ys : List ℕ) (n a b : ℕ) → Span xs (n + 1) (n + 1 + a) → Span ys (n + 1 + a) (n + 1 + a + b) → Span (xs ++ ys) n (n + suc (a + b))
  both xs ys n a b s t = wider (xs ++ ys) (n + 1) (n + 1 + a + b) n (n + suc (a + b)) (omega arith) (omega arith) (two-marks xs ys (n + 1) (n + 1 + a) (n + 1 + a + b) (omega arith) (omega arith) s t)

  under : (xs : List ℕ) (n a : ℕ) → Span xs (n + 1) (n + 1 + a) → Span xs n (n + suc a)
  under xs n a s = wider xs (n + 1) (n + 1 + a) n (n + suc a) (omega arith) (omega arith) s

  span : (e : Marked) (n : ℕ) → ByNode e n → Span (marks e) n (n + nodes (plain e))
  span (mvar i) n h = no-mark n (n + 1)
  span (mlvar i) n h = no-mark n (n + 1)
  span (mfun t e) n h = under (marks e) n (nodes (plain e)) (span e (n + 1) h)
  span (mapp f a) n h = both (marks f) (marks a) n (nodes (plain f)) (nodes (plain a)) (span f (n + 1) h.0) (span a (n + 1 + nodes (plain f)) h.1)
  span (mlfun t e) n h = under (marks e) n (nodes (plain e)) (span e (n + 1) h)
  span (mlapp f a) n h = both (marks f) (marks a) n (nodes (plain f)) (nodes (plain a)) (span f (n + 1) h.0) (span a (n + 1 + nodes (plain f)) h.1)
  span (mpair t a b) n h = both (marks a) (marks b) n (nodes (plain a)) (nodes (plain b)) (span a (n + 1) h.0) (span b (n + 1 + nodes (plain a)) h.1)
  span (mproj a e) n h = both (marks a) (marks e) n (nodes (plain a)) (nodes (plain e)) (span a (n + 1) h.0) (span e (n + 1 + nodes (plain a)) h.1)
  span (mfix t e) n h = under (marks e) n (nodes (plain e)) (span e (n + 1) h)
  span (mcon p t x) n h = one-mark x n (n + 1) (omega arith) (omega arith)

  pub marked-once : (e : Marked) (n : ℕ) → ByNode e n → times k (marks e) ≤ 1
  marked-once e n h = (span e n h).once
