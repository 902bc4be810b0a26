-- The first number that passes a test: the code's loop, and the machine's number of the clause that is meant. Assumes nothing.
use Prim.Native.Nat.{ℕ, zero, suc, ◌+◌, ◌-◌, ◌≤◌, ◌<◌}
use mathlib.Core.Path.{◌≡◌, refl, sym, ap, ◌∙◌}
use mathlib.Core.Bool.{Bool, true, false, cond}
use mathlib.Core.List.{List}
use native.Mathlib.Omega.{arith}
use lib.ListN.{length, take, drop}
use lib.Seq.{drop-cons}
use Rattle.notation_calculus.specs.Words.{Name}
use Rattle.notation_calculus.specs.Trees.{Clause}
use Rattle.notation_calculus.specs.Making.{meant}
use Rattle.notation_machine.specs.Bodies.{number_for}
use Rattle.clauses.specs.Rows.{no_clause, clause_of}
use Rattle.putting.specs.Main.{first_passing}

module _ (test : ℕ → Bool) where
  passes-by : (b : Bool) (n k later : ℕ) → test k ≡ b → cond b k later < k + suc n → (later < suc k + n → test later ≡ true) → test (cond b k later) ≡ true
  passes-by true n k later e h go = e
  passes-by false n k later e h go = go (omega arith)

  -- the number that is found passes
  pub first_passes : (n k : ℕ) → first_passing test k n < k + n → test (first_passing test k n) ≡ true
  first_passes zero k h = absurd (omega arith)
  first_passes (suc n) k h = passes-by (test k) n k (first_passing test (suc k) n) refl h (λ l. first_passes n (suc k) l)

  -- ---- a loop that goes on from number k

  pub record Searching (n k : ℕ) : Type 0 where
    pub most : k ≤ n
    pub total : first_passing test 0 n ≡ first_passing test k (n - k)

  pub searching_none : (n : ℕ) → Searching n 0
  searching_none n = let e : n - 0 ≡ n = omega arith in record { most = omega arith; total = ap (first_passing test 0) (sym e) }

  module _ (n k : ℕ) (s : Searching n k) where
    module _ (more : k < n) where
      one-test : first_passing test 0 n ≡ cond (test k) k (first_passing test (k + 1) (n - (k + 1)))
      one-test =
          let e : n - k ≡ suc (n - (k + 1)) = omega arith in
          let g : suc k ≡ k + 1 = omega arith in
          s.total ∙ ap (first_passing test k) e ∙ ap (λ (j : ℕ). cond (test k) k (first_passing test j (n - (k + 1)))) g

      pub searching-found : test k ≡ true → k ≡ first_passing test 0 n
      searching-found h = sym (one-test ∙ ap (λ (b : Bool). cond b k (first_passing test (k + 1) (n - (k + 1)))) h)

      pub searching-more : test k ≡ false → Searching n (k + 1)
      searching-more h = record { most = omega arith; total = one-test ∙ ap (λ (b : Bool). cond b k (first_passing test (k + 1) (n - (k + 1)))) h }

    pub searching-all : n ≤ k → k ≡ first_passing test 0 n
    searching-all h = let e : n - k ≡ 0 = omega arith in sym (s.total ∙ ap (first_passing test k) e)

-- ---- clauses

module _ (cs : List Clause) (sort : Bool) (name : Name) (types : ℕ) (ns : List ℕ) (test : ℕ → Bool) (same : (k : ℕ) → k < length cs → meant (clause_of cs k) sort name types ns ≡ test k) where
  step_by : (b : Bool) (k f m : ℕ) → f ≡ suc k + m → k + cond b 0 (suc m) ≡ cond b k f
  step_by true k f m e = omega arith
  step_by false k f m e = omega arith

  number-left : (n k : ℕ) → k + n ≤ length cs → k + number_for (take n (drop k cs)) sort name types ns ≡ first_passing test k n
  number-left zero k h = omega arith
  number-left (suc n) k h =
      let l : k < length cs = omega arith in
      ap (λ (xs : List Clause). k + number_for (take (suc n) xs) sort name types ns) (drop-cons cs k no_clause l)
      ∙ ap (λ (b : Bool). k + cond b 0 (suc (number_for (take n (drop (suc k) cs)) sort name types ns))) (same k l)
      ∙ step_by (test k) k (first_passing test (suc k) n) (number_for (take n (drop (suc k) cs)) sort name types ns) (sym (number-left n (suc k) (omega arith)))

  -- the machine's number is the first that passes
  pub number-first : (seen : ℕ) → seen ≤ length cs → number_for (take seen cs) sort name types ns ≡ first_passing test 0 seen
  number-first seen h = omega (arith, number-left seen 0 (omega arith))
