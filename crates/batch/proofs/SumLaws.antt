-- Sums of lengths, from some place on. Assumes nothing.
use Prim.Native.Nat.{ℕ, ◌+◌, ◌<◌}
use mathlib.Core.Path.{◌≡◌, sym, ap, ◌∙◌}
use mathlib.Core.List.{List, ◌∷◌}
use native.Mathlib.Numerals.{add-one}
use lib.Dec.{eqb}
use lib.ListN.{length, get_or, drop}
use lib.Seq.{drop-cons, drop-length}
use borrow.Author.Tests.{eq-eqb, ne_eqb}
use Rattle.laws.proofs.Tests.{by_eqb}
use Rattle.batch_calculus.specs.Batch.{sum}

pub drop_at_place : (l : List ℕ) (k : ℕ) → k < length l → drop k l ≡ get_or l k 0 ∷ drop (k + 1) l
drop_at_place l k h = drop-cons l k 0 h ∙ ap (λ (j : ℕ). get_or l k 0 ∷ drop j l) (sym (add-one k))

pub sum_drop : (l : List ℕ) (k : ℕ) → k < length l → sum (drop k l) ≡ get_or l k 0 + sum (drop (k + 1) l)
sum_drop l k h = ap sum (drop_at_place l k h)

pub sum-end : (l : List ℕ) (k : ℕ) → k ≡ length l → sum (drop k l) ≡ 0
sum-end l k e = ap (λ (j : ℕ). sum (drop j l)) e ∙ ap sum (drop-length l)

-- a test of two numbers, by what it comes to
pub same_test : (a b c d : ℕ) → (a ≡ b → c ≡ d) → (c ≡ d → a ≡ b) → eqb a b ≡ eqb c d
same_test a b c d f g = by_eqb (λ t. t ≡ eqb c d) a b (λ e. sym (eq-eqb c d (f e))) (λ d. sym (ne_eqb c _ (λ z. d (g z))))
