-- Bytes written one piece after the other: what is written and what is still to come make the whole. Assumes nothing.
use Prim.Native.Nat.{ℕ, ◌+◌, ◌≤◌}
use mathlib.Core.Path.{◌≡◌, refl, sym, ap, ◌∙◌}
use mathlib.Core.List.{List, [], ◌++◌}
use native.Mathlib.Omega.{arith}
use lib.ListN.{length, length-append}
use lib.Seq.{sets, length-sets}
use Rattle.laws.proofs.Regions.{sets-append}

-- ---- of `all`, to be written from an offset on, `rest` is still to come

pub record Writing (out₀ : List ℕ) (from : ℕ) (all o : List ℕ) (at : ℕ) (rest : List ℕ) : Type 0 where
  pub size : length o ≡ length out₀
  pub whole : sets o at rest ≡ sets out₀ from all
  pub ends : at + length rest ≡ from + length all

pub writing_start : (o : List ℕ) (from : ℕ) (all : List ℕ) → Writing o from all o from all
writing_start o from all = record { size = refl; whole = refl; ends = refl }

module _ (out₀ : List ℕ) (from : ℕ) (all o : List ℕ) (at : ℕ) (rest one next : List ℕ) (s : Writing out₀ from all o at rest) (e : rest ≡ one ++ next) where
  lengths : length rest ≡ length one + length next
  lengths = ap length e ∙ length-append one next

  pub writing_fits : (room : ℕ) → from + length all ≤ room → at + length one ≤ room
  writing_fits room h = omega (arith, lengths, s.ends)

  pub writing_step : (o₁ : List ℕ) (at₁ : ℕ) → at₁ ≡ at + length one → o₁ ≡ sets o at one → Writing out₀ from all o₁ at₁ next
  writing_step o₁ at₁ f g = record {
    size = ap length g ∙ length-sets o at one ∙ s.size;
    whole = rw (f, g) (sets-append one next o at ∙ ap (sets o at) (sym e) ∙ s.whole);
    ends = let l = s.ends in omega (arith, lengths);
  }

pub writing_end : (out₀ : List ℕ) (from : ℕ) (all o : List ℕ) (at : ℕ) (rest : List ℕ) → Writing out₀ from all o at rest → rest ≡ []
    → (at ≡ from + length all) × (o ≡ sets out₀ from all)
writing_end out₀ from all o at rest s e = (let l = s.ends in omega (arith, ap length e), rw e at s.whole)
