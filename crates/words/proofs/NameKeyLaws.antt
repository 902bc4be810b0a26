-- The number of a name, byte by byte. Assumes nothing.
use Prim.Native.Nat.{ℕ, suc, ◌+◌, ◌≤◌, ◌<◌}
use mathlib.Core.Path.{◌≡◌, refl, sym, ap, ◌∙◌}
use mathlib.Core.Bool.{true}
use mathlib.Core.List.{List, ◌∷◌}
use native.Mathlib.Omega.{arith}
use native.Mathlib.Numerals.{add-one}
use lib.ListN.{length, get_or, take, drop}
use lib.Seq.{drop-cons}
use Rattle.notation_calculus.specs.Words.{in_name, run}
use Rattle.words.specs.Next.{run_at}
use Rattle.words.specs.NameKeys.{key_step, name_key_from, name_key}

abbrev run_of : List ℕ → List ℕ
run_of s = take (run s) s

goes_on : (c : ℕ) (s : List ℕ) (h : ℕ) → in_name c ≡ true → name_key_from h (run_of (c ∷ s)) ≡ name_key_from (key_step h c) (run_of s)
goes_on c s h e = rw e refl

-- the key so far, with the bytes that are left, is the name's
pub record Keying (text : List ℕ) (from at h : ℕ) : Type 0 where
  pub inside : at ≤ length text
  pub small : h < 32768
  pub total : name_key (run_at text from) ≡ name_key_from h (run_at text at)

module _ (text : List ℕ) (from : ℕ) where
  pub keying_none : from ≤ length text → Keying text from from 0
  unfolding name_key
  keying_none h = record { inside = h; small = omega arith; total = refl }

  module _ (at h : ℕ) (K : Keying text from at h) where
    pub keying-more : at < length text → in_name (get_or text at 0) ≡ true → (n : ℕ) → n ≡ key_step h (get_or text at 0) → n < 32768 → Keying text from (at + 1) n
    keying-more l e n f s = record {
      inside = omega arith;
      small = s;
      total =
          K.total
          ∙ ap (λ (u : List ℕ). name_key_from h (run_of u)) (drop-cons text at 0 l)
          ∙ goes_on (get_or text at 0) (drop (suc at) text) h e
          ∙ ap (λ (k : ℕ). name_key_from k (run_of (drop (suc at) text))) (sym f)
          ∙ ap (λ (j : ℕ). name_key_from n (run_at text j)) (sym (add-one at));
    }
