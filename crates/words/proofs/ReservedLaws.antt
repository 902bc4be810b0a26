-- Reserved words of so many bytes, told by the bytes as one number; and a word that is as long as no reserved word is none. Assumes nothing.
use Prim.Native.Nat.{ℕ, ◌+◌, ◌≤◌}
use mathlib.Core.Path.{◌≡◌, refl, sym, ap, ◌∙◌}
use mathlib.Core.Bool.{true}
use mathlib.Core.List.{List}
use native.Mathlib.Omega.{arith}
use lib.ListN.{length, take, drop}
use Rattle.notation_calculus.specs.Words.{reserved}
use Rattle.words.specs.Tables.{row_of}
use Rattle.words.specs.Keys.{key_of}
use Rattle.words.proofs.KeyLaws.{Small, smalls, row_named_lem, misses, key_row, key_none, off}

module _ (text : List ℕ) (at long n key : ℕ) where
  pub word_told : (v : List ℕ) → at + long ≤ length text → long ≡ n → Small text → length v ≡ n → smalls v ≡ true → key ≡ key_of (take n (drop at text)) → key ≡ key_of v → row_named_lem v reserved ≡ row_of true long (drop at text) reserved
  word_told v h e t l b k f = sym (ap (λ (m : ℕ). row_of true m (drop at text) reserved) e ∙ key_row text at n reserved (omega (arith, h, e)) key v t l b k f)

  pub word_missed : at + long ≤ length text → long ≡ n → key ≡ key_of (take n (drop at text)) → misses key n reserved ≡ true → record { code = 0; value = 0; long = 0 } ≡ row_of true long (drop at text) reserved
  word_missed h e k m = sym (ap (λ (m : ℕ). row_of true m (drop at text) reserved) e ∙ key_none text at n reserved (omega (arith, h, e)) key k m)

pub none_other : (long : ℕ) (s : List ℕ) → ¬ (long ≡ 2) → ¬ (long ≡ 3) → ¬ (long ≡ 4) → ¬ (long ≡ 5) → ¬ (long ≡ 7) → record { code = 0; value = 0; long = 0 } ≡ row_of true long s reserved
unfolding row_of reserved
none_other long s a b c d e = rw (off long 2 a, off long 3 b, off long 4 c, off long 5 d, off long 7 e) refl
