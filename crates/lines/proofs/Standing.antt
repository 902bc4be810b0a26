-- What stands at an offset of a netlist's bytes: by the tests that the code makes. Assumes nothing.
use mathlib.Core.Path.{◌≡◌, refl, sym}
use mathlib.Core.Bool.{Bool, true, false, cond}
use mathlib.Core.List.{List, []}
use Prim.Native.Nat.{ℕ, ◌+◌, ◌≤◌, ◌<◌}
use borrow.Author.Tests.{le-leb, lt-leb, leb-true, eq-eqb, ne_eqb}
use native.Mathlib.Nat.{lt_of_not-le}
use lib.Dec.{leb}
use lib.ListN.{length, get_or, get_or-eq_default}
use Rattle.lines.specs.InBytes.{record_size, size_at, text_of, line_at}

module _ (s : List ℕ) (at : ℕ) where
  pub size-whole : at + record_size (get_or s at 0) ≤ length s → record_size (get_or s at 0) ≡ size_at s at
  unfolding size_at
  size-whole h = rw (le-leb (at + record_size (get_or s at 0)) (length s) h)

  pub size-cut : length s < at + record_size (get_or s at 0) → 0 ≡ size_at s at
  unfolding size_at
  size-cut h = rw (lt-leb (at + record_size (get_or s at 0)) (length s) h)

  pub size-past : length s ≤ at → 0 ≡ size_at s at
  unfolding size_at
  size-past h = rw (get_or-eq_default s 0 h) (by (leb (at + 0) (length s)))
    where
      by : (b : Bool) → ◌≡◌ {A = ℕ} 0 (cond b 0 0)
      by true = refl
      by false = refl

  -- a record that stands, stands whole
  pub size_room : (size_at s at ≡ 0 → ⊥) → at + record_size (get_or s at 0) ≤ length s
  unfolding size_at
  size_room f = by (leb (at + n) (length s)) refl f
    where
      n : ℕ
      n = record_size (get_or s at 0)

      by : (b : Bool) → leb (at + n) (length s) ≡ b → (cond b n 0 ≡ 0 → ⊥) → at + n ≤ length s
      by true e g = leb-true (at + n) (length s) e
      by false e g = absurd (g refl)

  pub room : (k : ℕ) → (size_at s at ≡ 0 → ⊥) → get_or s at 0 ≡ k → at + record_size k ≤ length s
  room k f e = rw e at (size_room f)

  pub line-none : size_at s at ≡ 0 → [] ≡ line_at s at
  unfolding line_at
  line-none h = rw (eq-eqb (size_at s at) 0 h)

  pub line-some : (size_at s at ≡ 0 → ⊥) → text_of (get_or s at 0) s at ≡ line_at s at
  unfolding line_at
  line-some f = rw (ne_eqb (size_at s at) 0 f)

  -- and stands within the bytes
  pub below : (size_at s at ≡ 0 → ⊥) → at < length s
  below f = lt_of_not-le (λ h. f (sym (size-past h)))
