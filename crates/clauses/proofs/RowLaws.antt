-- Rows: stores of the eight numbers, and a row read from a head that the grammar has read. Assumes nothing.
use Prim.Native.Nat.{ℕ, suc, ◌+◌, ◌*◌, ◌-◌, ◌<◌}
use mathlib.Core.Path.{◌≡◌, sym, ap, subst, ◌∙◌}
use mathlib.Core.Bool.{Bool, true, false, cond}
use mathlib.Core.List.{List, [], ◌∷◌}
use native.Mathlib.Omega.{arith}
use native.Mathlib.Decide.{dec_le}
use native.Mathlib.Nat.{mod-lt, zero-lt-suc}
use lib.Dec.{leb}
use borrow.Author.Tests.{le-leb, lt-leb}
use lib.ListN.{set}
use lib.Seq.{sets}
use Rattle.words.specs.NameKeys.{key_step, name_key_from, name_key}
use Rattle.clauses.specs.declared.rows.Row.{Row}
use Rattle.clauses.specs.Rows.{key_for, row_in, KeyFrom, KeyBelow}

pub eight_stores : (l : List ℕ) (c n₀ n₁ n₂ n₃ n₄ n₅ n₆ n₇ : ℕ) → set (set (set (set (set (set (set (set l c n₀) (c + 1) n₁) (c + 2) n₂) (c + 3) n₃) (c + 4) n₄) (c + 5) n₅) (c + 6) n₆) (c + 7) n₇ ≡ sets l c (n₀ ∷ n₁ ∷ n₂ ∷ n₃ ∷ n₄ ∷ n₅ ∷ n₆ ∷ n₇ ∷ [])
eight_stores l c n₀ n₁ n₂ n₃ n₄ n₅ n₆ n₇ =
    let e₁ : c + 1 ≡ suc c = omega arith in
    let e₂ : c + 2 ≡ suc (suc c) = omega arith in
    let e₃ : c + 3 ≡ suc (suc (suc c)) = omega arith in
    let e₄ : c + 4 ≡ suc (suc (suc (suc c))) = omega arith in
    let e₅ : c + 5 ≡ suc (suc (suc (suc (suc c)))) = omega arith in
    let e₆ : c + 6 ≡ suc (suc (suc (suc (suc (suc c))))) = omega arith in
    let e₇ : c + 7 ≡ suc (suc (suc (suc (suc (suc (suc c)))))) = omega arith in
    rw (e₁, e₂, e₃, e₄, e₅, e₆, e₇)

-- a row by its parts
pub row-parts : (r : Row) (n₀ n₁ n₂ n₃ n₄ n₅ n₆ n₇ : ℕ) (s : Bool) → n₀ ≡ r.name → n₁ ≡ r.typed → n₂ ≡ r.numbered → n₃ ≡ r.body → n₄ ≡ r.end → s ≡ r.sort → n₅ ≡ r.key → n₆ ≡ r.types → n₇ ≡ r.numbers → record { name = n₀; typed = n₁; numbered = n₂; body = n₃; end = n₄; sort = s; key = n₅; types = n₆; numbers = n₇ } ≡ r
row-parts r n₀ n₁ n₂ n₃ n₄ n₅ n₆ n₇ s e₀ e₁ e₂ e₃ e₄ e e₅ e₆ e₇ = rw (e₀, e₁, e₂, e₃, e₄, e, e₅, e₆, e₇)

-- ---- keys

pub key_type : (sort : Bool) (n : List ℕ) (h r : ℕ) → sort ≡ true → h ≡ name_key n → r ≡ h + 32768 → r ≡ key_for sort n
unfolding key_for
key_type sort n h r e f g = g ∙ ap (λ (k : ℕ). k + 32768) f ∙ sym (ap (λ (b : Bool). name_key n + cond b 32768 0) e)

pub key_term : (sort : Bool) (n : List ℕ) (h : ℕ) → sort ≡ false → h ≡ name_key n → h ≡ key_for sort n
unfolding key_for
key_term sort n h e f = let z : name_key n + 0 ≡ name_key n = omega arith in f ∙ sym z ∙ sym (ap (λ (b : Bool). name_key n + cond b 32768 0) e)

key_less : (n : List ℕ) → name_key n < 32768
unfolding name_key
key_less n = from 0 n (omega arith)
  where
    from : (h : ℕ) (s : List ℕ) → h < 32768 → name_key_from h s < 32768
    from h [] l = l
    from h (c ∷ s) l = from (key_step h c) s (mod-lt (31 * h + c) (zero-lt-suc 32767))

-- a key tells the sort, and is a number of 16 bits
pub key_sort : (sort : Bool) (n : List ℕ) → leb 32768 (key_for sort n) ≡ sort
unfolding key_for
key_sort true n = le-leb 32768 (name_key n + 32768) (omega arith)
key_sort false n = lt-leb 32768 (name_key n + 0) (omega (arith, key_less n))

pub key_short : (sort : Bool) (n : List ℕ) → key_for sort n < 65536
unfolding key_for
key_short true n = omega (arith, key_less n)
key_short false n = omega (arith, key_less n)

-- ---- the next row with a key

pub from_more : (work : List ℕ) (key k n i : ℕ) → KeyFrom work key k n i → i < n → ¬ ((row_in work i).key ≡ key) → KeyFrom work key k n (i + 1)
from_more work key k n i f h d = record {
  least = omega (arith, f.least);
  most = omega arith;
  others = λ j a b. elim (dec_le (suc j) i) [ yes l ↦ f.others j a l | no g ↦ subst (λ (x : ℕ). ¬ ((row_in work x).key ≡ key)) (omega (arith, g, b)) d ];
}

pub below_more : (work : List ℕ) (key k i : ℕ) → KeyBelow work key k i → 0 < i → ¬ ((row_in work (i - 1)).key ≡ key) → KeyBelow work key k (i - 1)
below_more work key k i f h d = record {
  most = omega (arith, f.most);
  others = λ j a b. elim (dec_le i j) [ yes l ↦ f.others j l b | no g ↦ subst (λ (x : ℕ). ¬ ((row_in work x).key ≡ key)) (omega (arith, g, a)) d ];
}
