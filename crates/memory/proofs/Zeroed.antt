-- Laws of `zeroed`: the first numbers 0, the later ones as they were. Assumes nothing.
use borrow.Author.Fill.{fill_none, fill_more}
use mathlib.Core.Path.{◌≡◌, ap, ◌∙◌}
use mathlib.Core.List.{List, ◌++◌}
use Prim.Native.Nat.{ℕ, ◌+◌, ◌≤◌, ◌<◌}
use native.Mathlib.Omega.{arith}
use lib.ListN.{length, get_or, set, drop, replicate, length-append, length-replicate, length-drop, get_or-replicate, get_or-append}
use lib.Seq.{drop_at}
use Rattle.calculus.specs.Translate.{zeroed}

pub zeroed-none : (w : List ℕ) → w ≡ zeroed 0 w
unfolding zeroed
zeroed-none w = fill_none w 0

pub zeroed-more : (n : ℕ) (w : List ℕ) → n < length w → set (zeroed n w) n 0 ≡ zeroed (n + 1) w
unfolding zeroed
zeroed-more n w h = fill_more n 0 w h

pub zeroed-length : (n : ℕ) (w : List ℕ) → n ≤ length w → length (zeroed n w) ≡ length w
unfolding zeroed
zeroed-length n w h = rw (length-append, length-replicate, length-drop) (omega arith)

-- what a caller changed before n does not matter
pub zeroed-same : (n : ℕ) (v w : List ℕ) → drop n v ≡ drop n w → zeroed n v ≡ zeroed n w
unfolding zeroed
zeroed-same n v w e = ap (λ (x : List ℕ). replicate n 0 ++ x) e

pub zeroed-zeros : (n : ℕ) (w : List ℕ) (i : ℕ) → i < n → get_or (zeroed n w) i 0 ≡ 0
unfolding zeroed
zeroed-zeros n w i h = get_or-append (replicate n 0) (drop n w) 0 i (rw length-replicate h) ∙ get_or-replicate n i 0 0 h

pub zeroed-later : (n : ℕ) (w : List ℕ) → drop n (zeroed n w) ≡ drop n w
unfolding zeroed
zeroed-later n w = drop_at (replicate n 0) (drop n w) n (length-replicate n 0)
