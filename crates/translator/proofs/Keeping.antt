-- When the working memory, cleared, is what it would have been before. Assumes nothing.
use Prim.Native.Nat.{ℕ, ◌+◌, ◌-◌, ◌≤◌, ◌<◌}
use mathlib.Core.Path.{◌≡◌, sym, ap, ◌∙◌, subst}
use mathlib.Core.List.{List}
use native.Mathlib.Omega.{arith}
use lib.ListN.{length, get_or, drop, length-drop}
use lib.Seq.{ext_get_or, get_or-drop}
use borrow.Author.Tests.{lt-leb, le-leb}
use Rattle.calculus.specs.Translate.{work_of, zeroed}
use Rattle.memory.proofs.Zeroed.{zeroed-same}
use Rattle.translator.specs.Made.{Keeps}

pub work_small : (w : List ℕ) → length w < 32768 → work_of w ≡ w
unfolding work_of
work_small w h = rw (lt-leb 32768 (length w) h)

pub work_large : (w : List ℕ) → 32768 ≤ length w → work_of w ≡ zeroed 32768 w
unfolding work_of
work_large w h = rw (le-leb 32768 (length w) h)

-- where nothing changes from number 32,768 on
pub later_keeps : (w w' : List ℕ) → 32768 ≤ length w → 32768 ≤ length w' → drop 32768 w' ≡ drop 32768 w → Keeps w w'
later_keeps w w' h k e = rw (work_large w h, work_large w' k) (zeroed-same 32768 w' w e)

-- .. number by number
pub above_keeps : (w w' : List ℕ) → 32768 ≤ length w → length w' ≡ length w → ((j : ℕ) → 32768 ≤ j → get_or w' j 0 ≡ get_or w j 0) → Keeps w w'
above_keeps w w' l e h = later_keeps w w' l (subst (λ (n : ℕ). 32768 ≤ n) (sym e) l)
    (ext_get_or 0 (drop 32768 w') (drop 32768 w) (length-drop 32768 w' ∙ ap (λ (n : ℕ). n - 32768) e ∙ sym (length-drop 32768 w))
    (λ i l. get_or-drop 32768 w' i 0 ∙ h (32768 + i) (omega arith) ∙ sym (get_or-drop 32768 w i 0)))
