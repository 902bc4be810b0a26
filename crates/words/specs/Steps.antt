-- Steps over what stands between words: the gap from the old offset ends where the gap from the new one does. Assumes nothing.
use Rattle.std.specs.Prelude.{ℕ, Bool, ◌+◌, ◌≤◌, ◌<◌, ◌≡◌, true, false, List, length, get_or, drop}
use Rattle.notation_calculus.specs.Words.{gap}

-- a comment at an offset goes on to r, behind its line's end
abbrev pub CommentTo : List ℕ → ℕ → ℕ → Type 0
CommentTo s at r = (at ≤ r) × (r ≤ length s) × (r + gap false (drop r s) ≡ at + gap true (drop at s))

-- what stands between words goes on to r; or a word begins, and r is the same offset
abbrev pub StepTo : List ℕ → ℕ → ℕ → Type 0
StepTo s at r = (at ≤ r) × (r ≤ length s) × (r + gap false (drop r s) ≡ at + gap false (drop at s)) × (r ≡ at → gap false (drop at s) ≡ 0)

-- the bytes from an offset on pass a test up to r, and the one there does not, if there is one: a test says of a byte whether it passes
pub record PassedTo (says : ℕ → Bool → Type 0) (s : List ℕ) (at r : ℕ) : Type 0 where
  pub behind : at ≤ r
  pub inside : r ≤ length s
  pub passed : (i : ℕ) → at ≤ i → i < r → says (get_or s i 0) true
  pub stops : r < length s → says (get_or s r 0) false
