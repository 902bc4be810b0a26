-- `words::passed_end` meets its contract. The invariant: all bytes up to here pass the test. Assumes nothing.
use Rattle.std.proofs.Common.{true, ◌≤◌, ◌<◌, get_or, ℕ}
use Rattle.words.proofs.passed_end.Given as goal

abbrev pub invariant-loop-at : goal.invariant-loop-at
invariant-loop-at g l =
    (l.from ≤ l.at) × ((i : ℕ) → l.from ≤ i → i < l.at → goal.F-post g l.passes (get_or l.text i 0) true)
