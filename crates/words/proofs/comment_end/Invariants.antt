-- `words::comment_end` meets its contract. The invariant: the comment from the start ends where the comment from here does. Assumes nothing.
use Prim.Native.Nat.{◌+◌}
use mathlib.Core.Path.{◌≡◌}
use mathlib.Core.Bool.{true}
use lib.ListN.{drop}
use Rattle.notation_calculus.specs.Words.{gap}
use Rattle.words.proofs.comment_end.Given as goal

abbrev pub invariant-loop-at : goal.invariant-loop-at
invariant-loop-at l = l.at + gap true (drop l.at l.text) ≡ l.from + gap true (drop l.from l.text)
