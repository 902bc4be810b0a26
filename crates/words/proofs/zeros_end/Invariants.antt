-- `words::zeros_end` meets its contract. The invariant: the run goes on behind the zeros, and they add nothing. Assumes nothing.
use Prim.Native.Nat.{◌+◌}
use mathlib.Core.Path.{◌≡◌}
use lib.ListN.{drop}
use Rattle.notation_calculus.specs.Words.{run}
use Rattle.words.specs.Digits.{DigitsAt}
use Rattle.words.proofs.zeros_end.Given as goal

abbrev pub invariant-loop-at : goal.invariant-loop-at
invariant-loop-at l = (l.at + run (drop l.at l.text) ≡ l.start + run (drop l.start l.text)) × DigitsAt l.text l.start (l.start + run (drop l.start l.text)) 0 l.at
