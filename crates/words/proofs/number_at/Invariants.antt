-- `words::number_at` meets its contract. The invariant: what is left of the run goes on with what has been read. Assumes nothing.
use Rattle.words.specs.Digits.{DigitsAt}
use Rattle.words.proofs.number_at.Given as goal

abbrev pub invariant-loop-at : goal.invariant-loop-at
invariant-loop-at l = DigitsAt l.text l.start l.end l.value l.at
