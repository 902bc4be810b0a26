-- The invariant: the lines that are left make of the state what all lines make of the first one. The measure is the words that are left.
-- Assumes nothing.
use lib.ListN.{length}
use Rattle.words.specs.Lexed.{from}
use Rattle.maker.proofs.ItemSteps.{ItemsGoing}
use Rattle.maker.proofs.lines.lines.Given as goal

abbrev pub invariant-loop-past : goal.invariant-loop-past
invariant-loop-past l = ItemsGoing l.text l.initial.work l.start l.above l.work l.here.at l.here.seen

abbrev pub decreases-loop-past : goal.decreases-loop-past
decreases-loop-past l = length (from l.text l.here.at)
