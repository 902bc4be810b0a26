-- The invariant: the types that are left of the line make of the state what the whole line makes of the first one. The measure is the words
-- that are left. Assumes nothing.
use lib.ListN.{length}
use Rattle.words.specs.Lexed.{from}
use Rattle.maker.proofs.LineLaws.{LineGoing}
use Rattle.maker.proofs.lines.types.Given as goal

abbrev pub invariant-loop-next : goal.invariant-loop-next
invariant-loop-next l = LineGoing l.text l.initial.work l.start l.seen l.work l.at

abbrev pub decreases-loop-next : goal.decreases-loop-next
decreases-loop-next l = length (from l.text l.at)
