-- `clauses::definitions` meets its contract. The invariant: the items up to here are definitions, whose clauses the table holds, and the rounds that are
-- left are enough. The measure is the words that are left. Assumes nothing.
use lib.ListN.{length}
use Rattle.words.specs.Next.{said_word}
use Rattle.words.specs.Lexed.{from}
use Rattle.clauses.proofs.ItemLaws.{ReadingDefinitions}
use Rattle.clauses.proofs.texts.definitions.Given as goal

abbrev pub invariant-loop-work : goal.invariant-loop-work
invariant-loop-work l = ReadingDefinitions l.text l.initial.work l.start l.work l.at (said_word l.w)

abbrev pub decreases-loop-work : goal.decreases-loop-work
decreases-loop-work l = length (from l.text l.at)
