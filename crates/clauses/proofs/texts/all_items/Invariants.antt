-- `clauses::all_items` meets its contract. The invariant: the items up to here are those that the table holds, and the rounds that are left
-- are enough. The measure is the words that are left. Assumes nothing.
use lib.ListN.{length}
use Rattle.words.specs.Next.{said_word}
use Rattle.words.specs.Lexed.{from}
use Rattle.clauses.proofs.ItemLaws.{ReadingItems}
use Rattle.clauses.proofs.texts.all_items.Given as goal

abbrev pub invariant-loop-w : goal.invariant-loop-w
invariant-loop-w l = ReadingItems l.text l.initial.work l.start l.work l.at (said_word l.w)

abbrev pub decreases-loop-w : goal.decreases-loop-w
decreases-loop-w l = length (from l.text l.at)
