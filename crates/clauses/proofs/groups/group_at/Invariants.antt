-- `clauses::group_at` meets its contract. The invariant: what is counted and what is still to count are the group's count. The measure is
-- the words that are left. Assumes nothing.
use lib.ListN.{length}
use Rattle.words.specs.Next.{said_word}
use Rattle.words.specs.Lexed.{from}
use Rattle.clauses.proofs.GroupLaws.{Counting}
use Rattle.clauses.proofs.groups.group_at.Given as goal

abbrev pub invariant-loop-at : goal.invariant-loop-at
invariant-loop-at l = Counting l.text l.start l.opens l.count l.at (said_word l.v)

abbrev pub decreases-loop-at : goal.decreases-loop-at
decreases-loop-at l = length (from l.text l.at)
