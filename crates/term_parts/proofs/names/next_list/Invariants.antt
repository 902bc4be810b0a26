-- The invariant: no list begins up to the word that stands at the offset. The measure is how many words are left. Assumes nothing.
use lib.ListN.{length}
use Rattle.words.specs.Next.{said_word}
use Rattle.words.specs.Lexed.{from}
use Rattle.term_parts.proofs.ListLaws.{Scanning}
use Rattle.term_parts.proofs.names.next_list.Given as goal

abbrev pub invariant-loop-p : goal.invariant-loop-p
invariant-loop-p l = Scanning l.text l.at l.p (said_word l.w)

abbrev pub decreases-loop-p : goal.decreases-loop-p
decreases-loop-p l = length (from l.text l.p)
