-- The invariant: so many lists are open at the offset, and what stands from there on decides. The measure is how many words are left. Assumes nothing.
use lib.ListN.{length}
use Rattle.words.specs.Lexed.{from}
use Rattle.term_parts.proofs.ListLaws.{Passing}
use Rattle.term_parts.proofs.names.behind_list.Given as goal

abbrev pub invariant-loop-deep : goal.invariant-loop-deep
invariant-loop-deep l = Passing l.text l.at l.deep l.p

abbrev pub decreases-loop-deep : goal.decreases-loop-deep
decreases-loop-deep l = length (from l.text l.p)
