-- `grammar::groups` meets its contract. The invariant: what is behind the groups from here on is what is behind them all. The measure is the
-- words that are left. Assumes nothing.
use lib.ListN.{length}
use Rattle.words.specs.Next.{said_word}
use Rattle.words.specs.Lexed.{from}
use Rattle.grammar.proofs.HeadLaws.{Grouped}
use Rattle.grammar.proofs.heads.groups.Given as goal

abbrev pub invariant-loop-at : goal.invariant-loop-at
invariant-loop-at l = Grouped l.text l.start l.at l.deep (said_word l.w)

abbrev pub decreases-loop-at : goal.decreases-loop-at
decreases-loop-at l = length (from l.text l.at)
