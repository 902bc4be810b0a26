-- `type_walk::steps::behind_inside` meets its contract: the closing parenthesis is passed. Assumes nothing.
use Rattle.words.specs.Next.{said_word}
use Rattle.type_walk.proofs.MoveLaws.{onward}
use Rattle.type_walk.proofs.StepLaws.{inside-closed, inside-open}
use Rattle.type_walk.proofs.steps.behind_inside.Goals as goal

pub side_from-requires : goal.side_from-requires
side_from-requires c = (c.requires.0, (onward _ _ (said_word c.word_at-w.result) c.word_at-w.ensures 11 c.if-w-eq-END_ROUND.true).lexed)

pub returns-then-w-eq-END_ROUND : goal.returns-then-w-eq-END_ROUND
returns-then-w-eq-END_ROUND c = inside-closed _ _ (said_word c.word_at-w.result) c.word_at-w.ensures _ _ _ _ _ c.if-w-eq-END_ROUND.true c.side_from.ensures

pub returns : goal.returns
returns c = rw c.at.ensures (inside-open _ _ (said_word c.word_at-w.result) c.word_at-w.ensures _ _ _ c.if-w-eq-END_ROUND.false)
